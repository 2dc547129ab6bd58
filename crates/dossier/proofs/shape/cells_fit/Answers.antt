use Rattle.std.proofs.Common.{◌∙◌}
use borrow.Author.Tests.{ne_eqb}
use Rattle.dossier.proofs.MaskLaws.{counts-none, counts-few, counts-more, counts-over, counts-fit}
use Rattle.dossier.proofs.shape.cells_fit.Goals as goal

pub loop-k-init : goal.loop-k-init
loop-k-init c = search counts-none

pub returns-then-left-n : goal.returns-then-left-n
returns-then-left-n c = search counts-few

pub loop-k-preserved : goal.loop-k-preserved
loop-k-preserved c = search counts-more

pub returns-then-left-eq0 : goal.returns-then-left-eq0
returns-then-left-eq0 c = search counts-fit

pub returns-else-left-eq0 : goal.returns-else-left-eq0
returns-else-left-eq0 c u qs cs v n x y o = ne_eqb _ 0 c.if-left-eq0.false ∙ search counts-over
