use Rattle.dossier.proofs.CellLaws.{matches-over, matches-more, matches-all}
use Rattle.dossier.proofs.shape.is_match_small.Goals as goal

pub returns-then-left-n : goal.returns-then-left-n
returns-then-left-n c = search matches-over

pub loop-k-preserved : goal.loop-k-preserved
loop-k-preserved c = search matches-more

pub returns : goal.returns
returns c = search matches-all
