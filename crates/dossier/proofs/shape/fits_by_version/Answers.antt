use Rattle.std.proofs.Common.{◌∙◌}
use borrow.Author.Tests.{lt-leb, ne_eqb}
use Rattle.dossier.proofs.VersionLaws.{plain-not, plain-so, dated-large, dated-so}
use Rattle.dossier.proofs.shape.fits_by_version.Goals as goal

pub returns-then-x-eq0 : goal.returns-then-x-eq0
returns-then-x-eq0 c y ty m w = plain-so _ w ty m c.if-mark-eq0.true c.if-x-eq0.true

pub returns-else-x-eq0 : goal.returns-else-x-eq0
returns-else-x-eq0 c y ty m w = ne_eqb _ 0 c.if-x-eq0.false ∙ plain-not _ w ty m c.if-mark-eq0.true c.if-x-eq0.false

pub returns-then-x-le32 : goal.returns-then-x-le32
returns-then-x-le32 c y ty m w = dated-so _ w ty m c.if-mark-eq0.false c.if-x-le32.true (c.holds_version.ensures y w.version w.sets)

pub returns-else-x-le32 : goal.returns-else-x-le32
returns-else-x-le32 c y ty m w = lt-leb _ 32 c.if-x-le32.false ∙ dated-large _ w ty m c.if-mark-eq0.false c.if-x-le32.false
