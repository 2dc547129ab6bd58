use Rattle.std.proofs.Common.{◌∙◌}
use borrow.Author.Tests.{ne_eqb}
use Rattle.dossier.proofs.VersionLaws.{version-many, version-one}
use Rattle.dossier.proofs.shape.is_version.Goals as goal

pub returns-then-x-eq1 : goal.returns-then-x-eq1
returns-then-x-eq1 c vs w =
    version-one vs _ _ w.count c.if-x-eq1.true (c.value_in.ensures vs (c.set_part.ensures vs w)) c.is_in_decimal.ensures

pub returns-else-x-eq1 : goal.returns-else-x-eq1
returns-else-x-eq1 c vs w = ne_eqb _ 1 c.if-x-eq1.false ∙ version-many vs _ _ w.count c.if-x-eq1.false
