use Rattle.std.proofs.Common.{arith}
use Rattle.std.proofs.lemmas.Grind.{common_steps}
use Rattle.dossier.specs.code.DossierIndex.{masks_fit}
use Rattle.dossier.proofs.shape.masks_fit.Goals as goal

pub returns-then-several-m-eq0 : goal.returns-then-several-m-eq0
unfolding masks_fit
returns-then-several-m-eq0 c = grind (arith, common_steps)

pub returns-else-several-m-eq0 : goal.returns-else-several-m-eq0
unfolding masks_fit
returns-else-several-m-eq0 c = grind (arith, common_steps)
