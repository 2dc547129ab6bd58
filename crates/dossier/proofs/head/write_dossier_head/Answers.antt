use Rattle.std.proofs.Common.{arith}
use Rattle.dossier.specs.DossierHead.{dossier_head_bytes}
use Rattle.dossier.proofs.head.write_dossier_head.Goals as goal

pub write_head-requires : goal.write_head-requires
unfolding dossier_head_bytes
write_head-requires c = record { head = c.requires.head; parts = c.requires.parts; room = omega (arith, c.requires.room) }

pub returns : goal.returns
unfolding dossier_head_bytes
returns c = c.write_head.ensures
