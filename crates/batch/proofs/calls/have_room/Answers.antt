use Rattle.std.proofs.Common.{arith}
use Rattle.std.proofs.lemmas.Bool.Decides.{nat_tests}
use Rattle.batch.specs.Batch.{have_room}
use Rattle.batch.proofs.calls.have_room.Goals as goal

pub returns-then-b-ge-DOSSIER_CAPACITY : goal.returns-then-b-ge-DOSSIER_CAPACITY
unfolding have_room
returns-then-b-ge-DOSSIER_CAPACITY c = grind (arith, nat_tests)

pub returns-else-b-ge-DOSSIER_CAPACITY : goal.returns-else-b-ge-DOSSIER_CAPACITY
unfolding have_room
returns-else-b-ge-DOSSIER_CAPACITY c = grind (arith, nat_tests)
