-- A snapshot with a conflict ends the loop, one without is passed.
use Rattle.std.proofs.Common.{arith}
use Rattle.opening.proofs.ConflictLaws.{conflict-start, conflict-found, conflict-next, no-conflict}
use Rattle.opening.proofs.conflict.find_conflict.Goals as goal

pub loop-j-init : goal.loop-j-init
loop-j-init c = conflict-start

pub returns-in-Some : goal.returns-in-Some
returns-in-Some c = conflict-found c.loop-j.invariant (omega arith) c.in-Some.ensures

pub loop-j-preserved : goal.loop-j-preserved
loop-j-preserved c = conflict-next c.loop-j.invariant (omega arith) c.in_default.ensures

pub returns : goal.returns
returns c = no-conflict c.loop-j.invariant (omega arith)
