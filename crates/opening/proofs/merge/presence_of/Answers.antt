-- The number of the bits is the presence number.
use Rattle.std.proofs.Common.{arith}
use Rattle.event.proofs.BitLaws.{filled_none, filled_more}
use Rattle.opening.proofs.PlanLaws.{presence-is}
use Rattle.opening.proofs.merge.presence_of.Goals as goal

pub loop-p-init : goal.loop-p-init
loop-p-init c = search filled_none

pub loop-p-preserved : goal.loop-p-preserved
loop-p-preserved c = search filled_more

pub returns : goal.returns
returns c = λ s ty d w. presence-is w c.loop-p.invariant (omega arith) c.number_of.ensures
