-- Each turn chooses between the value so far and one more.
use Rattle.std.proofs.Common.{arith}
use Rattle.opening.proofs.MergeLaws.{chosen-one, chosen-next, chosen_last}
use Rattle.opening.proofs.merge.extreme_of.Goals as goal

pub loop-j-init : goal.loop-j-init
loop-j-init c = chosen-one (omega arith) (omega arith) c.cell_at-best.ensures

pub loop-j-preserved : goal.loop-j-preserved
loop-j-preserved c = chosen-next c.loop-j.invariant (omega arith) c.cell_at-x.ensures c.better-best.ensures

pub returns : goal.returns
returns c = chosen_last c.loop-j.invariant (omega arith)
