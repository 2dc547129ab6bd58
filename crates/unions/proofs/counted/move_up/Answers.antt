use Rattle.std.proofs.Common.{arith}
use Rattle.unions.proofs.CountedLaws.{moved_none, moved_more, moved_all}
use Rattle.unions.proofs.counted.move_up.Goals as goal

pub loop-i-init : goal.loop-i-init
loop-i-init c = (c.requires.0, moved_none)

pub loop-i-preserved : goal.loop-i-preserved
loop-i-preserved c = (omega arith, moved_more c.loop-i.invariant.1 (omega arith) (omega arith) (omega arith))

pub returns : goal.returns
returns c = moved_all c.loop-i.invariant.1 _ (omega arith)
