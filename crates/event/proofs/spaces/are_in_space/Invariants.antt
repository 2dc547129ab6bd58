-- Strings without a byte above 7F are told by `are_short`, and of others the answer is that on the texts from `at` on.
use Rattle.std.proofs.Common.{◌-◌, length}
use Rattle.event.proofs.SpaceLaws.{SpaceTo, KindHere}
use Rattle.event.proofs.spaces.are_in_space.Given as goal

abbrev pub invariant-loop-at : goal.invariant-loop-at
invariant-loop-at l = SpaceTo (KindHere l.kind l.size l.after l.sign) l.v l.at

abbrev pub decreases-loop-at : goal.decreases-loop-at
decreases-loop-at l = length l.v - l.at
