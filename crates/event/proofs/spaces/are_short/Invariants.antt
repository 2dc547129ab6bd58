-- The answer is that on the texts from `at` on.
use Rattle.std.proofs.Common.{◌≡◌, ◌-◌, length}
use Rattle.values.specs.Spaces.{Kind, string}
use Rattle.values.specs.code.LowBytes.{AllLow}
use Rattle.event.proofs.SpaceLaws.{SpaceTo}
use Rattle.event.proofs.spaces.are_short.Given as goal

abbrev pub invariant-loop-at : goal.invariant-loop-at
invariant-loop-at l = SpaceTo (λ (k : Kind). (k ≡ string l.most) × AllLow l.v) l.v l.at

abbrev pub decreases-loop-at : goal.decreases-loop-at
decreases-loop-at l = length l.v - l.at
