use Rattle.std.proofs.Common.{◌-◌, length}
use Rattle.values.proofs.UnicodeLaws.{Run}
use Rattle.values.proofs.unicode.ascii_end.Given as goal

-- both loops know that the bytes from `at` up to i are below 0x80
abbrev pub invariant-loop-i : goal.invariant-loop-i
invariant-loop-i l = Run l.v l.at l.i

abbrev pub decreases-loop-i : goal.decreases-loop-i
decreases-loop-i l = length l.v - l.i

abbrev pub invariant-loop-i-2 : goal.invariant-loop-i-2
invariant-loop-i-2 l = Run l.v l.at l.i

abbrev pub decreases-loop-i-2 : goal.decreases-loop-i-2
decreases-loop-i-2 l = length l.v - l.i
