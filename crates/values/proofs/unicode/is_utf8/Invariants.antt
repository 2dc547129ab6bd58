use Rattle.std.proofs.Common.{◌-◌, length}
use Rattle.values.proofs.UnicodeLaws.{Ahead}
use Rattle.values.proofs.unicode.is_utf8.Given as goal

-- the answer for the whole slice is the answer for the rest of it, from i on, where a scalar value begins
abbrev pub invariant-loop-i : goal.invariant-loop-i
invariant-loop-i l = Ahead l.v l.i

abbrev pub decreases-loop-i : goal.decreases-loop-i
decreases-loop-i l = length l.v - l.i
