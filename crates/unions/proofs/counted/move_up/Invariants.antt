-- The bytes from i on have moved.
use Rattle.std.proofs.Common.{◌≤◌}
use Rattle.unions.proofs.CountedLaws.{MovedFrom}
use Rattle.unions.proofs.counted.move_up.Given as goal

abbrev pub invariant-loop-i : goal.invariant-loop-i
invariant-loop-i l = (l.from ≤ l.i) × MovedFrom l.initial.out l.to l.by l.i l.out
