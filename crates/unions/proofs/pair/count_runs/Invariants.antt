use Rattle.std.proofs.Common.{◌+◌, ◌-◌, length}
use Rattle.unions.proofs.RunLaws.{Counting}
use Rattle.unions.proofs.pair.count_runs.Given as goal

abbrev pub invariant-loop-x : goal.invariant-loop-x
invariant-loop-x l = Counting l.form l.a l.b l.i l.j l.n

abbrev pub decreases-loop-x : goal.decreases-loop-x
decreases-loop-x l = length l.a + length l.b - (l.i + l.j)
