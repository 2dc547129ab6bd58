use Rattle.std.proofs.Common.{◌+◌, ◌-◌, length}
use Rattle.unions.proofs.RunLaws.{Joining}
use Rattle.unions.proofs.pair.write_runs.Given as goal

abbrev pub invariant-loop-x : goal.invariant-loop-x
invariant-loop-x l = Joining l.form l.a l.b l.fn.out l.at l.out l.i l.j l.next l.shared

abbrev pub decreases-loop-x : goal.decreases-loop-x
decreases-loop-x l = length l.a + length l.b - (l.i + l.j)
