use Rattle.std.proofs.Common.{◌-◌, length}
use Rattle.unions.proofs.RunLaws.{CountingOne}
use Rattle.unions.proofs.heads.count_rest.Given as goal

abbrev pub invariant-loop-end : goal.invariant-loop-end
invariant-loop-end l = CountingOne l.form l.s l.at l.i l.n

abbrev pub decreases-loop-end : goal.decreases-loop-end
decreases-loop-end l = length l.s - l.i
