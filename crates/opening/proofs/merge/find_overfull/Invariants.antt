-- The lowest overfull place is that of the places from here on.
use Rattle.opening.proofs.PlanLaws.{OverfullFrom}
use Rattle.opening.proofs.merge.find_overfull.Given as goal

abbrev pub invariant-loop-p : goal.invariant-loop-p
invariant-loop-p l = OverfullFrom l.count l.properties l.plan l.p
