-- The places before this one are planned, and the numbers of the others are 0.
use Rattle.opening.proofs.PlanLaws.{PlansTo}
use Rattle.opening.proofs.merge.plan_sets.Given as goal

abbrev pub invariant-loop-p : goal.invariant-loop-p
invariant-loop-p l = PlansTo l.s l.rows l.n l.count l.mark l.properties l.plan l.p
