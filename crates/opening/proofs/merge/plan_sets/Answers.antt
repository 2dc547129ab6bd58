-- A place without a property has no objects, and so its numbers are its plan.
use Rattle.std.proofs.Common.{arith}
use Rattle.opening.proofs.PlanLaws.{plans-none, plans-next, plans-all}
use Rattle.opening.proofs.merge.plan_sets.Goals as goal

pub loop-p-init : goal.loop-p-init
loop-p-init c = search plans-none

pub loop-p-preserved : goal.loop-p-preserved
loop-p-preserved c =
    plans-next c.loop-p.invariant c.merged_at.result (omega arith) c.property_at.ensures c.rule_of-rule.ensures c.merged_at.ensures
    c.put_place.ensures

pub returns : goal.returns
returns c = plans-all c.loop-p.invariant (omega arith)
