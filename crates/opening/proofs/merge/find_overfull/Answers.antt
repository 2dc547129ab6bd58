-- A place without a property is none.
use Rattle.std.proofs.Common.{arith}
use Rattle.opening.proofs.PlanLaws.{overfull-start, overfull-found, overfull-next, none-overfull}
use Rattle.opening.proofs.merge.find_overfull.Goals as goal

pub loop-p-init : goal.loop-p-init
loop-p-init c = overfull-start

pub returns-then-is_overfull : goal.returns-then-is_overfull
returns-then-is_overfull c =
    overfull-found c.loop-p.invariant (omega arith) c.property_at-property.ensures c.is_overfull.ensures c.if-is_overfull.true

pub loop-p-preserved : goal.loop-p-preserved
loop-p-preserved c =
    overfull-next c.loop-p.invariant (omega arith) c.property_at-property.ensures c.is_overfull.ensures c.if-is_overfull.false

pub returns : goal.returns
returns c = none-overfull c.loop-p.invariant (omega arith)
