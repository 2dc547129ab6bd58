-- Each turn copies the set of one place more, or joins it, and the places after the last property have no objects.
use Rattle.std.proofs.Common.{arith}
use Rattle.opening.proofs.WriteRoomLaws.{sets-begin, sets-done, standing-room, standing-gone, joined-room, joined-gone}
use Rattle.opening.proofs.write.write_sets.Goals as goal
use Rattle.opening.proofs.write.write_sets.Goals.{then-plan-p-eq1, else-plan-p-eq1}

pub loop-p-init : goal.loop-p-init
loop-p-init c = search sets-begin

pub write_joined-next-requires : goal.write_joined-next-requires
write_joined-next-requires c =
    (omega arith, omega arith, omega arith, joined-room c.loop-p.invariant (omega arith) c.requires.sets_room c.if-plan-p-eq1.true)

pub write_set-next-requires : goal.write_set-next-requires
write_set-next-requires c = search standing-room

pub loop-p-preserved : goal.loop-p-preserved
loop-p-preserved c =
    let inv = c.loop-p.invariant in
    elim c.if-plan-p-eq1.branch [
      | then-plan-p-eq1 x ↦ joined-gone inv (omega arith) x.out-is x.next-is x.if-plan-p-eq1.true x.write_joined-next.ensures
      | else-plan-p-eq1 y ↦ standing-gone inv (omega arith) y.out-is y.next-is y.set_from.ensures y.if-plan-p-eq1.false y.write_set-next.ensures
    ]

pub returns : goal.returns
returns c = search sets-done
