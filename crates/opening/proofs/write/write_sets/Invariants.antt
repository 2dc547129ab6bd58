-- The sets of the places before this one are written.
use Rattle.opening.proofs.WriteRoomLaws.{SetsGone}
use Rattle.opening.proofs.write.write_sets.Given as goal

abbrev pub invariant-loop-p : goal.invariant-loop-p
invariant-loop-p l = SetsGone l.s l.rows l.n l.count l.plan l.initial.out l.at l.out l.next l.p
