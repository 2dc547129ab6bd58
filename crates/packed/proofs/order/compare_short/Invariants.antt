use Rattle.packed.proofs.WordLaws.{Alike}
use Rattle.packed.proofs.order.compare_short.Given as goal

abbrev pub invariant-loop-i : goal.invariant-loop-i
invariant-loop-i l = Alike l.a l.b l.n l.i
