use Rattle.std.proofs.Common.{◌*◌}
use Rattle.packed.proofs.WordLaws.{Alike}
use Rattle.packed.proofs.order.compare.Given as goal

abbrev pub invariant-loop-k : goal.invariant-loop-k
invariant-loop-k l = Alike l.a l.b l.n (8 * l.k)
