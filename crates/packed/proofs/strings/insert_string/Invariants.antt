use Rattle.packed.proofs.StringPlaceLaws.{Placing}
use Rattle.packed.proofs.strings.insert_string.Given as goal

abbrev pub invariant-loop-k : goal.invariant-loop-k
invariant-loop-k l = Placing l.a l.b l.fn.strings l.count l.x l.strings l.k
