-- n is the number of the bits from k on.
use Rattle.event.proofs.BitLaws.{BitsFrom}
use Rattle.event.proofs.bits.number_of.Given as goal

abbrev pub invariant-loop-k : goal.invariant-loop-k
invariant-loop-k l = BitsFrom l.bits l.n l.k
