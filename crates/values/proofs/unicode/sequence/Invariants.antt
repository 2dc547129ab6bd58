use Rattle.values.proofs.UnicodeLaws.{Continued}
use Rattle.values.proofs.unicode.sequence.Given as goal

-- what is to be read after the lead byte is what is left to be read from the loop's place on
abbrev pub invariant-loop-b : goal.invariant-loop-b
invariant-loop-b l = Continued l.v l.at l.k l.bits l.n l.b-index
