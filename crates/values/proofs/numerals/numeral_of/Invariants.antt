use Rattle.values.proofs.DigitLaws.{Counted}
use Rattle.values.proofs.numerals.numeral_of.Given as goal

-- what the digits write is what the rest of them writes after the number n of those before
abbrev pub invariant-loop-b : goal.invariant-loop-b
invariant-loop-b l = Counted l.v l.n l.b-index
