use Rattle.std.proofs.Common.{arith}
use Rattle.values.proofs.DigitLaws.{counted_none, counted-digit, counted-small, counted-more, counted-all}
use Rattle.values.proofs.numerals.numeral_of.Goals as goal

pub loop-b-init : goal.loop-b-init
loop-b-init c = counted_none _

pub overflow_mul-n : goal.overflow_mul-n
overflow_mul-n c = omega (arith, counted-small c.loop-b.invariant c.loop-b-test.true c.requires.1)

pub overflow_sub-n : goal.overflow_sub-n
overflow_sub-n c = omega (arith, counted-digit c.loop-b.invariant c.requires.0 c.loop-b-test.true)

pub overflow_add-n : goal.overflow_add-n
overflow_add-n c = omega (arith, counted-small c.loop-b.invariant c.loop-b-test.true c.requires.1)

pub loop-b-preserved : goal.loop-b-preserved
loop-b-preserved c = rw c.from.ensures (counted-more c.loop-b.invariant c.loop-b-test.true)

pub returns : goal.returns
returns c = counted-all c.loop-b.invariant c.loop-b-test.false
