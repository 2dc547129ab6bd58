use Rattle.std.proofs.Common.{arith, rules}
use Rattle.event.proofs.BitLaws.{bits_none, bits-room, bits_more, bit-least, bits-all}
use Rattle.event.proofs.bits.number_of.Goals as goal

pub loop-k-init : goal.loop-k-init
loop-k-init c = search (bits_none, rules)

pub overflow_mul-n : goal.overflow_mul-n
overflow_mul-n c = omega (arith, bits-room c.loop-k.invariant c.loop-k-test.true)

pub overflow_add-n : goal.overflow_add-n
overflow_add-n c = omega (arith, bits-room c.loop-k.invariant c.loop-k-test.true, bit-least _ c.from.ensures)

pub loop-k-preserved : goal.loop-k-preserved
loop-k-preserved c = bits_more c.loop-k.invariant c.loop-k-test.true c.from.ensures

pub returns : goal.returns
returns c = bits-all c.loop-k.invariant (omega arith)
