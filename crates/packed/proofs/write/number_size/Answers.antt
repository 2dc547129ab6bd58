use Rattle.std.proofs.Common.{arith, ap, length}
use Rattle.packed.proofs.LayoutLaws.{number-last, number_more, number-bounds}
use Rattle.packed.proofs.write.number_size.Goals as goal

pub overflow_add-k : goal.overflow_add-k
overflow_add-k c = omega (arith, number-bounds c.args.n)

pub loop-m-preserved : goal.loop-m-preserved
loop-m-preserved c = omega (arith, ap length (number_more c.loop-m.m (omega arith) (omega arith)))

pub returns : goal.returns
returns c = omega (arith, ap length (number-last c.loop-m.m (omega arith)))
