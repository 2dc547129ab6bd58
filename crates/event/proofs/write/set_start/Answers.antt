use Rattle.std.proofs.Common.{arith}
use Rattle.event.proofs.SetLaws.{no-count, some-count}
use Rattle.event.proofs.write.set_start.Goals as goal

pub returns-then-x-eq0 : goal.returns-then-x-eq0
returns-then-x-eq0 c = omega (arith, no-count _ c.if-x-eq0.true)

pub overflow_sub-result : goal.overflow_sub-result
overflow_sub-result c = omega (arith, c.requires, c.number_size.ensures, some-count _ c.if-x-eq0.false)

pub returns : goal.returns
returns c = omega (arith, c.number_size.ensures, some-count _ c.if-x-eq0.false)
