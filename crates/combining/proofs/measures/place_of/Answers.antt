use Rattle.std.proofs.Common.{arith}
use Rattle.combining.proofs.MeasureLaws.{none_passed, passed-fits, passed-next}
use Rattle.combining.proofs.measures.place_of.Goals as goal

pub loop-k-init : goal.loop-k-init
loop-k-init c = none_passed

-- the bytes passed and those of the next snapshot are among those of all, which s has
pub overflow_add-before : goal.overflow_add-before
overflow_add-before c = omega (arith, passed-fits c.loop-k.invariant (omega arith) c.measure_at-x.ensures c.requires.0)

pub loop-k-preserved : goal.loop-k-preserved
loop-k-preserved c = passed-next c.loop-k.invariant (omega arith) c.measure_at-x.ensures (omega arith)
