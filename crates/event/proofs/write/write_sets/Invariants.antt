-- The places below k are written but for the run, which is copied at the end.
use Rattle.std.proofs.Common.{◌-◌}
use Rattle.event.proofs.SetWriteLaws.{RunsTo}
use Rattle.event.proofs.write.write_sets.Given as goal

abbrev pub invariant-loop-k : goal.invariant-loop-k
invariant-loop-k l = RunsTo l.s l.sets l.initial.out l.at l.presence l.out l.run l.bits l.k

abbrev pub decreases-loop-k : goal.decreases-loop-k
decreases-loop-k l = 32 - l.k
