-- The measures from k on stand one place higher, those below it where they stood.
use Rattle.std.proofs.Common.{◌≤◌}
use Rattle.combining.proofs.MeasureLaws.{Moved}
use Rattle.combining.proofs.measures.move_up.Given as goal

abbrev pub invariant-loop-k : goal.invariant-loop-k
invariant-loop-k l = (l.index ≤ l.k) × Moved l.initial.measures l.k l.measures
