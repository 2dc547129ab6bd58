use Rattle.combining.proofs.MeasureLaws.{PassedIn}
use Rattle.combining.proofs.measures.place_of.Given as goal

-- the first k snapshots are passed, and have `before` bytes
abbrev pub invariant-loop-k : goal.invariant-loop-k
invariant-loop-k l = PassedIn l.measures l.version.0 l.before l.k
