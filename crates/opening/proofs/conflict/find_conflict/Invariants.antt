-- The conflict is that of the snapshots from here on.
use Rattle.opening.proofs.ConflictLaws.{ConflictFrom}
use Rattle.opening.proofs.conflict.find_conflict.Given as goal

abbrev pub invariant-loop-j : goal.invariant-loop-j
invariant-loop-j l = ConflictFrom l.d l.j
