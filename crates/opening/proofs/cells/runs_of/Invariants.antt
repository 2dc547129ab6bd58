-- The runs before this one are those of the cells.
use Rattle.opening.proofs.StandLaws.{RunsTo}
use Rattle.opening.proofs.cells.runs_of.Given as goal

abbrev pub invariant-loop-j : goal.invariant-loop-j
invariant-loop-j l = RunsTo l.rows l.place l.n l.r l.j
