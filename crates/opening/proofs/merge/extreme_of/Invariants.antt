-- `best` is the chosen value of the snapshots before this one.
use Rattle.opening.proofs.MergeLaws.{ChosenTo}
use Rattle.opening.proofs.merge.extreme_of.Given as goal

abbrev pub invariant-loop-j : goal.invariant-loop-j
invariant-loop-j l = ChosenTo l.s l.rows l.place l.n l.kind l.largest l.best l.j
