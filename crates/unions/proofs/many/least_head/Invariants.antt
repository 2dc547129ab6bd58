use Rattle.unions.proofs.MergeLaws.{LeastSofar}
use Rattle.unions.proofs.many.least_head.Given as goal

abbrev pub invariant-loop-j : goal.invariant-loop-j
invariant-loop-j l = LeastSofar l.s l.at l.ends l.n l.j l.best l.after
