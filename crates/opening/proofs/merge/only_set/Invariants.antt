-- The union of the snapshots before this one stands at `only`.
use Rattle.opening.proofs.MergeLaws.{UnionTo}
use Rattle.opening.proofs.merge.only_set.Given as goal

abbrev pub invariant-loop-j : goal.invariant-loop-j
invariant-loop-j l = UnionTo l.s l.rows l.place l.n l.only l.j
