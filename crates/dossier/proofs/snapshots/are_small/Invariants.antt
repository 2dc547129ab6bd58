-- No set has more values than there are objects. Where those are more, the sets are passed place by place: the whole answer is that of the places left.
use Rattle.dossier.proofs.SnapshotLaws.{SmallTo}
use Rattle.dossier.proofs.snapshots.are_small.Given as goal

abbrev pub invariant-loop-k : goal.invariant-loop-k
invariant-loop-k l = SmallTo l.sets l.k
