-- The numbers that are read leave the sets, and the sets leave the question whether they are small: where one of them fails, so does the snapshot, and where
-- none does, it is the one that they make.
use Rattle.dossier.proofs.SnapshotLaws.{snapshot-told}
use Rattle.dossier.proofs.snapshots.read_snapshot.Goals as goal

pub returns : goal.returns
returns c = rw c.then_some.ensures (snapshot-told c.in_ok-numbers.ensures c.in_ok-next.ensures c.requires.0 c.are_small.ensures)
