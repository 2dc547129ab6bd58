use Rattle.dossier.proofs.SnapshotLaws.{apart-and}
use Rattle.dossier.proofs.snapshots.are_apart.Goals as goal

pub returns : goal.returns
returns c = apart-and 32 _ _ c.requires
