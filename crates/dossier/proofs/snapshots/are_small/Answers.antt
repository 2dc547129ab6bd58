use Rattle.dossier.proofs.SnapshotLaws.{small-few, small-over, small-more, small_all}
use Rattle.dossier.proofs.snapshots.are_small.Goals as goal

pub returns-then-objects-le256 : goal.returns-then-objects-le256
returns-then-objects-le256 c = search small-few

pub returns-then-x-gt256 : goal.returns-then-x-gt256
returns-then-x-gt256 c = search small-over

pub loop-k-preserved : goal.loop-k-preserved
loop-k-preserved c = search small-more

pub returns : goal.returns
returns c = search small_all
