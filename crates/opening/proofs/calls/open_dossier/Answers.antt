-- As many rows are lent as the dossier can have snapshots.
use Rattle.dossier.proofs.RowLaws.{one-row, all-rows}
use Rattle.opening.proofs.OpenLaws.{allowed, open-unpermitted, open-small}
use Rattle.opening.proofs.calls.open_dossier.Goals as goal

pub returns-then-not-is_permitted : goal.returns-then-not-is_permitted
returns-then-not-is_permitted c = search open-unpermitted

pub returns-then-out-lt-DOSSIER_CAPACITY : goal.returns-then-out-lt-DOSSIER_CAPACITY
returns-then-out-lt-DOSSIER_CAPACITY c = search (open-small, allowed)

pub snapshot_count-requires : goal.snapshot_count-requires
snapshot_count-requires c = search allowed

pub open_with-requires : goal.open_with-requires
open_with-requires c = search (allowed, one-row)

pub open_with-requires-2 : goal.open_with-requires-2
open_with-requires-2 c = search (allowed, all-rows)
