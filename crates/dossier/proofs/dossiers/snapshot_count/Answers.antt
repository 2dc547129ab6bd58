use Rattle.dossier.proofs.RowLaws.{as-counted, counted_none}
use Rattle.dossier.proofs.dossiers.snapshot_count.Goals as goal

pub returns-in-Some : goal.returns-in-Some
returns-in-Some c = as-counted _ _ _ c.dossier_head_end.ensures _ _ c.in-Some.ensures

pub returns-in-None : goal.returns-in-None
returns-in-None c = counted_none _ _ _ c.dossier_head_end.ensures _ c.in-None.ensures
