-- Document 01, "Dossier": its bytes, a head and a body.
use Rattle.std.specs.Prelude.{ℕ, List, ◌++◌}
use Rattle.std.proofs.Math.Option.{Option}
use Rattle.model.specs.Order.{Text}
use Rattle.model.specs.Rule.{Snapshot, Dossier}
use Rattle.model.specs.Limits.{Limits}
use Rattle.packed.specs.Parse.{Layout, ◌>>=◌, found, whole}
use Rattle.event.specs.Head.{Head}
use Rattle.dossier.specs.DossierHead.{read_dossier_head, dossier_head_bytes}
use Rattle.dossier.specs.DossierBody.{read_body, body_bytes}

-- A dossier with the head that all its events share, but for the parents, which are those of all
pub record Headed : Type 0 where
  pub head : Head
  pub snapshots : List Snapshot

-- what the rule, combining and opening work on, which have nothing to do with type name and source URI; and back
abbrev pub model_of : Headed → Dossier
model_of h = record { parents = h.head.parents; snapshots = h.snapshots }

abbrev pub headed : Text → Text → Dossier → Headed
headed type source d = record { head = record { type = type; source = source; parents = d.parents }; snapshots = d.snapshots }

-- "Type name, source URI, parent count 0 to 32 with the hashes rising, snapshot count 1 to 8, snapshots by rising event version."
unfoldable pub read_dossier : Limits → Layout Headed
read_dossier limits = do
  head ← read_dossier_head limits
  snapshots ← read_body limits
  found (record { head = head; snapshots = snapshots })

-- the dossier that some bytes are, to their exact end
unfoldable pub dossier_of : Limits → List ℕ → Option Headed
dossier_of limits s = whole (read_dossier limits s)

-- The same layout, written
unfoldable pub dossier_bytes : Headed → List ℕ
dossier_bytes h = dossier_head_bytes h.head ++ body_bytes h.snapshots
