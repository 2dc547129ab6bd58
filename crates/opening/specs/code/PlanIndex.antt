-- What is planned of the merged sets before any is made, and the room that they have in the output.
use Rattle.std.specs.Prelude.{ℕ, ◌+◌, ◌*◌, ◌≤◌, ◌<◌, ◌≡◌, ltb, leb, length, get_or, set}
use mathlib.Core.List.{List, [], flatten}
use Rattle.model.specs.Order.{Text, texts}
use Rattle.model.specs.Sets.{canon}
use Rattle.model.specs.Rule.{Snapshot, Dossier}
use Rattle.model.specs.Opening.{column, merged_at, merged_sets}
use Rattle.ontology.specs.Table.{EventType}
use Rattle.event.specs.Event.{type_view}
use Rattle.event.specs.EventLayout.{set_bytes, sets_bytes, event_bytes}
use Rattle.event.specs.code.EventIndex.{SetIs}
use Rattle.dossier.specs.DossierLayout.{Headed, model_of}
use Rattle.dossier.specs.code.DossierIndex.{DossierIs}
use Rattle.dossier.specs.declared.dossiers.DossierIndex.{DossierIndex}
use Rattle.opening.specs.OpenCall.{merged_event}
use Rattle.opening.specs.declared.merge.PlaceMerged.{PlaceMerged}
use Rattle.opening.specs.declared.merge.PlaceMerged.TheVariants.{Stands, Joins}
use Rattle.opening.specs.code.CellIndex.{set_from, with_set}
use Rattle.opening.specs.code.OpenIndex.{CellsStand}

-- vs is the union of the sets xss, of which two differ
pub record Joined (vs : List Text) (xss : List (List Text)) : Type 0 where
  pub union : vs ≡ canon texts (flatten xss)
  pub several : 2 ≤ length vs

-- vs, merged of the sets xss of a place, stands where the answer says, or is to be made
abbrev pub PlaceIs : List ℕ → List Text → List (List Text) → PlaceMerged → Type 0
PlaceIs s vs xss (Stands x) = SetIs s vs x
PlaceIs s vs xss Joins = Joined vs xss

-- the four numbers of a place
unfoldable pub with_place : List ℕ → ℕ → PlaceMerged → List ℕ
with_place plan p (Stands x) = set (with_set plan (4 * p) x) (4 * p + 3) 0
with_place plan p Joins = set (set plan (4 * p + 2) 2) (4 * p + 3) 1

-- n tells whether there are any of m values, and whether there are several
pub record TellsCount (n m : ℕ) : Type 0 where
  pub any : ltb 0 n ≡ ltb 0 m
  pub several : leb 2 n ≡ leb 2 m

-- the plan of a place
pub record PlanAt (s plan : List ℕ) (p : ℕ) (vs : List Text) (xss : List (List Text)) : Type 0 where
  pub joins : get_or plan (4 * p + 3) 0 ≡ 1 → Joined vs xss
  pub stands : (get_or plan (4 * p + 3) 0 ≡ 1 → ⊥) → SetIs s vs (set_from plan (4 * p))
  pub counts : TellsCount (get_or plan (4 * p + 2) 0) (length vs)

pub record PlanIs (s plan : List ℕ) (t : EventType) (d : Dossier) : Type 0 where
  pub each : (p : ℕ) → p < 32 → PlanAt s plan p (merged_at (type_view t) d p) (column d.snapshots p)

-- ---- writing: what is written has its room in an output of `size` bytes

-- the union of the sets of a place, which has a value at least
pub record JoinedRoom (s rows : List ℕ) (place n at size : ℕ) : Type 0 where
  pub snapshots : List Snapshot
  pub stand : CellsStand s snapshots rows
  pub count : length snapshots ≡ n
  pub some : 1 ≤ length (canon texts (flatten (column snapshots place)))
  pub room : at + length (set_bytes (canon texts (flatten (column snapshots place)))) ≤ size

-- the merged sets, of which those from place k on are empty
pub record SetsRoom (s rows : List ℕ) (n k : ℕ) (plan : List ℕ) (at size : ℕ) : Type 0 where
  pub type : EventType
  pub dossier : Dossier
  pub stand : CellsStand s dossier.snapshots rows
  pub count : length dossier.snapshots ≡ n
  pub planned : PlanIs s plan type dossier
  pub vacant : (p : ℕ) → k ≤ p → merged_at (type_view type) dossier p ≡ []
  pub room : at + length (sets_bytes (merged_sets (type_view type) dossier)) ≤ size

-- the merged event, whose sets from place k on are empty
pub record Writable (s : List ℕ) (d : DossierIndex) (rows : List ℕ) (k : ℕ) (plan : List ℕ) (size : ℕ) : Type 0 where
  pub type : EventType
  pub headed : Headed
  pub is : DossierIs s headed d
  pub stand : CellsStand s headed.snapshots rows
  pub planned : PlanIs s plan type (model_of headed)
  pub vacant : (p : ℕ) → k ≤ p → merged_at (type_view type) (model_of headed) p ≡ []
  pub room : length (event_bytes (merged_event headed (merged_sets (type_view type) (model_of headed)))) ≤ size
