-- What the code holds of a dossier that is opened.
use Rattle.std.specs.Prelude.{ℕ, ◌+◌, ◌-◌, ◌≤◌, ◌<◌, ◌≡◌, true, ◌||◌, length, get_or}
use Rattle.std.proofs.Math.Option.{Option, none, some}
use mathlib.Core.List.{List, [], flatten}
use Rattle.std.proofs.Math.ListN.{get_elem?}
use Rattle.model.specs.Order.{Text, texts, rising}
use Rattle.model.specs.Rule.{Snapshot, Dossier}
use Rattle.model.specs.Limits.{Limits, Permitted}
use Rattle.model.specs.Opening as model
use Rattle.model.specs.Opening.{held, cell_at, column, merged_at}
use Rattle.values.specs.Spaces.{Kind, kind_number}
use Rattle.values.specs.ValueOrder.{is_ordered}
use Rattle.values.specs.declared.versions.EventVersion.{EventVersion}
use Rattle.replies.specs.Questions.{accepted}
use Rattle.ontology.specs.Table.{Property, EventType, Table, is_min, is_max, is_replace}
use Rattle.ontology.specs.TableLayout.{table_of}
use Rattle.ontology.specs.code.TypeIndex.{TypeIs}
use Rattle.ontology.specs.declared.types.TypeIndex.{TypeIndex}
use Rattle.event.specs.Event.{type_view}
use Rattle.event.specs.EventQuestions.{are_in_space}
use Rattle.event.specs.code.EventIndex.{SetIs}
use Rattle.event.specs.declared.sets.SetAt.{SetAt}
use Rattle.dossier.specs.DossierLayout.{Headed}
use Rattle.dossier.specs.DossierQuestions.{dossier_asked}
use Rattle.dossier.specs.code.DossierIndex.{no_snapshot, DossierIs, RowsAre}
use Rattle.dossier.specs.declared.dossiers.DossierIndex.{DossierIndex}
use Rattle.opening.specs.code.CellIndex.{cell_in}
use Rattle.opening.specs.declared.strategies.PlaceRule.{PlaceRule}
use Rattle.std.specs.Prelude as std
use Rattle.std.specs.Prelude.{Some, None}

-- ---- conflict

abbrev pub lowest_of : std.Option ℕ → Option ℕ
lowest_of (Some p) = some p
lowest_of None = none

abbrev pub conflict_of : std.Option (EventVersion × ℕ) → model.Conflict
conflict_of (Some (v, p)) = model.differs_at v.0 p
conflict_of None = model.no_conflict

-- ---- cells

-- the rising values vs stand in s where x says
pub record CellStands (s : List ℕ) (vs : List Text) (x : SetAt) : Type 0 where
  pub is : SetIs s vs x
  pub rises : rising texts vs ≡ true

-- each place of each snapshot has its set in the snapshot's row
pub record CellsStand (s : List ℕ) (ss : List Snapshot) (rows : List ℕ) : Type 0 where
  pub few : length ss ≤ 8
  pub each : (p j : ℕ) → p < 32 → j < length ss → CellStands s (held (cell_at (get_or ss j no_snapshot) p)) (cell_in rows p j)

-- ---- merging

-- how the sets of a property are merged
pub record RuleOf (q : Property) (r : PlaceRule) : Type 0 where
  pub replaces : r.replaces ≡ is_replace q
  pub extreme : r.extreme ≡ (is_min q || is_max q)
  pub largest : r.largest ≡ is_max q
  pub kind : r.kind ≡ kind_number q.kind

-- the same of a place, which has a property
pub record RuleIs (o : Option Property) (r : PlaceRule) : Type 0 where
  pub what : Property
  pub is : o ≡ some what
  pub rule : RuleOf what r

-- at most one value, in the space of a kind
pub record Lone (k : Kind) (vs : List Text) : Type 0 where
  pub one : length vs ≤ 1
  pub in-space : are_in_space k vs ≡ true

-- the number of a kind that is ordered
pub record Chooses (k : Kind) (kind : ℕ) : Type 0 where
  pub number : kind_number k ≡ kind
  pub ordered : is_ordered k ≡ true

-- the n snapshots of a dossier have their cells; no place without a property has objects, the sets of min and max can be chosen from, and the marked place
-- merges to the last snapshot's set
pub record Mergeable (s rows : List ℕ) (n : ℕ) (t : EventType) (d : Dossier) : Type 0 where
  pub stand : CellsStand s d.snapshots rows
  pub count : length d.snapshots ≡ n
  pub vacant : (p : ℕ) → get_elem? t.properties p ≡ none → flatten (column d.snapshots p) ≡ []
  pub chosen : (p : ℕ) (q : Property) → get_elem? t.properties p ≡ some q → (is_min q || is_max q) ≡ true → Chooses q.kind (kind_number q.kind)
  pub lone :
      (p : ℕ) (q : Property) → get_elem? t.properties p ≡ some q → (is_min q || is_max q) ≡ true → (j : ℕ) → j < n →
      Lone q.kind (get_or (column d.snapshots p) j [])
  pub marked : (p : ℕ) → p + 1 ≡ t.mark → merged_at (type_view t) d p ≡ get_or (column d.snapshots p) (n - 1) []

-- d is the index of a dossier that was asked its questions, under some limits; the rows are those of its snapshots, t is the index of its type, and ps the
-- numbers of the type's properties
pub record Openable (s : List ℕ) (d : DossierIndex) (rows : List ℕ) (t : TypeIndex) (ps : List ℕ) : Type 0 where
  pub limits : Limits
  pub permitted : Permitted limits
  pub table : List ℕ
  pub types : Table
  pub type : EventType
  pub headed : Headed
  pub read : table_of table ≡ some types
  pub asked : dossier_asked limits types s ≡ accepted (record { type = type; headed = headed })
  pub typed : TypeIs table type t ps
  pub is : DossierIs s headed d
  pub stand : RowsAre s headed.snapshots rows
