-- Two dossiers that are combined, and two snapshots of one version, as the code has them.
use Rattle.std.specs.Prelude.{ℕ, ◌+◌, ◌^◌, ◌≤◌, ◌<◌, ◌≡◌, Bool, true, false, ◌||◌, List, [], map, length, get_or, Result, Ok, Err}
use Rattle.std.proofs.Math.Option.{some}
use Rattle.std.proofs.Math.ListN.{get_elem?}
use Rattle.model.specs.Rule.{Cell, holds, Snapshot, Dossier, join_snapshots}
use Rattle.model.specs.Limits.{Limits, Permitted, fits}
use Rattle.model.specs.Opening.{held}
use Rattle.packed.specs.Parse.{got}
use Rattle.values.specs.ValueOrder.{is_ordered}
use Rattle.values.specs.declared.versions.EventVersion.{EventVersion}
use Rattle.replies.specs.Questions.{Asked, refused, accepted}
use Rattle.replies.specs.Replies.{refusal_number}
use Rattle.replies.specs.declared.reply.Refusal.{Refusal}
use Rattle.ontology.specs.Table.{Property, EventType, Table, is_min, is_max, is_versioned, at_place}
use Rattle.ontology.specs.TableLayout.{table_of}
use Rattle.ontology.specs.code.TypeIndex.{PropertiesAre, TypeIs}
use Rattle.ontology.specs.declared.types.TypeIndex.{TypeIndex}
use Rattle.event.specs.Event.{type_view}
use Rattle.event.specs.code.EventIndex.{SetsAre}
use Rattle.dossier.specs.DossierBody.{read_snapshot, snapshot_bytes}
use Rattle.dossier.specs.DossierQuestions.{TypedDossier, dossier_asked, dossiers_agree, snapshot_values}
use Rattle.dossier.specs.code.DossierIndex.{snapshot_fits, CellsAre, DossierIs, RowsAre}
use Rattle.dossier.specs.declared.dossiers.DossierIndex.{DossierIndex}

-- a dossier that was accepted; its type is not kept
pub record OtherAccepted (p : Asked TypedDossier) (s rows : List ℕ) (e : DossierIndex) : Type 0 where
  pub what : TypedDossier
  pub is : p ≡ accepted what
  pub read : DossierIs s what.headed e
  pub in_rows : RowsAre s what.headed.snapshots rows

-- what asking it answers, where the questions come to p
abbrev pub OtherAnswers : Asked TypedDossier → List ℕ → List ℕ → Result DossierIndex Refusal → Type 0
OtherAnswers p s rows (Ok e) = OtherAccepted p s rows e
OtherAnswers p s rows (Err q) = p ≡ refused (refusal_number q)

-- questions 2 to 7 are answered yes, under some limits
pub record Known (table a b : List ℕ) (t : TypeIndex) (ps : List ℕ) : Type 0 where
  pub limits : Limits
  pub permitted : Permitted limits
  pub types : Table
  pub is : table_of table ≡ some types
  pub left : TypedDossier
  pub right : TypedDossier
  pub left-asked : dossier_asked limits types a ≡ accepted left
  pub right-asked : dossier_asked limits types b ≡ accepted right
  pub agree : dossiers_agree left right ≡ true
  pub typed : TypeIs table left.type t ps

-- and both dossiers are read, with the rows of their snapshots
pub record Combinable
    (table a : List ℕ) (d : DossierIndex) (left b : List ℕ) (e : DossierIndex) (right : List ℕ) (t : TypeIndex) (ps : List ℕ) : Type 0 where
  pub known : Known table a b t ps
  pub left-read : DossierIs a known.left.headed d
  pub right-read : DossierIs b known.right.headed e
  pub left-rows : RowsAre a known.left.headed.snapshots left
  pub right-rows : RowsAre b known.right.headed.snapshots right

-- question 8 is answered yes of a dossier, under some limits
pub record Inside (type : EventType) (whole : Dossier) : Type 0 where
  pub limits : Limits
  pub permitted : Permitted limits
  pub is : fits limits (type_view type) whole ≡ true

-- two dossiers that are combined, under these limits
pub record CombinableUnder
    (limits : Limits) (table a : List ℕ) (d : DossierIndex) (left b : List ℕ) (e : DossierIndex) (right : List ℕ) (t : TypeIndex)
    (ps : List ℕ) : Type 0 where
  pub both : Combinable table a d left b e right t ps
  pub under : both.known.limits ≡ limits

-- strategy min or max at a place
unfoldable pub is_extreme_at : EventType → ℕ → Bool
is_extreme_at t p = at_place false (λ (q : Property). is_min q || is_max q) (get_elem? t.properties p)

-- a place from `count` on has no objects and no mark
pub record VacantFrom (count : ℕ) (cs : List Cell) : Type 0 where
  pub each : (p : ℕ) → count ≤ p → get_or cs p (holds []) ≡ holds []

-- two snapshots of one version and one type, of each of which questions 5 and 6 are answered yes, under some limits
pub record Fitting (type : EventType) (left right : Snapshot) : Type 0 where
  pub limits : Limits
  pub left-fits : snapshot_fits limits type left ≡ true
  pub right-fits : snapshot_fits limits type right ≡ true
  pub left-values : snapshot_values type left ≡ true
  pub right-values : snapshot_values type right ≡ true
  pub same : left.version ≡ right.version
  pub below : left.version < 2 ^ 64
  pub ordered : (p : ℕ) (q : Property) → get_elem? type.properties p ≡ some q → (is_min q || is_max q) ≡ true → is_ordered q.kind ≡ true

-- and each is read from some bytes
pub record Meet (type : EventType) (left right : Snapshot) : Type 0 where
  pub fitting : Fitting type left right
  pub left-bytes : List ℕ
  pub left-rest : List ℕ
  pub left-read : read_snapshot left-bytes ≡ got left left-rest
  pub right-bytes : List ℕ
  pub right-rest : List ℕ
  pub right-read : read_snapshot right-bytes ≡ got right right-rest

-- they have the version and the differ numbers m and n, and stand in a and b where x and y say
pub record Shared (version : EventVersion) (a x : List ℕ) (m : ℕ) (b y : List ℕ) (n : ℕ) (type : EventType) (left right : Snapshot) : Type 0 where
  pub meet : Meet type left right
  pub number : version.0 ≡ left.version
  pub left_is : CellsAre a left.cells m x
  pub right_is : CellsAre b right.cells n y

-- what two versioned snapshots are together, of a type that has `count` properties, has its room in an output of `size` bytes
pub record AgreedRoom (version : EventVersion) (a x : List ℕ) (m : ℕ) (b y : List ℕ) (n count at size : ℕ) : Type 0 where
  pub type : EventType
  pub counted : count ≡ length type.properties
  pub few : count ≤ 32
  pub left : Snapshot
  pub right : Snapshot
  pub versioned : is_versioned type ≡ true
  pub shared : Shared version a x m b y n type left right
  pub room : at + length (snapshot_bytes (join_snapshots (type_view type) left right)) ≤ size

-- the same of two unversioned ones
pub record JoinedRoom (a x b y : List ℕ) (count : ℕ) (ps : List ℕ) (at size : ℕ) : Type 0 where
  pub table : List ℕ
  pub type : EventType
  pub left : Snapshot
  pub right : Snapshot
  pub typed : PropertiesAre table type.properties count ps
  pub unversioned : is_versioned type ≡ false
  pub meet : Meet type left right
  pub left_is : SetsAre a (map held left.cells) x
  pub right_is : SetsAre b (map held right.cells) y
  pub room : at + length (snapshot_bytes (join_snapshots (type_view type) left right)) ≤ size
