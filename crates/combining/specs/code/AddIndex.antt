-- A dossier to which an event is added, as the code has it: by the versions and the sizes of its snapshots.
use Rattle.std.specs.Prelude.{ℕ, suc, ◌+◌, ◌*◌, ◌≤◌, ◌<◌, ◌≡◌, true, false, cond, length, take, drop, get_or}
use mathlib.Core.List.{List, ◌∷◌, ◌++◌, map, flatten}
use Rattle.model.specs.Sets.{up_to}
use Rattle.model.specs.Rule.{holds, Snapshot, join_snapshots}
use Rattle.model.specs.Limits.{Limits}
use Rattle.values.specs.declared.versions.EventVersion.{EventVersion}
use Rattle.replies.specs.Capacities.{dossier_capacity}
use Rattle.ontology.specs.Table.{EventType}
use Rattle.ontology.specs.code.TypeIndex.{TypeIs}
use Rattle.ontology.specs.declared.types.TypeIndex.{TypeIndex}
use Rattle.event.specs.Event.{Event, set_at, version_of, type_view}
use Rattle.event.specs.EventQuestions.{Typed}
use Rattle.event.specs.code.EventIndex.{HeadIs, EventIs}
use Rattle.event.specs.declared.head.HeadAt.{HeadAt}
use Rattle.event.specs.declared.read.EventIndex.{EventIndex}
use Rattle.dossier.specs.DossierBody.{snapshot_bytes}
use Rattle.dossier.specs.DossierLayout.{dossier_bytes}
use Rattle.dossier.specs.code.DossierIndex.{no_snapshot, SnapshotAt, CellsAre}
use Rattle.combining.specs.CheckCall.{event_dossier}
use Rattle.combining.specs.CombineCall.{combined, headed_as}
use Rattle.combining.specs.code.CheckIndex.{KnownEvent, alone_bytes}
use Rattle.combining.specs.code.CombineIndex.{Known, Inside, Meet}
use Rattle.combining.specs.declared.measures.Measure.{Measure}
use Rattle.combining.specs.declared.measures.Place.{Place}

-- the bytes of some snapshots, one after the other
abbrev pub bytes_of : List Snapshot → List ℕ
bytes_of ss = flatten (map snapshot_bytes ss)

-- the measures of a dossier as numbers: how many snapshots it has, and two numbers for each

abbrev pub count_in : List ℕ → ℕ
count_in m = get_or m 0 0

abbrev pub measure_in : List ℕ → ℕ → Measure
measure_in m k = record { version = record { 0 = get_or m (2 * k + 1) 0 }; size = get_or m (2 * k + 2) 0 }

-- the measure of a snapshot
abbrev pub measure_of : Snapshot → Measure
measure_of s = record { version = record { 0 = s.version }; size = length (snapshot_bytes s) }

-- the measures m are of the snapshots ss
pub record Measured (ss : List Snapshot) (m : List ℕ) : Type 0 where
  pub count : count_in m ≡ length ss
  pub few : length ss ≤ 8
  pub each : (j : ℕ) → j < length ss → measure_in m j ≡ measure_of (get_or ss j no_snapshot)

-- they are of snapshots whose bytes are no more than those of s
pub record MeasuredIn (s m : List ℕ) : Type 0 where
  pub snapshots : List Snapshot
  pub measured : Measured snapshots m
  pub within : length (bytes_of snapshots) ≤ length s

-- p is where a snapshot of version v stands among the snapshots ss, whose versions rise, or would stand
pub record Splits (ss : List Snapshot) (v : ℕ) (p : Place) : Type 0 where
  pub within : p.index ≤ length ss
  pub before : p.before ≡ length (bytes_of (take p.index ss))
  pub lower : (j : ℕ) → j < p.index → (get_or ss j no_snapshot).version < v
  pub met :
      p.meets ≡ true →
      (p.index < length ss) × ((get_or ss p.index no_snapshot).version ≡ v) × (p.size ≡ length (snapshot_bytes (get_or ss p.index no_snapshot)))
  pub unmet : p.meets ≡ false → (p.size ≡ 0) × (p.index < length ss → v < (get_or ss p.index no_snapshot).version)

-- how many snapshots stand before those of higher versions
abbrev pub lower_or_same : Place → ℕ
lower_or_same p = cond p.meets (suc p.index) p.index

-- the snapshots ss with x at the place p, instead of the one that stands there if one does
abbrev pub with_snapshot : List Snapshot → Place → Snapshot → List Snapshot
with_snapshot ss p x = take p.index ss ++ (x ∷ drop (lower_or_same p) ss)

-- the measures r are m with those from `index` on moved up by one; those at `index` are any
pub record MovedUp (m : List ℕ) (index : ℕ) (r : List ℕ) : Type 0 where
  pub count : count_in r ≡ count_in m + 1
  pub lower : (j : ℕ) → j < index → measure_in r j ≡ measure_in m j
  pub higher : (j : ℕ) → index ≤ j → j < count_in m → measure_in r (suc j) ≡ measure_in m j

-- an event that is accepted, with its dossier `lone`, and the dossier `sofar`, of which questions 2 to 7 are answered yes; m are the measures of the latter
pub record Addable (table sofar m event : List ℕ) (t : TypeIndex) (ps : List ℕ) : Type 0 where
  pub new : KnownEvent table event t
  pub lone : List ℕ
  pub both : Known table sofar lone t ps
  pub type-is : both.right.type ≡ new.event.type
  pub headed-is : both.right.headed ≡ event_dossier new.event
  pub measured : Measured both.left.headed.snapshots m

-- the same under these limits
pub record AddableUnder (limits : Limits) (table sofar m event : List ℕ) (t : TypeIndex) (ps : List ℕ) : Type 0 where
  pub added : Addable table sofar m event t ps
  pub under : added.both.limits ≡ limits

-- and the event is read; the head of the dossier is read, and its snapshots begin at `body`; the event's snapshot has the place p among them
pub record Adding
    (table sofar m event : List ℕ) (e : EventIndex) (ats : List ℕ) (x : HeadAt) (body : ℕ) (p : Place)
    (t : TypeIndex) (ps : List ℕ) : Type 0 where
  pub added : Addable table sofar m event t ps
  pub read : EventIs event added.new.event.event e ats
  pub head : HeadIs sofar added.both.left.headed.head x
  pub begins : body ≤ length sofar
  pub rest : drop body sofar ≡ bytes_of added.both.left.headed.snapshots
  pub splits : Splits added.both.left.headed.snapshots (version_of added.new.event.type added.new.event.event) p

-- under some table
pub record AddingIn
    (sofar m event : List ℕ) (e : EventIndex) (ats : List ℕ) (x : HeadAt) (body : ℕ) (p : Place)
    (t : TypeIndex) (ps : List ℕ) : Type 0 where
  pub table : List ℕ
  pub is : Adding table sofar m event e ats x body p t ps

-- with some measures and some head besides
pub record AddingAt
    (sofar event : List ℕ) (e : EventIndex) (ats : List ℕ) (body : ℕ) (p : Place) (t : TypeIndex) (ps : List ℕ) : Type 0 where
  pub table : List ℕ
  pub measures : List ℕ
  pub head : HeadAt
  pub is : Adding table sofar measures event e ats head body p t ps

-- the snapshot of an event
abbrev pub alone : Typed → Snapshot
alone a = record { version = version_of a.type a.event; cells = map (λ p. holds (set_at a.event p)) (up_to 32) }

-- the snapshot y, together with the one of its version among the snapshots ss if there is one
abbrev pub met_with : EventType → List Snapshot → Place → Snapshot → Snapshot
met_with ty ss p y = cond p.meets (join_snapshots (type_view ty) (get_or ss p.index no_snapshot) y) y

-- a snapshot that stands in `sofar` from `start` up to `end`, and that of an event, which has its version
pub record Met
    (version : EventVersion) (sofar : List ℕ) (start end : ℕ) (event : List ℕ) (e : EventIndex) (ats : List ℕ) (t : TypeIndex)
    (ps : List ℕ) : Type 0 where
  pub table : List ℕ
  pub type : EventType
  pub typed : TypeIs table type t ps
  pub left : Snapshot
  pub right : Snapshot
  pub meet : Meet type left right
  pub number : version.0 ≡ left.version
  pub stands : SnapshotAt sofar left start end
  pub what : Event
  pub read : EventIs event what e ats
  pub bytes : snapshot_bytes right ≡ alone_bytes what version.0
  pub right_is : CellsAre event right.cells 0 ats

-- each has its room: the event's in `apart` bytes, and both together in an output of `size` bytes
pub record MetRoom
    (version : EventVersion) (sofar : List ℕ) (start end : ℕ) (event : List ℕ) (e : EventIndex) (ats : List ℕ) (t : TypeIndex) (ps : List ℕ)
    (apart at size : ℕ) : Type 0 where
  pub met : Met version sofar start end event e ats t ps
  pub lone : length (snapshot_bytes met.right) ≤ apart
  pub room : at + length (snapshot_bytes (join_snapshots (type_view met.type) met.left met.right)) ≤ size

-- the snapshot that the dossier has of the event's version, once the event is added
abbrev pub new_snapshot :
    {table sofar m event : List ℕ} {e : EventIndex} {ats : List ℕ} {x : HeadAt} {body : ℕ} {p : Place}
    {t : TypeIndex} {ps : List ℕ} → Adding table sofar m event e ats x body p t ps → Snapshot
new_snapshot {p = p} h = met_with h.added.both.left.type h.added.both.left.headed.snapshots p (alone h.added.new.event)

-- it has its room in an output of `size` bytes; `apart` bytes are scratch
pub record NewRoom
    (sofar event : List ℕ) (e : EventIndex) (ats : List ℕ) (body : ℕ) (p : Place) (version : EventVersion) (t : TypeIndex) (ps : List ℕ)
    (apart at size : ℕ) : Type 0 where
  pub in_some : AddingAt sofar event e ats body p t ps
  pub number : version.0 ≡ version_of in_some.is.added.new.event.type in_some.is.added.new.event.event
  pub scratch : dossier_capacity ≤ apart
  pub room : at + length (snapshot_bytes (new_snapshot in_some.is)) ≤ size

-- the snapshots of a dossier and of an event together, from `at` on, have their room
pub record WithRoom
    (sofar event : List ℕ) (e : EventIndex) (ats : List ℕ) (body : ℕ) (p : Place) (version : EventVersion) (t : TypeIndex) (ps : List ℕ)
    (apart at size : ℕ) : Type 0 where
  pub in_some : AddingAt sofar event e ats body p t ps
  pub number : version.0 ≡ version_of in_some.is.added.new.event.type in_some.is.added.new.event.event
  pub scratch : dossier_capacity ≤ apart
  pub room : at + length (bytes_of (combined in_some.is.added.both.left in_some.is.added.both.right).snapshots) ≤ size

module _
    {table sofar m event : List ℕ} {e : EventIndex} {ats : List ℕ} {x : HeadAt} {body : ℕ} {p : Place}
    {t : TypeIndex} {ps : List ℕ} (h : Adding table sofar m event e ats x body p t ps) where
  -- question 8 is answered yes
  abbrev pub AddedInside : Type 0
  AddedInside = Inside h.added.both.left.type (combined h.added.both.left h.added.both.right)

  -- the bytes of the dossier with the event
  abbrev pub added_bytes : List ℕ
  added_bytes = dossier_bytes (headed_as h.added.both.left.headed (combined h.added.both.left h.added.both.right))

-- question 8 is answered yes, and the output has `size` bytes
pub record AddedRoom
    (sofar m event : List ℕ) (e : EventIndex) (ats : List ℕ) (x : HeadAt) (body : ℕ) (p : Place) (version : EventVersion)
    (t : TypeIndex) (ps : List ℕ) (apart size : ℕ) : Type 0 where
  pub in_some : AddingIn sofar m event e ats x body p t ps
  pub number : version.0 ≡ version_of in_some.is.added.new.event.type in_some.is.added.new.event.event
  pub scratch : dossier_capacity ≤ apart
  pub room : dossier_capacity ≤ size
  pub inside : AddedInside in_some.is
