-- The dossier of one event, as it is written from the event's own bytes.
use Rattle.std.specs.Prelude.{ℕ, ◌+◌, ◌-◌, ◌^◌, ◌≤◌, ◌<◌, ◌≡◌, true, List, [], ◌∷◌, ◌++◌, map, length}
use Rattle.std.proofs.Math.Option.{some}
use Rattle.packed.specs.Packed.{number}
use Rattle.values.specs.Decimal.{in_decimal}
use Rattle.replies.specs.Questions.{accepted}
use Rattle.ontology.specs.Table.{EventType, Table, is_versioned}
use Rattle.ontology.specs.TableLayout.{table_of}
use Rattle.ontology.specs.declared.types.TypeIndex.{TypeIndex}
use Rattle.event.specs.Event.{Event, set_at, version_of}
use Rattle.event.specs.EventLayout.{presence_bit, bit_number, sets_bytes}
use Rattle.event.specs.EventQuestions.{Typed, new_event_asked}
use Rattle.event.specs.code.EventIndex.{SetsAre, EventIs}
use Rattle.event.specs.declared.read.EventIndex.{EventIndex}
use Rattle.dossier.specs.DossierHead.{dossier_head_bytes}

-- the snapshot of an event: its version, its presence and differ numbers, and its sets
abbrev pub alone_bytes : Event → ℕ → List ℕ
alone_bytes e version = number version ++ number (bit_number (map presence_bit e.sets)) ++ number 0 ++ sets_bytes e.sets

-- the head, and one snapshot
unfoldable pub lone_bytes : Event → ℕ → List ℕ
lone_bytes e version = dossier_head_bytes e.head ++ (number 1 ++ alone_bytes e version)

-- t has the mark of the type of an event whose version is to be had, and whose sets stand where the numbers ats say
pub record Checkable (bytes : List ℕ) (t : TypeIndex) (ats : List ℕ) : Type 0 where
  pub type : EventType
  pub event : Event
  pub mark : t.mark ≡ type.mark
  pub sets : SetsAre bytes event.sets ats
  pub marked : is_versioned type ≡ true → (type.mark ≤ 32) × (set_at event (type.mark - 1) ≡ in_decimal (version_of type event) ∷ [])
  pub below : version_of type event < 2 ^ 64

-- the snapshot has its room in an output of `size` bytes
pub record AloneRoom (bytes : List ℕ) (e : EventIndex) (ats : List ℕ) (version at size : ℕ) : Type 0 where
  pub event : Event
  pub read : EventIs bytes event e ats
  pub room : at + length (alone_bytes event version) ≤ size

-- the dossier has its room in an output of `size` bytes
pub record LoneRoom (bytes : List ℕ) (e : EventIndex) (ats : List ℕ) (version size : ℕ) : Type 0 where
  pub event : Event
  pub read : EventIs bytes event e ats
  pub room : length (lone_bytes event version) ≤ size

-- questions 2 to 6 are answered yes, and t has the mark of the event's type
pub record KnownEvent (table bytes : List ℕ) (t : TypeIndex) : Type 0 where
  pub types : Table
  pub is : table_of table ≡ some types
  pub event : Typed
  pub asked : new_event_asked types bytes ≡ accepted event
  pub mark : t.mark ≡ event.type.mark
