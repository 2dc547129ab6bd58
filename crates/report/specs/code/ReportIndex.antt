-- What the writers of the report's lines are given, and what the report is made of.
use Rattle.std.specs.Prelude.{ℕ, ◌+◌, ◌≤◌, ◌≡◌, List, length}
use Rattle.std.proofs.Math.Option.{some}
use Rattle.std.proofs.Math.ListN.{get_elem?}
use Rattle.model.specs.Order.{Text}
use Rattle.model.specs.Limits.{standard}
use Rattle.model.specs.Opening.{Finding, place_of, Opened, finds, merged, opening}
use Rattle.replies.specs.Questions.{accepted}
use Rattle.replies.specs.Replies.{finding_of}
use Rattle.replies.specs.declared.reply.Finding as reply
use Rattle.ontology.specs.Table.{Property, EventType, Table}
use Rattle.ontology.specs.TableLayout.{table_of}
use Rattle.ontology.specs.code.TypeIndex.{PropertyIs, PropertiesAre}
use Rattle.ontology.specs.declared.properties.PropertyAt.{PropertyAt}
use Rattle.event.specs.Event.{Event, type_view}
use Rattle.event.specs.EventLayout.{wide, event_bytes}
use Rattle.event.specs.EventQuestions.{event_asked}
use Rattle.event.specs.code.EventIndex.{SetIs, SetsAre, EventIs}
use Rattle.event.specs.declared.sets.SetAt.{SetAt}
use Rattle.event.specs.declared.read.EventIndex.{EventIndex}
use Rattle.dossier.specs.DossierQuestions.{TypedDossier, dossier_asked}
use Rattle.dossier.specs.DossierLayout.{model_of}
use Rattle.opening.specs.OpenCall.{merged_event}
use Rattle.report.specs.Report.{value_lines, object_lines, hashed_lines, merged_lines, opened_lines}

-- ---- what the writers are given

-- ps are the numbers of all properties of a type
abbrev pub NumbersOf : List ℕ → EventType → List ℕ → Type 0
NumbersOf table t ps = PropertiesAre table t.properties (length t.properties) ps

-- ps are the numbers of a type's properties, one of which stands at a place
pub record PlaceNamed (table ps : List ℕ) (place : ℕ) : Type 0 where
  pub type : EventType
  pub property : Property
  pub are : NumbersOf table type ps
  pub named : get_elem? type.properties place ≡ some property

-- the same of the place of what opening finds
abbrev pub FindingNamed : List ℕ → List ℕ → reply.Finding → Type 0
FindingNamed table ps f = PlaceNamed table ps (place_of (finding_of f))

-- a property's values stand in the bytes of an event, and their lines have room
pub record ValuesRoom (table : List ℕ) (p : PropertyAt) (bytes : List ℕ) (x : SetAt) (at room : ℕ) : Type 0 where
  pub property : Property
  pub values : List Text
  pub named : PropertyIs table property p
  pub is : SetIs bytes values x
  pub fits : at + length (value_lines property.name values) ≤ room

-- ps are the numbers of properties and ats those of their sets, and the objects' lines have room
pub record ObjectsRoom (table : List ℕ) (count : ℕ) (ps bytes ats : List ℕ) (at room : ℕ) : Type 0 where
  pub properties : List Property
  pub sets : List (List Text)
  pub are : PropertiesAre table properties count ps
  pub stand : SetsAre bytes sets ats
  pub fits : at + length (object_lines properties sets) ≤ room

-- the same of a type and an event of it, whose index is e, with the first and the last line
pub record LinesRoom (table : List ℕ) (count : ℕ) (ps bytes : List ℕ) (e : EventIndex) (ats hash : List ℕ) (room : ℕ) : Type 0 where
  pub type : EventType
  pub event : Event
  pub are : PropertiesAre table type.properties count ps
  pub read : EventIs bytes event e ats
  pub fits : length (hashed_lines type event hash) ≤ room

-- ---- what the report is made of

-- the event e of the type t, whose bytes pass the questions in the wide form, and whose lines have room
pub record MergedAsked (table bytes : List ℕ) (t : EventType) (e : Event) (room : ℕ) : Type 0 where
  pub types : Table
  pub tabled : table_of table ≡ some types
  pub asked : event_asked wide types bytes ≡ accepted (record { type = t; event = e })
  pub fits : length (merged_lines t e) ≤ room

-- what a dossier opens as
abbrev pub opens : TypedDossier → Opened
opens d = opening (type_view d.type) (model_of d.headed)

abbrev pub HasProperty : EventType → ℕ → Type 0
HasProperty t p = (q : Property) × (get_elem? t.properties p ≡ some q)

-- the dossier d, whose bytes pass the questions: opened, it is a merged event that passes them too, or names a property; and its lines have room
pub record DossierOpens (table bytes : List ℕ) (d : TypedDossier) (room : ℕ) : Type 0 where
  pub types : Table
  pub tabled : table_of table ≡ some types
  pub asked : dossier_asked standard types bytes ≡ accepted d
  pub merges : (ss : List (List Text)) → opens d ≡ merged ss →
      event_asked wide types (event_bytes (merged_event d.headed ss)) ≡ accepted (record { type = d.type; event = merged_event d.headed ss })
  pub names : (f : Finding) → opens d ≡ finds f → HasProperty d.type (place_of f)
  pub fits : length (opened_lines d.type d.headed (opens d)) ≤ room
