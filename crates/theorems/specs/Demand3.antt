-- Demand 3 as a single claim about each whole way, over the calls' own equations, with document 00's words; document 02, Q-13: "All combining facts are shown
-- for any permitted choice that a whole way keeps". That the limits are permitted is asked for by the theorem (`demand3`).
use Rattle.std.specs.Prelude.{ℕ, ◌≤◌, ◌≡◌, ◌↔◌, false, length, take}
use Rattle.std.proofs.Math.Option.{some}
use mathlib.Core.List.{List, Memᴰ}
use Rattle.model.specs.Order.{Text, texts}
use Rattle.model.specs.Sets.{Same}
use Rattle.model.specs.Rule.{Dossier, rule}
use Rattle.model.specs.Limits.{Limits, fits}
use Rattle.model.specs.Opening.{conflict_at, opening}
use Rattle.model.specs.Clashes.{FirstClash, NoClash}
use Rattle.model.specs.Ways.{Way, wrote, said, events, event_set, limited}
use Rattle.replies.specs.Questions.{accepted}
use Rattle.replies.specs.Capacities.{hash_text_capacity}
use Rattle.replies.specs.Answers.{gives, Reply, outcome}
use Rattle.ontology.specs.Table.{EventType, Table}
use Rattle.ontology.specs.TableLayout.{table_of}
use Rattle.event.specs.Event.{type_view}
use Rattle.event.specs.EventQuestions.{new_event_asked}
use Rattle.dossier.specs.DossierLayout.{Headed, dossier_bytes, headed}
use Rattle.hashing.specs.HashText.{event_text}
use Rattle.hashing.specs.HashCalls.{hash_text_call}
use Rattle.combining.specs.CheckCall.{check_call}
use Rattle.opening.specs.OpenCall.{open_call, opened_answer}
use Rattle.ways.specs.ByteWays.{event_at, byte_view, returned, way_answer, HasRoom, HaveRoom, SameMatch}

-- "Take accepted events of one type under one table, with the same source and the same match values, and buffers that pass 01's question 1."
pub record Given (table : List ℕ) (w : Way (List ℕ) (List ℕ)) : Type 0 where
  pub types : Table
  pub type : EventType
  pub source : Text
  pub is_table : table_of table ≡ some types
  -- "An event is accepted under a table when each question that checking asks of the two is answered yes."
  pub is_accepted : (s : List ℕ) → Memᴰ s (events w) → new_event_asked types s ≡ accepted (record { type = type; event = event_at s })
  pub same_source : (s : List ℕ) → Memᴰ s (events w) → (event_at s).head.source ≡ source
  pub same_match : (s r : List ℕ) → Memᴰ s (events w) → Memᴰ r (events w) → SameMatch type (event_at s) (event_at r)
  pub have_room : HaveRoom w

module _ (table : List ℕ) (w : Way (List ℕ) (List ℕ)) (g : Given table w) where
  -- "01's rule over the set of its distinct events"
  abbrev pub way_rule : Dossier
  way_rule = rule (byte_view g.type) (event_set texts w)

  -- a dossier under the head that the way's events share, and its bytes
  abbrev pub way_headed : Dossier → Headed
  way_headed d = headed g.type.name g.source d

  abbrev pub way_bytes : Dossier → List ℕ
  way_bytes d = dossier_bytes (way_headed d)

  abbrev pub way_dossier : Headed
  way_dossier = way_headed way_rule

  pub record Demand3 (limits : Limits) : Type 0 where
    -- "the way gives exactly the bytes of 01's rule over the set of its distinct events, or is refused with 8"
    pub result : way_answer limits table w ≡ limited limits (type_view g.type) way_bytes way_rule
    -- "It is refused exactly when that set passes a limit."
    pub refused_exactly : (way_answer limits table w ≡ said 8) ↔ (fits limits (type_view g.type) way_rule ≡ false)
    pub refused_only : (n : ℕ) → way_answer limits table w ≡ said n → n ≡ 8
    -- "So ways over the same set all give the same bytes or all give 8."
    pub however : (x : Way (List ℕ) (List ℕ)) → HaveRoom x → Same (events w) (events x) → way_answer limits table w ≡ way_answer limits table x
    -- "Opened, the dossier answers what 01's opening says of the rule's bytes."
    pub opened : (d out : List ℕ) → way_answer limits table w ≡ wrote d → HasRoom out →
        open_call limits table d out ≡ outcome (opened_answer way_dossier (opening (type_view g.type) way_rule)) out
    -- "It is a conflict exactly when two of the events share an event version and differ in a property, and names the lowest such version and the first such
    -- property there."
    pub conflicts : (d out : List ℕ) → way_answer limits table w ≡ wrote d → HasRoom out → (v p : ℕ) →
        ((open_call limits table d out).reply ≡ Reply.found (conflict_at v p)) ↔ FirstClash (byte_view g.type) (events w) v p
    pub agrees : (d out : List ℕ) → way_answer limits table w ≡ wrote d → HasRoom out →
        ((v p : ℕ) → (open_call limits table d out).reply ≡ Reply.found (conflict_at v p) → ⊥) ↔ NoClash (byte_view g.type) (events w)
    -- "Where it opens as a merged event, the hash text call gives the same bytes for that event and for each of the way's events: the hash text that 01
    -- defines for each of them."
    pub hashed : (d out : List ℕ) (n : ℕ) → way_answer limits table w ≡ wrote d → HasRoom out →
        (open_call limits table d out).reply ≡ Reply.done n →
        (text : List ℕ) → hash_text_capacity ≤ length text → (s : List ℕ) → Memᴰ s (events w) →
        (hash_text_call table s text ≡ outcome (gives (event_text g.type (event_at s))) text)
        × (hash_text_call table (take n (open_call limits table d out).bytes) text ≡ hash_text_call table s text)

-- Demand 2's last line: "A dossier of one event opens as that event, byte for byte."
pub record OpensAsItself (limits : Limits) (table event : List ℕ) : Type 0 where
  pub opens : (d out old : List ℕ) → HasRoom out → HasRoom old → returned (check_call table event out) ≡ wrote d →
      open_call limits table d old ≡ outcome (gives event) old
