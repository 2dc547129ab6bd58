-- Events as bytes, and ways over the calls' own equations, with document 00's words.
use Rattle.std.specs.Prelude.{ℕ, ◌≤◌, ◌≡◌, true, length, take}
use Rattle.std.proofs.Math.Option.{Option, none, some}
use mathlib.Core.List.{List, [], Memᴰ}
use Rattle.std.proofs.Math.ListN.{get_elem?}
use Rattle.model.specs.Rule.{View, through}
use Rattle.model.specs.Limits.{Limits}
use Rattle.model.specs.Ways as ways
use Rattle.model.specs.Ways.{Way, wrote, said, buffers, calls}
use Rattle.replies.specs.Capacities.{dossier_capacity}
use Rattle.replies.specs.Answers.{Reply, Outcome}
use Rattle.ontology.specs.Table.{Property, EventType, is_match}
use Rattle.event.specs.Event.{Event, set_at, view}
use Rattle.event.specs.EventLayout.{narrow, event_of}
use Rattle.combining.specs.CheckCall.{check_call}
use Rattle.combining.specs.CombineCall.{combine_call}

-- the event that some bytes are; where they are none, an event of no type
unfoldable pub event_or : Option Event → Event
event_or none = record { head = record { type = []; source = []; parents = [] }; sets = [] }
event_or (some e) = e

abbrev pub event_at : List ℕ → Event
event_at s = event_or (event_of narrow s)

-- what the rule reads of an event's bytes: "Events with equal bytes are one"
abbrev pub byte_view : EventType → View (List ℕ)
byte_view t = through event_at (view t)

-- "the dossier of the last call: the first bytes of its output, as many as it returned". Checking and combining give no other reply than these two.
abbrev pub dossier_returned : Reply → List ℕ → ways.Reply (List ℕ)
dossier_returned (Reply.done n) bytes = wrote (take n bytes)
dossier_returned (Reply.refused n) bytes = said n
dossier_returned (Reply.refused_at n i) bytes = said n
dossier_returned (Reply.found f) bytes = said 0

abbrev pub returned : Outcome → ways.Reply (List ℕ)
returned o = dossier_returned o.reply o.bytes

-- "A leaf checks one accepted event. Any other call combines the dossiers that its two sides returned": each call by its own equation, on its own buffer;
-- document 02, Q-13: "any permitted choice that a whole way keeps"
unfoldable pub way_answer : Limits → List ℕ → Way (List ℕ) (List ℕ) → ways.Reply (List ℕ)
way_answer limits table = calls (λ out s. returned (check_call table s out)) (λ out a b. returned (combine_call limits table a b out))

-- "buffers that pass 01's question 1"
abbrev pub HasRoom : List ℕ → Type 0
HasRoom out = dossier_capacity ≤ length out

abbrev pub HaveRoom : Way (List ℕ) (List ℕ) → Type 0
HaveRoom w = (out : List ℕ) → Memᴰ out (buffers w) → HasRoom out

-- "They have the same match values when their sets are equal in every match property."
abbrev pub SameMatch : EventType → Event → Event → Type 0
SameMatch t e f = (p : ℕ) (q : Property) → get_elem? t.properties p ≡ some q → is_match q ≡ true → set_at e p ≡ set_at f p
