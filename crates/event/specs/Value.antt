-- Document 01: "A reader who asks for the value at a place and an index from 0 gets the value's own bytes in the caller's event, not a copy; a refused table
-- or event, or no value there, gives a part of 0 bytes".
use Rattle.std.specs.Prelude.{ℕ, ◌+◌, ◌≤◌, ◌≡◌, length, take, get_or}
use Rattle.std.proofs.Math.Option.{Option, none, some}
use mathlib.Core.List.{List, [], ◌++◌, map, flatten}
use Rattle.std.proofs.Math.ListN.{get_elem?}
use Rattle.model.specs.Order.{Text}
use Rattle.packed.specs.Packed.{number, text, part}
use Rattle.replies.specs.Questions.{Asked, refused, accepted, ◌>>=◌, ask}
use Rattle.ontology.specs.TableLayout.{table_of}
use Rattle.event.specs.Event.{Event, set_at}
use Rattle.event.specs.EventLayout.{wide, presence_bit, bit_number, sets_bytes}
use Rattle.event.specs.Head.{head_bytes}
use Rattle.event.specs.EventQuestions.{Typed, event_asked}

-- The bytes of a part of the caller's event, and how many bytes of the event stand before it
pub record Part : Type 0 where
  pub bytes : List ℕ
  pub start : ℕ

-- "the value's own bytes in the caller's event": they stand in it from the start on
pub record StandsIn (event : List ℕ) (x : Part) : Type 0 where
  pub within : x.start + length x.bytes ≤ length event
  pub bytes : part event x.start (x.start + length x.bytes) ≡ x.bytes

-- what stands in an event before the value at a place and an index
unfoldable pub bytes_before : Event → ℕ → ℕ → List ℕ
bytes_before e place index =
    head_bytes e.head ++ number (bit_number (map presence_bit e.sets)) ++ sets_bytes (take place e.sets)
    ++ number (length (set_at e place)) ++ flatten (map text (take index (set_at e place))) ++ number (length (get_or (set_at e place) index []))

unfoldable pub part_of : Event → ℕ → ℕ → Option Text → Part
part_of e place index none = record { bytes = []; start = 0 }
part_of e place index (some v) = record { bytes = v; start = length (bytes_before e place index) }

unfoldable pub asked_part : ℕ → ℕ → Asked Typed → Part
asked_part place index (refused n) = record { bytes = []; start = 0 }
asked_part place index (accepted a) = part_of a.event place index (get_elem? (set_at a.event place) index)

-- the value call
unfoldable pub value_call : List ℕ → List ℕ → ℕ → ℕ → Part
value_call table event place index = asked_part place index (ask 2 (table_of table) >>= λ ts. event_asked wide ts event)

-- A lent slice: its bytes, and the block and the offset in memory at which they start
abbrev pub Lent : Type 0
Lent = List ℕ × (ℕ × ℕ)

-- "in the caller's event, not a copy": a part, lent from the event that starts at this block and offset
abbrev pub lent_from : ℕ × ℕ → Part → Lent
lent_from at x = (x.bytes, (at.0, at.1 + x.start))
