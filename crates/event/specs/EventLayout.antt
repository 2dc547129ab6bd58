-- Document 01, "Packed event": its bytes.
use Rattle.std.specs.Prelude.{ℕ, zero, suc, ◌+◌, ◌*◌, ◌/◌, ◌%◌, ◌^◌, cond, length, leb, ltb, eqb}
use Rattle.std.proofs.Math.Option.{Option}
use mathlib.Core.List.{List, [], ◌∷◌, ◌++◌, map, flatten}
use Rattle.model.specs.Order.{Text, texts, rising}
use Rattle.packed.specs.Parse.{got, Layout, and_then, ◌>>=◌, found, found_if, such_that, times, whole}
use Rattle.packed.specs.Packed.{number, read_number, text, read_text}
use Rattle.event.specs.Head.{read_head, head_bytes}
use Rattle.event.specs.Event.{Event, object_count}

-- "a count of at least 1 and that many values as texts, rising"
unfoldable pub read_set : Layout (List Text)
read_set = do
  count ← such_that (λ n. leb 1 n) read_number
  values ← times read_text count
  found_if (rising texts values) values

-- the set of a place whose bit of the presence number this is
unfoldable pub read_place : ℕ → Layout (List Text)
read_place bit = cond (eqb bit 1) read_set (found [])

-- "a presence number whose bit i (value 2^i) says that place i has objects .., then for each set bit in rising place" its set: so many places, lowest first
unfoldable pub read_sets : ℕ → ℕ → Layout (List (List Text))
read_sets zero presence s = got [] s
read_sets (suc places) presence s =
    and_then (read_place (presence % 2) s) (λ x r. and_then (read_sets places (presence / 2) r) (λ xs t. got (x ∷ xs) t))

-- a presence or a differ number is "below 2^32"
unfoldable pub read_bits : Layout ℕ
read_bits = such_that (λ n. ltb n (2 ^ 32)) read_number

-- The most parents and objects that a reader takes
pub record Counts : Type 0 where
  pub parents : ℕ
  pub objects : ℕ

-- an event: "parent count 0 to 8", "At most 32 objects in all"
unfoldable pub narrow : Counts
narrow = record { parents = 8; objects = 32 }

-- "packed event form with up to 32 parents and 256 objects. .. Value reader, hash text and hash take an event within these wider counts"
unfoldable pub wide : Counts
wide = record { parents = 32; objects = 256 }

-- "Type name (text), source URI (text, ..), parent count 0 to 8, that many 20-byte hashes rising, a presence number .., then for each set bit in rising place
-- a count of at least 1 and that many values as texts, rising. At most 32 objects in all."
unfoldable pub read_event : Counts → Layout Event
read_event counts = do
  head ← read_head counts.parents
  presence ← read_bits
  sets ← read_sets 32 presence
  found_if (leb (object_count sets) counts.objects) (record { head = head; sets = sets })

-- the event that some bytes are, to their exact end
unfoldable pub event_of : Counts → List ℕ → Option Event
event_of counts s = whole (read_event counts s)

-- The same layout, written

unfoldable pub set_bytes : List Text → List ℕ
set_bytes [] = []
set_bytes (v ∷ vs) = number (length (v ∷ vs)) ++ flatten (map text (v ∷ vs))

unfoldable pub sets_bytes : List (List Text) → List ℕ
sets_bytes ss = flatten (map set_bytes ss)

-- a place's bit
unfoldable pub presence_bit : List Text → ℕ
presence_bit [] = 0
presence_bit (v ∷ vs) = 1

-- the number of the bits, the lowest first
unfoldable pub bit_number : List ℕ → ℕ
bit_number [] = 0
bit_number (b ∷ bs) = b + 2 * bit_number bs

unfoldable pub event_bytes : Event → List ℕ
event_bytes e = head_bytes e.head ++ number (bit_number (map presence_bit e.sets)) ++ sets_bytes e.sets
