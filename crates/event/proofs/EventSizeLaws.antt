-- How long an event's bytes are, and that they have room in an output of 32,768 bytes.
use mathlib.Core.Path.{◌≡◌}
use mathlib.Core.Bool.{Bool, true, ◌&&◌}
use mathlib.Core.List.{List, [], ◌∷◌, map, flatten}
use Prim.Native.Nat.{ℕ, ◌+◌, ◌*◌, ◌≤◌, ◌<◌}
use native.Mathlib.Omega.{arith}
use lib.Dec.{leb}
use lib.ListN.{length, drop, length-append}
use borrow.Author.Tests.{leb-true, eqb-true}
use Rattle.model.specs.Order.{Text}
use Rattle.model.proofs.Cases.{and_parts}
use Rattle.packed.specs.Packed.{text}
pub use Rattle.packed.proofs.LayoutLaws.{All}
use Rattle.packed.proofs.LayoutLaws.{number-length-1, number-length-2, number-length-5, text-length}
use Rattle.values.specs.Spaces.{Kind, is_of_kind, in_space}
use Rattle.replies.specs.Capacities.{dossier_capacity}
use Rattle.ontology.specs.Table.{Property, EventType}
use Rattle.event.specs.Event.{Event, object_count}
use Rattle.event.specs.EventLayout.{wide, set_bytes, sets_bytes, presence_bit, bit_number, event_bytes}
use Rattle.event.specs.Head.{parents_bytes, head_bytes, Head}
use Rattle.event.specs.EventQuestions.{each_place, is_empty, set_fits, match_count, event_shape, are_in_space, values_fit}
use Rattle.event.proofs.HeadLayoutLaws.{HeadWritten, source-length, hashes-size}
use Rattle.event.proofs.EventLayoutLaws.{EventWritten, presence-below}

-- "its length of 1 to 120 bytes included": each value of each set
abbrev pub ValuesShort : List (List Text) → Type 0
ValuesShort sets = All (λ (s : List Text). All (λ (v : Text). length v ≤ 120) s) sets

-- a text whose length has one byte
pub short-text : (v : Text) → length v < 128 → length (text v) ≡ 1 + length v
short-text v h = omega (arith, text-length v, number-length-1 (length v) h)

-- the head of an event or a dossier with at most 32 parents: 65 + 121 + 641
pub head-size : (h : Head) → HeadWritten 32 h → length h.type ≤ 64 → length (head_bytes h) ≤ 827
unfolding head_bytes parents_bytes
head-size h w t =
    let s = source-length h.source w.source in
    let p = w.parents in
    simp length-append
    (omega (
      arith,
      short-text h.type (omega arith),
      short-text h.source (omega arith),
      number-length-1 (length h.parents) (omega arith),
      hashes-size h.parents p.each,
    ))

values-size : (s : List Text) → All (λ (v : Text). length v ≤ 120) s → length (flatten (map text s)) ≤ 121 * length s
unfolding flatten
values-size [] h = omega arith
values-size (v ∷ vs) h =
    let n = h.0 in
    simp length-append (omega (arith, short-text v (omega arith), values-size vs h.1))

-- a count of at most two bytes, and 121 bytes for a value
set-size : (s : List Text) → All (λ (v : Text). length v ≤ 120) s → length s ≤ 256 → length (set_bytes s) ≤ 2 + 121 * length s
unfolding set_bytes
set-size [] h n = omega arith
set-size (v ∷ vs) h n = simp length-append (omega (arith, number-length-2 (length (v ∷ vs)) (omega arith), values-size (v ∷ vs) h))

pub sets-size :
    (xs : List (List Text)) → ValuesShort xs → All (λ (s : List Text). length s ≤ 256) xs →
    length (sets_bytes xs) ≤ 2 * length xs + 121 * object_count xs
unfolding sets_bytes flatten object_count
sets-size [] v h = omega arith
sets-size (x ∷ xs) v h = simp length-append (omega (arith, set-size x v.0 h.0, sets-size xs v.1 h.1))

-- a set has no more objects than all sets
pub each_within : (n : ℕ) (xs : List (List Text)) → object_count xs ≤ n → All (λ (s : List Text). length s ≤ n) xs
unfolding object_count
each_within n [] h = tt
each_within n (x ∷ xs) h = (omega arith, each_within n xs (omega arith))

-- 827 + 5 + 32 * 2 + 256 * 121 = 31,872
pub event-size : (e : Event) → EventWritten wide e → ValuesShort e.sets → length e.head.type ≤ 64 → length (event_bytes e) ≤ dossier_capacity
unfolding wide event_bytes
event-size e w v t =
    let n : length e.sets ≡ 32 = w.sets.long in
    let o : object_count e.sets ≤ 256 = w.objects in
    simp length-append
    (omega (
      arith,
      head-size e.head w.head t,
      number-length-5 (bit_number (map presence_bit e.sets)) (presence-below e.sets n),
      sets-size e.sets v (each_within 256 e.sets o),
    ))

-- ---- what the questions of document 01 say of these sizes

-- the sets at places without a property are empty
abbrev pub Beyond : List Property → List (List Text) → Type 0
Beyond ps xs = All (λ (s : List Text). length s ≡ 0) (drop (length ps) xs)

pub place-beyond : (f : Property → List Text → Bool) (ps : List Property) (xs : List (List Text)) → each_place f is_empty ps xs ≡ true → Beyond ps xs
unfolding each_place
place-beyond f [] [] h = tt
place-beyond f [] (x ∷ xs) h = let a = and_parts (is_empty x) (each_place f is_empty [] xs) h in (eqb-true (length x) 0 a.0, place-beyond f [] xs a.1)
place-beyond f (p ∷ ps) [] h = tt
place-beyond f (p ∷ ps) (x ∷ xs) h = place-beyond f ps xs (and_parts (f p x) (each_place f is_empty ps xs) h).1

empty-short : (xs : List (List Text)) → All (λ (s : List Text). length s ≡ 0) xs → ValuesShort xs
empty-short [] h = tt
empty-short ([] ∷ xs) h = (tt, empty-short xs h.1)
empty-short ((v ∷ vs) ∷ xs) h = absurd (omega (arith, h.0))

space-short : (k : Kind) (s : List Text) → are_in_space k s ≡ true → All (λ (v : Text). length v ≤ 120) s
unfolding are_in_space in_space
space-short k [] h = tt
space-short k (v ∷ vs) h =
    let a = and_parts (in_space k v) (are_in_space k vs) h in
    let b = and_parts (leb 1 (length v) && leb (length v) 120) (is_of_kind k v) a.0 in
    (leb-true (length v) 120 (and_parts (leb 1 (length v)) (leb (length v) 120) b.0).1, space-short k vs a.1)

pub fit-short : (t : EventType) (xs : List (List Text)) → Beyond t.properties xs → values_fit t xs ≡ true → ValuesShort xs
unfolding values_fit each_place
fit-short t xs b h = go t.properties xs b h
  where
    go :
        (ps : List Property) (xs : List (List Text)) → Beyond ps xs → each_place (λ p s. are_in_space p.kind s) (λ s. true) ps xs ≡ true →
        ValuesShort xs
    go [] xs b h = empty-short xs b
    go (p ∷ ps) [] b h = tt
    go (p ∷ ps) (x ∷ xs) b h = let a = and_parts (are_in_space p.kind x) _ h in (space-short p.kind x a.0, go ps xs b a.1)

-- an event of which questions 5 and 6 are answered yes
pub event-short : (t : EventType) (e : Event) → event_shape t e ≡ true → values_fit t e.sets ≡ true → ValuesShort e.sets
unfolding event_shape
event-short t e h v =
    fit-short t e.sets (place-beyond set_fits t.properties e.sets (and_parts (each_place set_fits is_empty t.properties e.sets) _ h).0) v

pub event-match : (t : EventType) (e : Event) → event_shape t e ≡ true → match_count t.properties e.sets ≤ 32
unfolding event_shape
event-match t e h = leb-true (match_count t.properties e.sets) 32 (and_parts (each_place set_fits is_empty t.properties e.sets) _ h).1
