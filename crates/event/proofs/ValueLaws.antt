-- The value call's part: that it stands in the caller's event, and how far it reaches.
use mathlib.Core.Path.{◌≡◌, refl, sym, ap, ◌∙◌, subst}
use mathlib.Core.Option.{Option, none, some}
use mathlib.Core.List.{List, [], ◌∷◌, ◌++◌, append_assoc, map, flatten}
use Prim.Native.Nat.{ℕ, zero, suc, ◌+◌, ◌-◌, ◌≤◌, ◌<◌}
use native.Mathlib.Omega.{arith}
use lib.ListN.{length, take, drop, get_or, get_elem?, length-append}
use lib.Seq.{drop-cons, take-append_seam, drop-append_seam}
use Rattle.model.specs.Order.{Text}
use Rattle.model.proofs.Cases.{never}
use Rattle.packed.specs.Packed.{text, part}
use Rattle.replies.specs.Questions.{Asked, refused, accepted, ◌>>=◌, ask}
use Rattle.replies.specs.Capacities.{dossier_capacity}
use Rattle.ontology.specs.Table.{Table}
use Rattle.ontology.specs.TableLayout.{table_of}
use Rattle.ontology.proofs.TableLaws.{table-type}
use Rattle.ontology.proofs.TypeIndexLaws.{type-rules}
use Rattle.event.specs.Event.{Event, set_at}
use Rattle.event.specs.EventLayout.{wide, set_bytes, sets_bytes, event_bytes}
use Rattle.event.specs.EventQuestions.{Typed, event_asked}
use Rattle.event.specs.Value.{Part, StandsIn, bytes_before, part_of, asked_part, value_call}
use Rattle.event.proofs.EventLayoutLaws.{event-was}
use Rattle.event.proofs.EventSizeLaws.{event-size, event-short}
use Rattle.event.proofs.EventQuestionLaws.{event-accepted}
use Rattle.event.proofs.LookupLaws.{flat-split, set-bytes}
use Rattle.event.proofs.AskLaws.{nothing}

-- ---- a value in its event

-- an element that is there
record There {A : Type 0} (xs : List A) (i : ℕ) (d a : A) : Type 0 where
  within : i < length xs
  is : get_or xs i d ≡ a

there : {A : Type 0} (xs : List A) (i : ℕ) (d a : A) → get_elem? xs i ≡ some a → There xs i d a
there [] i d a h = never (cc)
there (x ∷ xs) zero d a h = record { within = omega arith; is = cc }
there (x ∷ xs) (suc i) d a h = let t = there xs i d a h in record { within = omega (arith, t.within); is = t.is }

-- a place whose set has a value
place-there : (xs : List (List Text)) (place index : ℕ) (v : Text) → get_elem? (get_or xs place []) index ≡ some v → place < length xs
place-there [] place index v h = never (cc)
place-there (x ∷ xs) zero index v h = omega arith
place-there (x ∷ xs) (suc place) index v h = omega (arith, place-there xs place index v h)

-- what is written one after the other, around an element
flat-around :
    {A : Type 0} (w : A → List ℕ) (xs : List A) (k : ℕ) (d : A) → k < length xs →
    flatten (map w xs) ≡ flatten (map w (take k xs)) ++ (w (get_or xs k d) ++ flatten (map w (drop (suc k) xs)))
unfolding flatten
flat-around w xs k d h = flat-split w k xs ∙ ap (λ (l : List _). flatten (map w (take k xs)) ++ flatten (map w l)) (drop-cons xs k d h)

-- the bytes before a value, the value, and the bytes after it are the event's
value-between :
    (e : Event) (place index : ℕ) (v : Text) → get_elem? (set_at e place) index ≡ some v →
    (r : List ℕ) × (event_bytes e ≡ bytes_before e place index ++ (v ++ r))
unfolding bytes_before event_bytes sets_bytes text
value-between e place index v h =
    let t = there (set_at e place) index [] v h in
    let s = flat-around set_bytes e.sets place [] (place-there e.sets place index v h) in
    let b = set-bytes (set_at e place) (omega (arith, t.within)) in
    let c = flat-around text (set_at e place) index [] t.within in (
      flatten (map text (drop (suc index) (set_at e place))) ++ flatten (map set_bytes (drop (suc place) e.sets)),
      rw (s, b, c, t.is) (simp append_assoc),
    )

part-between : (x v r : List ℕ) → part (x ++ (v ++ r)) (length x) (length x + length v) ≡ v
part-between x v r =
    let n : length x + length v - length x ≡ length v = omega arith in
    rw (n, drop-append_seam x (v ++ r)) (take-append_seam v r)

-- a value's part stands in its event
value_there :
    (e : Event) (place index : ℕ) (v : Text) → get_elem? (set_at e place) index ≡ some v → StandsIn (event_bytes e) (part_of e place index (some v))
unfolding part_of
value_there e place index v h =
    let (r, q) = value-between e place index v h in
    let x = bytes_before e place index in
    record {
      within = omega (arith, ap length q, length-append x (v ++ r), length-append v r);
      bytes = rw q (part-between x v r);
    }

-- ---- the call's part

-- what is so of no part, and of the part of a value of an accepted event, is so of the part that the call gives
value-each :
    (P : Part → Type 0) (table event : List ℕ) (place index : ℕ) → P nothing →
    ((ts : Table) (a : Typed) (v : Text) → table_of table ≡ some ts → event_asked wide ts event ≡ accepted a →
    get_elem? (set_at a.event place) index ≡ some v → P (part_of a.event place index (some v))) →
    P (value_call table event place index)
unfolding value_call asked_part part_of
value-each P table event place index z h = tabled (table_of table) refl
  where
    valued :
        (ts : Table) (a : Typed) (m : Option Text) → table_of table ≡ some ts → event_asked wide ts event ≡ accepted a →
        get_elem? (set_at a.event place) index ≡ m → P (part_of a.event place index m)
    valued ts a none t q e = z
    valued ts a (some v) t q e = h ts a v t q e

    asked : (ts : Table) (q : Asked Typed) → table_of table ≡ some ts → event_asked wide ts event ≡ q → P (asked_part place index q)
    asked ts (refused n) t e = z
    asked ts (accepted a) t e = valued ts a (get_elem? (set_at a.event place) index) t e refl

    tabled : (m : Option Table) → table_of table ≡ m → P (asked_part place index (ask 2 m >>= λ ts. event_asked wide ts event))
    tabled none t = z
    tabled (some ts) t = asked ts (event_asked wide ts event) t refl

-- The value call's part stands in the caller's event, whatever the table, event, place and index.
pub value-stands-in : (table event : List ℕ) (place index : ℕ) → StandsIn event (value_call table event place index)
value-stands-in table event place index =
    value-each (StandsIn event) table event place index (record { within = omega arith; bytes = refl })
    (λ ts a v t q h.
    let w = event-was wide event a.event (event-accepted wide ts event a.type a.event q).read in
    subst (λ (s : List ℕ). StandsIn s (part_of a.event place index (some v))) (sym w.0) (value_there a.event place index v h))

-- an accepted event has at most 32,768 bytes
accepted-size :
    (table event : List ℕ) (ts : Table) (a : Typed) → table_of table ≡ some ts → event_asked wide ts event ≡ accepted a →
    length (event_bytes a.event) ≤ dossier_capacity
accepted-size table event ts a t h =
    let w = event-accepted wide ts event a.type a.event h in
    let n : length a.event.head.type ≤ 64 =
    subst (λ (v : Text). length v ≤ 64) (type-rules table a.event.head.type ts a.type t w.typed).0
    (table-type table ts t a.event.head.type a.type w.typed).short in
    event-size a.event (event-was wide event a.event w.read).1 (event-short a.type a.event w.shape w.values) n

-- It ends within the first 32,768 bytes of the event.
pub value-ends :
    (table event : List ℕ) (place index : ℕ) →
    (value_call table event place index).start + length (value_call table event place index).bytes ≤ dossier_capacity
value-ends table event place index =
    value-each (λ x. x.start + length x.bytes ≤ dossier_capacity) table event place index (omega arith)
    (λ ts a v t q h. omega (arith, accepted-size table event ts a t q, (value_there a.event place index v h).within))
