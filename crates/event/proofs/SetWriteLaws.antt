-- The laws of writing sets from where they stand: a set, the sets of a presence number, and runs of sets that stand one after the other.
use mathlib.Core.Path.{◌≡◌, ap, ap₂, refl, sym, ◌∙◌, subst, subst₂}
use mathlib.Core.Logic.{◌⊎◌, ⊎_elim}
use mathlib.Core.List.{List, ◌++◌, map, flatten, [], ◌∷◌, append_assoc}
use Prim.Native.Nat.{ℕ, ◌+◌, ◌-◌, ◌/◌, ◌%◌, ◌≤◌, ◌<◌}
use native.Mathlib.Numerals.{add-one}
use native.Mathlib.Omega.{arith}
use lib.ListN.{length, length-append, drop, get_or, drop_of_length-le}
use lib.Seq.{drop-cons}
use borrow.Author.Tests.{eq-eqb, ne_eqb}
use Rattle.model.specs.Order.{Text}
use Rattle.packed.specs.Packed.{number, text, part}
use Rattle.packed.specs.code.Written.{Wrote, ToGo}
use Rattle.packed.proofs.ReadLaws.{part_join}
use Rattle.packed.proofs.WriteLaws.{to-go, to-go-as, gone, gone-to, all-gone, wrote_as, wrote_then}
use Rattle.event.specs.EventLayout.{presence_bit, bit_number, set_bytes, sets_bytes}
use Rattle.event.specs.code.EventIndex.{count_size, SetIs, set_in, SetsAre}
use Rattle.event.specs.code.SetWriting.{place_bytes, present_bytes, PresentRoom, run_bytes, RunIs, RunRoom}
use Rattle.event.specs.declared.sets.SetAt.{SetAt}
use Rattle.event.specs.declared.write.Run.{Run}
use Rattle.event.proofs.SetLaws.{set-read}
use Rattle.event.proofs.EventLayoutLaws.{low_bit, high_bits, presence-small}

-- ---- a set that is made: its count, then its values

pub set-some : (n : ℕ) (vs : List Text) → n ≡ length vs → (n ≡ 0 → ⊥) → set_bytes vs ≡ number (length vs) ++ flatten (map text vs)
unfolding set_bytes
set-some n [] e z = absurd (z e)
set-some n (v ∷ vs) e z = refl

pub set_room :
    (n : ℕ) (vs : List Text) (at size : ℕ) → n ≡ length vs → at + length (number (length vs) ++ flatten (map text vs)) ≤ size →
    at + length (number n) + length (flatten (map text vs)) ≤ size
set_room n vs at size e h = omega (arith, length-append (number (length vs)) (flatten (map text vs)), ap (λ (k : ℕ). length (number k)) e)

pub wrote-set :
    {l l₁ l₂ : List ℕ} {at b next : ℕ} (n : ℕ) (vs : List Text) → n ≡ length vs →
    Wrote l at (number n) l₁ b → Wrote l₁ b (flatten (map text vs)) l₂ next → Wrote l at (number (length vs) ++ flatten (map text vs)) l₂ next
wrote-set n vs e x y = wrote_then (wrote_as (ap number e) x) y

-- ---- the sets of a presence number

-- none is left where no place is, or no bit
present-past : (bits : ℕ) (xs : List (List Text)) (k : ℕ) → length xs ≤ k → present_bytes bits (drop k xs) ≡ []
unfolding present_bytes
present-past bits xs k h = ap (present_bytes bits) (drop_of_length-le xs h)

present-clear : (xs : List (List Text)) → present_bytes 0 xs ≡ []
unfolding present_bytes place_bytes
present-clear [] = refl
present-clear (x ∷ xs) = present-clear xs

-- the sets ys, by their own presence number: at each place that they have, xs has the same set
pub present-nil : (xs : List (List Text)) → present_bytes (bit_number (map presence_bit [])) xs ≡ sets_bytes []
unfolding bit_number sets_bytes flatten
present-nil xs = present-clear xs

pub present-cons :
    (x y : List Text) (xs ys : List (List Text)) → place_bytes (presence_bit y) x ≡ set_bytes y →
    present_bytes (bit_number (map presence_bit ys)) xs ≡ sets_bytes ys →
    present_bytes (bit_number (map presence_bit (y ∷ ys))) (x ∷ xs) ≡ sets_bytes (y ∷ ys)
unfolding present_bytes bit_number sets_bytes flatten
present-cons x y xs ys p q =
    let bits = bit_number (map presence_bit ys) in
    let small = presence-small y in
    rw (low_bit (presence_bit y) bits small, high_bits (presence_bit y) bits small) (ap₂ (λ (a b : List ℕ). a ++ b) p q)

-- all sets
place-own : (x : List Text) → place_bytes (presence_bit x) x ≡ set_bytes x
unfolding place_bytes presence_bit set_bytes
place-own [] = refl
place-own (v ∷ vs) = refl

pub present-own : (xs : List (List Text)) → present_bytes (bit_number (map presence_bit xs)) xs ≡ sets_bytes xs
present-own [] = present-nil []
present-own (x ∷ xs) = present-cons x x xs xs (place-own x) (present-own xs)

-- ---- runs

module _ {s : List ℕ} {r : Run} {x : SetAt} {size : ℕ} (p : RunRoom s r x size) {start : ℕ} (e : start ≡ x.start - count_size x.count) where
  -- a set that begins where a run ends is its next one
  pub run-longer :
      {l : List ℕ} → start ≡ r.end →
      RunIs s (record { start = r.start; end = x.end; to = r.to })
      × ((vs : List Text) → SetIs s vs x → ToGo l r.to (run_bytes s r ++ set_bytes vs) l r.to (part s r.start x.end))
  run-longer h =
      let begin : x.start - count_size x.count ≡ r.end = omega (arith, e, h) in
      let order : r.end ≤ x.end = omega (arith, begin, p.is.order) in (
        record { order = omega (arith, p.run.order); within = p.is.within },
        λ vs is. to-go-as (ap (λ (l : List ℕ). run_bytes s r ++ l) (sym is.whole ∙ ap (λ (a : ℕ). part s a x.end) begin)
            ∙ part_join s r.start r.end x.end p.run.order order),
      )

  -- and one that stands elsewhere begins a new run, where the old one is copied
  pub run-new :
      {l l₁ : List ℕ} {to : ℕ} → Wrote l r.to (run_bytes s r) l₁ to →
      RunIs s (record { start = start; end = x.end; to = to })
      × ((vs : List Text) → SetIs s vs x → ToGo l r.to (run_bytes s r ++ set_bytes vs) l₁ to (part s start x.end))
  run-new {l} {l₁} {to} o = (
    record { order = omega (arith, e, p.is.order); within = p.is.within },
    λ vs is.
        let set : part s start x.end ≡ set_bytes vs = ap (λ (a : ℕ). part s a x.end) e ∙ is.whole in
        subst (ToGo l r.to (run_bytes s r ++ set_bytes vs) l₁ to) (sym set) (gone (run_bytes s r) (set_bytes vs) to-go refl o),
  )

-- the first k places are written but for the run, which is still to be copied, and `bits` has the bits of the others
record RunTo (s l₀ : List ℕ) (at presence : ℕ) (xs : List (List Text)) (l : List ℕ) (r : Run) (bits k : ℕ) : Type 0 where
  run : RunIs s r
  to_write : ToGo l₀ at (present_bytes presence xs) l r.to (run_bytes s r ++ present_bytes bits (drop k xs))

-- so of the sets that the numbers ats say
pub record RunsTo (s ats l₀ : List ℕ) (at presence : ℕ) (l : List ℕ) (r : Run) (bits k : ℕ) : Type 0 where
  each : (xs : List (List Text)) → SetsAre s xs ats → RunTo s l₀ at presence xs l r bits k

pub runs_none : {s ats l : List ℕ} {at presence : ℕ} → RunsTo s ats l at presence l (record { start = 0; end = 0; to = at }) presence 0
runs_none = record { each = λ xs are. record { run = record { order = omega arith; within = omega arith }; to_write = to-go } }

module _ {s ats l₀ : List ℕ} {at presence : ℕ} {l : List ℕ} {r : Run} {bits k : ℕ} (w : RunsTo s ats l₀ at presence l r bits k) where
  pub runs_same : {l₁ : List ℕ} {r₁ : Run} → l₁ ≡ l → r₁ ≡ r → RunsTo s ats l₀ at presence l₁ r₁ bits k
  runs_same e f = subst₂ (λ (m : List ℕ) (q : Run). RunsTo s ats l₀ at presence m q bits k) (sym e) (sym f) w

  -- the run is the last one
  pub runs_last :
      (32 ≤ k) ⊎ (bits ≤ 0) → {l₁ : List ℕ} {end : ℕ} → Wrote l r.to (run_bytes s r) l₁ end →
      (xs : List (List Text)) → SetsAre s xs ats → Wrote l₀ at (present_bytes presence xs) l₁ end
  runs_last h o xs are =
      let none : present_bytes bits (drop k xs) ≡ [] =
      ⊎_elim (λ a. present-past bits xs k (omega (arith, are.long))) (λ b. let z : bits ≡ 0 = omega arith in rw z (present-clear (drop k xs))) h in
      all-gone (gone (run_bytes s r) (present_bytes bits (drop k xs)) (w.each xs are).to_write refl o) none

  -- it has its room where all sets have
  module _ (p : PresentRoom s ats presence at (length l₀)) where
    here : RunTo s l₀ at presence p.values l r bits k
    here = w.each p.values p.are

    runs-long : length l ≡ length l₀
    runs-long = here.to_write.long

    room : r.to + length (run_bytes s r) ≤ length l
    room = omega (arith, p.room, here.to_write.after, runs-long, length-append (run_bytes s r) (present_bytes bits (drop k p.values)))

    pub runs_copy : (r.start ≤ r.end) × (r.end ≤ length s) × (r.to + length (run_bytes s r) ≤ length l)
    runs_copy = (here.run.order, here.run.within, room)

    pub runs-room : k < 32 → {x : SetAt} → x ≡ set_in ats k → RunRoom s r x (length l)
    runs-room h e = record { run = here.run; values = get_or p.values k []; is = set-read e (p.are.each k h); room = room }

  module _ (h : k < 32) where
    step :
        (xs : List (List Text)) → SetsAre s xs ats →
        present_bytes bits (drop k xs) ≡ place_bytes (bits % 2) (get_or xs k []) ++ present_bytes (bits / 2) (drop (k + 1) xs)
    unfolding present_bytes
    step xs are = let i : k < length xs = omega (arith, are.long) in rw add-one (ap (present_bytes bits) (drop-cons xs k [] i))

    -- a place without objects, and one with a set
    pub runs-over : (bits % 2 ≡ 1 → ⊥) → RunsTo s ats l₀ at presence l r (bits / 2) (k + 1)
    unfolding place_bytes
    runs-over e = record {
      each = λ xs are.
          let none : present_bytes bits (drop k xs) ≡ present_bytes (bits / 2) (drop (k + 1) xs) = step xs are ∙ rw (ne_eqb (bits % 2) 1 e) in
          let o = w.each xs are in
          record {
            run = o.run;
            to_write = subst (λ (z : List ℕ). ToGo l₀ at (present_bytes presence xs) l r.to (run_bytes s r ++ z)) none o.to_write;
          };
    }

    pub runs-more :
        {x : SetAt} {l₁ : List ℕ} {r₁ : Run} → bits % 2 ≡ 1 → x ≡ set_in ats k →
        RunIs s r₁ × ((vs : List Text) → SetIs s vs x → ToGo l r.to (run_bytes s r ++ set_bytes vs) l₁ r₁.to (run_bytes s r₁)) →
        RunsTo s ats l₀ at presence l₁ r₁ (bits / 2) (k + 1)
    unfolding place_bytes
    runs-more b e with-set = record {
      each = λ xs are.
          let set = set_bytes (get_or xs k []) in
          let next = present_bytes (bits / 2) (drop (k + 1) xs) in
          let some : present_bytes bits (drop k xs) ≡ set ++ next = step xs are ∙ rw (eq-eqb (bits % 2) 1 b) in
          let split : run_bytes s r ++ present_bytes bits (drop k xs) ≡ (run_bytes s r ++ set) ++ next =
          ap (λ (z : List ℕ). run_bytes s r ++ z) some ∙ sym (append_assoc (run_bytes s r) set next) in
          let g = with-set.1 _ (set-read e (are.each k h)) in
          record { run = with-set.0; to_write = gone-to (run_bytes s r ++ set) next (w.each xs are).to_write split g };
    }
