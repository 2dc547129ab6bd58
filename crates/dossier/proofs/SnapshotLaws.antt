-- The laws of reading a snapshot.
use mathlib.Core.Path.{◌≡◌, refl, sym, ap, ap₂, ◌∙◌, subst}
use mathlib.Core.Bool.{Bool, true, false, not, ◌&&◌}
use mathlib.Core.List.{List, [], map}
use Prim.Native.Nat.{ℕ, zero, suc, ◌+◌, ◌*◌, ◌/◌, ◌%◌, ◌^◌, ◌≤◌, ◌<◌, min}
use native.Mathlib.Nat.{pow-succ'}
use native.Mathlib.Omega.{arith}
use native.Mathlib.Numerals.{add-one}
use lib.Bits.{bit_and, and_step}
use lib.Dec.{leb, eqb}
use lib.ListN.{length, drop, get_or, drop_of_length-le}
use lib.Seq.{drop-cons}
use borrow.Author.Tests.{lt-ltb, le-ltb, le-leb, lt-leb, eq-eqb, ne_eqb, eqb-true, eqb-false}
use Rattle.model.specs.Order.{Text}
use Rattle.model.specs.Rule.{Snapshot}
use Rattle.model.proofs.Cases.{truth}
use Rattle.packed.specs.Parse.{Parse, fail, got, Layout, and_then, ◌>>=◌, found_if, such_that}
use Rattle.packed.specs.Packed.{read_number}
use Rattle.packed.specs.code.Located.{number_at}
use Rattle.packed.proofs.ReadLaws.{number-stops, number-none, stretch}
use Rattle.event.specs.Event.{object_count}
use Rattle.event.specs.EventLayout.{read_bits, read_sets, presence_bit, bit_number}
use Rattle.event.specs.code.EventIndex.{SetsAre, SetsStop, set_in}
use Rattle.event.specs.declared.sets.SetAt.{SetAt}
use Rattle.event.proofs.EventLayoutLaws.{SetsWas, sets-was}
use Rattle.event.proofs.EventSizeLaws.{each_within}
use Rattle.dossier.specs.DossierBody.{apart, cells_of, are_small, read_snapshot, snapshot_bytes}
use Rattle.dossier.specs.code.DossierIndex.{after_numbers, NumbersStop, NumbersRead, SnapshotAt, SnapshotStops, SnapshotReads}
use Rattle.dossier.proofs.DossierBodyLaws.{CellsWas, cells-was, all_small, snapshot-was}
use Rattle.dossier.proofs.DossierSizeLaws.{held-objects}
use Rattle.std.specs.Prelude.{Option, Some, None}
use Rattle.std.specs.Bool.{then_some}
use Rattle.dossier.specs.declared.snapshots.NumbersAt.{NumbersAt}
use Rattle.dossier.specs.declared.snapshots.SnapshotNumbers.{SnapshotNumbers}
use Rattle.event.specs.declared.sets.SetsRead.{SetsRead}

-- ---- no bit in common

-- two lowest bits that are not both set
clear-low : (m n : ℕ) → eqb (min (m % 2) (n % 2)) 0 ≡ not (eqb (m % 2) 1 && eqb (n % 2) 1)
clear-low m n = go (eqb (m % 2) 1) refl (eqb (n % 2) 1) refl
  where
    go : (x : Bool) → eqb (m % 2) 1 ≡ x → (y : Bool) → eqb (n % 2) 1 ≡ y → eqb (min (m % 2) (n % 2)) 0 ≡ not (x && y)
    go true e true f = ne_eqb (min (m % 2) (n % 2)) 0 (λ z. omega (arith, eqb-true (m % 2) 1 e, eqb-true (n % 2) 1 f))
    go true e false f = let ne : n % 2 ≡ 1 → ⊥ = eqb-false (n % 2) 1 f in eq-eqb (min (m % 2) (n % 2)) 0 (omega arith)
    go false e y f = let ne : m % 2 ≡ 1 → ⊥ = eqb-false (m % 2) 1 e in eq-eqb (min (m % 2) (n % 2)) 0 (omega arith)

double-clear : (m b : ℕ) → eqb (m * 2 + b) 0 ≡ (eqb b 0 && eqb m 0)
double-clear m b = go (eqb b 0) refl
  where
    go : (x : Bool) → eqb b 0 ≡ x → eqb (m * 2 + b) 0 ≡ (eqb b 0 && eqb m 0)
    go true e = let z : b ≡ 0 = eqb-true b 0 e in rw (e, z) (truth (eqb m 0) (λ q. eq-eqb (m * 2 + 0) 0 (omega (arith, eqb-true m 0 q)) ∙ sym q)
        (λ q. ne_eqb (m * 2 + 0) 0 (λ r. eqb-false m 0 q (omega arith)) ∙ sym q))
    go false e = rw e (ne_eqb (m * 2 + b) 0 (λ z. eqb-false b 0 e (omega arith)))

-- where there are no bits but for the lowest k, none is set in both
pub apart-and : (k m n : ℕ) → m < 2 ^ k → eqb (bit_and m n) 0 ≡ apart k m n
unfolding apart
apart-and zero m n h = let e : m ≡ 0 = omega arith in rw e
apart-and (suc k) m n h =
    ap (λ (i : ℕ). eqb i 0) (and_step m n)
    ∙ double-clear (bit_and (m / 2) (n / 2)) (min (m % 2) (n % 2))
    ∙ ap₂ (λ (a b : Bool). a && b) (clear-low m n) (apart-and k (m / 2) (n / 2) (omega (arith, pow-succ' 2 k)))

-- ---- small sets

-- r is whether the sets of all places are small
abbrev pub SmallSets : List ℕ → ℕ → Bool → Type 0
SmallSets ats objects r = (s : List ℕ) (xs : List (List Text)) → SetsAre s xs ats → objects ≡ object_count xs → r ≡ are_small xs

-- those of the places up to k are
pub record SmallTo (ats : List ℕ) (k : ℕ) : Type 0 where
  pub is : (s : List ℕ) (xs : List (List Text)) → SetsAre s xs ats → are_small xs ≡ are_small (drop k xs)

pub small-few : (ats : List ℕ) {objects : ℕ} → objects ≤ 256 → SmallSets ats objects true
small-few ats h s xs w e = sym (all_small xs (each_within 256 xs (omega arith)))

module _ {ats : List ℕ} {k : ℕ} (l : SmallTo ats k) where
  pub small_all : 32 ≤ k → {objects : ℕ} → SmallSets ats objects true
  unfolding are_small
  small_all h s xs w o = let past : length xs ≤ k = omega (arith, w.long) in sym (l.is s xs w ∙ rw (drop_of_length-le xs past))

  module _ (h : k < 32) {x : SetAt} (a : x ≡ set_in ats k) where
    -- the set of place k is the first of those that are left
    first : (s : List ℕ) (xs : List (List Text)) → SetsAre s xs ats → are_small xs ≡ (leb x.count 256 && are_small (drop (k + 1) xs))
    unfolding are_small
    first s xs w =
        let inside : k < length xs = omega (arith, w.long) in
        let count : x.count ≡ length (get_or xs k []) = ap (λ (y : SetAt). y.count) a ∙ (w.each k h).count in
        l.is s xs w ∙ rw (drop-cons xs k [] inside, add-one, count)

    pub small-over : 256 < x.count → {objects : ℕ} → SmallSets ats objects false
    small-over n s xs w o = sym (first s xs w ∙ rw (lt-leb x.count 256 n))

    pub small-more : x.count ≤ 256 → SmallTo ats (k + 1)
    small-more n = record { is = λ s xs w. first s xs w ∙ rw (le-leb x.count 256 n) }

-- ---- the numbers

bits_none : (t : List ℕ) → read_number t ≡ fail → read_bits t ≡ fail
unfolding read_bits
bits_none t e = rw e

bits-large : (t : List ℕ) (n : ℕ) (r : List ℕ) → read_number t ≡ got n r → 4294967296 ≤ n → read_bits t ≡ fail
unfolding read_bits
bits-large t n r e h = rw (e, le-ltb n (2 ^ 32) h)

bits-got : (t : List ℕ) (n : ℕ) (r : List ℕ) → read_number t ≡ got n r → n < 4294967296 → read_bits t ≡ got n r
unfolding read_bits
bits-got t n r e h = rw (e, lt-ltb n (2 ^ 32) h)

-- what follows the presence number
unfoldable after_presence : ℕ → ℕ → Layout Snapshot
after_presence version presence = such_that (apart 32 presence) read_bits >>= after_numbers version presence

abbrev pub numbers_from : ℕ → ℕ → ℕ → ℕ → NumbersAt
numbers_from version presence differ next = record { version = record { 0 = version }; presence = presence; differ = differ; after_differ = next }

-- the snapshot at `at` goes on after each number that is read, or is none
module _ (s : List ℕ) (at : ℕ) {r₁ : Option (ℕ × ℕ)} (h₁ : r₁ ≡ number_at s at) where
  abbrev whole : Parse Snapshot
  whole = read_snapshot (drop at s)

  then-version : {p : Parse ℕ} → read_number (drop at s) ≡ p → whole ≡ and_then p (λ version. read_bits >>= after_presence version)
  unfolding read_snapshot after_presence
  then-version e = ap (λ (p : Parse ℕ). and_then p (λ version. read_bits >>= after_presence version)) e

  pub no-version : r₁ ≡ None → whole ≡ fail
  no-version e = then-version (number-none s at (sym h₁ ∙ e))

  module _ {version a : ℕ} (e₁ : r₁ ≡ Some (version, a)) {r₂ : Option (ℕ × ℕ)} (h₂ : r₂ ≡ number_at s a) where
    then-presence : {p : Parse ℕ} → read_bits (drop a s) ≡ p → whole ≡ and_then p (after_presence version)
    then-presence e =
        then-version (number-stops s at version a (sym h₁ ∙ e₁)).is ∙ ap (λ (p : Parse ℕ). and_then p (after_presence version)) e

    pub no-presence : r₂ ≡ None → whole ≡ fail
    no-presence e = then-presence (bits_none (drop a s) (number-none s a (sym h₂ ∙ e)))

    module _ {presence b : ℕ} (e₂ : r₂ ≡ Some (presence, b)) where
      presence-there : read_number (drop a s) ≡ got presence (drop b s)
      presence-there = (number-stops s a presence b (sym h₂ ∙ e₂)).is

      pub presence-large : 4294967296 ≤ presence → whole ≡ fail
      presence-large l = then-presence (bits-large (drop a s) presence (drop b s) presence-there l)

      module _ (l : presence < 4294967296) {r₃ : Option (ℕ × ℕ)} (h₃ : r₃ ≡ number_at s b) where
        abbrev on_differ : Parse ℕ → Parse Snapshot
        on_differ p = and_then (and_then p (λ d. found_if (apart 32 presence d) d)) (after_numbers version presence)

        then-differ : {p : Parse ℕ} → read_bits (drop b s) ≡ p → whole ≡ on_differ p
        unfolding after_presence
        then-differ e = then-presence (bits-got (drop a s) presence (drop b s) presence-there l) ∙ ap on_differ e

        pub no-differ : r₃ ≡ None → whole ≡ fail
        no-differ e = then-differ (bits_none (drop b s) (number-none s b (sym h₃ ∙ e)))

        module _ {differ c : ℕ} (e₃ : r₃ ≡ Some (differ, c)) where
          differ-there : number_at s b ≡ Some (differ, c)
          differ-there = sym h₃ ∙ e₃

          pub differ-large : 4294967296 ≤ differ → whole ≡ fail
          differ-large m = then-differ (bits-large (drop b s) differ (drop c s) (number-stops s b differ c differ-there).is m)

          module _ (m : differ < 4294967296) {r : Bool} (h : r ≡ apart 32 presence differ) where
            answered : {x : Bool} → r ≡ x → whole ≡ and_then (found_if x differ (drop c s)) (after_numbers version presence)
            answered e =
                then-differ (bits-got (drop b s) differ (drop c s) (number-stops s b differ c differ-there).is m)
                ∙ ap (λ (x : Bool). and_then (found_if x differ (drop c s)) (after_numbers version presence)) (sym h ∙ e)

            pub numbers-told : NumbersRead s at (then_some r (numbers_from version presence differ c))
            numbers-told = go r refl
              where
                go : (x : Bool) → r ≡ x → NumbersRead s at (then_some x (numbers_from version presence differ c))
                go false e = answered e
                go true e = record {
                  is = answered e;
                  within = (number-stops s b differ c differ-there).within;
                  presence-low = l;
                  differ-low = m;
                  clear = sym h ∙ e;
                }

-- ---- the snapshot, by what its readers answer

abbrev pub numbers_of : NumbersAt → SetsRead → SnapshotNumbers
numbers_of x y = record { version = x.version; differ = x.differ; objects = y.objects }

module _ {s : List ℕ} {at : ℕ} {x : NumbersAt} (w : NumbersStop s at x.version.0 x.presence x.differ x.after_differ) where
  abbrev sets_there : Parse (List (List Text))
  sets_there = read_sets 32 x.presence (drop x.after_differ s)

  -- the sets that follow the numbers
  module _ {ats : List ℕ} {y : SetsRead} (found : SetsStop sets_there s ats y.next y.objects) where
    small_is : {b c : Bool} → SmallSets ats y.objects b → b ≡ c → are_small found.what ≡ c
    small_is a f = sym (a s found.what found.stands found.summed) ∙ f

    sets-large : {b : Bool} → SmallSets ats y.objects b → b ≡ false → read_snapshot (drop at s) ≡ fail
    sets-large a f = w.is ∙ rw (found.is, small_is a f)

    module _ (within : at ≤ length s) {b : Bool} (a : SmallSets ats y.objects b) (so : b ≡ true) where
      was : SetsWas 32 x.presence (drop x.after_differ s) found.what (drop y.next s)
      was = sets-was 32 x.presence (drop x.after_differ s) found.what (drop y.next s) w.presence-low found.is

      cells_are : (xs : List (List Text)) → length xs ≡ 32 → bit_number (map presence_bit xs) ≡ x.presence → CellsWas x.differ xs
      cells_are xs l p = cells-was x.differ xs (rw l w.differ-low) (rw (l, p) w.clear)

      cells : CellsWas x.differ found.what
      cells = cells_are found.what was.long was.present

      abbrev it : Snapshot
      it = record { version = x.version.0; cells = cells_of x.differ found.what }

      reads : read_snapshot (drop at s) ≡ got it (drop y.next s)
      reads = w.is ∙ rw (found.is, small_is a so)

      stands : SnapshotAt s it at y.next
      stands =
          let z = stretch s (snapshot_bytes it) at y.next within found.within (snapshot-was (drop at s) it (drop y.next s) reads).0 in
          record { is = reads; bytes = z.0; order = z.1; within = found.within }

      snapshot-some : SnapshotStops s at (numbers_of x y) y.next ats
      snapshot-some = record {
        what = it;
        stands = stands;
        is = record {
          version = refl;
          differ = sym cells.bits;
          objects = found.summed ∙ ap object_count (sym cells.sets) ∙ held-objects (cells_of x.differ found.what);
          sets = subst (λ (l : List (List Text)). SetsAre s l ats) (sym cells.sets) found.stands;
        };
      }

    pub snapshot-told :
        at ≤ length s → {b : Bool} → SmallSets ats y.objects b → SnapshotReads s at ats (then_some b (numbers_of x y, y.next))
    snapshot-told within {b} a = go b refl
      where
        go : (c : Bool) → b ≡ c → SnapshotReads s at ats (then_some c (numbers_of x y, y.next))
        go true e = snapshot-some within a e
        go false e = sets-large a e
