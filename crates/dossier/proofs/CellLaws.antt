-- The laws of a snapshot's cells, place by place: their sets, their differ bits, and the match objects among them.
use mathlib.Core.Path.{◌≡◌, refl, sym, ap, ap₂, ◌∙◌}
use mathlib.Core.Logic.{⊎_elim}
use mathlib.Core.Bool.{Bool, true, false, cond}
use mathlib.Core.List.{List, [], ◌∷◌, map}
use Prim.Native.Nat.{ℕ, zero, suc, ◌+◌, ◌-◌, ◌*◌, ◌/◌, ◌%◌, ◌≤◌, ◌<◌}
use native.Mathlib.Omega.{arith}
use native.Mathlib.Numerals.{add-one}
use lib.Dec.{leb, eqb}
use lib.ListN.{length, drop, get_or, drop_of_length-le}
use lib.Seq.{drop-cons}
use borrow.Author.Tests.{le-leb, lt-leb}
use Rattle.model.specs.Order.{Text}
use Rattle.model.specs.Rule.{Cell, holds, differs, sizes}
use Rattle.model.specs.Opening.{held, is_mark}
use Rattle.model.proofs.SizeLaws.{held-size}
use Rattle.packed.proofs.LayoutLaws.{lt-or-ge}
use Rattle.ontology.specs.Table.{Property, is_match}
use Rattle.ontology.specs.code.TypeIndex.{property_in, PropertiesAre, has_match}
use Rattle.ontology.specs.declared.properties.PropertyAt.{PropertyAt}
use Rattle.ontology.proofs.TypeIndexLaws.{match-of}
use Rattle.event.specs.EventLayout.{bit_number}
use Rattle.event.specs.EventQuestions.{match_count}
use Rattle.event.specs.code.EventIndex.{set_in, SetsAre}
use Rattle.event.specs.declared.sets.SetAt.{SetAt}
use Rattle.event.proofs.EventLayoutLaws.{low_bit, high_bits}
use Rattle.event.proofs.MatchLaws.{Elem, elem}
use Rattle.dossier.specs.DossierBody.{differ_bit}
use Rattle.dossier.proofs.DossierBodyLaws.{differ-small}

-- ---- the cells

pub held_at : (cs : List Cell) (k : ℕ) → get_or (map held cs) k [] ≡ held (get_or cs k (holds []))
unfolding held
held_at [] k = refl
held_at (c ∷ cs) zero = refl
held_at (c ∷ cs) (suc k) = held_at cs k

mark-bit : (c : Cell) → eqb (differ_bit c) 1 ≡ is_mark c
unfolding differ_bit is_mark
mark-bit (holds x) = refl
mark-bit differs = refl

bits-split :
    (cs : List Cell) (k : ℕ) →
    bit_number (map differ_bit (drop k cs)) ≡ differ_bit (get_or cs k (holds [])) + 2 * bit_number (map differ_bit (drop (suc k) cs))
unfolding bit_number differ_bit
bits-split [] zero = refl
bits-split [] (suc k) = refl
bits-split (c ∷ cs) zero = refl
bits-split (c ∷ cs) (suc k) = bits-split cs k

-- the differ bit of place k, and those after it
module _ (cs : List Cell) (k bits : ℕ) (b : bits ≡ bit_number (map differ_bit (drop k cs))) where
  abbrev bit : ℕ
  bit = differ_bit (get_or cs k (holds []))

  abbrev after : ℕ
  after = bit_number (map differ_bit (drop (k + 1) cs))

  bits-here : bits ≡ bit + 2 * after
  bits-here = b ∙ rw add-one (bits-split cs k)

  pub bit-here : bits % 2 ≡ bit
  bit-here = ap (λ (n : ℕ). n % 2) bits-here ∙ low_bit bit after (differ-small (get_or cs k (holds [])))

  pub mark-here : eqb (bits % 2) 1 ≡ is_mark (get_or cs k (holds []))
  mark-here = ap (λ (n : ℕ). eqb n 1) bit-here ∙ mark-bit (get_or cs k (holds []))

  pub bits-next : bits / 2 ≡ bit_number (map differ_bit (drop (k + 1) cs))
  bits-next = ap (λ (n : ℕ). n / 2) bits-here ∙ high_bits bit after (differ-small (get_or cs k (holds [])))

-- ---- the match objects

-- a limit of a sum is a limit of the rest
pub leb-sub : (n m l : ℕ) → n ≤ l → leb (n + m) l ≡ leb m (l - n)
leb-sub n m l h =
    ⊎_elim (λ (a : l - n < m). lt-leb (n + m) l (omega arith) ∙ sym (lt-leb m (l - n) a))
    (λ (a : m ≤ l - n). le-leb (n + m) l (omega arith) ∙ sym (le-leb m (l - n) a))
    (lt-or-ge (l - n) m)

-- there are no more of them than objects
pub match-few : (qs : List Property) (cs : List Cell) → match_count qs (map held cs) ≤ sizes cs
unfolding match_count sizes
match-few [] cs = omega arith
match-few (q ∷ qs) [] = omega arith
match-few (q ∷ qs) (c ∷ cs) = omega (arith, at_most (is_match q) (length (held c)), held-size c, match-few qs cs)
  where
    at_most : (b : Bool) (n : ℕ) → cond b n 0 ≤ n
    at_most true n = omega arith
    at_most false n = omega arith

-- what holds of any properties and sets that stand as the numbers say
abbrev Matching : ℕ → List ℕ → List ℕ → (List Property → List (List Text) → Type 0) → Type 0
Matching count ps ats P =
    (s u : List ℕ) (qs : List Property) (xs : List (List Text)) → PropertiesAre s qs count ps → SetsAre u xs ats → P qs xs

-- r is whether there are at most 32 match objects
abbrev pub MatchesFew : ℕ → List ℕ → List ℕ → Bool → Type 0
MatchesFew count ps ats r = Matching count ps ats (λ qs xs. r ≡ leb (match_count qs xs) 32)

-- so many may be at the places from k on
pub record MatchesLeft (count : ℕ) (ps ats : List ℕ) (left k : ℕ) : Type 0 where
  pub is : Matching count ps ats (λ qs xs. leb (match_count qs xs) 32 ≡ leb (match_count (drop k qs) (drop k xs)) left)

module _ {count : ℕ} {ps ats : List ℕ} {left k : ℕ} (l : MatchesLeft count ps ats left k) where
  pub matches-all : count ≤ k → MatchesFew count ps ats true
  unfolding match_count
  matches-all h s u qs xs w v =
      let past : length qs ≤ k = omega (arith, w.count) in
      sym (l.is s u qs xs w v ∙ rw (drop_of_length-le qs past) (le-leb 0 left (omega arith)))

  -- by the n match objects of place k
  module _
      (h : k < count) {x : SetAt} (a : x ≡ set_in ats k) {p : PropertyAt} (b : p ≡ property_in ps k) {n : ℕ} (e : n ≡ cond (has_match p) x.count 0)
    where
      split : Matching count ps ats (λ qs xs. match_count (drop k qs) (drop k xs) ≡ n + match_count (drop (k + 1) qs) (drop (k + 1) xs))
      unfolding match_count
      split s u qs xs w v =
          let few : k < 32 = omega (arith, w.few) in
          let inside : k < length xs = omega (arith, v.long) in
          let this : Elem qs k = elem qs k (omega (arith, w.count)) in
          let here : n ≡ cond (is_match this.what) (length (get_or xs k [])) 0 =
          e
          ∙ ap₂ (λ (p : PropertyAt) (x : SetAt). cond (has_match p) x.count 0) b a
          ∙ ap₂ (λ (b : Bool) (m : ℕ). cond b m 0) (match-of (w.each k this.what this.is)) (v.each k few).count in
          rw (this.split, drop-cons xs k [] inside, add-one, here)

      pub matches-over : left < n → MatchesFew count ps ats false
      matches-over m s u qs xs w v =
          sym (l.is s u qs xs w v ∙ lt-leb (match_count (drop k qs) (drop k xs)) left (omega (arith, split s u qs xs w v)))

      pub matches-more : n ≤ left → MatchesLeft count ps ats (left - n) (k + 1)
      matches-more m = record {
        is = λ s u qs xs w v.
            l.is s u qs xs w v
            ∙ ap (λ (i : ℕ). leb i left) (split s u qs xs w v)
            ∙ leb-sub n (match_count (drop (k + 1) qs) (drop (k + 1) xs)) left m;
      }
