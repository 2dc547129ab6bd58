-- Question 5 of a snapshot's cells, asked by bit masks: what is asked of each place by its cell and its property is asked of all places at once by numbers
-- with a bit for each place. The lowest bit of each number is peeled off together with the first property and the first cell.
use mathlib.Core.Path.{◌≡◌, refl, sym, ap, ap₂, ◌∙◌, subst}
use mathlib.Core.Bool.{Bool, true, false, cond, not, ◌&&◌, ◌||◌}
use mathlib.Core.List.{List, [], ◌∷◌, ◌++◌, map}
use Prim.Native.Nat.{ℕ, zero, suc, ◌+◌, ◌-◌, ◌*◌, ◌/◌, ◌%◌, ◌^◌, ◌≤◌, ◌<◌, min, max}
use native.Mathlib.Nat.{zero-add, pow-succ'}
use native.Mathlib.Omega.{arith}
use mir.Val.{bool_byte}
use lib.Bits.{bit_and, bit_or, and_step, or_step}
use lib.Dec.{ltb, leb, eqb, leb-suc-zero, eqb-suc-zero}
use lib.ListN.{length, take, drop, get_or, length-map, length-take, take-append-drop, drop_of_length-le}
use lib.Pow.{pow_pos}
use lib.Seq.{drop-cons, take-suc, get_or-take}
use borrow.Author.Tests.{leb-true, leb-false, le-leb, lt-leb, eqb-true, eqb-false, eq-eqb, ne_eqb}
use Rattle.model.specs.Rule.{Cell, holds, differs, size, sizes}
use Rattle.model.specs.Opening.{held, is_mark}
use Rattle.model.proofs.Cases.{truth, and-true, and-false}
use Rattle.model.proofs.SizeLaws.{held-size}
use Rattle.ontology.specs.Table.{Property, is_min, is_max, is_match}
use Rattle.ontology.specs.code.TypeIndex.{PropertyIs, property_in, PropertiesAre, has_extreme, has_match}
use Rattle.ontology.specs.declared.properties.PropertyAt.{PropertyAt}
use Rattle.ontology.proofs.TypeIndexLaws.{extreme-of, match-of}
use Rattle.event.specs.EventLayout.{bit_number}
use Rattle.event.specs.code.EventIndex.{bit_of, set_in}
use Rattle.event.proofs.EventLayoutLaws.{low_bit, high_bits}
use Rattle.event.proofs.MatchLaws.{Elem, elem}
use Rattle.dossier.specs.DossierBody.{differ_bit}
use Rattle.dossier.specs.DossierQuestions.{each_cell, is_vacant, is_present, is_lone, is_lone_if_single, is_lone_if_extreme, is_unmarked_match}
use Rattle.dossier.specs.code.DossierIndex.{CellsAre, cell_fits, mask_of, must_be_lone, must_be_unmarked, MasksAre, masks_fit}
use Rattle.dossier.specs.declared.shape.ShapeMasks.{ShapeMasks}
use Rattle.dossier.proofs.CellLaws.{held_at}

-- ---- the lowest bit of a number

bit-small : (b : Bool) → bit_of b < 2
unfolding bit_of
bit-small true = omega arith
bit-small false = omega arith

low : (b : Bool) (n : ℕ) → (bit_of b + 2 * n) % 2 ≡ bit_of b
low b n = low_bit (bit_of b) n (bit-small b)

high : (b : Bool) (n : ℕ) → (bit_of b + 2 * n) / 2 ≡ n
high b n = high_bits (bit_of b) n (bit-small b)

-- an operation that goes bit by bit
module _
    (op f : ℕ → ℕ → ℕ) (g : Bool → Bool → Bool) (step : (m n : ℕ) → op m n ≡ op (m / 2) (n / 2) * 2 + f (m % 2) (n % 2))
    (bits : (a b : Bool) → f (bit_of a) (bit_of b) ≡ bit_of (g a b)) where
  op-bits : (a b : Bool) (m n : ℕ) → op (bit_of a + 2 * m) (bit_of b + 2 * n) ≡ bit_of (g a b) + 2 * op m n
  op-bits a b m n =
      let x = bit_of a + 2 * m in
      let y = bit_of b + 2 * n in
      let e : op x y ≡ op (x / 2) (y / 2) * 2 + f (x % 2) (y % 2) = step x y in
      let h : op (x / 2) (y / 2) ≡ op m n = ap₂ op (high a m) (high b n) in
      let l : f (x % 2) (y % 2) ≡ bit_of (g a b) = ap₂ f (low a m) (low b n) ∙ bits a b in
      e ∙ omega (arith, h, l)

and-bits : (a b : Bool) (m n : ℕ) → bit_and (bit_of a + 2 * m) (bit_of b + 2 * n) ≡ bit_of (a && b) + 2 * bit_and m n
unfolding bit_of
and-bits = op-bits bit_and min (λ a b. a && b) and_step bits
  where
    bits : (a b : Bool) → min (bit_of a) (bit_of b) ≡ bit_of (a && b)
    bits true true = refl
    bits true false = refl
    bits false true = refl
    bits false false = refl

or-bits : (a b : Bool) (m n : ℕ) → bit_or (bit_of a + 2 * m) (bit_of b + 2 * n) ≡ bit_of (a || b) + 2 * bit_or m n
unfolding bit_of
or-bits = op-bits bit_or max (λ a b. a || b) or_step bits
  where
    bits : (a b : Bool) → max (bit_of a) (bit_of b) ≡ bit_of (a || b)
    bits true true = refl
    bits true false = refl
    bits false true = refl
    bits false false = refl

-- ---- tests of two numbers, by their lowest bits and the bits above

double-eqb : (b m n : ℕ) → eqb (b + 2 * m) (b + 2 * n) ≡ eqb m n
double-eqb b m n =
    truth (eqb m n) (λ e. eq-eqb (b + 2 * m) (b + 2 * n) (ap (λ (k : ℕ). b + 2 * k) (eqb-true m n e)) ∙ sym e)
    (λ e. ne_eqb (b + 2 * m) (b + 2 * n) (λ q. eqb-false m n e (omega arith)) ∙ sym e)

-- below a number whose lowest bit is set, the bits above decide
within-bits : (a : Bool) (m n : ℕ) → leb (bit_of a + 2 * m) (1 + 2 * n) ≡ leb m n
within-bits a m n =
    truth (leb m n) (λ e. le-leb (bit_of a + 2 * m) (1 + 2 * n) (omega (arith, bit-small a, leb-true m n e)) ∙ sym e)
    (λ e. lt-leb (bit_of a + 2 * m) (1 + 2 * n) (omega (arith, leb-false m n e)) ∙ sym e)

-- the bits that two numbers have in common are all bits of the second
covers-bits : (a b : Bool) (m n : ℕ) → eqb (bit_of (a && b) + 2 * m) (bit_of b + 2 * n) ≡ ((not b || a) && eqb m n)
unfolding bit_of
covers-bits true true m n = double-eqb 1 m n
covers-bits true false m n = double-eqb 0 m n
covers-bits false true m n = ne_eqb (0 + 2 * m) (1 + 2 * n) (λ e. omega arith)
covers-bits false false m n = double-eqb 0 m n

-- a number has no bit
clear-bits : (a : Bool) (m : ℕ) → eqb (bit_of a + 2 * m) 0 ≡ (not a && eqb m 0)
unfolding bit_of
clear-bits true m = ne_eqb (1 + 2 * m) 0 (λ e. omega arith)
clear-bits false m = double-eqb 0 m 0

-- ---- one place

-- what is asked of a place, by its bits
abbrev place_fits : Bool → Bool → Bool → Bool → Bool → Bool → Bool
place_fits mandatory lone unmarked present several marked =
    (not mandatory || (present || marked)) && (not (several && lone) && not (marked && unmarked))

-- the tests of all places, as those of the first and those of the rest
regroup : (a b c d x y z : Bool) → (a && (b && x) && (c && y) && (d && z)) ≡ ((b && (c && d)) && (a && x && y && z))
regroup false b c d x y z = sym (and-false (b && (c && d)))
regroup true false c d x y z = refl
regroup true true c d false y z = sym (and-false (c && d))
regroup true true false d true y z = refl
regroup true true true d true false z = sym (and-false d)
regroup true true true false true true z = refl
regroup true true true true true true z = refl

module _ (m l u p s d : Bool) (A M L U P S D : ℕ) where
  abbrev whole : ShapeMasks
  whole = record { all = bit_of true + 2 * A; mandatory = bit_of m + 2 * M; lone = bit_of l + 2 * L; unmarked = bit_of u + 2 * U }

  abbrev above : ShapeMasks
  above = record { all = A; mandatory = M; lone = L; unmarked = U }

  covered :
      eqb (bit_and (bit_or (bit_of p + 2 * P) (bit_of d + 2 * D)) (bit_of m + 2 * M)) (bit_of m + 2 * M) ≡
      ((not m || (p || d)) && eqb (bit_and (bit_or P D) M) M)
  covered =
      ap (λ (n : ℕ). eqb (bit_and n (bit_of m + 2 * M)) (bit_of m + 2 * M)) (or-bits p d P D)
      ∙ ap (λ (n : ℕ). eqb n (bit_of m + 2 * M)) (and-bits (p || d) m (bit_or P D) M)
      ∙ covers-bits (p || d) m (bit_and (bit_or P D) M) M

  clear : (a b : Bool) (x y : ℕ) → eqb (bit_and (bit_of a + 2 * x) (bit_of b + 2 * y)) 0 ≡ (not (a && b) && eqb (bit_and x y) 0)
  clear a b x y = ap (λ (n : ℕ). eqb n 0) (and-bits a b x y) ∙ clear-bits (a && b) (bit_and x y)

  masks-step :
      masks_fit whole (bit_of p + 2 * P) (bit_of s + 2 * S) (bit_of d + 2 * D) ≡ (place_fits m l u p s d && masks_fit above P S D)
  unfolding masks_fit bit_of
  masks-step =
      ap₂ (λ (a b : Bool). a && b && eqb (bit_and (bit_of s + 2 * S) (bit_of l + 2 * L)) 0 && eqb (bit_and (bit_of d + 2 * D) (bit_of u + 2 * U)) 0)
      (within-bits d D A) covered
      ∙ ap₂ (λ (a b : Bool). leb D A && ((not m || (p || d)) && eqb (bit_and (bit_or P D) M) M) && a && b) (clear s l S L) (clear d u D U)
      ∙ regroup (leb D A) (not m || (p || d)) (not (s && l)) (not (d && u)) (eqb (bit_and (bit_or P D) M) M) (eqb (bit_and S L) 0) (eqb (bit_and D U) 0)

-- ---- a property's cell, by its bits

abbrev pub is_there : Cell → Bool
is_there c = ltb 0 (length (held c))

abbrev pub is_several : Cell → Bool
is_several c = ltb 1 (length (held c))

one_at_most : (n : ℕ) → leb n 1 ≡ not (ltb 1 n)
one_at_most n =
    truth (ltb 1 n) (λ e. lt-leb n 1 (leb-true 2 n e) ∙ sym (ap not e)) (λ e. le-leb n 1 (omega (arith, leb-false 2 n e)) ∙ sym (ap not e))

there-so : (o d p : Bool) → (o || d || p) ≡ (not (not o) || (p || d))
there-so true d p = refl
there-so false true true = refl
there-so false true false = refl
there-so false false true = refl
there-so false false false = refl

unmarked-so : (t d : Bool) → (not t || (not d && true)) ≡ not (d && t)
unmarked-so true true = refl
unmarked-so true false = refl
unmarked-so false true = refl
unmarked-so false false = refl

-- v: versioned; d: marked; s: several objects; e: min or max; t: match; w: multivalued
lone-so :
    (v d s e t w : Bool) →
    (cond v (w || not s) (not d && (not e || not s)) && (not t || (not d && (w || not s))))
    ≡ (not (s && cond v (not w) (e || (t && not w))) && not (d && (not v || t)))
lone-so true d true e t true = unmarked-so t d
lone-so true d true e t false = refl
lone-so true d false e t true = unmarked-so t d
lone-so true d false e t false = unmarked-so t d
lone-so false true s e t w = sym (and-false (not (s && (e || (t && not w)))))
lone-so false false true true t w = refl
lone-so false false true false true true = refl
lone-so false false true false true false = refl
lone-so false false true false false w = refl
lone-so false false false true true true = refl
lone-so false false false true true false = refl
lone-so false false false true false w = refl
lone-so false false false false true true = refl
lone-so false false false false true false = refl
lone-so false false false false false w = refl

and_assoc : (a b c : Bool) → (a && b && c) ≡ (a && (b && c))
and_assoc true b c = refl
and_assoc false b c = refl

cell-bits :
    (v : Bool) (q : Property) (c : Cell) →
    cell_fits v q c ≡ place_fits (not q.optional) (must_be_lone v q) (must_be_unmarked v q) (is_there c) (is_several c) (is_mark c)
unfolding cell_fits is_present is_lone_if_single is_lone_if_extreme is_lone is_unmarked_match must_be_lone must_be_unmarked
cell-bits v q c =
    let e = is_min q || is_max q in
    let d = is_mark c in
    let w = q.multivalued in
    and_assoc (is_present q c) (cond v (is_lone_if_single q c) (not d && is_lone_if_extreme q c)) (is_unmarked_match q c)
    ∙ ap₂ (λ (a b : Bool). a && b) (there-so q.optional d (is_there c))
    (ap (λ (b : Bool). cond v (w || b) (not d && (not e || b)) && (not (is_match q) || (not d && (w || b)))) (one_at_most (length (held c)))
    ∙ lone-so v d (is_several c) e (is_match q) w)

-- ---- all places

abbrev masks_of : Bool → List Property → ShapeMasks
masks_of v qs = record {
  all = mask_of (λ (p : Property). true) qs;
  mandatory = mask_of (λ (p : Property). not p.optional) qs;
  lone = mask_of (must_be_lone v) qs;
  unmarked = mask_of (must_be_unmarked v) qs;
}

differ-bit : (c : Cell) → differ_bit c ≡ bit_of (is_mark c)
unfolding differ_bit is_mark bit_of
differ-bit (holds x) = refl
differ-bit differs = refl

-- where there is no property, there is no mark and no object
all-vacant : (f : Property → Cell → Bool) (cs : List Cell) → each_cell f is_vacant [] cs ≡ (eqb (bit_number (map differ_bit cs)) 0 && eqb (sizes cs) 0)
unfolding each_cell is_vacant bit_number differ_bit size sizes is_mark held
all-vacant f [] = refl
all-vacant f (differs ∷ cs) = rw (ne_eqb (1 + 2 * bit_number (map differ_bit cs)) 0 (λ e. omega arith))
all-vacant f (holds [] ∷ cs) = rw (double-eqb 0 (bit_number (map differ_bit cs)) 0, zero-add (sizes cs)) (all-vacant f cs)
all-vacant f (holds (v ∷ vs) ∷ cs) =
    rw (ne_eqb (length (v ∷ vs)) 0 (λ e. omega arith), ne_eqb (length (v ∷ vs) + sizes cs) 0 (λ e. omega arith))
    (sym (and-false (eqb (0 + 2 * bit_number (map differ_bit cs)) 0)))

no-masks : (d : ℕ) → masks_fit (masks_of true []) 0 0 d ≡ eqb d 0
unfolding masks_fit bit_number
no-masks zero = refl
no-masks (suc d) = rw (leb-suc-zero d, eqb-suc-zero d)

-- What is asked of all cells is asked by the masks, and that there are no objects past the last property.
cells-masks :
    (v : Bool) (qs : List Property) (cs : List Cell) → length qs ≤ length cs →
    each_cell (cell_fits v) is_vacant qs cs
    ≡ (masks_fit (masks_of v qs) (mask_of is_there (take (length qs) cs)) (mask_of is_several (take (length qs) cs)) (bit_number (map differ_bit cs))
    && eqb (sizes (drop (length qs) cs)) 0)
unfolding each_cell bit_number
cells-masks v [] cs h = all-vacant (cell_fits v) cs ∙ ap (λ (b : Bool). b && eqb (sizes cs) 0) (sym (no-masks (bit_number (map differ_bit cs))))
cells-masks v (q ∷ qs) [] h = absurd (omega arith)
cells-masks v (q ∷ qs) (c ∷ cs) h =
    let m = masks_of v qs in
    let there = mask_of is_there (take (length qs) cs) in
    let several = mask_of is_several (take (length qs) cs) in
    let differ = bit_number (map differ_bit cs) in
    let none = eqb (sizes (drop (length qs) cs)) 0 in
    let one = place_fits (not q.optional) (must_be_lone v q) (must_be_unmarked v q) (is_there c) (is_several c) (is_mark c) in
    ap₂ (λ (a b : Bool). a && b) (cell-bits v q c) (cells-masks v qs cs (omega arith))
    ∙ sym (and_assoc one (masks_fit m there several differ) none)
    ∙ ap (λ (b : Bool). b && none)
    (sym (masks-step (not q.optional) (must_be_lone v q) (must_be_unmarked v q) (is_there c) (is_several c) (is_mark c)
    m.all m.mandatory m.lone m.unmarked there several differ))
    ∙ ap (λ (b : ℕ). masks_fit (masks_of v (q ∷ qs)) (bit_of (is_there c) + 2 * there) (bit_of (is_several c) + 2 * several) (b + 2 * differ) && none)
    (sym (differ-bit c))

masks-same :
    {v : Bool} {qs : List Property} {m : ShapeMasks} → MasksAre v qs m →
    (present several differ : ℕ) → masks_fit m present several differ ≡ masks_fit (masks_of v qs) present several differ
unfolding masks_fit
masks-same {v} {qs} {m} w present several differ =
    let n = masks_of v qs in
    let either = bit_or present differ in
    ap₂ (λ (a b : ℕ). leb differ a && eqb (bit_and either b) b && eqb (bit_and several m.lone) 0 && eqb (bit_and differ m.unmarked) 0)
    w.all w.mandatory
    ∙ ap₂
    (λ (a b : ℕ). leb differ n.all && eqb (bit_and either n.mandatory) n.mandatory && eqb (bit_and several a) 0 && eqb (bit_and differ b) 0)
    w.lone w.unmarked

-- ---- masks that are made from the highest place down

bits-more : (n k b : ℕ) → 0 < k → k ≤ 32 → n < 2 ^ (32 - k) → b < 2 → 2 * n + b < 2 ^ (32 - (k - 1))
bits-more n k b h m l e = let next : 32 - (k - 1) ≡ suc (32 - k) = omega arith in rw (next, pow-succ' 2 (32 - k)) (omega arith)

-- a flag as a number is its bit
flag-bit : (f : Bool) → bool_byte f ≡ bit_of f
unfolding bit_of
flag-bit true = refl
flag-bit false = refl

bit-low : (f : Bool) {b : ℕ} → b ≡ bool_byte f → b < 2
bit-low f e = omega (arith, e, flag-bit f, bit-small f)

mask-more :
    {A : Type 0} (test : A → Bool) (xs : List A) (x : A) (k n b : ℕ) →
    drop (k - 1) xs ≡ x ∷ drop k xs → n ≡ mask_of test (drop k xs) → b ≡ bit_of (test x) → 2 * n + b ≡ mask_of test (drop (k - 1) xs)
unfolding bit_number
mask-more {A} test xs x k n b split w e = omega (arith, ap (λ (l : List A). mask_of test l) split, w, e)

-- ---- the masks of a type

-- they have no bits but for the places from k on
pub record MasksLow (m : ShapeMasks) (k : ℕ) : Type 0 where
  pub all : m.all < 2 ^ (32 - k)
  pub mandatory : m.mandatory < 2 ^ (32 - k)
  pub lone : m.lone < 2 ^ (32 - k)
  pub unmarked : m.unmarked < 2 ^ (32 - k)

-- one place more
abbrev pub joined : ShapeMasks → ℕ → ℕ → ℕ → ShapeMasks
joined m a b c = record { all = 2 * m.all + 1; mandatory = 2 * m.mandatory + a; lone = 2 * m.lone + b; unmarked = 2 * m.unmarked + c }

abbrev pub no_masks : ShapeMasks
no_masks = record { all = 0; mandatory = 0; lone = 0; unmarked = 0 }

module _ {s : List ℕ} {q : Property} {x : PropertyAt} (v : Bool) (w : PropertyIs s q x) where
  lone_of : cond v (not x.multivalued) (has_extreme x || (has_match x && not x.multivalued)) ≡ must_be_lone v q
  unfolding must_be_lone
  lone_of =
      ap₂ (λ (a b : Bool). cond v (not a) (b || (has_match x && not a))) w.multivalued (extreme-of w)
      ∙ ap (λ (b : Bool). cond v (not q.multivalued) (is_min q || is_max q || (b && not q.multivalued))) (match-of w)

  unmarked-of : (not v || has_match x) ≡ must_be_unmarked v q
  unfolding must_be_unmarked
  unmarked-of = ap (λ (b : Bool). not v || b) (match-of w)

-- the masks of the properties from place k on
pub record MasksDown (versioned : Bool) (count : ℕ) (ps : List ℕ) (m : ShapeMasks) (k : ℕ) : Type 0 where
  pub inside : k ≤ count
  pub low : MasksLow m k
  pub are : (s : List ℕ) (qs : List Property) → PropertiesAre s qs count ps → MasksAre versioned (drop k qs) m

pub masks-none : (v : Bool) (count : ℕ) (ps : List ℕ) → MasksDown v count ps no_masks count
unfolding bit_number
masks-none v count ps = record {
  inside = omega arith;
  low = let p = pow_pos (32 - count) in record { all = p; mandatory = p; lone = p; unmarked = p };
  are = λ s qs w.
      rw (drop_of_length-le qs {i = count} (omega (arith, w.count))) (record { all = refl; mandatory = refl; lone = refl; unmarked = refl });
}

module _ {v : Bool} {count : ℕ} {ps : List ℕ} {m : ShapeMasks} {k : ℕ} (w : MasksDown v count ps m k) where
  pub masks-all : k ≤ 0 → (s : List ℕ) (qs : List Property) → PropertiesAre s qs count ps → MasksAre v qs m
  masks-all h s qs x = let e : k ≡ 0 = omega arith in subst (λ (n : ℕ). MasksAre v (drop n qs) m) e (w.are s qs x)

  -- the place below k, by its property p and the bits that are put in
  module _
      (h : 0 < k) (few : count ≤ 32) {p : PropertyAt} (at : p ≡ property_in ps (k - 1)) {lone unmarked : Bool} {a b c : ℕ}
      (d : a ≡ bool_byte (not p.optional))
      (l : lone ≡ cond v (not p.multivalued) (has_extreme p || (has_match p && not p.multivalued))) (e : b ≡ bool_byte lone)
      (u : unmarked ≡ (not v || has_match p)) (f : c ≡ bool_byte unmarked)
    where
      more-are : (s : List ℕ) (qs : List Property) → PropertiesAre s qs count ps → MasksAre v (drop (k - 1) qs) (joined m a b c)
      unfolding bit_of
      more-are s qs x =
          let it : Elem qs (k - 1) = elem qs (k - 1) (omega (arith, w.inside, x.count)) in
          let q = it.what in
          let is : PropertyIs s q p = subst (PropertyIs s q) (sym at) (x.each (k - 1) q it.is) in
          let next : k - 1 + 1 ≡ k = omega arith in
          let split : drop (k - 1) qs ≡ q ∷ drop k qs = it.split ∙ ap (λ (n : ℕ). q ∷ drop n qs) next in
          let old = w.are s qs x in
          record {
            all = mask-more (λ (p : Property). true) qs q k m.all 1 split old.all refl;
            mandatory =
                mask-more (λ (p : Property). not p.optional) qs q k m.mandatory a split old.mandatory
                (d ∙ flag-bit (not p.optional) ∙ ap (λ (o : Bool). bit_of (not o)) is.optional);
            lone = mask-more (must_be_lone v) qs q k m.lone b split old.lone (e ∙ flag-bit lone ∙ ap bit_of (l ∙ lone_of v is));
            unmarked = mask-more (must_be_unmarked v) qs q k m.unmarked c split old.unmarked (f ∙ flag-bit unmarked ∙ ap bit_of (u ∙ unmarked-of v is));
          }

      pub masks-more : MasksDown v count ps (joined m a b c) (k - 1)
      masks-more =
          let below : k ≤ 32 = omega (arith, w.inside) in
          record {
            inside = omega (arith, w.inside);
            low = record {
              all = bits-more m.all k 1 h below w.low.all (omega arith);
              mandatory = bits-more m.mandatory k a h below w.low.mandatory (bit-low (not p.optional) d);
              lone = bits-more m.lone k b h below w.low.lone (bit-low lone e);
              unmarked = bits-more m.unmarked k c h below w.low.unmarked (bit-low unmarked f);
            };
            are = more-are;
          }

-- ---- the masks of a snapshot

sizes-append : (xs ys : List Cell) → sizes (xs ++ ys) ≡ sizes xs + sizes ys
unfolding sizes
sizes-append [] ys = omega arith
sizes-append (x ∷ xs) ys = omega (arith, sizes-append xs ys)

-- the masks of the places from k up to the properties' count, and the objects of all other places
pub record CountsFrom (cs : List Cell) (count k present several left : ℕ) : Type 0 where
  pub there : present ≡ mask_of is_there (drop k (take count cs))
  pub many : several ≡ mask_of is_several (drop k (take count cs))
  pub rest : left ≡ sizes (take k cs) + sizes (drop count cs)

-- the same of any cells that stand as the numbers say, with no bits but for the places from k on
pub record CountsDown (count differ objects : ℕ) (ats : List ℕ) (present several left k : ℕ) : Type 0 where
  pub inside : k ≤ count
  pub present-low : present < 2 ^ (32 - k)
  pub several-low : several < 2 ^ (32 - k)
  pub from : (u : List ℕ) (cs : List Cell) → CellsAre u cs differ ats → objects ≡ sizes cs → CountsFrom cs count k present several left

-- r is what such cells are answered
abbrev pub CellsFit : ShapeMasks → ℕ → ℕ → ℕ → List ℕ → Bool → Type 0
CellsFit m count differ objects ats r =
    (u : List ℕ) (qs : List Property) (cs : List Cell) (versioned : Bool) → count ≡ length qs → MasksAre versioned qs m →
    CellsAre u cs differ ats → objects ≡ sizes cs → r ≡ each_cell (cell_fits versioned) is_vacant qs cs

pub counts-none : (count differ objects : ℕ) (ats : List ℕ) → CountsDown count differ objects ats 0 0 objects count
unfolding bit_number
counts-none count differ objects ats =
    let low = pow_pos (32 - count) in
    record {
      inside = omega arith;
      present-low = low;
      several-low = low;
      from = λ u cs y o.
          let e = drop_of_length-le (take count cs) {i = count} (omega (arith, length-take count cs)) in
          let parts = ap sizes (sym (take-append-drop count cs)) ∙ sizes-append (take count cs) (drop count cs) in
          record { there = rw e; many = rw e; rest = o ∙ parts };
    }

module _
    {count differ objects : ℕ} {ats : List ℕ} {present several left k : ℕ} (w : CountsDown count differ objects ats present several left k)
    (few : count ≤ 32) where
  -- the place below k
  module _ (h : 0 < k) where
    abbrev here : List Cell → Cell
    here cs = get_or cs (k - 1) (holds [])

    abbrev objects_here : ℕ
    objects_here = (set_in ats (k - 1)).count

    next : suc (k - 1) ≡ k
    next = omega arith

    module _ {u : List ℕ} {cs : List Cell} (y : CellsAre u cs differ ats) where
      long : length cs ≡ 32
      long = sym (length-map cs held) ∙ y.sets.long

      counted : objects_here ≡ length (held (here cs))
      counted = (y.sets.each (k - 1) (omega (arith, w.inside))).count ∙ ap length (held_at cs (k - 1))

      sizes-before : sizes (take k cs) ≡ sizes (take (k - 1) cs) + objects_here
      unfolding sizes
      sizes-before =
          let e = ap sizes (take-suc cs (k - 1) (holds []) (omega (arith, long, w.inside))) ∙ sizes-append (take (k - 1) cs) (here cs ∷ []) in
          ap (λ (n : ℕ). sizes (take n cs)) (sym next) ∙ omega (arith, e, counted, held-size (here cs))

      split-here : drop (k - 1) (take count cs) ≡ here cs ∷ drop k (take count cs)
      split-here =
          drop-cons (take count cs) (k - 1) (holds []) (omega (arith, length-take count cs, long, w.inside))
          ∙ ap₂ (λ (c : Cell) (n : ℕ). c ∷ drop n (take count cs)) (get_or-take count cs (k - 1) (holds []) (omega (arith, w.inside))) next

    -- its objects are among those that are left
    pub counts-few : (m : ShapeMasks) → left < objects_here → CellsFit m count differ objects ats false
    counts-few m l u qs cs versioned n x y o = absurd (omega (arith, (w.from u cs y o).rest, sizes-before y))

    pub counts-more :
        {a b : ℕ} → a ≡ bool_byte (ltb 0 objects_here) → b ≡ bool_byte (ltb 1 objects_here) →
        CountsDown count differ objects ats (2 * present + a) (2 * several + b) (left - objects_here) (k - 1)
    counts-more {a} {b} e f =
        let below : k ≤ 32 = omega (arith, w.inside) in
        record {
          inside = omega (arith, w.inside);
          present-low = bits-more present k a h below w.present-low (bit-low (ltb 0 objects_here) e);
          several-low = bits-more several k b h below w.several-low (bit-low (ltb 1 objects_here) f);
          from = λ u cs y o.
              let x = w.from u cs y o in
              let xs = take count cs in
              let split = split-here y in
              record {
                there =
                    mask-more is_there xs (here cs) k present a split x.there
                    (e ∙ flag-bit (ltb 0 objects_here) ∙ ap (λ (n : ℕ). bit_of (ltb 0 n)) (counted y));
                many =
                    mask-more is_several xs (here cs) k several b split x.many
                    (f ∙ flag-bit (ltb 1 objects_here) ∙ ap (λ (n : ℕ). bit_of (ltb 1 n)) (counted y));
                rest = omega (arith, x.rest, sizes-before y);
              };
        }

  -- the answer, once all places are counted
  module _ (h : k ≤ 0) (m : ShapeMasks) where
    counts_all : CellsFit m count differ objects ats (masks_fit m present several differ && eqb left 0)
    unfolding sizes
    counts_all u qs cs v n x y o =
        let z = w.from u cs y o in
        let front : k ≡ 0 = omega arith in
        let of = masks_of v qs in
        let many = mask_of is_several (take (length qs) cs) in
        let places : (test : Cell → Bool) → mask_of test (drop k (take count cs)) ≡ mask_of test (take (length qs) cs) =
        λ test. ap₂ (λ (i j : ℕ). mask_of test (drop i (take j cs))) front n in
        let beyond : left ≡ sizes (drop (length qs) cs) =
        omega (arith, z.rest, ap₂ (λ (i j : ℕ). sizes (take i cs) + sizes (drop j cs)) front n) in
        ap₂ (λ (a : Bool) (i : ℕ). a && eqb i 0) (masks-same x present several differ) beyond
        ∙ ap₂ (λ (i j : ℕ). masks_fit of i j differ && eqb (sizes (drop (length qs) cs)) 0) (z.there ∙ places is_there) (z.many ∙ places is_several)
        ∙ ap (λ (i : ℕ). masks_fit of (mask_of is_there (take (length qs) cs)) many i && eqb (sizes (drop (length qs) cs)) 0) y.bits
        ∙ sym (cells-masks v qs cs (omega (arith, n, length-map cs held, y.sets.long)))

    pub counts-over : (left ≡ 0 → ⊥) → CellsFit m count differ objects ats false
    counts-over e u qs cs v n x y o =
        sym (ap (λ (b : Bool). masks_fit m present several differ && b) (ne_eqb left 0 e) ∙ and-false (masks_fit m present several differ))
        ∙ counts_all u qs cs v n x y o

    pub counts-fit : left ≡ 0 → {r : Bool} → r ≡ masks_fit m present several differ → CellsFit m count differ objects ats r
    counts-fit e a u qs cs v n x y o =
        a
        ∙ sym (ap (λ (b : Bool). masks_fit m present several differ && b) (eq-eqb left 0 e) ∙ and-true (masks_fit m present several differ))
        ∙ counts_all u qs cs v n x y o
