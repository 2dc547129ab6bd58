-- The laws of comparing match sets by their bytes.
use mathlib.Core.Path.{◌≡◌, refl, sym, ap, ap₂, ◌∙◌, subst}
use mathlib.Core.Bool.{Bool, true, false, cond, not, ◌&&◌, ◌||◌}
use mathlib.Core.Option.{some}
use mathlib.Core.List.{List, [], ◌∷◌, map, flatten}
use Prim.Native.Nat.{ℕ, zero, suc, ◌+◌, ◌^◌, ◌≤◌, ◌<◌}
use native.Mathlib.Omega.{arith}
use native.Mathlib.Numerals.{add-one}
use lib.ListN.{length, drop, get_or, get_elem?, length-append, drop_of_length-le}
use lib.Seq.{drop-cons}
use borrow.Author.Tests.{not-true, not-false}
use Rattle.model.specs.Order.{Text, texts, sets, lists, lex, equal}
use Rattle.model.proofs.Cases.{three}
use Rattle.model.proofs.OrderLaws.{equal-true}
use Rattle.packed.specs.Parse.{got}
use Rattle.packed.specs.Packed.{text, read_text}
use Rattle.packed.proofs.LayoutLaws.{text-read, text-length, number-bounds}
use Rattle.packed.proofs.ReadLaws.{part_length}
use Rattle.ontology.specs.Table.{Property, EventType, is_match}
use Rattle.ontology.specs.code.TypeIndex.{PropertyIs, property_in, PropertiesAre, has_match}
use Rattle.ontology.specs.declared.properties.PropertyAt.{PropertyAt}
use Rattle.ontology.proofs.TypeIndexLaws.{match-of}
use Rattle.event.specs.code.EventIndex.{SetIs, set_in, SetsAre}
use Rattle.event.proofs.SetLaws.{set-read}
use Rattle.event.specs.declared.sets.SetAt.{SetAt}
use Rattle.event.specs.Agreement.{match_sets}

pub bool_iff : (a b : Bool) → (a ≡ true → b ≡ true) → (b ≡ true → a ≡ true) → a ≡ b
bool_iff true b f g = sym (f refl)
bool_iff false true f g = g refl
bool_iff false false f g = refl

-- ---- a set's bytes decide it

flat-more : (v : Text) (vs : List Text) → length (flatten (map text (v ∷ vs))) ≡ length (text v) + length (flatten (map text vs))
unfolding flatten
flat-more v vs = length-append (text v) (flatten (map text vs))

flat-first :
    (v : Text) (vs : List Text) → length (flatten (map text (v ∷ vs))) < 2 ^ 64 →
    read_text (flatten (map text (v ∷ vs))) ≡ got v (flatten (map text vs))
unfolding flatten
flat-first v vs h = text-read v (flatten (map text vs)) (omega (arith, flat-more v vs, text-length v))

flat-same : (vs ws : List Text) → length (flatten (map text vs)) < 2 ^ 64 → flatten (map text vs) ≡ flatten (map text ws) → vs ≡ ws
unfolding flatten
flat-same [] [] h e = refl
flat-same [] (w ∷ ws) h e = absurd (omega (arith, ap length e, flat-more w ws, text-length w, number-bounds (length w)))
flat-same (v ∷ vs) [] h e = absurd (omega (arith, ap length e, flat-more v vs, text-length v, number-bounds (length v)))
flat-same (v ∷ vs) (w ∷ ws) h e =
    let g : got v (flatten (map text vs)) ≡ got w (flatten (map text ws)) = sym (flat-first v vs h) ∙ ap read_text e
    ∙ flat-first w ws (omega (arith, ap length e)) in
    let a : v ≡ w = cc in
    let b : flatten (map text vs) ≡ flatten (map text ws) = cc in
    ap₂ {C = List Text} (λ x xs. x ∷ xs) a (flat-same vs ws (omega (arith, flat-more v vs)) b)

pub flat-equal :
    (vs ws : List Text) → length (flatten (map text vs)) < 2 ^ 64 → equal texts (flatten (map text vs)) (flatten (map text ws)) ≡ equal sets vs ws
flat-equal vs ws h =
    bool_iff (equal texts (flatten (map text vs)) (flatten (map text ws))) (equal sets vs ws)
    (λ e. (equal-true sets vs ws).1 (flat-same vs ws h ((equal-true texts (flatten (map text vs)) (flatten (map text ws))).0 e)))
    (λ e. (equal-true texts (flatten (map text vs)) (flatten (map text ws))).1 (ap (λ (l : List Text). flatten (map text l)) ((equal-true sets vs ws).0 e)))

pub set-short : (s : List ℕ) (vs : List Text) (x : SetAt) → SetIs s vs x → length s < 2 ^ 64 → length (flatten (map text vs)) < 2 ^ 64
set-short s vs x w h = omega (arith, ap length w.bytes, part_length s x.start x.end w.order w.within, w.within)

-- ---- the element of a place

pub record Elem {A : Type 0} (l : List A) (k : ℕ) : Type 0 where
  pub what : A
  pub is : get_elem? l k ≡ some what
  pub split : drop k l ≡ what ∷ drop (k + 1) l

elem-more : {A : Type 0} (a : A) (l : List A) (k : ℕ) → Elem l k → Elem (a ∷ l) (suc k)
elem-more a l k e = record {
  what = e.what;
  is = e.is;
  split = e.split ∙ ap (λ (n : ℕ). e.what ∷ drop n l) (add-one k) ∙ sym (ap (λ (n : ℕ). e.what ∷ drop n (a ∷ l)) (add-one (suc k)));
}

pub elem : {A : Type 0} (l : List A) (k : ℕ) → k < length l → Elem l k
elem [] k h = absurd (omega arith)
elem (a ∷ l) zero h = record { what = a; is = refl; split = ap (λ (n : ℕ). a ∷ drop n (a ∷ l)) (sym (add-one 0)) }
elem (a ∷ l) (suc k) h = elem-more a l k (elem l k (omega arith))

-- ---- the set of a place

module _ (s : List ℕ) (q : Property) (x : PropertyAt) (w : PropertyIs s q x) (b : Bool) where
  by-match : {m : Bool} → has_match x ≡ m → (not m || b) ≡ (not (is_match q) || b)
  by-match h = ap (λ (m : Bool). not m || b) (sym h ∙ match-of w)

  pub place-free : has_match x ≡ false → true ≡ (not (is_match q) || b)
  place-free = by-match

  pub place-held : has_match x ≡ true → b ≡ (not (is_match q) || b)
  place-held = by-match

-- ---- the match sets, from a place on

equal-more : (a b : List Text) (l m : List (List Text)) → equal (lists sets) (a ∷ l) (b ∷ m) ≡ (equal sets a b && equal (lists sets) l m)
unfolding equal lists lex
equal-more a b l m = three (sets.cmp a b) (λ e. rw e) (λ e. rw e) (λ e. rw e)

-- the match sets from place k on, and whether two have the same
abbrev sets_from : EventType → ℕ → List (List Text) → List (List Text)
sets_from ty k xs = match_sets (drop k ty.properties) (drop k xs)

abbrev same_from : EventType → ℕ → List (List Text) → List (List Text) → Bool
same_from ty k xs ys = equal (lists sets) (sets_from ty k xs) (sets_from ty k ys)

module _ (s : List ℕ) (ty : EventType) (n : ℕ) (ps : List ℕ) (w : PropertiesAre s ty.properties n ps) (k : ℕ) (h : k < n) where
  pub this : Elem ty.properties k
  this = elem ty.properties k (omega (arith, w.count))

  pub this-is : PropertyIs s this.what (property_in ps k)
  this-is = w.each k this.what this.is

  module _ (xs ys : List (List Text)) (a : length xs ≡ 32) (b : length ys ≡ 32) where
    here :
        (zs : List (List Text)) → length zs ≡ 32 →
        sets_from ty k zs ≡ cond (is_match this.what) (get_or zs k [] ∷ sets_from ty (k + 1) zs) (sets_from ty (k + 1) zs)
    unfolding match_sets
    here zs l = let m : k < length zs = omega (arith, l, w.few) in rw (this.split, drop-cons zs k [] m, add-one)

    step : same_from ty k xs ys ≡ ((not (is_match this.what) || equal sets (get_or xs k []) (get_or ys k [])) && same_from ty (k + 1) xs ys)
    step = ap₂ (equal (lists sets)) (here xs a) (here ys b) ∙ go (is_match this.what)
      where
        go :
            (m : Bool) → let l = sets_from ty (k + 1) xs in let r = sets_from ty (k + 1) ys in
            equal (lists sets) (cond m (get_or xs k [] ∷ l) l) (cond m (get_or ys k [] ∷ r) r)
            ≡ ((not m || equal sets (get_or xs k []) (get_or ys k [])) && equal (lists sets) l r)
        go true = equal-more (get_or xs k []) (get_or ys k []) (sets_from ty (k + 1) xs) (sets_from ty (k + 1) ys)
        go false = refl

-- ---- the same, of the numbers of a type and of two events

-- so much is known of them
abbrev Matched :
    ℕ → List ℕ → List ℕ → List ℕ → List ℕ → List ℕ → (EventType → List (List Text) → List (List Text) → Type 0) → Type 0
Matched count ps a ats b bts f =
    (s : List ℕ) (ty : EventType) (xs ys : List (List Text)) → PropertiesAre s ty.properties count ps → SetsAre a xs ats →
    SetsAre b ys bts → f ty xs ys

-- the match sets are the same if those from place k on are
pub record SameTo (count : ℕ) (ps a ats b bts : List ℕ) (k : ℕ) : Type 0 where
  same : Matched count ps a ats b bts (λ ty xs ys. same_from ty 0 xs ys ≡ same_from ty k xs ys)

module _ {count : ℕ} {ps a ats b bts : List ℕ} where
  pub same_none : SameTo count ps a ats b bts 0
  same_none = record { same = λ s ty xs ys w u v. refl }

  module _ {k : ℕ} (w : SameTo count ps a ats b bts k) where
    pub same_end : count ≤ k → Matched count ps a ats b bts (λ ty xs ys. true ≡ same_from ty 0 xs ys)
    unfolding match_sets
    same_end h s ty xs ys are u v =
        let l : length ty.properties ≤ k = omega (arith, are.count) in
        sym (w.same s ty xs ys are u v ∙ rw (drop_of_length-le ty.properties l) ((equal-true (lists sets) [] []).1 refl))

    -- r is the answer on the two sets of place k
    module _
        {p : PropertyAt} {x y : SetAt} {r : Bool} (h : k < count) (property : p ≡ property_in ps k) (left : x ≡ set_in ats k) (right : y ≡ set_in bts k)
        (asked : (s : List ℕ) (q : Property) (vs ws : List Text) → PropertyIs s q p → SetIs a vs x → SetIs b ws y →
        r ≡ (not (is_match q) || equal sets vs ws)) where
      next : Matched count ps a ats b bts (λ ty xs ys. same_from ty 0 xs ys ≡ (r && same_from ty (k + 1) xs ys))
      next s ty xs ys are u v =
          let i : k < 32 = omega (arith, are.few) in
          let of-place = subst (PropertyIs s _) (sym property) (this-is s ty count ps are k h) in
          let told = asked s _ _ _ of-place (set-read left (u.each k i)) (set-read right (v.each k i)) in
          w.same s ty xs ys are u v
          ∙ step s ty count ps are k h xs ys u.long v.long
          ∙ ap (λ (c : Bool). c && same_from ty (k + 1) xs ys) (sym told)

      pub same-bad : not r ≡ true → Matched count ps a ats b bts (λ ty xs ys. false ≡ same_from ty 0 xs ys)
      same-bad e s ty xs ys are u v = sym (next s ty xs ys are u v ∙ ap (λ (c : Bool). c && same_from ty (k + 1) xs ys) (not-true r e))

      pub same_more : not r ≡ false → SameTo count ps a ats b bts (k + 1)
      same_more e = record { same = λ s ty xs ys are u v. next s ty xs ys are u v ∙ ap (λ (c : Bool). c && same_from ty (k + 1) xs ys) (not-false r e) }
