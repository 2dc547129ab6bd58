-- The values of a name among the strings of a hash text: they are the set of the property that has the name, and sorting the strings sorts them, since strings
-- of one name are in the order of their values.
use mathlib.Core.Path.{◌≡◌, refl, sym, ap, ap₂, ◌∙◌, subst}
use mathlib.Core.Bool.{Bool, true, false, cond}
use mathlib.Core.Option.{some}
use mathlib.Core.List.{List, [], ◌∷◌, ◌++◌, append-nil, append_assoc, map}
use Prim.Native.Nat.{Ordering}
use Prim.Native.Nat.{ℕ, zero, suc}
use lib.ListN.{get_or, get_elem?}
use Rattle.model.specs.Order.{Text, texts, numbers, lists, lex, equal, nat-self}
use Rattle.model.specs.Sorting.{insert, sorted}
use Rattle.model.proofs.Cases.{never, truth, three}
use Rattle.model.proofs.OrderLaws.{equal-true, equal-false}
use Rattle.model.proofs.SortLaws.{Apart, Ascends, sorted-ascends, sorted_all}
use Rattle.packed.proofs.LayoutLaws.{All}
use Rattle.ontology.specs.Table.{Property, is_match}
use Rattle.hashing.specs.HashText.{object_string, object_strings}
use Rattle.hashing.specs.ReadHashText.{before, after, values_of}
use Rattle.hashing.proofs.CutLaws.{Without, string-cut, IsString}

-- ---- the values of a name among strings in the order of places

module _ (name : Text) where
  values-append : (xs ys : List Text) → values_of name (xs ++ ys) ≡ values_of name xs ++ values_of name ys
  unfolding values_of
  values-append [] ys = refl
  values-append (x ∷ xs) ys =
      let here = cond (equal texts (before 58 x) name) (after 58 x ∷ []) [] in
      ap (λ (r : List Text). here ++ r) (values-append xs ys) ∙ sym (append_assoc here (values_of name xs) (values_of name ys))

  values-cons : (v : Text) (xs : List Text) → Without 58 name → values_of name (object_string name v ∷ xs) ≡ v ∷ values_of name xs
  unfolding values_of
  values-cons v xs h = let (n, u) = string-cut name v h in rw (n, u, (equal-true texts name name).1 refl)

  values_same : (s : List Text) → Without 58 name → values_of name (map (object_string name) s) ≡ s
  unfolding values_of
  values_same [] h = refl
  values_same (v ∷ s) h = values-cons v (map (object_string name) s) h ∙ ap (λ (r : List Text). v ∷ r) (values_same s h)

  values_other : (b : Bool) (m : Text) (s : List Text) → Without 58 m → (m ≡ name → ⊥) → values_of name (cond b (map (object_string m) s) []) ≡ []
  unfolding values_of
  values_other false m s h d = refl
  values_other true m [] h d = refl
  values_other true m (v ∷ s) h d = rw ((string-cut m v h).0, (equal-false texts m name).1 d) (values_other true m s h d)

  -- a name that none of the properties has
  values-none :
      (ps : List Property) (ss : List (List Text)) → All (λ (q : Property). Without 58 q.name) ps →
      All (λ (m : Text). name ≡ m → ⊥) (map (λ (q : Property). q.name) ps) → values_of name (object_strings ps ss) ≡ []
  unfolding values_of object_strings
  values-none [] ss c d = refl
  values-none (p ∷ ps) [] c d = refl
  values-none (p ∷ ps) (s ∷ ss) c d =
      values-append (cond (is_match p) (map (object_string p.name) s) []) (object_strings ps ss)
      ∙ ap₂ (λ (x y : List Text). x ++ y)
      (values_other (is_match p) p.name s c.0 (λ e. d.0 (sym e))) (values-none ps ss c.1 d.1)

all_named : (P : Text → Type 0) (ps : List Property) → All P (map (λ (q : Property). q.name) ps) →
    (i : ℕ) (q : Property) → get_elem? ps i ≡ some q → P q.name
all_named P [] h i q e = never (cc)
all_named P (p ∷ ps) h zero q e = let k : p ≡ q = cc in rw (← k) h.0
all_named P (p ∷ ps) h (suc i) q e = all_named P ps h.1 i q e

-- the values of a match property's name are its set
pub values-at :
    (ps : List Property) (ss : List (List Text)) → All (λ (q : Property). Without 58 q.name) ps → Apart (map (λ (q : Property). q.name) ps) →
    (i : ℕ) (q : Property) → get_elem? ps i ≡ some q → is_match q ≡ true → values_of q.name (object_strings ps ss) ≡ get_or ss i []
unfolding values_of object_strings Apart
values-at [] ss c d i q e m = never (cc)
values-at (p ∷ ps) [] c d i q e m = refl
values-at (p ∷ ps) (s ∷ ss) c d zero q e m =
    let k : p ≡ q = cc in
    let y : is_match p ≡ true = rw k m in
    rw (← k, y)
    (values-append p.name (map (object_string p.name) s) (object_strings ps ss)
    ∙ ap₂ (λ (x z : List Text). x ++ z) (values_same p.name s c.0) (values-none p.name ps ss c.1 d.0)
    ∙ append-nil s)
values-at (p ∷ ps) (s ∷ ss) c d (suc i) q e m =
    values-append q.name (cond (is_match p) (map (object_string p.name) s) []) (object_strings ps ss)
    ∙ ap₂ (λ (x z : List Text). x ++ z)
    (values_other q.name (is_match p) p.name s c.0 (all_named (λ n. p.name ≡ n → ⊥) ps d.0 i q e))
    (values-at ps ss c.1 d.1 i q e m)

-- ---- sorted

order-values : (name v u : Text) → texts.cmp (object_string name v) (object_string name u) ≡ texts.cmp v u
unfolding texts lists lex numbers
order-values [] v u = refl
order-values (c ∷ name) v u = rw (nat-self c) (order-values name v u)

module _ (name : Text) (colonless : Without 58 name) where
  abbrev is_of : Text → Bool
  is_of x = equal texts (before 58 x) name

  -- a string of the name
  string-of : (x : Text) → IsString x → is_of x ≡ true → x ≡ object_string name (after 58 x)
  string-of x s y = s.parts ∙ ap (λ (n : Text). object_string n (after 58 x)) ((equal-true texts (before 58 x) name).0 y)

  order-of : (v x : Text) → IsString x → is_of x ≡ true → texts.cmp (object_string name v) x ≡ texts.cmp v (after 58 x)
  order-of v x s y = ap (λ (z : Text). texts.cmp (object_string name v) z) (string-of x s y) ∙ order-values name v (after 58 x)

  -- of another name: it is passed over, wherever it stands
  values-past : (a : Text) → is_of a ≡ false → (xs : List Text) → values_of name (insert texts a xs) ≡ values_of name xs
  unfolding insert values_of
  values-past a n [] = rw n
  values-past a n (b ∷ xs) =
      three (texts.cmp a b)
      (λ l. rw (l, n))
      (λ e. rw (e, n))
      (λ g. rw g (ap (λ (r : List Text). cond (is_of b) (after 58 b ∷ []) [] ++ r) (values-past a n xs)))

  -- a value whose string comes after none of the others comes after none of theirs
  values-first :
      (v : Text) (xs : List Text) → All IsString xs → All (λ x. texts.cmp (object_string name v) x ≡ Ordering.gt → ⊥) xs →
      insert texts v (values_of name xs) ≡ v ∷ values_of name xs
  unfolding insert values_of
  values-first v [] s h = refl
  values-first v (x ∷ xs) s h =
      truth (is_of x)
      (λ y.
      let u = after 58 x in
      rw y (three (texts.cmp v u) (λ l. rw l) (λ e. rw e) (λ g. absurd (h.0 (order-of v x s.0 y ∙ g)))))
      (λ n. rw n (values-first v xs s.1 h.1))

  values-insert :
      (v : Text) (xs : List Text) → All IsString xs → Ascends texts (insert texts (object_string name v) xs) →
      values_of name (insert texts (object_string name v) xs) ≡ insert texts v (values_of name xs)
  unfolding insert values_of Ascends
  values-insert v [] s h = values-cons name v [] colonless
  values-insert v (b ∷ xs) s h =
      let a = object_string name v in
      let all = b ∷ xs in
      let front : All (λ x. texts.cmp a x ≡ Ordering.gt → ⊥) all → values_of name (a ∷ all) ≡ insert texts v (values_of name all) =
      λ k. values-cons name v all colonless ∙ sym (values-first v all s k) in
      three (texts.cmp a b)
      (λ l. let k : Ascends texts (a ∷ b ∷ xs) = rw l at h in rw l (front k.0))
      (λ e. let k : Ascends texts (a ∷ b ∷ xs) = rw e at h in rw e (front k.0))
      (λ g.
      let k : Ascends texts (b ∷ insert texts a xs) = rw g at h in
      let ih = values-insert v xs s.1 k.1 in
      rw g (truth (is_of b)
      (λ y.
      let u = after 58 b in
      let later : texts.cmp v u ≡ Ordering.gt = sym (order-of v b s.0 y) ∙ g in
      rw (y, later) (ap (λ (r : List Text). u ∷ r) ih))
      (λ n. rw n ih)))

  pub values-sorted : (xs : List Text) → All IsString xs → values_of name (sorted texts xs) ≡ sorted texts (values_of name xs)
  unfolding sorted values_of
  values-sorted [] s = refl
  values-sorted (x ∷ xs) s =
      let ih = values-sorted xs s.1 in
      truth (is_of x)
      (λ y.
      let u = after 58 x in
      let is = string-of x s.0 y in
      let up : Ascends texts (insert texts (object_string name u) (sorted texts xs)) =
      subst (λ (z : Text). Ascends texts (insert texts z (sorted texts xs))) is (sorted-ascends texts (x ∷ xs)) in
      rw y
      (ap (λ (z : Text). values_of name (insert texts z (sorted texts xs))) is
      ∙ values-insert u (sorted texts xs) (sorted_all texts IsString xs s.1) up
      ∙ ap (insert texts u) ih))
      (λ n. rw n (values-past x n (sorted texts xs) ∙ ih))
