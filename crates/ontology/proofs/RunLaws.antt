-- The laws of so many of a layout, read one by one: what was read, then what is left, gives the whole. And of places in lists.
use mathlib.Core.Path.{◌≡◌, refl, sym, ap, ◌∙◌, subst}
use mathlib.Core.Logic.{◌⊎◌, inl, inr}
use mathlib.Core.Bool.{Bool, true, false, cond}
use mathlib.Core.Option.{none, some}
use mathlib.Core.List.{List, [], ◌∷◌, ◌++◌, append_assoc}
use Prim.Native.Nat.{ℕ, zero, suc, ◌+◌, ◌-◌, ◌≤◌, ◌<◌}
use native.Mathlib.Omega.{arith}
use lib.ListN.{length, get_elem?}
use Rattle.model.proofs.Cases.{never}
use Rattle.packed.specs.Parse.{All, Parse, fail, got, Layout, and_then, found_if, such_that, times}
use Rattle.packed.proofs.LayoutLaws.{and_then-got}

-- what is read is what was read before, and then what is read next
abbrev pub prepend : {A : Type 0} → List A → Parse (List A) → Parse (List A)
prepend vs fail = fail
prepend vs (got ws t) = got (vs ++ ws) t

pub prepend-nil : {A : Type 0} (p : Parse (List A)) → p ≡ prepend [] p
prepend-nil fail = refl
prepend-nil (got ws t) = refl

pub prepend-two : {A : Type 0} (xs ys : List A) (p : Parse (List A)) → prepend xs (prepend ys p) ≡ prepend (xs ++ ys) p
prepend-two xs ys fail = refl
prepend-two xs ys (got ws t) = ap (λ (l : List _). got l t) (sym (append_assoc xs ys ws))

pub prepend-one :
    {A : Type 0} (vs : List A) (v : A) (p : Parse (List A)) → prepend vs (and_then p (λ ws t. got (v ∷ ws) t)) ≡ prepend (vs ++ (v ∷ [])) p
prepend-one vs v fail = refl
prepend-one vs v (got ws t) = ap (λ (l : List _). got l t) (sym (append_assoc vs (v ∷ []) ws))

module _ {A : Type 0} (p : Layout A) where
  -- one more: its reading, and then the others
  times-by :
      (n : ℕ) (s : List ℕ) {q : Parse A} → p s ≡ q → times p (suc n) s ≡ and_then q (λ a r. and_then (times p n r) (λ xs u. got (a ∷ xs) u))
  unfolding times
  times-by n s e = ap (λ (q : Parse A). and_then q (λ a r. and_then (times p n r) (λ xs u. got (a ∷ xs) u))) e

  -- the same where j of n are read
  pub times-left :
      (n j : ℕ) (s : List ℕ) → j < n → {q : Parse A} → p s ≡ q →
      times p (n - j) s ≡ and_then q (λ a r. and_then (times p (n - (j + 1)) r) (λ xs u. got (a ∷ xs) u))
  times-left n j s h e = let one_more : n - j ≡ suc (n - (j + 1)) = omega arith in ap (λ (k : ℕ). times p k s) one_more ∙ times-by (n - (j + 1)) s e

  times-one : (n : ℕ) (s : List ℕ) (a : A) (t : List ℕ) → p s ≡ got a t → times p (suc n) s ≡ prepend (a ∷ []) (times p n t)
  times-one n s a t e = times-by n s e ∙ go (times p n t)
    where
      go : (q : Parse (List A)) → and_then q (λ xs u. got (a ∷ xs) u) ≡ prepend (a ∷ []) q
      go fail = refl
      go (got xs u) = refl

  not_none : (n : ℕ) (s : List ℕ) → 0 < n → times p n s ≡ times p (suc (n - 1)) s
  not_none n s h = ap (λ (k : ℕ). times p k s) (let z : n ≡ suc (n - 1) = omega arith in z)

  times_more : (n : ℕ) (s : List ℕ) (a : A) (t : List ℕ) → 0 < n → p s ≡ got a t → times p n s ≡ prepend (a ∷ []) (times p (n - 1) t)
  times_more n s a t h e = not_none n s h ∙ times-one (n - 1) s a t e

  times-stop : (n : ℕ) (s : List ℕ) → 0 < n → p s ≡ fail → times p n s ≡ fail
  times-stop n s h e = not_none n s h ∙ times-by (n - 1) s e

  pub times-end : (n : ℕ) (s : List ℕ) → n ≡ 0 → times p n s ≡ got [] s
  unfolding times
  times-end n s h = rw h

  pub times-length : (n : ℕ) (s : List ℕ) (xs : List A) (r : List ℕ) → times p n s ≡ got xs r → length xs ≡ n
  unfolding times
  times-length zero s xs r e = let a : [] ≡ xs = cc in sym (ap length a)
  times-length (suc n) s xs r e =
      let c = and_then-got (p s) _ xs r e in
      let d = and_then-got (times p n c.left) _ xs r c.second in
      let a : c.value ∷ d.value ≡ xs = cc d.second in
      sym (ap length a) ∙ ap suc (times-length n c.left d.value d.left d.first)

  -- the first of them was read
  pub times-first : (n : ℕ) (s : List ℕ) (x : A) (xs : List A) (r : List ℕ) → times p n s ≡ got (x ∷ xs) r → (t : List ℕ) × (p s ≡ got x t)
  unfolding times
  times-first zero s x xs r e = never (cc)
  times-first (suc n) s x xs r e =
      let c = and_then-got (p s) _ (x ∷ xs) r e in
      let d = and_then-got (times p n c.left) _ (x ∷ xs) r c.second in
      let a : c.value ≡ x = cc d.second in
      (c.left, c.first ∙ ap (λ (y : A). got y c.left) a)

-- ---- so many that pass a test together

-- a test may be said in another way
such-same :
    {A : Type 0} (t u : List A → Bool) (q : Parse (List A)) → ((xs : List A) → t xs ≡ u xs) →
    and_then q (λ xs. found_if (t xs) xs) ≡ and_then q (λ xs. found_if (u xs) xs)
such-same t u fail h = refl
such-same t u (got xs r) h = ap (λ (b : Bool). cond b (got xs r) fail) (h xs)

module _ {A : Type 0} (p : Layout A) (t : List A → Bool) (n : ℕ) (s : List ℕ) where
  -- what `times` reads, tested
  tested : {q : Parse (List A)} → times p n s ≡ q → such_that t (times p n) s ≡ and_then q (λ xs. found_if (t xs) xs)
  tested e = ap (λ (q : Parse (List A)). and_then q (λ xs. found_if (t xs) xs)) e

  pub such-stop : 0 < n → p s ≡ fail → such_that t (times p n) s ≡ fail
  such-stop h e = tested (times-stop p n s h e)

  pub such-end : n ≡ 0 → t [] ≡ true → such_that t (times p n) s ≡ got [] s
  such-end h k = tested (times-end p n s h) ∙ ap (λ (b : Bool). cond b (got [] s) fail) k

  module _ (a : A) (r : List ℕ) (h : 0 < n) (e : p s ≡ got a r) where
    -- the test of those after the first is what is left of the whole test
    pub such-more :
        (u : List A → Bool) → ((xs : List A) → t (a ∷ xs) ≡ u xs) →
        such_that t (times p n) s ≡ prepend (a ∷ []) (such_that u (times p (n - 1)) r)
    such-more u k =
        tested (times_more p n s a r h e)
        ∙ go (times p (n - 1) r)
        ∙ ap (prepend (a ∷ [])) (such-same (λ xs. t (a ∷ xs)) u (times p (n - 1) r) k)
      where
        test : (b : Bool) (xs : List A) (v : List ℕ) → cond b (got (a ∷ xs) v) fail ≡ prepend (a ∷ []) (cond b (got xs v) fail)
        test true xs v = refl
        test false xs v = refl

        go :
            (q : Parse (List A)) →
            and_then (prepend (a ∷ []) q) (λ xs. found_if (t xs) xs) ≡ prepend (a ∷ []) (and_then q (λ xs. found_if (t (a ∷ xs)) xs))
        go fail = refl
        go (got xs v) = test (t (a ∷ xs)) xs v

    -- where the first does not pass, no list that begins with it does
    pub such-bad : ((xs : List A) → t (a ∷ xs) ≡ false) → such_that t (times p n) s ≡ fail
    such-bad k = such-more (λ xs. false) k ∙ go (times p (n - 1) r)
      where
        go : (q : Parse (List A)) → prepend (a ∷ []) (and_then q (λ xs. found_if false xs)) ≡ fail
        go fail = refl
        go (got xs v) = refl

-- ---- places in a list

pub no-element : {A : Type 0} (xs : List A) (i : ℕ) → length xs ≤ i → get_elem? xs i ≡ none
no-element [] i h = refl
no-element (x ∷ xs) zero h = absurd (omega arith)
no-element (x ∷ xs) (suc i) h = no-element xs i (omega arith)

-- what each element is, the one at a place is
pub all-at : {A : Type 0} (ok : A → Type 0) (xs : List A) → All ok xs → (i : ℕ) (x : A) → get_elem? xs i ≡ some x → ok x
all-at ok [] h i x e = never (cc)
all-at ok (y ∷ xs) h zero x e = let q : y ≡ x = cc in subst ok q h.0
all-at ok (y ∷ xs) h (suc i) x e = all-at ok xs h.1 i x e

-- an element of a list with one more at its end
pub snoc-at :
    {A : Type 0} (xs : List A) (y : A) (i : ℕ) (q : A) → get_elem? (xs ++ (y ∷ [])) i ≡ some q →
    ((i < length xs) × (get_elem? xs i ≡ some q)) ⊎ ((i ≡ length xs) × (y ≡ q))
snoc-at [] y zero q e = inr (refl, cc)
snoc-at [] y (suc i) q e = let z : ◌≡◌ {A = ℕ} 0 1 = cc in absurd (omega arith)
snoc-at (x ∷ xs) y zero q e = inl (omega arith, e)
snoc-at (x ∷ xs) y (suc i) q e = go (snoc-at xs y i q e)
  where
    go :
        ((i < length xs) × (get_elem? xs i ≡ some q)) ⊎ ((i ≡ length xs) × (y ≡ q)) →
        ((suc i < length (x ∷ xs)) × (get_elem? (x ∷ xs) (suc i) ≡ some q)) ⊎ ((suc i ≡ length (x ∷ xs)) × (y ≡ q))
    go (inl h) = inl (omega (arith, h.0), h.1)
    go (inr h) = inr (ap suc h.0, h.1)
