-- Reading the fields of a moment, and the laws of its form.
-- Assumes nothing.
use mathlib.Core.Path.{◌≡◌, refl, sym, ap, ap₂, ◌∙◌}
use mathlib.Core.Bool.{Bool, true, false, cond, ◌&&◌, and-false, true≢false, false≢true}
use mathlib.Core.List.{List, [], ◌∷◌, ◌++◌}
use Prim.Native.Nat.{ℕ, zero, suc, ◌+◌, ◌-◌, ◌*◌, ◌≤◌, compare}
use native.Mathlib.Omega.{arith}
use lib.Dec.{eqb}
use lib.ListN.{length, take, drop, drop_of_length-le, take-append-drop}
use lib.Seq.{take-add, drop-drop}
use borrow.Author.Tests.{eqb-true, eqb-false}
use Rattle.std.specs.List.{list_all, zip}
use Rattle.model.specs.Order.{texts, lists, numbers, lex, equal, nat-turn}
use Rattle.model.proofs.Cases.{three}
use Rattle.model.proofs.OrderLaws.{eq-compare}
use Rattle.packed.proofs.ReadLaws.{drop-next}
use Rattle.values.specs.Decimal.{is_digit, are_digits, numeral_after, numeral}
use Rattle.values.specs.Calendar.{has_form, field}
use Rattle.values.proofs.NumeralLaws.{and_left, and_right, digits-order}

-- ---- fields

numeral-append : (n : ℕ) (x y : List ℕ) → numeral_after n (x ++ y) ≡ numeral_after (numeral_after n x) y
unfolding numeral_after
numeral-append n [] y = refl
numeral-append n (b ∷ x) y = numeral-append (10 * n + (b - 48)) x y

after_two : (n : ℕ) (v : List ℕ) (at : ℕ) → at + 2 ≤ length v → numeral_after n (take 2 (drop at v)) ≡ 100 * n + field v at 2
unfolding field numeral numeral_after
after_two n v at h = rw (drop-next v at (omega arith), drop-next v (at + 1) (omega arith)) (omega arith)

-- two digits more
pub field-more :
    (v : List ℕ) (at n : ℕ) {a b : ℕ} → at + n + 2 ≤ length v → a ≡ field v at n → b ≡ field v (at + n) 2 →
    100 * a + b ≡ field v at (n + 2)
unfolding field numeral
field-more v at n h p q =
    rw (p, q)
    (sym
    (ap (numeral_after 0) (take-add n 2 (drop at v)) ∙ numeral-append 0 (take n (drop at v)) (take 2 (drop n (drop at v)))
    ∙ ap (λ (x : List ℕ). numeral_after (numeral_after 0 (take n (drop at v))) (take 2 x)) (drop-drop n at v)
    ∙ after_two (numeral_after 0 (take n (drop at v))) v (at + n) h))

-- a text of a whole second has no fraction
pub field-none : (v : List ℕ) → length v ≤ 20 → field v 20 6 ≡ 0
unfolding field numeral numeral_after
field-none v h = rw (drop_of_length-le v h)

-- ---- forms

abbrev pub fits_form : ℕ → ℕ → Bool
fits_form f b = cond (eqb f 48) (is_digit b) (eqb f b)

pub form-other : (form v : List ℕ) → (length form ≡ length v → ⊥) → has_form form v ≡ false
unfolding has_form
form-other [] [] h = absurd (h refl)
form-other [] (b ∷ v) h = refl
form-other (f ∷ form) [] h = refl
form-other (f ∷ form) (b ∷ v) h = ap (λ (t : Bool). fits_form f b && t) (form-other form v (λ e. h (ap suc e))) ∙ and-false (fits_form f b)

pub form_length : (form v : List ℕ) → has_form form v ≡ true → length form ≡ length v
form_length form v e = go (eqb (length form) (length v)) refl
  where
    go : (t : Bool) → eqb (length form) (length v) ≡ t → length form ≡ length v
    go true p = eqb-true (length form) (length v) p
    go false p = let z : true ≡ false = sym e ∙ form-other form v (eqb-false (length form) (length v) p) in absurd (true≢false z)

-- as many bytes as the form has: each stands where the form has its byte
pub form-pairs : (form v : List ℕ) → length form ≡ length v → list_all (λ p. fits_form p.0 p.1) (zip form v) ≡ has_form form v
unfolding has_form
form-pairs [] [] e = refl
form-pairs [] (b ∷ v) e = absurd (omega arith)
form-pairs (f ∷ form) [] e = absurd (omega arith)
form-pairs (f ∷ form) (b ∷ v) e = ap (λ (t : Bool). fits_form f b && t) (form-pairs form v (omega arith))

-- no 0 among the bytes
abbrev pub plain : List ℕ → Bool
plain [] = true
plain (f ∷ form) = cond (eqb f 48) false (plain form)

-- a form without 0 is a text itself
pub form-text : (form v : List ℕ) → plain form ≡ true → has_form form v ≡ equal texts v form
unfolding has_form equal texts lists numbers lex
form-text [] [] h = refl
form-text [] (b ∷ v) h = refl
form-text (f ∷ form) [] h = refl
form-text (f ∷ form) (b ∷ v) h = go (eqb f 48) refl h (form-text form v)
  where
    go :
        (t : Bool) → eqb f 48 ≡ t → cond t false (plain form) ≡ true → (plain form ≡ true → has_form form v ≡ equal texts v form) →
        has_form (f ∷ form) (b ∷ v) ≡ equal texts (b ∷ v) (f ∷ form)
    go true e q ih = cc
    go false e q ih =
        let turned = nat-turn b f in
        three (compare b f) (λ l. rw (e, turned, l)) (λ s. rw (e, turned, s) (ih q)) (λ g. rw (e, turned, g))

-- ---- parts of a text that has a form

form-drop : (n : ℕ) (form v : List ℕ) → has_form form v ≡ true → has_form (drop n form) (drop n v) ≡ true
unfolding has_form
form-drop zero form v e = e
form-drop (suc n) [] [] e = refl
form-drop (suc n) [] (b ∷ v) e = absurd (false≢true e)
form-drop (suc n) (f ∷ form) [] e = absurd (false≢true e)
form-drop (suc n) (f ∷ form) (b ∷ v) e = form-drop n form v (and_right (fits_form f b) (has_form form v) e)

form-take : (n : ℕ) (form v : List ℕ) → has_form form v ≡ true → has_form (take n form) (take n v) ≡ true
unfolding has_form
form-take zero form v e = refl
form-take (suc n) [] [] e = refl
form-take (suc n) [] (b ∷ v) e = absurd (false≢true e)
form-take (suc n) (f ∷ form) [] e = absurd (false≢true e)
form-take (suc n) (f ∷ form) (b ∷ v) e =
    rw (and_left (fits_form f b) (has_form form v) e) (form-take n form v (and_right (fits_form f b) (has_form form v) e))

pub form-part : (at n : ℕ) (form v : List ℕ) → has_form form v ≡ true → has_form (take n (drop at form)) (take n (drop at v)) ≡ true
form-part at n form v e = form-take n (drop at form) (drop at v) (form-drop at form v e)

-- nothing but 0
abbrev pub zeros : List ℕ → Bool
zeros [] = true
zeros (f ∷ form) = eqb f 48 && zeros form

pub zeros-digits : (form v : List ℕ) → zeros form ≡ true → has_form form v ≡ true → are_digits v ≡ true
unfolding has_form are_digits
zeros-digits [] [] h e = refl
zeros-digits [] (b ∷ v) h e = absurd (false≢true e)
zeros-digits (f ∷ form) [] h e = absurd (false≢true e)
zeros-digits (f ∷ form) (b ∷ v) h e =
    let k : fits_form f b ≡ true = and_left (fits_form f b) (has_form form v) e in
    let d : is_digit b ≡ true = rw (and_left (eqb f 48) (zeros form) h) at k in
    rw d (zeros-digits form v (and_right (eqb f 48) (zeros form) h) (and_right (fits_form f b) (has_form form v) e))

plain-text : (form v : List ℕ) → plain form ≡ true → has_form form v ≡ true → v ≡ form
unfolding equal texts
plain-text form v h e =
    let told = form-text form v h in
    three (texts.cmp v form) (λ l. cc told) (λ s. texts.same v form s) (λ g. cc told)

-- ---- two texts of one form

module _ (form a b : List ℕ) (p : has_form form a ≡ true) (q : has_form form b ≡ true) where
  glue : (at n : ℕ) → take n (drop at a) ≡ take n (drop at b) → drop (at + n) a ≡ drop (at + n) b → drop at a ≡ drop at b
  glue at n e r =
      sym (take-append-drop n (drop at a)) ∙ ap₂ (λ (x y : List ℕ). x ++ y) e (drop-drop n at a ∙ r ∙ sym (drop-drop n at b))
      ∙ take-append-drop n (drop at b)

  -- they agree where the form has no 0
  pub same-mark : (at n : ℕ) → plain (take n (drop at form)) ≡ true → drop (at + n) a ≡ drop (at + n) b → drop at a ≡ drop at b
  same-mark at n h =
      glue at n
      (plain-text (take n (drop at form)) (take n (drop at a)) h (form-part at n form a p)
      ∙ sym (plain-text (take n (drop at form)) (take n (drop at b)) h (form-part at n form b q)))

  -- digits are the same where their numbers are
  pub same-field :
      (at n : ℕ) → zeros (take n (drop at form)) ≡ true → field a at n ≡ field b at n → drop (at + n) a ≡ drop (at + n) b →
      drop at a ≡ drop at b
  unfolding field
  same-field at n h e =
      let x = form-part at n form a p in
      let y = form-part at n form b q in
      glue at n
      (texts.same (take n (drop at a)) (take n (drop at b))
      (sym
      (digits-order (take n (drop at a)) (take n (drop at b)) (zeros-digits (take n (drop at form)) (take n (drop at a)) h x)
      (zeros-digits (take n (drop at form)) (take n (drop at b)) h y)
      (sym (form_length (take n (drop at form)) (take n (drop at a)) x) ∙ form_length (take n (drop at form)) (take n (drop at b)) y))
      ∙ eq-compare (numeral (take n (drop at a))) (numeral (take n (drop at b))) e))
