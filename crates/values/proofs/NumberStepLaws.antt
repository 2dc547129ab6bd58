-- What the definitions say in the terms of the code on numbers: at an index, of a part, of a width, after a call's answer.
-- Assumes nothing.
use mathlib.Core.Path.{◌≡◌, refl, sym, ap, ◌∙◌}
use mathlib.Core.Logic.{⊎_elim}
use mathlib.Core.Bool.{Bool, true, false, not, ◌&&◌}
use mathlib.Core.List.{List, [], ◌∷◌}
use Prim.Native.Nat.{ℕ, ◌+◌, ◌-◌, ◌≤◌, ◌<◌, compare, Ordering}
use native.Mathlib.Omega.{arith}
use lib.Dec.{ltb, leb, eqb}
use lib.ListN.{length, get_or, take, drop, length-drop}
use lib.Seq.{length-take-le}
use borrow.Author.Tests.{lt-ltb, le-ltb, le-leb, lt-leb, eq-eqb, ne_eqb}
use Rattle.model.specs.Order.{Text, pick, nat-same}
use Rattle.model.proofs.Cases.{three, and-false, and-true}
use Rattle.model.proofs.OrderLaws.{compare-lt, compare-gt}
use Rattle.packed.proofs.LayoutLaws.{lt-or-ge}
use Rattle.packed.proofs.ReadLaws.{drop-next, to_end}
use Rattle.values.specs.Decimal.{are_digits, numeral, is_natural, is_negative, magnitude}
use Rattle.values.specs.Spaces.{whole_part, point_part, is_fraction, unscaled, is_magnitude, is_decimal}
use Rattle.values.specs.code.NumberAnswer.{size_order, has_nonzero}
use Rattle.values.proofs.NumeralLaws.{digit-least, digits-head, natural-digits, natural-first, natural-nonempty, natural-order}
use Rattle.values.proofs.NumberOrderLaws.{negative-cons, positive-magnitude, numeral-nonzero, fixed, fixed-nonzero}

-- the order by length and then by bytes tells whether a natural numeral is below another
pub less-told :
    (a b : Text) {o : Ordering} → o ≡ size_order a b → is_natural a ≡ true → is_natural b ≡ true →
    pick o true false false ≡ ltb (numeral a) (numeral b)
less-told a b told p q = ap (λ (o : Ordering). pick o true false false) (told ∙ sym (natural-order a b p q)) ∙ go (numeral a) (numeral b)
  where
    go : (m n : ℕ) → pick (compare m n) true false false ≡ ltb m n
    go m n =
        three (compare m n)
        (λ l. rw l (sym (lt-ltb m n (compare-lt m n l))))
        (λ s. rw (s, nat-same m n s) (sym (le-ltb n n (omega arith))))
        (λ g. let h = compare-gt m n g in rw g (sym (le-ltb m n (omega arith))))

-- ---- integers

pub natural_zero : (m : List ℕ) → is_natural m ≡ true → ltb 0 (numeral m) ≡ not (eqb (get_or m 0 0) 48)
unfolding has_nonzero
natural_zero [] n = absurd (omega (arith, natural-nonempty [] n))
natural_zero (b ∷ m) n =
    let h = digit-least b (digits-head b m (natural-digits (b ∷ m) n)) in
    numeral-nonzero (b ∷ m) ∙ ⊎_elim
    (λ (l : 48 < b). rw (lt-ltb 48 b l, ne_eqb b 48 (λ e. omega arith)))
    (λ (g : b ≤ 48). rw (le-ltb 48 b g, eq-eqb b 48 (omega arith)) (zero-rest g m n))
    (lt-or-ge 48 b)
  where
    zero-rest : b ≤ 48 → (m : List ℕ) → is_natural (b ∷ m) ≡ true → has_nonzero m ≡ false
    zero-rest g [] n = refl
    zero-rest g (c ∷ m) n = absurd (omega (arith, natural-first b (c ∷ m) n (omega arith)))

-- ---- the minus sign

negative-first : (v : Text) → 1 ≤ length v → is_negative v ≡ eqb (get_or v 0 0) 45
unfolding is_negative
negative-first [] h = absurd (omega arith)
negative-first (b ∷ v) h = refl

positive-first : (v : Text) → (get_or v 0 0 ≡ 45 → ⊥) → is_negative v ≡ false
unfolding is_negative
positive-first [] h = refl
positive-first (b ∷ v) h = ne_eqb b 45 h

-- what follows it
negative-rest : (v : Text) → is_negative v ≡ true → take (length v - 1) (drop 1 v) ≡ magnitude v
negative-rest v e = to_end v 1 ∙ ap (drop 1) (negative-cons v e)

-- ---- decimals

-- by whether the first byte is a minus sign
module _ (total after : ℕ) (sign : Bool) (v : Text) where
  pub decimal-negative :
      1 ≤ length v → get_or v 0 0 ≡ 45 →
      let m = take (length v - 1) (drop 1 v) in
      is_decimal total after sign v ≡ (sign && (has_nonzero m && is_magnitude total after m))
  unfolding is_decimal
  decimal-negative h e = let n = negative-first v h ∙ eq-eqb (get_or v 0 0) 45 e in
      rw (negative-rest v n, n) (go (is_magnitude total after (magnitude v)) sign refl)
    where
      go :
          (t s : Bool) → is_magnitude total after (magnitude v) ≡ t →
          t && (s && ltb 0 (unscaled after (magnitude v))) ≡ s && (has_nonzero (magnitude v) && t)
      go false false f = refl
      go false true f = sym (and-false (has_nonzero (magnitude v)))
      go true false f = refl
      go true true f = fixed-nonzero (fixed total after (magnitude v) f) ∙ sym (and-true (has_nonzero (magnitude v)))

  pub decimal-positive : (get_or v 0 0 ≡ 45 → ⊥) → is_decimal total after sign v ≡ is_magnitude total after v
  unfolding is_decimal
  decimal-positive h = let n = positive-first v h in rw (n, positive-magnitude v n) (and-true (is_magnitude total after v))

  pub decimal-empty : length v < 1 → is_decimal total after sign v ≡ is_magnitude total after v
  decimal-empty h = decimal-positive (λ e. first v h e)
    where
      first : (v : Text) → length v < 1 → get_or v 0 0 ≡ 45 → ⊥
      first [] h e = omega arith
      first (b ∷ v) h e = omega arith

pub ruleset signs = (decimal-negative, decimal-positive, decimal-empty)

fraction-cons : (after b : ℕ) (v : Text) → length v ≡ after → is_fraction after (b ∷ v) ≡ eqb b 46 && are_digits v
unfolding is_fraction
fraction-cons after b v h = rw (eq-eqb (length v) after h) (ap (λ (t : Bool). t && are_digits v) (and-true (eqb b 46)))

module _ (total after : ℕ) (m : List ℕ) where
  pub magnitude-short : length m < after + 1 → is_magnitude total after m ≡ false
  unfolding is_magnitude whole_part is_natural
  magnitude-short h = let e : length m - (after + 1) ≡ 0 = omega arith in rw e

  -- by its length, its point, and what stands before and after the point
  pub magnitude-told :
      after + 1 ≤ length m →
      let point = length m - (after + 1) in
      is_magnitude total after m
      ≡ (leb (length m) (total + 1)
      && (eqb (get_or m point 0) 46 && (is_natural (take point m) && are_digits (take (length m - (point + 1)) (drop (point + 1) m)))))
  unfolding is_magnitude whole_part point_part is_natural
  magnitude-told h =
      let point = length m - (after + 1) in
      rw (length-take-le point m (omega arith), drop-next m point (omega arith), to_end m (point + 1))
      (rw (fraction-cons after (get_or m point 0) (drop (point + 1) m) (omega (arith, length-drop (point + 1) m)))
      (⊎_elim
      (λ (l : 0 < point). rw (room l) (turn (is_natural (take point m)) (leb (length m) (total + 1)) (eqb (get_or m point 0) 46) _))
      (λ (g : point ≤ 0). let e : point ≡ 0 = omega arith in
      rw (none e) (turn false (leb (length m) (total + 1)) (eqb (get_or m point 0) 46) (are_digits (drop (point + 1) m))))
      (lt-or-ge 0 point)))
    where
      turn : (a b e d : Bool) → (a && b) && (e && d) ≡ (b && (e && (a && d)))
      turn true true e d = refl
      turn true false e d = refl
      turn false true true d = refl
      turn false true false d = refl
      turn false false e d = refl

      none : length m - (after + 1) ≡ 0 → is_natural (take (length m - (after + 1)) m) ≡ false
      none e = rw e

      room : 0 < length m - (after + 1) → leb (length m - (after + 1)) (total - after) ≡ leb (length m) (total + 1)
      room l =
          ⊎_elim
          (λ (k : total + 1 < length m). rw (lt-leb (length m - (after + 1)) (total - after) (omega arith), lt-leb (length m) (total + 1) k))
          (λ (k : length m ≤ total + 1). rw (le-leb (length m - (after + 1)) (total - after) (omega arith), le-leb (length m) (total + 1) k))
          (lt-or-ge (total + 1) (length m))

pub ruleset magnitudes = (magnitude-short, magnitude-told)
