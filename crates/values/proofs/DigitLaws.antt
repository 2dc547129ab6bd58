-- The laws of reading, comparing and writing a number in decimal, digit by digit.
use mathlib.Core.Path.{◌≡◌, refl, sym, ap, ap₂, ◌∙◌}
use mathlib.Core.Logic.{◌⊎◌, inl, inr, ⊎_elim}
use mathlib.Core.Bool.{Bool, true, false, cond}
use mathlib.Core.List.{List, [], ◌∷◌, ◌++◌, append_assoc}
use Prim.Native.Nat.{ℕ, zero, suc, ◌+◌, ◌-◌, ◌*◌, ◌/◌, ◌%◌, ◌^◌, ◌≤◌, ◌<◌}
use native.Mathlib.Nat.{pow-suc, div-lt_iff_lt-mul}
use native.Mathlib.Omega.{arith}
use lib.Dec.{ltb, eqb}
use lib.ListN.{length, drop, get_or, set, length-append, length-drop, drop_of_length-le}
use lib.Seq.{get_or_at, drop-cons}
use borrow.Author.Tests.{lt-ltb, le-ltb, eq-eqb, ne_eqb, eqb-true, eqb-false}
use Rattle.model.specs.Order.{Text, texts, equal}
use Rattle.model.proofs.OrderLaws.{equal-true, equal-false}
use Rattle.packed.specs.code.Written.{Wrote}
use Rattle.packed.proofs.LayoutLaws.{lt-or-ge}
use Rattle.packed.proofs.ReadLaws.{drop-next}
use Rattle.packed.proofs.WriteLaws.{stored, wrote_then, wrote-length}
use Rattle.values.specs.Decimal.{are_digits, numeral_after, numeral, digits_before, in_decimal}
use Rattle.values.proofs.NumeralLaws.{digit-least, digits-head, digits-tail, digits_last, digits_more}

-- ---- the number that digits write

digit_at : (v : Text) (i : ℕ) → are_digits v ≡ true → i < length v → 48 ≤ get_or v i 0
digit_at [] i h l = absurd (omega arith)
digit_at (b ∷ v) zero h l = digit-least b (digits-head b v h)
digit_at (b ∷ v) (suc i) h l = digit_at v i (digits-tail b v h) (omega arith)

after-least : (n : ℕ) (v : Text) → n ≤ numeral_after n v
unfolding numeral_after
after-least n [] = omega arith
after-least n (b ∷ v) = omega (arith, after-least (10 * n + (b - 48)) v)

-- what the digits write is what is left of them writes after the number n
pub record Counted (v : Text) (n i : ℕ) : Type 0 where
  pub is : numeral v ≡ numeral_after n (drop i v)
  pub within : i ≤ length v

pub counted_none : (v : Text) → Counted v 0 0
unfolding numeral
counted_none v = record { is = refl; within = omega arith }

module _ {v : Text} {n i : ℕ} (c : Counted v n i) where
  pub counted-digit : are_digits v ≡ true → i < length v → 48 ≤ get_or v i 0
  counted-digit h l = digit_at v i h l

  counted_step : i < length v → numeral v ≡ numeral_after (10 * n + (get_or v i 0 - 48)) (drop (i + 1) v)
  unfolding numeral_after
  counted_step l = c.is ∙ ap (numeral_after n) (drop-next v i l)

  pub counted-small : i < length v → numeral v < 2 ^ 64 → 10 * n + (get_or v i 0 - 48) < 2 ^ 64
  counted-small l h = omega (arith, counted_step l, after-least (10 * n + (get_or v i 0 - 48)) (drop (i + 1) v))

  pub counted-more : i < length v → Counted v (10 * n + (get_or v i 0 - 48)) (i + 1)
  counted-more l = record { is = counted_step l; within = omega arith }

  pub counted-all : length v ≤ i → n ≡ numeral v
  unfolding numeral_after
  counted-all l = sym (c.is ∙ ap (numeral_after n) (drop_of_length-le v l))

-- ---- a number in decimal

digits-before : (f n : ℕ) (v w : Text) → digits_before f n (v ++ w) ≡ digits_before f n v ++ w
unfolding digits_before
digits-before zero n v w = refl
digits-before (suc f) n v w =
    ⊎_elim (λ (l : n < 10). rw (lt-ltb n 10 l))
    (λ (g : 10 ≤ n). rw (le-ltb n 10 g) (digits-before f (n / 10) ((48 + n % 10) ∷ v) w))
    (lt-or-ge n 10)

-- room for a digit more than there are changes nothing
digits-enough : (f n : ℕ) (v : Text) → n < 10 ^ suc f → digits_before (suc (suc f)) n v ≡ digits_before (suc f) n v
digits-enough zero n v h = digits_last 1 n v h ∙ sym (digits_last 0 n v h)
digits-enough (suc f) n v h =
    ⊎_elim (λ (l : n < 10). digits_last (suc (suc f)) n v l ∙ sym (digits_last (suc f) n v l))
    (λ (g : 10 ≤ n).
    digits_more (suc (suc f)) n v g
    ∙ (digits-enough f (n / 10) ((48 + n % 10) ∷ v) ((div-lt_iff_lt-mul (omega arith)).1 (rw pow-suc at h))
    ∙ sym (digits_more (suc f) n v g)))
    (lt-or-ge n 10)

digits-length : (f n : ℕ) (v : Text) → length (digits_before f n v) ≤ f + length v
unfolding digits_before
digits-length zero n v = omega arith
digits-length (suc f) n v =
    ⊎_elim (λ (l : n < 10). rw (lt-ltb n 10 l) (omega arith))
    (λ (g : 10 ≤ n). rw (le-ltb n 10 g) (omega (arith, digits-length f (n / 10) ((48 + n % 10) ∷ v))))
    (lt-or-ge n 10)

pub decimal-length : (n : ℕ) → length (in_decimal n) ≤ 20
unfolding in_decimal
decimal-length n = digits-length 20 n []

decimal-last : (n : ℕ) → n < 10 → in_decimal n ≡ (48 + n) ∷ []
unfolding in_decimal
decimal-last n h = digits_last 19 n [] h

decimal-more : (n : ℕ) → 10 ≤ n → n < 10 ^ 20 → in_decimal n ≡ in_decimal (n / 10) ++ ((48 + n % 10) ∷ [])
unfolding in_decimal
decimal-more n g h =
    digits_more 19 n [] g
    ∙ (digits-before 19 (n / 10) [] ((48 + n % 10) ∷ [])
    ∙ ap (λ (v : Text). v ++ ((48 + n % 10) ∷ [])) (sym (digits-enough 18 (n / 10) [] ((div-lt_iff_lt-mul (omega arith)).1 h))))

below-twenty : (n : ℕ) → n < 2 ^ 64 → n < 10 ^ 20
below-twenty n h = omega arith

-- ---- a text that is compared with a number in decimal, from the last digit back

same_or : (a b : ℕ) → (a ≡ b) ⊎ (a ≡ b → ⊥)
same_or a b = go (eqb a b) refl
  where
    go : (t : Bool) → eqb a b ≡ t → (a ≡ b) ⊎ (a ≡ b → ⊥)
    go true e = inl (eqb-true a b e)
    go false e = inr (eqb-false a b e)

-- what stands before t, one digit at least
record Before (d t : Text) : Type 0 where
  front : Text
  is : d ≡ front ++ t

before : (most n : ℕ) (t : Text) → Before (digits_before most n t) t
unfolding digits_before
before zero n t = record { front = []; is = refl }
before (suc most) n t = go (ltb n 10) (before most (n / 10) ((48 + n % 10) ∷ t))
  where
    go :
        (b : Bool) → Before (digits_before most (n / 10) ((48 + n % 10) ∷ t)) ((48 + n % 10) ∷ t) →
        Before (cond b ((48 + n) ∷ t) (digits_before most (n / 10) ((48 + n % 10) ∷ t))) t
    go true w = record { front = (48 + n) ∷ []; is = refl }
    go false w = record { front = w.front ++ ((48 + n % 10) ∷ []); is = w.is ∙ sym (append_assoc w.front ((48 + n % 10) ∷ []) t) }

-- The digits of m are still to be compared with those of v before k; there are fewer than 20 less those that were
pub record Left (v : Text) (n m k : ℕ) : Type 0 where
  pub most : ℕ
  pub is : equal texts v (in_decimal n) ≡ equal texts v (digits_before (suc most) m (drop k v))
  pub small : m < 10 ^ suc most
  pub within : k ≤ length v

pub left-all : (v : Text) (n : ℕ) → n < 2 ^ 64 → Left v n n (length v)
unfolding in_decimal
left-all v n h =
    record {
      most = 19;
      is = ap (λ (t : Text). equal texts v (digits_before 20 n t)) (sym (drop_of_length-le v (omega arith)));
      small = omega arith;
      within = omega arith;
    }

module _ {v : Text} {n m k : ℕ} (w : Left v n m k) where
  not_equal : (d : Text) → (v ≡ d → ⊥) → equal texts v d ≡ false
  not_equal d h = (equal-false texts v d).1 h

  -- m has a digit before its last
  module _ (h : 9 < m) where
    one_less : (f : ℕ) → m < 10 ^ suc f → suc (f - 1) ≡ f
    one_less zero l = absurd (omega arith)
    one_less (suc f) l = omega arith

    abbrev last : Text
    last = (48 + m % 10) ∷ drop k v

    step : equal texts v (in_decimal n) ≡ equal texts v (digits_before w.most (m / 10) last)
    step = w.is ∙ ap (equal texts v) (digits_more w.most m (drop k v) (omega arith))

    -- were the two equal, so would be what stands at the place before k
    digit-none : k ≡ 0 → false ≡ equal texts v (in_decimal n)
    digit-none z =
        let b = before w.most (m / 10) last in
        sym
        (step ∙ not_equal (digits_before w.most (m / 10) last) (λ e.
        omega (arith, ap length (e ∙ b.is), length-append b.front last, length-drop k v)))

    module _ (o : k ≡ 0 → ⊥) where
      at-place : (front : Text) → v ≡ front ++ last → get_or v (k - 1) 0 ≡ 48 + m % 10
      at-place front e =
          let l : length front ≡ k - 1 = omega (arith, ap length e, length-append front last, length-drop k v, w.within, o) in
          ap (λ (t : Text). get_or t (k - 1) 0) e ∙ get_or_at front (48 + m % 10) (drop k v) 0 (k - 1) l

      pub digit-other : (get_or v (k - 1) 0 ≡ 48 + m % 10 → ⊥) → false ≡ equal texts v (in_decimal n)
      digit-other ne =
          let b = before w.most (m / 10) last in
          sym (step ∙ not_equal (digits_before w.most (m / 10) last) (λ e. ne (at-place b.front (e ∙ b.is))))

      pub digit-same : get_or v (k - 1) 0 ≡ 48 + m % 10 → Left v n (m / 10) (k - 1)
      digit-same e =
          let f : suc (w.most - 1) ≡ w.most = one_less w.most w.small in
          let l : k - 1 < length v = omega (arith, w.within, o) in
          let g : suc (k - 1) ≡ k = omega (arith, o) in
          let d : drop (k - 1) v ≡ last = drop-cons v (k - 1) 0 l ∙ ap₂ {C = Text} (λ x xs. x ∷ xs) e (ap (λ (i : ℕ). drop i v) g) in
          record {
            most = w.most - 1;
            is = step ∙ ap₂ (λ (a : ℕ) (t : Text). equal texts v (digits_before a (m / 10) t)) (sym f) (sym d);
            small = power f w.small;
            within = omega (arith, w.within);
          }
        where
          power : {f : ℕ} → suc (f - 1) ≡ f → m < 10 ^ suc f → m / 10 < 10 ^ suc (f - 1)
          power {f} g l = let d : m / 10 < 10 ^ f = (div-lt_iff_lt-mul {k = 10} {x = m} {y = 10 ^ f} (omega arith)).1 (rw pow-suc at l) in rw g d

  -- m is one digit
  module _ (h : m ≤ 9) where
    final : equal texts v (in_decimal n) ≡ equal texts v ((48 + m) ∷ drop k v)
    final = w.is ∙ ap (equal texts v) (digits_last w.most m (drop k v) (omega arith))

    pub digit-far : (k ≡ 1 → ⊥) → false ≡ equal texts v (in_decimal n)
    digit-far ne = sym (final ∙ not_equal ((48 + m) ∷ drop k v) (λ e. ne (omega (arith, ap length e, length-drop k v, w.within))))

    pub digit-one : k ≡ 1 → eqb (get_or v 0 0) (48 + m) ≡ equal texts v (in_decimal n)
    digit-one z = sym (final ∙ ap (λ (i : ℕ). equal texts v ((48 + m) ∷ drop i v)) z ∙ go v (omega (arith, w.within)))
      where
        go : (v : Text) → 1 ≤ length v → equal texts v ((48 + m) ∷ drop 1 v) ≡ eqb (get_or v 0 0) (48 + m)
        go [] l = absurd (omega arith)
        go (b ∷ v) l =
            ⊎_elim (λ (e : b ≡ 48 + m). (equal-true texts (b ∷ v) ((48 + m) ∷ v)).1 (ap (λ (x : ℕ). x ∷ v) e) ∙ sym (eq-eqb b (48 + m) e))
            (λ (ne : b ≡ 48 + m → ⊥). (equal-false texts (b ∷ v) ((48 + m) ∷ v)).1 (λ e. ne (cc)) ∙ sym (ne_eqb b (48 + m) ne))
            (same_or b (48 + m))

-- no byte is left for a digit of m
pub digit-empty : {v : Text} {n m k : ℕ} → Left v n m k → k ≡ 0 → false ≡ equal texts v (in_decimal n)
digit-empty {v} {n} {m} w z =
    ⊎_elim (λ (l : 9 < m). digit-none w l z) (λ (g : m ≤ 9). digit-far w g (λ e. omega arith)) (lt-or-ge 9 m)

-- one byte is left for two digits or more
pub digit-short : {v : Text} {n m k : ℕ} → Left v n m k → 9 < m → k ≡ 1 → false ≡ equal texts v (in_decimal n)
digit-short {v} {n} {m} {k} w h z =
    let o : k ≡ 0 → ⊥ = λ e. omega arith in
    ⊎_elim
    (λ (e : get_or v (k - 1) 0 ≡ 48 + m % 10). digit-empty (digit-same w h o e) (omega arith))
    (λ (ne : get_or v (k - 1) 0 ≡ 48 + m % 10 → ⊥). digit-other w h o ne)
    (same_or (get_or v (k - 1) 0) (48 + m % 10))

-- ---- a number that is written in decimal

pub last_fits : (l : List ℕ) (at n : ℕ) → n < 10 → at + length (in_decimal n) ≤ length l → at < length l
last_fits l at n h room = omega (arith, ap length (decimal-last n h))

pub wrote-last : (l : List ℕ) (at n : ℕ) → n < 10 → Wrote l at (in_decimal n) (set l at (48 + n)) (at + 1)
wrote-last l at n h = rw (decimal-last n h) (stored l at (48 + n))

module _ (n : ℕ) (g : 10 ≤ n) (h : n < 2 ^ 64) where
  tenth-then : in_decimal n ≡ in_decimal (n / 10) ++ ((48 + n % 10) ∷ [])
  tenth-then = decimal-more n g (below-twenty n h)

  -- a tenth has a digit less
  tenth-length : length (in_decimal n) ≡ length (in_decimal (n / 10)) + 1
  tenth-length = ap length tenth-then ∙ length-append (in_decimal (n / 10)) ((48 + n % 10) ∷ [])

  pub tenth-fits : (l : List ℕ) (at : ℕ) → at + length (in_decimal n) ≤ length l → at + length (in_decimal (n / 10)) ≤ length l
  tenth-fits l at room = omega (arith, tenth-length)

  module _ {l m : List ℕ} {at next : ℕ} (w : Wrote l at (in_decimal (n / 10)) m next) where
    pub digit-fits : at + length (in_decimal n) ≤ length l → next < length m
    digit-fits room = omega (arith, tenth-length, w.after, wrote-length w)

    pub wrote-more : Wrote l at (in_decimal n) (set m next (48 + n % 10)) (next + 1)
    wrote-more = rw tenth-then (wrote_then w (stored m next (48 + n % 10)))
