-- Numbers of one kind are in the order of their signs, then lengths, then bytes; so equal numbers have equal bytes.
-- Assumes nothing.
use mathlib.Core.Path.{◌≡◌, refl, sym, ap, ap₂, ◌∙◌}
use mathlib.Core.Logic.{⊎_elim}
use mathlib.Core.Bool.{Bool, true, false, cond, ◌&&◌, ◌||◌}
use mathlib.Core.List.{[], ◌∷◌, ◌++◌}
use Prim.Native.Nat.compare
use Prim.Native.Nat.{ℕ, zero, suc, ◌+◌, ◌-◌, ◌*◌, ◌^◌, ◌≤◌, ◌<◌, compare, Ordering}
use native.Mathlib.Omega.{arith}
use lib.Dec.{ltb, leb, eqb}
use lib.ListN.{length, drop, take-append-drop, length-append}
use borrow.Author.Tests.{lt-ltb, le-ltb, ne_eqb, ltb-true, eqb-true}
use Rattle.model.specs.Order.{Text, texts, numbers, lists, lex, pick, nat-same, ranked, rank_cmp, from, integers, integer_cmp}
use Rattle.model.proofs.Cases.{three}
use Rattle.model.proofs.OrderLaws.{lt-compare, gt-compare, eq-compare, compare-lt, compare-gt, rank-decides}
use Rattle.packed.proofs.LayoutLaws.{lt-or-ge}
use Rattle.values.specs.Decimal.{are_digits, numeral_after, numeral, is_natural, in_decimal, is_negative, magnitude}
use Rattle.values.specs.Spaces.{Kind, unsigned, signed, decimal, currency, sequence, datetime, boolean, string, hex, is_unsigned, is_signed, whole_part}
use Rattle.values.specs.Spaces.{point_part, is_fraction, unscaled, is_magnitude, is_decimal, is_of_kind}
use Rattle.values.specs.ValueOrder.{minus, with_sign, value_number, value_order}
use Rattle.values.specs.code.NumberAnswer.{is_number, size_order, has_nonzero}
use Rattle.values.proofs.NumeralLaws.{and_left, and_right, digit-least, digits-head, digits_append, natural-digits, natural-nonempty, natural-first}
use Rattle.values.proofs.NumeralLaws.{digits-order, longer-larger, natural-order, size_same, in-decimal-numeral}

-- ---- by length, and then by bytes

pub size_less : (x y : Text) → length x < length y → size_order x y ≡ Ordering.lt
unfolding size_order ranked rank_cmp numbers
size_less x y h = rw (lt-compare (length x) (length y) h)

pub size-more : (x y : Text) → length y < length x → size_order x y ≡ Ordering.gt
unfolding size_order ranked rank_cmp numbers
size-more x y h = rw (gt-compare (length x) (length y) h)

pub size-alike : (x y : Text) → length x ≡ length y → size_order x y ≡ texts.cmp x y
unfolding size_order ranked rank_cmp numbers
size-alike x y h = rw (eq-compare (length x) (length y) h)

-- the same sign in front of both
pub size-minus : (x y : Text) → size_order (45 ∷ x) (45 ∷ y) ≡ size_order x y
unfolding size_order ranked rank_cmp numbers texts lists lex
size-minus x y = rw (compare.suc-suc (length x) (length y))

-- ---- signs

pub negative-cons : (v : Text) → is_negative v ≡ true → v ≡ 45 ∷ magnitude v
unfolding is_negative magnitude
negative-cons [] e = cc
negative-cons (b ∷ v) e = let q : b ≡ 45 = eqb-true b 45 e in rw (e, q)

pub positive-magnitude : (v : Text) → is_negative v ≡ false → magnitude v ≡ v
unfolding is_negative magnitude
positive-magnitude [] e = refl
positive-magnitude (b ∷ v) e = rw e

pub natural-positive : (v : Text) → is_natural v ≡ true → is_negative v ≡ false
unfolding is_negative
natural-positive [] e = refl
natural-positive (b ∷ v) e = let h = digit-least b (digits-head b v (natural-digits (b ∷ v) e)) in ne_eqb b 45 (λ q. omega arith)

-- by sign, then by size, where the smaller of two negative numbers is the one of the larger size
abbrev pub signed_order : Text → Text → Ordering
signed_order a b = cond (is_negative a) (cond (is_negative b) (size_order b a) Ordering.lt) (cond (is_negative b) Ordering.gt (size_order a b))

minus_minus : (m n : ℕ) → 0 < m → 0 < n → integer_cmp (minus m) (minus n) ≡ compare n m
unfolding integer_cmp minus
minus_minus zero n h k = absurd (omega arith)
minus_minus (suc m) zero h k = absurd (omega arith)
minus_minus (suc m) (suc n) h k = sym (compare.suc-suc n m)

minus-from : (m n : ℕ) → 0 < m → integer_cmp (minus m) (from n) ≡ Ordering.lt
unfolding integer_cmp minus
minus-from zero n h = absurd (omega arith)
minus-from (suc m) n h = refl

from-minus : (m n : ℕ) → 0 < n → integer_cmp (from m) (minus n) ≡ Ordering.gt
unfolding integer_cmp minus
from-minus m zero h = absurd (omega arith)
from-minus m (suc n) h = refl

signed-order :
    (a b : Text) (m n : ℕ) → (is_negative a ≡ true → 0 < m) → (is_negative b ≡ true → 0 < n) →
    compare m n ≡ size_order (magnitude a) (magnitude b) → compare n m ≡ size_order (magnitude b) (magnitude a) →
    integer_cmp (with_sign a m) (with_sign b n) ≡ signed_order a b
unfolding with_sign integer_cmp
signed-order a b m n h k o p = go (is_negative a) (is_negative b) refl refl
  where
    go :
        (s t : Bool) → is_negative a ≡ s → is_negative b ≡ t →
        integer_cmp (cond (is_negative a) (minus m) (from m)) (cond (is_negative b) (minus n) (from n)) ≡ signed_order a b
    go true true e f = rw (e, f)
        (minus_minus m n (h e) (k f) ∙ p ∙ sym (size-minus (magnitude b) (magnitude a))
        ∙ ap₂ size_order (sym (negative-cons b f)) (sym (negative-cons a e)))
    go true false e f = rw (e, f) (minus-from m n (h e))
    go false true e f = rw (e, f) (from-minus m n (k f))
    go false false e f = rw (e, f) (o ∙ ap₂ size_order (positive-magnitude a e) (positive-magnitude b f))

signed_same : (a b : Text) → signed_order a b ≡ Ordering.eq → a ≡ b
signed_same a b e = go (is_negative a) (is_negative b) e
  where
    go : (s t : Bool) → cond s (cond t (size_order b a) Ordering.lt) (cond t Ordering.gt (size_order a b)) ≡ Ordering.eq → a ≡ b
    go true true e = sym (size_same b a e)
    go true false e = cc
    go false true e = cc
    go false false e = size_same a b e

-- ---- decimals

-- a decimal without its sign, taken apart
pub record Fixed (after : ℕ) (m : Text) : Type 0 where
  pub whole : Text
  pub fraction : Text
  pub text : m ≡ whole ++ 46 ∷ fraction
  pub natural : is_natural whole ≡ true
  pub long : length fraction ≡ after
  pub digits : are_digits fraction ≡ true
  pub number : unscaled after m ≡ numeral (whole ++ fraction)

split-fixed :
    (after : ℕ) (m w p : Text) → m ≡ w ++ p → unscaled after m ≡ numeral (w ++ drop 1 p) → is_natural w ≡ true →
    is_fraction after p ≡ true →
    Fixed after m
unfolding is_fraction
split-fixed after m w [] t u n e = let z : ◌≡◌ {A = ℕ} 0 1 = cc in absurd (omega arith)
split-fixed after m w (b ∷ f) t u n e =
    let pointed = and_left (eqb b 46 && eqb (length f) after) _ e in
    record {
      whole = w;
      fraction = f;
      text = t ∙ ap (λ (c : ℕ). w ++ c ∷ f) (eqb-true b 46 (and_left (eqb b 46) _ pointed));
      natural = n;
      long = eqb-true (length f) after (and_right (eqb b 46) _ pointed);
      digits = and_right (eqb b 46 && eqb (length f) after) _ e;
      number = u;
    }

pub fixed : (total after : ℕ) (m : Text) → is_magnitude total after m ≡ true → Fixed after m
unfolding is_magnitude unscaled whole_part point_part
fixed total after m e =
    let p = is_natural (whole_part after m) in
    let q = leb (length (whole_part after m)) (total - after) in
    split-fixed after m (whole_part after m) (point_part after m) (sym (take-append-drop (length m - (after + 1)) m)) refl
    (and_left p q (and_left (p && q) _ e))
    (and_right (p && q) _ e)

-- a point at one place in both does not matter
point-order : (w f u g : Text) → length w ≡ length u → texts.cmp (w ++ f) (u ++ g) ≡ texts.cmp (w ++ 46 ∷ f) (u ++ 46 ∷ g)
unfolding texts lists lex numbers
point-order [] f [] g e = refl
point-order [] f (b ∷ u) g e = absurd (omega arith)
point-order (a ∷ w) f [] g e = absurd (omega arith)
point-order (a ∷ w) f (b ∷ u) g e = ap (λ (o : Ordering). pick (compare a b) Ordering.lt o Ordering.gt) (point-order w f u g (omega arith))

all_digits : (w f : Text) → is_natural w ≡ true → are_digits f ≡ true → are_digits (w ++ f) ≡ true
all_digits w f n d = digits_append w f (natural-digits w n) d

whole-longer :
    (w f u g : Text) → is_natural w ≡ true → is_natural u ≡ true → are_digits f ≡ true → are_digits g ≡ true → length f ≡ length g →
    length w < length u →
    numeral (w ++ f) < numeral (u ++ g)
whole-longer w f [] g n p d s e h = absurd (omega arith)
whole-longer w f (b ∷ u) g n p d s e h =
    longer-larger (w ++ f) b (u ++ g) (all_digits w f n d) (all_digits (b ∷ u) g p s)
    (natural-first b u p (omega (arith, natural-nonempty w n)))
    (omega (arith, length-append w f, length-append u g))

point-size-order :
    (w f u g : Text) → is_natural w ≡ true → is_natural u ≡ true → are_digits f ≡ true → are_digits g ≡ true → length f ≡ length g →
    compare (numeral (w ++ f)) (numeral (u ++ g)) ≡ size_order (w ++ 46 ∷ f) (u ++ 46 ∷ g)
point-size-order w f u g n p d s e =
    let i = length-append w (46 ∷ f) in
    let j = length-append u (46 ∷ g) in
    three (compare (length w) (length u))
    (λ l. let h = compare-lt (length w) (length u) l in
    lt-compare (numeral (w ++ f)) (numeral (u ++ g)) (whole-longer w f u g n p d s e h) ∙ sym (size_less (w ++ 46 ∷ f) (u ++ 46 ∷ g) (omega arith)))
    (λ q. let h = nat-same (length w) (length u) q in
    digits-order (w ++ f) (u ++ g) (all_digits w f n d) (all_digits u g p s)
    (omega (arith, length-append w f, length-append u g))
    ∙ point-order w f u g h ∙ sym (size-alike (w ++ 46 ∷ f) (u ++ 46 ∷ g) (omega arith)))
    (λ l. let h = compare-gt (length w) (length u) l in
    gt-compare (numeral (w ++ f)) (numeral (u ++ g)) (whole-longer u g w f p n s d (sym e) h) ∙ sym (size-more (w ++ 46 ∷ f) (u ++ 46 ∷ g) (omega arith)))

pub fixed-order : {after : ℕ} {x y : Text} → Fixed after x → Fixed after y → compare (unscaled after x) (unscaled after y) ≡ size_order x y
fixed-order p q =
    ap₂ compare p.number q.number
    ∙ point-size-order p.whole p.fraction q.whole q.fraction p.natural q.natural p.digits q.digits (p.long ∙ sym q.long)
    ∙ ap₂ size_order (sym p.text) (sym q.text)

nonzero-after : (n : ℕ) (v : Text) → ltb 0 (numeral_after n v) ≡ ltb 0 n || has_nonzero v
unfolding numeral_after has_nonzero
nonzero-after n [] = go (ltb 0 n)
  where
    go : (t : Bool) → t ≡ t || false
    go true = refl
    go false = refl
nonzero-after n (b ∷ v) =
    nonzero-after (10 * n + (b - 48)) v
    ∙ ⊎_elim (λ (h : 0 < n). rw (lt-ltb 0 n h, lt-ltb 0 (10 * n + (b - 48)) (omega arith)))
    (λ (h : n ≤ 0).
    let zero = le-ltb 0 n h in
    ⊎_elim (λ (k : 48 < b). rw (zero, lt-ltb 48 b k, lt-ltb 0 (10 * n + (b - 48)) (omega arith)))
    (λ (k : b ≤ 48). rw (zero, le-ltb 48 b k, le-ltb 0 (10 * n + (b - 48)) (omega arith)))
    (lt-or-ge 48 b))
    (lt-or-ge 0 n)

-- a number is not 0 where some digit is not
pub numeral-nonzero : (v : Text) → ltb 0 (numeral v) ≡ has_nonzero v
unfolding numeral
numeral-nonzero v = nonzero-after 0 v

point-nonzero : (w f : Text) → has_nonzero (w ++ 46 ∷ f) ≡ has_nonzero (w ++ f)
unfolding has_nonzero
point-nonzero [] f = refl
point-nonzero (b ∷ w) f = ap (λ (t : Bool). ltb 48 b || t) (point-nonzero w f)

pub fixed-nonzero : {after : ℕ} {m : Text} → Fixed after m → ltb 0 (unscaled after m) ≡ has_nonzero m
fixed-nonzero p =
    ap (ltb 0) p.number ∙ numeral-nonzero (p.whole ++ p.fraction) ∙ sym (point-nonzero p.whole p.fraction) ∙ ap has_nonzero (sym p.text)

-- ---- kinds 1 to 5

pub unsigned-natural : (width : ℕ) (v : Text) → is_unsigned width v ≡ true → is_natural v ≡ true
unfolding is_unsigned
unsigned-natural width v e = and_left _ _ e

pub unsigned-below : (width : ℕ) (v : Text) → is_unsigned width v ≡ true → numeral v < 2 ^ (8 * width)
unfolding is_unsigned
unsigned-below width v e = ltb-true (numeral v) (2 ^ (8 * width)) (and_right (is_natural v) _ e)

-- each sequence value is its number in decimal
pub in-decimal-sequence : (v : Text) → is_unsigned 8 v ≡ true → in_decimal (numeral v) ≡ v
in-decimal-sequence v e = let h = unsigned-below 8 v e in in-decimal-numeral v (unsigned-natural 8 v e) (omega arith)

unsigned-numbers :
    (width : ℕ) (a b : Text) → is_unsigned width a ≡ true → is_unsigned width b ≡ true → compare (numeral a) (numeral b) ≡ signed_order a b
unsigned-numbers width a b p q =
    let h = unsigned-natural width a p in
    let k = unsigned-natural width b q in
    rw (natural-positive a h, natural-positive b k) (natural-order a b h k)

signed-natural : (width : ℕ) (v : Text) → is_signed width v ≡ true → is_natural (magnitude v) ≡ true
unfolding is_signed
signed-natural width v e = and_left _ _ e

signed-nonzero : (width : ℕ) (v : Text) → is_signed width v ≡ true → is_negative v ≡ true → 0 < numeral (magnitude v)
unfolding is_signed
signed-nonzero width v e n =
    let q = rw n at (and_right (is_natural (magnitude v)) _ e) in
    ltb-true 0 (numeral (magnitude v)) (and_left _ _ q)

signed-numbers :
    (width : ℕ) (a b : Text) → is_signed width a ≡ true → is_signed width b ≡ true →
    integer_cmp (with_sign a (numeral (magnitude a))) (with_sign b (numeral (magnitude b))) ≡ signed_order a b
signed-numbers width a b p q =
    let in-a = signed-natural width a p in
    let in_b = signed-natural width b q in
    signed-order a b (numeral (magnitude a)) (numeral (magnitude b)) (signed-nonzero width a p) (signed-nonzero width b q)
    (natural-order (magnitude a) (magnitude b) in-a in_b)
    (natural-order (magnitude b) (magnitude a) in_b in-a)

pub decimal-fixed : (total after : ℕ) (sign : Bool) (v : Text) → is_decimal total after sign v ≡ true → Fixed after (magnitude v)
unfolding is_decimal is_magnitude
decimal-fixed total after sign v e = fixed total after (magnitude v) (and_left (is_magnitude total after (magnitude v)) _ e)

decimal-nonzero :
    (total after : ℕ) (sign : Bool) (v : Text) → is_decimal total after sign v ≡ true → is_negative v ≡ true → 0 < unscaled after (magnitude v)
unfolding is_decimal is_magnitude
decimal-nonzero total after sign v e n =
    let q = rw n at (and_right (is_magnitude total after (magnitude v)) _ e) in
    ltb-true 0 (unscaled after (magnitude v)) (and_right sign _ q)

decimal-numbers :
    (total after : ℕ) (sign : Bool) (a b : Text) → is_decimal total after sign a ≡ true → is_decimal total after sign b ≡ true →
    integer_cmp (with_sign a (unscaled after (magnitude a))) (with_sign b (unscaled after (magnitude b))) ≡ signed_order a b
decimal-numbers total after sign a b p q =
    let x = decimal-fixed total after sign a p in
    let y = decimal-fixed total after sign b q in
    signed-order a b (unscaled after (magnitude a)) (unscaled after (magnitude b)) (decimal-nonzero total after sign a p) (decimal-nonzero total after sign b q)
    (fixed-order x y) (fixed-order y x)

-- the numbers of two values of a number kind are in the order of their signs, lengths and bytes
pub number-order :
    (k : Kind) (a b : Text) → is_number k ≡ true → is_of_kind k a ≡ true → is_of_kind k b ≡ true →
    integers.cmp (value_number k a) (value_number k b) ≡ signed_order a b
unfolding integers value_number is_of_kind integer_cmp
number-order (unsigned width) a b n p q = unsigned-numbers width a b p q
number-order (signed width) a b n p q = signed-numbers width a b p q
number-order (decimal total after sign) a b n p q = decimal-numbers total after sign a b p q
number-order currency a b n p q = decimal-numbers 19 4 true a b p q
number-order sequence a b n p q = unsigned-numbers 8 a b p q
number-order datetime a b n p q = cc
number-order boolean a b n p q = cc
number-order (string most) a b n p q = cc
number-order (hex bytes) a b n p q = cc

-- "so equal values have equal bytes"
pub equal-number-equal-bytes :
    (k : Kind) (a b : Text) → is_number k ≡ true → is_of_kind k a ≡ true → is_of_kind k b ≡ true → value_number k a ≡ value_number k b →
    a ≡ b
equal-number-equal-bytes k a b n p q e =
    signed_same a b (sym (number-order k a b n p q) ∙ ap (integers.cmp (value_number k a)) (sym e) ∙ integers.self (value_number k a))

-- the number alone decides the order
pub value-order-signed :
    (k : Kind) (a b : Text) → is_number k ≡ true → is_of_kind k a ≡ true → is_of_kind k b ≡ true → (value_order k).cmp a b ≡ signed_order a b
unfolding value_order ranked
value-order-signed k a b n p q = rank-decides (value_number k) integers texts a b (equal-number-equal-bytes k a b n p q) ∙ number-order k a b n p q
