-- Hex digits, kinds by their numbers, and the order and the choice of values.
-- Assumes nothing.
use mathlib.Core.Path.{◌≡◌, refl, sym, ap, subst, ◌∙◌}
use mathlib.Core.Logic.{⊎_elim}
use mathlib.Core.Bool.{Bool, true, false, cond, not, ◌&&◌}
use mathlib.Core.Option.{some}
use mathlib.Core.List.{[], ◌∷◌}
use Prim.Native.Nat.{ℕ, ◌+◌, ◌<◌, ◌≤◌, compare, Ordering}
use native.Mathlib.Omega.{arith}
use lib.Dec.{leb, eqb}
use lib.ListN.{length, get_or, take, drop, drop_of_length-le}
use borrow.Author.Tests.{le-leb, leb-true}
use Rattle.model.specs.Order.{Text, texts, lists, numbers, lex, equal, pick, reversed}
use Rattle.model.specs.Keyed.{put, merge}
use Rattle.model.specs.Sets.{union}
use Rattle.packed.proofs.LayoutLaws.{lt-or-ge}
use Rattle.packed.proofs.ReadLaws.{drop-next}
use Rattle.packed.specs.Ascii.{ascii}
use Rattle.values.specs.Calendar.{instant}
use Rattle.values.specs.Spaces.{Kind, unsigned, signed, decimal, currency, sequence, datetime, boolean, string, hex}
use Rattle.values.specs.Spaces.{is_hex_digit, are_hex_digits, is_of_kind, in_space}
use Rattle.values.specs.Spaces.{kind_number, unsigned_number, string_number}
use Rattle.values.specs.ValueOrder.{is_ordered, value_number, value_order, extreme_order}
use Rattle.values.specs.code.KindNumbers.{kind_of, size_parameter, after_parameter, sign_parameter}
use Rattle.model.proofs.Cases.{three, and-true}
use Rattle.model.proofs.OrderLaws.{equal-true, equal-false}
use Rattle.values.specs.code.LowBytes.{AllLow}
use Rattle.values.proofs.UnicodeLaws.{low-utf8}
use Rattle.values.proofs.NumeralLaws.{and_right}
use Rattle.values.proofs.NumberOrderLaws.{equal-number-equal-bytes}
use Rattle.values.proofs.InstantLaws.{equal-instant-equal-bytes}

-- ---- hex digits

module _ (v : Text) (i : ℕ) (same : are_hex_digits v ≡ are_hex_digits (drop i v)) where
  module _ (h : i < length v) {t : Bool} (told : t ≡ is_hex_digit (get_or v i 0)) where
    hex-step : are_hex_digits (drop i v) ≡ (t && are_hex_digits (drop (i + 1) v))
    unfolding are_hex_digits
    hex-step = rw (drop-next v i h, told)

    pub hex-other : t ≡ false → false ≡ are_hex_digits v
    hex-other e = sym (same ∙ hex-step ∙ rw e)

    pub hex-more : t ≡ true → are_hex_digits v ≡ are_hex_digits (drop (i + 1) v)
    hex-more e = same ∙ hex-step ∙ rw e

  pub hex-end : length v ≤ i → true ≡ are_hex_digits v
  unfolding are_hex_digits
  hex-end h = sym (same ∙ rw (drop_of_length-le v h))

-- ---- two texts, byte by byte

equal-cons : (b f : ℕ) (v t : Text) → equal texts (b ∷ v) (f ∷ t) ≡ (eqb b f && equal texts v t)
unfolding equal texts lists lex numbers
equal-cons b f v t = three (compare b f) (λ l. rw l) (λ s. rw s) (λ g. rw g)

-- v has the bytes of t from i on
abbrev pub has_at : Text → ℕ → Text → Bool
has_at v i [] = true
has_at v i (f ∷ t) = eqb (get_or v i 0) f && has_at v (i + 1) t

equal-from : (t v : Text) (i : ℕ) → length v ≡ i + length t → equal texts (drop i v) t ≡ has_at v i t
equal-from [] v i h = rw (drop_of_length-le v {i = i} (omega arith)) ((equal-true texts [] []).1 refl)
equal-from (f ∷ t) v i h =
    rw (drop-next v i (omega arith), equal-cons (get_or v i 0) f (drop (i + 1) v) t)
    (ap (λ (r : Bool). eqb (get_or v i 0) f && r) (equal-from t v (i + 1) (omega arith)))

equal-other : (v t : Text) → (length v ≡ length t → ⊥) → equal texts v t ≡ false
equal-other v t h = (equal-false texts v t).1 (λ e. h (ap length e))

module _ (v : Text) where
  pub equal_true : length v ≡ 4 → equal texts v (ascii "true") ≡ has_at v 0 (ascii "true")
  unfolding ascii
  equal_true h = equal-from (ascii "true") v 0 (omega arith)

  pub not_true : (length v ≡ 4 → ⊥) → equal texts v (ascii "true") ≡ false
  unfolding ascii
  not_true h = equal-other v (ascii "true") h

  pub equal_false : length v ≡ 5 → equal texts v (ascii "false") ≡ has_at v 0 (ascii "false")
  unfolding ascii
  equal_false h = equal-from (ascii "false") v 0 (omega arith)

  pub not_false : (length v ≡ 5 → ⊥) → equal texts v (ascii "false") ≡ false
  unfolding ascii
  not_false h = equal-other v (ascii "false") h

pub ruleset booleans = (equal_true, not_true, equal_false, not_false)

-- ---- kinds by their numbers

pub kind-numbered : (k : Kind) → kind_of (kind_number k) (size_parameter k) (after_parameter k) (sign_parameter k) ≡ some k
unfolding kind_of
kind-numbered (unsigned width) = refl
kind-numbered (signed width) = refl
kind-numbered (decimal total after true) = refl
kind-numbered (decimal total after false) = refl
kind-numbered currency = refl
kind-numbered sequence = refl
kind-numbered datetime = refl
kind-numbered boolean = refl
kind-numbered (string most) = refl
kind-numbered (hex bytes) = refl

pub kind-least : (k : Kind) → unsigned_number ≤ kind_number k
kind-least (unsigned width) = omega arith
kind-least (signed width) = omega arith
kind-least (decimal total after sign) = omega arith
kind-least currency = omega arith
kind-least sequence = omega arith
kind-least datetime = omega arith
kind-least boolean = omega arith
kind-least (string most) = omega arith
kind-least (hex bytes) = omega arith

pub of-kind : (k : Kind) (v : Text) → in_space k v ≡ true → is_of_kind k v ≡ true
unfolding in_space
of-kind k v e = and_right (leb 1 (length v) && leb (length v) 120) (is_of_kind k v) e

-- ---- order and choice

-- a string of bytes below 0x80 is told by its length
pub short-string : (most : ℕ) (v : Text) → AllLow v → (leb 1 (length v) && leb (length v) 120 && leb (length v) most) ≡ in_space (string most) v
unfolding in_space is_of_kind
short-string most v low = rw (low-utf8 v low, and-true (leb (length v) most)) refl

kind-string : (size after sign : ℕ) → kind_of string_number size after sign ≡ some (string size)
unfolding kind_of
kind-string size after sign = refl

-- what has the number of strings is one
pub is-string-kind : (kind size after sign : ℕ) (k : Kind) → kind ≡ string_number → kind_of kind size after sign ≡ some k → string size ≡ k
is-string-kind kind size after sign k n e =
    let told : kind_of string_number size after sign ≡ some (string size) = kind-string size after sign in
    cc

pub is-datetime-kind : (k : Kind) → kind_number k ≡ kind_number datetime → k ≡ datetime
is-datetime-kind (unsigned width) e = absurd (omega arith)
is-datetime-kind (signed width) e = absurd (omega arith)
is-datetime-kind (decimal total after sign) e = absurd (omega arith)
is-datetime-kind currency e = absurd (omega arith)
is-datetime-kind sequence e = absurd (omega arith)
is-datetime-kind datetime e = refl
is-datetime-kind boolean e = absurd (omega arith)
is-datetime-kind (string most) e = absurd (omega arith)
is-datetime-kind (hex bytes) e = absurd (omega arith)

pub ordered-low : (k : Kind) → is_ordered k ≡ true → kind_number k ≤ kind_number datetime
unfolding is_ordered
ordered-low k h = leb-true (kind_number k) (kind_number datetime) h

-- "Kinds 1 to 6 are ordered by their numbers or instants, so equal values have equal bytes."
pub equal-values-equal-bytes :
    (k : Kind) (a b : Text) → is_ordered k ≡ true → in_space k a ≡ true → in_space k b ≡ true → value_number k a ≡ value_number k b → a ≡ b
unfolding is_of_kind value_number
equal-values-equal-bytes k a b n p q e = ⊎_elim
    (λ (l : kind_number k < kind_number datetime).
    equal-number-equal-bytes k a b (le-leb (kind_number k) (kind_number sequence) (omega arith)) (of-kind k a p) (of-kind k b q) e)
    (λ (g : kind_number datetime ≤ kind_number k).
    subst (λ (x : Kind). is_of_kind x a ≡ true → is_of_kind x b ≡ true → value_number x a ≡ value_number x b → a ≡ b)
    (sym (is-datetime-kind k (omega (arith, ordered-low k n)))) (datetimes a b) (of-kind k a p) (of-kind k b q) e)
    (lt-or-ge (kind_number k) (kind_number datetime))
  where
    datetimes : (a b : Text) → is_of_kind datetime a ≡ true → is_of_kind datetime b ≡ true → value_number datetime a ≡ value_number datetime b →
        a ≡ b
    datetimes a b p q e = let s : instant a ≡ instant b = cc in equal-instant-equal-bytes a b p q s

pub chosen :
    (largest : Bool) (k : Kind) (x y : Text) (o : Ordering) → (value_order k).cmp x y ≡ o →
    cond (pick o (not largest) true largest) x y ∷ [] ≡ take 1 (union (extreme_order largest k) (x ∷ []) (y ∷ []))
unfolding union merge put reversed
chosen true k x y Ordering.lt e = rw ((value_order k).turn x y, e)
chosen true k x y Ordering.eq e = rw ((value_order k).turn x y, e)
chosen true k x y Ordering.gt e = rw ((value_order k).turn x y, e)
chosen false k x y Ordering.lt e = rw e
chosen false k x y Ordering.eq e = rw e
chosen false k x y Ordering.gt e = rw e

-- the answer of the test takes the first, or the second
module _
    (largest : Bool) (k : Kind) (x y : Text) {o : Ordering} {t : Bool} (order : o ≡ (value_order k).cmp x y)
    (told : t ≡ pick o (not largest) true largest)
  where
    taken : cond t x y ∷ [] ≡ take 1 (union (extreme_order largest k) (x ∷ []) (y ∷ []))
    taken = ap (λ (s : Bool). cond s x y ∷ []) told ∙ chosen largest k x y o (sym order)

    pub chosen-first : t ≡ true → x ∷ [] ≡ take 1 (union (extreme_order largest k) (x ∷ []) (y ∷ []))
    chosen-first e = rw e at taken

    pub chosen-second : t ≡ false → y ∷ [] ≡ take 1 (union (extreme_order largest k) (x ∷ []) (y ∷ []))
    chosen-second e = rw e at taken
