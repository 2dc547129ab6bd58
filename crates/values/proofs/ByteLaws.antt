-- No value has a byte from F8 on, whatever its kind: UTF-8 has none, and the values of all other kinds are ASCII.
use mathlib.Core.Path.{◌≡◌, refl}
use mathlib.Core.Logic.{⊎_elim}
use mathlib.Core.Bool.{Bool, true, ◌&&◌}
use mathlib.Core.List.{List, [], ◌∷◌, ◌++◌}
use Prim.Native.Nat.{ℕ, zero, suc, ◌+◌, ◌-◌, ◌*◌, ◌<◌}
use native.Mathlib.Omega.{arith}
use lib.Dec.{leb, ltb, eqb}
use lib.ListN.{length}
use borrow.Author.Tests.{leb-true, ltb-true, eqb-true}
use Rattle.model.specs.Order.{Text, texts, equal}
use Rattle.model.proofs.Cases.{never, truth, and_parts, or-part}
use Rattle.model.proofs.OrderLaws.{equal-true}
use Rattle.packed.specs.Ascii.{ascii}
use Rattle.packed.specs.Parse.{Parse, fail, got}
use Rattle.packed.proofs.LayoutLaws.{All, such_that-got}
use Rattle.values.specs.Decimal.{is_digit, are_digits, magnitude}
use Rattle.values.specs.Calendar.{has_form, whole_second, with_fraction, is_datetime}
use Rattle.values.specs.Unicode.{is_scalar, read_continued, read_sequence, read_scalar, after_scalar, are_scalars, is_utf8}
use Rattle.values.specs.Spaces.{Kind, unsigned, signed, decimal, currency, sequence, datetime, boolean, string, hex, is_signed}
use Rattle.values.specs.Spaces.{is_decimal, is_hex_digit, are_hex_digits, is_of_kind, in_space}
use Rattle.values.proofs.NumeralLaws.{digit-most, digits-head, digits-tail, natural-digits}
use Rattle.values.proofs.NumberOrderLaws.{Fixed, unsigned-natural, decimal-fixed}
use Rattle.values.proofs.CalendarLaws.{fits_form}
use Rattle.values.proofs.InstantLaws.{formed}
use Rattle.values.proofs.SpaceLaws.{of-kind}

-- each byte is below F8
abbrev pub Below : Text → Type 0
Below v = All (λ (b : ℕ). b < 0xf8) v

-- a text that is given passes this test by computing
abbrev are_below : Text → Bool
are_below [] = true
are_below (b ∷ v) = ltb b 0xf8 && are_below v

all-below : (v : Text) → are_below v ≡ true → Below v
all-below [] h = tt
all-below (b ∷ v) h = let (l, rest) = and_parts (ltb b 0xf8) (are_below v) h in (ltb-true b 0xf8 l, all-below v rest)

-- ---- digits, with a sign or a point

digits-below : (v : Text) → are_digits v ≡ true → Below v
digits-below [] h = tt
digits-below (b ∷ v) h = (omega (arith, digit-most b (digits-head b v h)), digits-below v (digits-tail b v h))

append-below : (v w : Text) → Below v → Below w → Below (v ++ w)
append-below [] w h k = k
append-below (b ∷ v) w h k = (h.0, append-below v w h.1 k)

sign_below : (v : Text) → Below (magnitude v) → Below v
unfolding magnitude
sign_below [] h = tt
sign_below (b ∷ v) h = truth (eqb b 45) (λ e. (omega (arith, eqb-true b 45 e), rw e at h)) (λ e. rw e at h)

fixed-below : {after : ℕ} {m : Text} → Fixed after m → Below m
fixed-below f =
    let before = digits-below f.whole (natural-digits f.whole f.natural) in
    rw f.text (append-below f.whole (46 ∷ f.fraction) before (omega arith, digits-below f.fraction f.digits))

decimal-below : (total after : ℕ) (sign : Bool) (v : Text) → is_decimal total after sign v ≡ true → Below v
decimal-below total after sign v h = sign_below v (fixed-below (decimal-fixed total after sign v h))

-- ---- forms and hex digits

form-below : (form v : Text) → are_below form ≡ true → has_form form v ≡ true → Below v
unfolding has_form
form-below [] [] b h = tt
form-below [] (c ∷ v) b h = never (cc)
form-below (f ∷ form) [] b h = never (cc)
form-below (f ∷ form) (c ∷ v) b h =
    let (low, lows) = and_parts (ltb f 0xf8) (are_below form) b in
    let (fits, rest) = and_parts (fits_form f c) (has_form form v) h in (
      truth (eqb f 48)
          (λ e. omega (arith, digit-most c (rw e at fits)))
          (λ e. omega (arith, ltb-true f 0xf8 low, eqb-true f c (rw e at fits))),
      form-below form v lows rest,
    )

hex-below : (v : Text) → are_hex_digits v ≡ true → Below v
unfolding are_hex_digits is_hex_digit
hex-below [] h = tt
hex-below (b ∷ v) h =
    let (d, rest) = and_parts (is_hex_digit b) (are_hex_digits v) h in (
      truth (is_digit b)
          (λ y. omega (arith, digit-most b y))
          (λ n. omega (arith, leb-true b 102 (and_parts (leb 97 b) _ (or-part (is_digit b) _ d n)).1)),
      hex-below v rest,
    )

-- ---- UTF-8

continued-below : (k n : ℕ) (s : List ℕ) (m : ℕ) (r : List ℕ) → read_continued k n s ≡ got m r → Below r → Below s
unfolding read_continued
continued-below zero n s m r e h = let q : s ≡ r = cc in rw q h
continued-below (suc k) n [] m r e h = never (cc)
continued-below (suc k) n (b ∷ s) m r e h = truth (leb 0x80 b && ltb b 0xc0)
    (λ t. (omega (arith, ltb-true b 0xc0 (and_parts (leb 0x80 b) _ t).1), continued-below k (64 * n + (b - 0x80)) s m r (rw t at e) h))
    (λ t. let z : fail ≡ got m r = rw t at e in never (cc))

-- a lead byte below F8, and the bytes after it
sequence-below :
    (k least n a : ℕ) (s : List ℕ) (m : ℕ) (r : List ℕ) → a < 0xf8 → read_sequence k least n s ≡ got m r → Below r → Below (a ∷ s)
unfolding read_sequence
sequence-below k least n a s m r l e h = (l, continued-below k n s m r (such_that-got (λ x. leb least x && is_scalar x) (read_continued k n) s m r e).was h)

scalar_below : (a : ℕ) (s : List ℕ) (m : ℕ) (r : List ℕ) → read_scalar (a ∷ s) ≡ got m r → Below r → Below (a ∷ s)
unfolding read_scalar
scalar_below a s m r e h = truth (ltb a 0x80)
    (λ t. let q : s ≡ r = cc (rw t at e) in (omega (arith, ltb-true a 0x80 t), rw q h))
    (λ f. truth (leb 0xc0 a && ltb a 0xe0)
    (λ t. sequence-below 1 0x80 (a - 0xc0) a s m r (omega (arith, ltb-true a 0xe0 (and_parts (leb 0xc0 a) _ t).1)) (rw (f, t) at e) h)
    (λ g. truth (leb 0xe0 a && ltb a 0xf0)
    (λ t. sequence-below 2 0x800 (a - 0xe0) a s m r (omega (arith, ltb-true a 0xf0 (and_parts (leb 0xe0 a) _ t).1)) (rw (f, g, t) at e) h)
    (λ i. truth (leb 0xf0 a && ltb a 0xf8)
    (λ t. sequence-below 3 0x10000 (a - 0xf0) a s m r (ltb-true a 0xf8 (and_parts (leb 0xf0 a) _ t).1) (rw (f, g, i, t) at e) h)
    (λ t. let z : fail ≡ got m r = rw (f, g, i, t) at e in never (cc)))))

scalars-below : (most : ℕ) (v : List ℕ) → are_scalars most v ≡ true → Below v
unfolding are_scalars
scalars-below zero [] h = tt
scalars-below zero (b ∷ v) h = never (cc)
scalars-below (suc most) [] h = tt
scalars-below (suc most) (b ∷ v) h = go (read_scalar (b ∷ v)) refl h (λ r k. scalars-below most r k)
  where
    go :
        (p : Parse ℕ) → read_scalar (b ∷ v) ≡ p → after_scalar (are_scalars most) p ≡ true →
        ((r : List ℕ) → are_scalars most r ≡ true → Below r) → Below (b ∷ v)
    go fail e h rest = never (cc)
    go (got n r) e h rest = scalar_below b v n r e (rest r h)

-- ---- every kind

datetime-below : (v : Text) → is_datetime v ≡ true → Below v
unfolding whole_second with_fraction ascii
datetime-below v h = ⊎_elim
    (λ w. form-below (ascii "0000-00-00T00:00:00Z") v refl w)
    (λ w. form-below (ascii "0000-00-00T00:00:00.000000Z") v refl w.0)
    (formed v h)

kind-below : (k : Kind) (v : Text) → is_of_kind k v ≡ true → Below v
unfolding is_of_kind is_signed is_utf8 ascii
kind-below (unsigned width) v h = digits-below v (natural-digits v (unsigned-natural width v h))
kind-below (signed width) v h = sign_below v (digits-below (magnitude v) (natural-digits (magnitude v) (and_parts _ _ h).0))
kind-below (decimal total after sign) v h = decimal-below total after sign v h
kind-below currency v h = decimal-below 19 4 true v h
kind-below sequence v h = digits-below v (natural-digits v (unsigned-natural 8 v h))
kind-below datetime v h = datetime-below v h
kind-below boolean v h = truth (equal texts v (ascii "true"))
    (λ y. rw ((equal-true texts v _).0 y) (all-below (ascii "true") refl))
    (λ n. rw ((equal-true texts v _).0 (or-part (equal texts v (ascii "true")) _ h n)) (all-below (ascii "false") refl))
kind-below (string most) v h = scalars-below (length v) v (and_parts (leb (length v) most) _ h).1
kind-below (hex bytes) v h = hex-below v (and_parts (eqb (length v) (2 * bytes)) _ h).1

pub value-below : (k : Kind) (v : Text) → in_space k v ≡ true → Below v
value-below k v h = kind-below k v (of-kind k v h)
