-- The laws of decimal numerals: their order is that of length and then bytes, and a number below 2^64 and its numeral determine each other.
-- Assumes nothing.
use mathlib.Core.Path.{◌≡◌, refl, sym, ap, ◌∙◌}
use mathlib.Core.Logic.{⊎_elim}
use mathlib.Core.Bool.{Bool, true, not, ◌&&◌}
use mathlib.Core.List.{[], ◌∷◌, ◌++◌}
use Prim.Native.Nat.{Ordering}
use Prim.Native.Nat.{ℕ, zero, suc, ◌+◌, ◌-◌, ◌*◌, ◌/◌, ◌%◌, ◌^◌, ◌≤◌, ◌<◌, compare}
use native.Mathlib.Nat.{pow-suc, pow-zero, div-lt_iff_lt-mul, mul-le-mul_right}
use native.Mathlib.Omega.{arith}
use lib.Dec.{leb, eqb}
use lib.ListN.{length}
use borrow.Author.Tests.{lt-ltb, le-ltb, le-leb, eq-eqb, ne_eqb, leb-true}
use Rattle.model.specs.Order.{Text, texts, numbers, lists, lex, pick, nat-same, ranked, rank_cmp, rank_same}
use Rattle.model.proofs.Cases.{three, and_parts}
use Rattle.model.proofs.OrderLaws.{lt-compare, gt-compare, eq-compare, compare-lt, compare-gt}
use Rattle.packed.proofs.LayoutLaws.{lt-or-ge}
use Rattle.values.specs.Decimal.{is_digit, are_digits, numeral_after, numeral, is_natural, digits_before, in_decimal}
use Rattle.values.specs.code.NumberAnswer.{size_order}

-- ---- tests

pub and_left : (p q : Bool) → p && q ≡ true → p ≡ true
and_left p q e = (and_parts p q e).0

pub and_right : (p q : Bool) → p && q ≡ true → q ≡ true
and_right p q e = (and_parts p q e).1

pub digit-least : (b : ℕ) → is_digit b ≡ true → 48 ≤ b
unfolding is_digit
digit-least b e = leb-true 48 b (and_left _ _ e)

pub digit-most : (b : ℕ) → is_digit b ≡ true → b ≤ 57
unfolding is_digit
digit-most b e = leb-true b 57 (and_right (leb 48 b) _ e)

pub is_digit_lem : (b : ℕ) → 48 ≤ b → b ≤ 57 → is_digit b ≡ true
unfolding is_digit
is_digit_lem b h k = rw (le-leb 48 b h, le-leb b 57 k)

pub digits-head : (b : ℕ) (v : Text) → are_digits (b ∷ v) ≡ true → is_digit b ≡ true
unfolding are_digits
digits-head b v e = and_left _ _ e

pub digits-tail : (b : ℕ) (v : Text) → are_digits (b ∷ v) ≡ true → are_digits v ≡ true
unfolding are_digits
digits-tail b v e = and_right (is_digit b) _ e

pub digits-cons : (b : ℕ) (v : Text) → is_digit b ≡ true → are_digits v ≡ true → are_digits (b ∷ v) ≡ true
unfolding are_digits
digits-cons b v h k = rw h k

pub digits_append : (v w : Text) → are_digits v ≡ true → are_digits w ≡ true → are_digits (v ++ w) ≡ true
digits_append [] w h k = k
digits_append (b ∷ v) w h k = digits-cons b (v ++ w) (digits-head b v h) (digits_append v w (digits-tail b v h) k)

-- a natural numeral has digits alone
pub natural-digits : (v : Text) → is_natural v ≡ true → are_digits v ≡ true
unfolding is_natural are_digits
natural-digits [] e = cc
natural-digits (b ∷ []) e = rw e
natural-digits (b ∷ c ∷ v) e = and_right (not (eqb b 48)) _ e

pub natural-nonempty : (v : Text) → is_natural v ≡ true → 0 < length v
unfolding is_natural
natural-nonempty [] e = let z : ◌≡◌ {A = ℕ} 0 1 = cc in absurd (omega arith)
natural-nonempty (b ∷ v) e = omega arith

-- where it has several the first is not 0
pub natural-first : (b : ℕ) (v : Text) → is_natural (b ∷ v) ≡ true → 0 < length v → 48 < b
unfolding is_natural are_digits
natural-first b [] e h = absurd (omega arith)
natural-first b (c ∷ v) e h =
    let d = digit-least b (digits-head b (c ∷ v) (natural-digits (b ∷ c ∷ v) e)) in
    ⊎_elim (λ (k : 48 < b). k)
    (λ (k : b ≤ 48).
    let q : eqb b 48 ≡ true = eq-eqb b 48 (omega arith) in
    let n : not (eqb b 48) ≡ true = and_left _ _ e in
    let z : ◌≡◌ {A = ℕ} 0 1 = cc in
    absurd (omega arith))
    (lt-or-ge 48 b)

pub natural-cons : (b : ℕ) (v : Text) → 48 < b → are_digits (b ∷ v) ≡ true → is_natural (b ∷ v) ≡ true
unfolding is_natural are_digits
natural-cons b [] h e = and_left _ _ e
natural-cons b (c ∷ v) h e = rw (ne_eqb b 48 (λ q. omega arith)) e

-- ---- the order of numerals

-- digits of one length after two numbers: the numbers decide, and then the bytes
pub order-after :
    (m n : ℕ) (x y : Text) → are_digits x ≡ true → are_digits y ≡ true → length x ≡ length y →
    compare (numeral_after m x) (numeral_after n y) ≡ pick (compare m n) Ordering.lt (lex numbers x y) Ordering.gt
unfolding numeral_after lex numbers
order-after m n [] [] p q e = three (compare m n) (λ l. rw l) (λ s. rw s) (λ g. rw g)
order-after m n [] (b ∷ y) p q e = absurd (omega arith)
order-after m n (a ∷ x) [] p q e = absurd (omega arith)
order-after m n (a ∷ x) (b ∷ y) p q e =
    let da = digits-head a x p in
    let la = digit-least a da in
    let ma = digit-most a da in
    let db = digits-head b y q in
    let lb = digit-least b db in
    let mb = digit-most b db in
    let i : ℕ = 10 * m + (a - 48) in
    let j : ℕ = 10 * n + (b - 48) in
    let less = lt-compare i j in
    let more = gt-compare i j in
    order-after i j x y (digits-tail a x p) (digits-tail b y q) (omega arith)
    ∙ three (compare m n)
    (λ l. let h = compare-lt m n l in rw (l, less (omega arith)))
    (λ s. let h = nat-same m n s in
    rw s
    (three (compare a b)
    (λ l. let k = compare-lt a b l in rw (l, less (omega arith)))
    (λ t. let k = nat-same a b t in rw (t, eq-compare i j (omega arith)))
    (λ g. let k = compare-gt a b g in rw (g, more (omega arith)))))
    (λ g. let h = compare-gt m n g in rw (g, more (omega arith)))

-- for digit texts of equal length numeral order is byte order
pub digits-order :
    (x y : Text) → are_digits x ≡ true → are_digits y ≡ true → length x ≡ length y → compare (numeral x) (numeral y) ≡ texts.cmp x y
unfolding numeral texts lists
digits-order x y p q e = order-after 0 0 x y p q e

alike-after : (n : ℕ) (x y : Text) → 0 < n → are_digits x ≡ true → are_digits y ≡ true → length x ≡ length y → numeral x < numeral_after n y
unfolding numeral
alike-after n x y h p q e = compare-lt (numeral_after 0 x) (numeral_after n y) (order-after 0 n x y p q e ∙ rw (lt-compare 0 n h))

-- digits after a number that is not 0 write more than digits that are no more
pub more-after : (n : ℕ) (x y : Text) → 0 < n → are_digits x ≡ true → are_digits y ≡ true → length x ≤ length y →
    numeral x < numeral_after n y
unfolding numeral_after
more-after n x [] h p q e = alike-after n x [] h p q (omega arith)
more-after n x (b ∷ y) h p q e =
    ⊎_elim (λ (k : length x < suc (length y)). more-after (10 * n + (b - 48)) x y (omega arith) p (digits-tail b y q) (omega arith))
    (λ (k : suc (length y) ≤ length x). alike-after n x (b ∷ y) h p q (omega arith))
    (lt-or-ge (length x) (suc (length y)))

-- more digits, of which the first is not 0, write a larger number
pub longer-larger :
    (x : Text) (b : ℕ) (y : Text) → are_digits x ≡ true → are_digits (b ∷ y) ≡ true → 48 < b → length x ≤ length y →
    numeral x < numeral (b ∷ y)
unfolding numeral numeral_after
longer-larger x b y p q h e = more-after (10 * 0 + (b - 48)) x y (omega arith) p (digits-tail b y q) e

-- a natural numeral of more digits is larger
pub natural-longer : (x y : Text) → is_natural x ≡ true → is_natural y ≡ true → length x < length y → numeral x < numeral y
natural-longer x [] p q e = absurd (omega arith)
natural-longer x (b ∷ y) p q e =
    longer-larger x b y (natural-digits x p) (natural-digits (b ∷ y) q) (natural-first b y q (omega (arith, natural-nonempty x p))) (omega arith)

-- natural numerals: by length, and then by bytes
pub natural-order : (x y : Text) → is_natural x ≡ true → is_natural y ≡ true → compare (numeral x) (numeral y) ≡ size_order x y
unfolding size_order ranked rank_cmp numbers
natural-order x y p q = three (compare (length x) (length y))
    (λ l. rw l (lt-compare (numeral x) (numeral y) (natural-longer x y p q (compare-lt (length x) (length y) l))))
    (λ s. rw s (digits-order x y (natural-digits x p) (natural-digits y q) (nat-same (length x) (length y) s)))
    (λ g. rw g (gt-compare (numeral x) (numeral y) (natural-longer y x q p (compare-gt (length x) (length y) g))))

pub size_same : (x y : Text) → size_order x y ≡ Ordering.eq → x ≡ y
unfolding size_order ranked
size_same x y e = rank_same length numbers texts x y e

-- natural numerals with equal numbers are equal texts
pub numeral-inj : (x y : Text) → is_natural x ≡ true → is_natural y ≡ true → numeral x ≡ numeral y → x ≡ y
numeral-inj x y p q e = size_same x y (sym (natural-order x y p q) ∙ eq-compare (numeral x) (numeral y) e)

-- ---- bounds

carried : (n d p t : ℕ) → (10 * n + d) * p + t ≡ n * (p * 10) + ((10 * 0 + d) * p + t)
carried n d p t = omega arith

pub numeral-after : (n : ℕ) (v : Text) → numeral_after n v ≡ n * 10 ^ length v + numeral v
unfolding numeral numeral_after
numeral-after n [] = rw pow-zero (omega arith)
numeral-after n (b ∷ v) =
    rw (numeral-after (10 * n + (b - 48)) v, numeral-after (10 * 0 + (b - 48)) v, pow-suc)
    (carried n (b - 48) (10 ^ length v) (numeral_after 0 v))

pub numeral-below : (v : Text) → are_digits v ≡ true → numeral v < 10 ^ length v
unfolding numeral numeral_after
numeral-below [] p = rw pow-zero (omega arith)
numeral-below (b ∷ v) p =
    let h = digit-most b (digits-head b v p) in
    let i : numeral v < 10 ^ length v = numeral-below v (digits-tail b v p) in
    let e = numeral-after (10 * 0 + (b - 48)) v in
    let s = pow-suc 10 (length v) in
    let l = mul-le-mul_right {m = 10 * 0 + (b - 48)} {n = 9} (10 ^ length v) (omega arith) in
    omega arith

-- ---- a number in decimal

tenth-below : (f n : ℕ) → n < 10 ^ suc f → n / 10 < 10 ^ f
tenth-below f n h = (div-lt_iff_lt-mul {k = 10} {x = n} {y = 10 ^ f} (omega arith)).1 (rw pow-suc at h)

pub numeral-before : (f n : ℕ) (v : Text) → n < 10 ^ f → numeral (digits_before f n v) ≡ numeral_after n v
unfolding numeral numeral_after digits_before
numeral-before zero n v h = ap (λ (k : ℕ). numeral_after k v) (let z = pow-zero 10 in omega arith)
numeral-before (suc f) n v h =
    ⊎_elim (λ (l : n < 10). rw (lt-ltb n 10 l) (ap (λ (k : ℕ). numeral_after k v) (omega arith)))
    (λ (g : 10 ≤ n). rw (le-ltb n 10 g)
    (numeral-before f (n / 10) ((48 + n % 10) ∷ v) (tenth-below f n h)
    ∙ ap (λ (k : ℕ). numeral_after k v) (omega arith)))
    (lt-or-ge n 10)

pub digits_last : (f n : ℕ) (v : Text) → n < 10 → digits_before (suc f) n v ≡ (48 + n) ∷ v
unfolding digits_before
digits_last f n v h = rw (lt-ltb n 10 h)

pub digits_more : (f n : ℕ) (v : Text) → 10 ≤ n → digits_before (suc f) n v ≡ digits_before f (n / 10) ((48 + n % 10) ∷ v)
unfolding digits_before
digits_more f n v h = rw (le-ltb n 10 h)

natural-last : (f n : ℕ) (v : Text) → n < 10 → are_digits v ≡ true → 0 < n → is_natural (digits_before (suc f) n v) ≡ true
natural-last f n v h p k =
    rw (digits_last f n v h) (natural-cons (48 + n) v (omega arith) (digits-cons (48 + n) v (is_digit_lem (48 + n) (omega arith) (omega arith)) p))

natural-before : (f n : ℕ) (v : Text) → n < 10 ^ suc f → are_digits v ≡ true → 0 < n → is_natural (digits_before (suc f) n v) ≡ true
natural-before zero n v h p k = natural-last zero n v h p k
natural-before (suc f) n v h p k =
    ⊎_elim (λ (l : n < 10). natural-last (suc f) n v l p k)
    (λ (g : 10 ≤ n). rw (digits_more (suc f) n v g)
    (natural-before f (n / 10) ((48 + n % 10) ∷ v) (tenth-below (suc f) n h)
    (digits-cons (48 + n % 10) v (is_digit_lem (48 + n % 10) (omega arith) (omega arith)) p) (omega arith)))
    (lt-or-ge n 10)

lone-natural : (b : ℕ) → is_digit b ≡ true → is_natural (b ∷ []) ≡ true
unfolding is_natural
lone-natural b e = e

-- 2^64 is below 10^20
pub natural-in-decimal : (n : ℕ) → n < 10 ^ 20 → is_natural (in_decimal n) ≡ true
unfolding in_decimal are_digits
natural-in-decimal n h =
    ⊎_elim (λ (l : n < 10). rw (digits_last 19 n [] l) (lone-natural (48 + n) (is_digit_lem (48 + n) (omega arith) (omega arith))))
    (λ (g : 10 ≤ n). natural-before 19 n [] h refl (omega arith))
    (lt-or-ge n 10)

pub numeral-in-decimal : (n : ℕ) → n < 10 ^ 20 → numeral (in_decimal n) ≡ n
unfolding in_decimal numeral_after
numeral-in-decimal n h = numeral-before 20 n [] h

pub in-decimal-numeral : (v : Text) → is_natural v ≡ true → numeral v < 10 ^ 20 → in_decimal (numeral v) ≡ v
in-decimal-numeral v p h = numeral-inj (in_decimal (numeral v)) v (natural-in-decimal (numeral v) h) p (numeral-in-decimal (numeral v) h)
