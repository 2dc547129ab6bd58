-- The instants of datetimes: their order is that of the digits of date and time, and then of the fraction, so equal instants have equal bytes.
-- Assumes nothing.
use mathlib.Core.Path.{◌≡◌, refl, sym, ap₂, ◌∙◌}
use mathlib.Core.Logic.{◌⊎◌, inl, inr, ⊎_elim}
use mathlib.Core.Bool.{Bool, true, false, ◌&&◌, ◌||◌, false≢true}
use mathlib.Core.List.{List, ◌++◌}
use Prim.Native.Nat.{ℕ, ◌+◌, ◌*◌, ◌≤◌, ◌<◌, compare, Ordering}
use native.Mathlib.Omega.{arith}
use lib.Dec.{ltb, leb}
use lib.ListN.{length, take, drop, drop_of_length-le}
use borrow.Author.Tests.{ltb-true, leb-true}
use Rattle.model.specs.Order.{Text, integers, integer_cmp, ranked, rank_cmp}
use Rattle.model.proofs.OrderLaws.{lt-compare, gt-compare, eq-compare}
use Rattle.packed.specs.Ascii.{ascii}
use Rattle.values.specs.Calendar.{has_form, whole_second, with_fraction, field, year, month, day, hour, minute, second, microsecond, days_in, is_moment}
use Rattle.values.specs.Calendar.{is_datetime, day_number, instant}
use Rattle.values.specs.Spaces.{datetime}
use Rattle.values.specs.ValueOrder.{value_number, value_order}
use Rattle.values.proofs.NumeralLaws.{and_left, and_right, numeral-below}
use Rattle.values.proofs.CalendarLaws.{form_length, form-part, field-none, zeros-digits, same-mark, same-field}
use Rattle.values.proofs.MomentLaws.{Day, date_of, Along, days-along, along-more, ordered, days-in-most}

-- ---- what a datetime is

pub record Moment (v : Text) : Type 0 where
  pub date : Day (year v) (month v) (day v)
  pub hour-last : hour v ≤ 23
  pub minute-last : minute v ≤ 59
  pub second-last : second v ≤ 59

moment-of : (v : Text) → is_moment v ≡ true → Moment v
unfolding is_moment
moment-of v e =
    let t1 = leb 1 (year v) in
    let t2 = t1 && leb 1 (month v) in
    let t3 = t2 && leb (month v) 12 in
    let t4 = t3 && leb 1 (day v) in
    let t5 = t4 && leb (day v) (days_in (year v) (month v)) in
    let t6 = t5 && leb (hour v) 23 in
    let t7 = t6 && leb (minute v) 59 in
    let e7 = and_left t7 (leb (second v) 59) e in
    let e6 = and_left t6 (leb (minute v) 59) e7 in
    let e5 = and_left t5 (leb (hour v) 23) e6 in
    let e4 = and_left t4 (leb (day v) (days_in (year v) (month v))) e5 in
    let e3 = and_left t3 (leb 1 (day v)) e4 in
    let e2 = and_left t2 (leb (month v) 12) e3 in
    record {
      date = record {
        from_one = leb-true 1 (year v) (and_left t1 (leb 1 (month v)) e2);
        month-one = leb-true 1 (month v) (and_right t1 (leb 1 (month v)) e2);
        month-last = leb-true (month v) 12 (and_right t2 (leb (month v) 12) e3);
        day-one = leb-true 1 (day v) (and_right t3 (leb 1 (day v)) e4);
        day-last = leb-true (day v) (days_in (year v) (month v)) (and_right t4 (leb (day v) (days_in (year v) (month v))) e5);
      };
      hour-last = leb-true (hour v) 23 (and_right t5 (leb (hour v) 23) e6);
      minute-last = leb-true (minute v) 59 (and_right t6 (leb (minute v) 59) e7);
      second-last = leb-true (second v) 59 (and_right t7 (leb (second v) 59) e);
    }

pub moment : (v : Text) → is_datetime v ≡ true → Moment v
unfolding is_datetime
moment v e = moment-of v (and_right (whole_second v || (with_fraction v && ltb 0 (microsecond v))) (is_moment v) e)

-- of a whole second, or with a fraction
abbrev pub form_of : Text → Bool
form_of v = whole_second v || (with_fraction v && ltb 0 (microsecond v))

formed-of : (v : Text) → form_of v ≡ true → (whole_second v ≡ true) ⊎ ((with_fraction v ≡ true) × (0 < microsecond v))
formed-of v e = go (whole_second v) (with_fraction v) (ltb 0 (microsecond v)) refl refl refl e
  where
    go :
        (p q r : Bool) → whole_second v ≡ p → with_fraction v ≡ q → ltb 0 (microsecond v) ≡ r → (p || (q && r)) ≡ true →
        (whole_second v ≡ true) ⊎ ((with_fraction v ≡ true) × (0 < microsecond v))
    go true q r ep eq er k = inl ep
    go false true true ep eq er k = inr (eq, ltb-true 0 (microsecond v) er)
    go false true false ep eq er k = absurd (false≢true k)
    go false false r ep eq er k = absurd (false≢true k)

pub formed : (v : Text) → is_datetime v ≡ true → (whole_second v ≡ true) ⊎ ((with_fraction v ≡ true) × (0 < microsecond v))
unfolding is_datetime
formed v e = formed-of v (and_left (form_of v) (is_moment v) e)

whole_length : (v : Text) → whole_second v ≡ true → length v ≡ 20
unfolding whole_second ascii
whole_length v e = sym (form_length (ascii "0000-00-00T00:00:00Z") v e)

pub fraction-length : (v : Text) → with_fraction v ≡ true → length v ≡ 27
unfolding with_fraction ascii
fraction-length v e = sym (form_length (ascii "0000-00-00T00:00:00.000000Z") v e)

pub formed_long : (v : Text) → form_of v ≡ true → 20 ≤ length v
formed_long v e = ⊎_elim (λ w. let n = whole_length v w in omega arith) (λ w. let n = fraction-length v w.0 in omega arith) (formed-of v e)

pub datetime-length : (v : Text) → is_datetime v ≡ true → (length v ≡ 20) ⊎ (26 ≤ length v)
datetime-length v e = ⊎_elim (λ w. inl (whole_length v w)) (λ w. let n = fraction-length v w.0 in inr (omega arith)) (formed v e)

pub datetime-short : (v : Text) → length v < 20 → is_datetime v ≡ true → ⊥
datetime-short v h e = ⊎_elim (λ n. omega arith) (λ n. omega arith) (datetime-length v e)

whole-microsecond : (v : Text) → whole_second v ≡ true → microsecond v ≡ 0
whole-microsecond v e = let n = whole_length v e in field-none v (omega arith)

fraction-below : (v : Text) → with_fraction v ≡ true → microsecond v < 1000000
unfolding with_fraction ascii field
fraction-below v e =
    let p = form-part 20 6 (ascii "0000-00-00T00:00:00.000000Z") v e in
    rw (sym (form_length (ascii "000000") (take 6 (drop 20 v)) p)) at
    (numeral-below (take 6 (drop 20 v)) (zeros-digits (ascii "000000") (take 6 (drop 20 v)) refl p))

microsecond-below : (v : Text) → is_datetime v ≡ true → microsecond v < 1000000
microsecond-below v e = ⊎_elim (λ w. let n = whole-microsecond v w in omega arith) (λ w. fraction-below v w.0) (formed v e)

-- ---- the order of instants

-- the digits of date and time as one number
abbrev pub stamp_of : Text → ℕ
stamp_of v = ((date_of (year v) (month v) (day v) * 100 + hour v) * 100 + minute v) * 100 + second v

abbrev seconds_of : Text → ℕ
seconds_of v = ((day_number v * 24 + hour v) * 60 + minute v) * 60 + second v

seconds-along : (a b : Text) → Moment a → Moment b → Along (stamp_of a) (stamp_of b) (seconds_of a) (seconds_of b)
unfolding day_number
seconds-along a b p q =
    along-more 60 _ _ _ _ (second a) (second b) (omega arith) (omega arith) (omega arith)
    (along-more 60 _ _ _ _ (minute a) (minute b) (omega arith) (omega arith) (omega arith)
    (along-more 24 _ _ _ _ (hour a) (hour b) (omega arith) (omega arith) (omega arith)
    (days-along (year a) (month a) (day a) (year b) (month b) (day b) p.date q.date)))

module _ (a b : Text) (p : is_datetime a ≡ true) (q : is_datetime b ≡ true) where
  pub later-stamp : stamp_of a < stamp_of b → instant a < instant b
  unfolding instant
  later-stamp l =
      omega (arith, (seconds-along a b (moment a p) (moment b q)).less l, microsecond-below a p)

  pub later-fraction : stamp_of a ≡ stamp_of b → microsecond a < microsecond b → instant a < instant b
  unfolding instant
  later-fraction s l = omega (arith, (seconds-along a b (moment a p) (moment b q)).same s)

-- ---- equal instants

abbrev head : List ℕ
head = ascii "0000-00-00T00:00:00"

-- texts whose forms begin as a datetime's do, and whose first 19 bytes have equal fields
same_head :
    (rest a b : Text) → has_form (head ++ rest) a ≡ true → has_form (head ++ rest) b ≡ true →
    year a ≡ year b → month a ≡ month b → day a ≡ day b → hour a ≡ hour b → minute a ≡ minute b → second a ≡ second b →
    drop 19 a ≡ drop 19 b → a ≡ b
unfolding ascii
same_head rest a b p q y m d h n s e =
    let field_of = same-field (head ++ rest) a b p q in
    let mark_of = same-mark (head ++ rest) a b p q in
    field_of 0 4 refl y
    (mark_of 4 1 refl
    (field_of 5 2 refl m
    (mark_of 7 1 refl
    (field_of 8 2 refl d
    (mark_of 10 1 refl
    (field_of 11 2 refl h
    (mark_of 13 1 refl
    (field_of 14 2 refl n
    (mark_of 16 1 refl
    (field_of 17 2 refl s e))))))))))

both_end : (a b : Text) (n : ℕ) → length a ≡ n → length b ≡ n → drop n a ≡ drop n b
both_end a b n p q = drop_of_length-le a {i = n} (omega arith) ∙ sym (drop_of_length-le b {i = n} (omega arith))

whole-rest : (a b : Text) → whole_second a ≡ true → whole_second b ≡ true → drop 19 a ≡ drop 19 b
unfolding whole_second ascii
whole-rest a b p q = same-mark (ascii "0000-00-00T00:00:00Z") a b p q 19 1 refl (both_end a b 20 (whole_length a p) (whole_length b q))

fraction-rest : (a b : Text) → with_fraction a ≡ true → with_fraction b ≡ true → microsecond a ≡ microsecond b → drop 19 a ≡ drop 19 b
unfolding with_fraction ascii
fraction-rest a b p q e =
    let form = ascii "0000-00-00T00:00:00.000000Z" in
    same-mark form a b p q 19 1 refl
    (same-field form a b p q 20 6 refl e
    (same-mark form a b p q 26 1 refl (both_end a b 27 (fraction-length a p) (fraction-length b q))))

pair-apart : (t u h k : ℕ) → h < 100 → k < 100 → t * 100 + h ≡ u * 100 + k → (t ≡ u) × (h ≡ k)
pair-apart t u h k p q e = (omega arith, omega arith)

module _ (a b : Text) (p : is_datetime a ≡ true) (q : is_datetime b ≡ true) where
  same-fields :
      (rest : Text) → has_form (head ++ rest) a ≡ true → has_form (head ++ rest) b ≡ true → stamp_of a ≡ stamp_of b → drop 19 a ≡ drop 19 b →
      a ≡ b
  same-fields rest x y e =
      let s = moment a p in
      let t = moment b q in
      let da : day a ≤ 31 = omega (arith, s.date.day-last, days-in-most (year a) (month a)) in
      let db : day b ≤ 31 = omega (arith, t.date.day-last, days-in-most (year b) (month b)) in
      let e1 = pair-apart _ _ (second a) (second b) (omega arith) (omega arith) e in
      let e2 = pair-apart _ _ (minute a) (minute b) (omega arith) (omega arith) e1.0 in
      let e3 = pair-apart _ _ (hour a) (hour b) (omega arith) (omega arith) e2.0 in
      let e4 = pair-apart _ _ (day a) (day b) (omega arith) (omega arith) e3.0 in
      let e5 = pair-apart _ _ (month a) (month b) (omega arith) (omega arith) e4.0 in
      same_head rest a b x y e5.0 e5.1 e4.1 e3.1 e2.1 e1.1

  pub same_bytes : stamp_of a ≡ stamp_of b → microsecond a ≡ microsecond b → a ≡ b
  unfolding whole_second with_fraction ascii
  same_bytes e f =
      ⊎_elim
      (λ (x : whole_second a ≡ true).
      ⊎_elim
      (λ (y : whole_second b ≡ true). same-fields (ascii "Z") x y e (whole-rest a b x y))
      (λ y. let z = whole-microsecond a x in absurd (omega arith))
      (formed b q))
      (λ x.
      ⊎_elim
      (λ (y : whole_second b ≡ true). let z = whole-microsecond b y in absurd (omega arith))
      (λ y. same-fields (ascii ".000000Z") x.0 y.0 e (fraction-rest a b x.0 y.0 f))
      (formed b q))
      (formed a p)

-- "so equal values have equal bytes"
pub equal-instant-equal-bytes : (a b : Text) → is_datetime a ≡ true → is_datetime b ≡ true → instant a ≡ instant b → a ≡ b
equal-instant-equal-bytes a b p q e =
    let s : stamp_of a ≡ stamp_of b =
    ordered (stamp_of a) (stamp_of b)
    (λ l. absurd (omega (arith, later-stamp a b p q l)))
    (λ s. s)
    (λ g. absurd (omega (arith, later-stamp b a q p g))) in
    ordered (microsecond a) (microsecond b)
    (λ l. absurd (omega (arith, later-fraction a b p q s l)))
    (λ f. same_bytes a b p q s f)
    (λ g. absurd (omega (arith, later-fraction b a q p (sym s) g)))

-- ---- the order of datetimes

pub datetime-less : (a b : Text) → instant a < instant b → (value_order datetime).cmp a b ≡ Ordering.lt
unfolding value_order ranked rank_cmp value_number integers integer_cmp
datetime-less a b h = rw (lt-compare (instant a) (instant b) h)

pub datetime-more : (a b : Text) → instant b < instant a → (value_order datetime).cmp a b ≡ Ordering.gt
unfolding value_order ranked rank_cmp value_number integers integer_cmp
datetime-more a b h = rw (gt-compare (instant a) (instant b) h)

pub datetime-same : (a b : Text) → a ≡ b → (value_order datetime).cmp a b ≡ Ordering.eq
datetime-same a b e = rw e ((value_order datetime).self b)

-- in one second the fractions decide
pub second-order :
    (a b : Text) → is_datetime a ≡ true → is_datetime b ≡ true → stamp_of a ≡ stamp_of b →
    (value_order datetime).cmp a b ≡ compare (microsecond a) (microsecond b)
second-order a b p q s =
    ordered (microsecond a) (microsecond b)
    (λ l. datetime-less a b (later-fraction a b p q s l) ∙ sym (lt-compare (microsecond a) (microsecond b) l))
    (λ e. datetime-same a b (same_bytes a b p q s e) ∙ sym (eq-compare (microsecond a) (microsecond b) e))
    (λ g. datetime-more a b (later-fraction b a q p (sym s) g) ∙ sym (gt-compare (microsecond a) (microsecond b) g))

-- by the numbers of the digits, and in one second by the fractions
module _ (a b : Text) {x y : ℕ} (left : x ≡ stamp_of a) (right : y ≡ stamp_of b) where
  pub stamp-less : x < y → is_datetime a ≡ true → is_datetime b ≡ true → Ordering.lt ≡ (value_order datetime).cmp a b
  stamp-less l p q = sym (datetime-less a b (later-stamp a b p q (rw (left, right) at l)))

  pub stamp-more : y < x → is_datetime a ≡ true → is_datetime b ≡ true → Ordering.gt ≡ (value_order datetime).cmp a b
  stamp-more l p q = sym (datetime-more a b (later-stamp b a q p (rw (right, left) at l)))

  pub stamp-same :
      y ≤ x → x ≤ y → {f g : ℕ} {o : Ordering} →
      ((length a ≡ 20) ⊎ (26 ≤ length a) → f ≡ microsecond a) → ((length b ≡ 20) ⊎ (26 ≤ length b) → g ≡ microsecond b) →
      o ≡ compare f g → is_datetime a ≡ true → is_datetime b ≡ true → o ≡ (value_order datetime).cmp a b
  stamp-same h k m n is p q =
      let s : x ≡ y = omega arith in
      is ∙ ap₂ compare (m (datetime-length a p)) (n (datetime-length b q)) ∙ sym (second-order a b p q (sym left ∙ s ∙ right))
