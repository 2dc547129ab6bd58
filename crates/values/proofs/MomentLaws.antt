-- The days and seconds of the calendar rise with the digits that write them, from the year down.
-- Assumes nothing.
use mathlib.Core.Path.{◌≡◌, refl, subst}
use mathlib.Core.Logic.{⊎_elim}
use mathlib.Core.Bool.{Bool, true, false, cond, not, ◌&&◌, ◌||◌, false≢true}
use Prim.Native.Nat.{ℕ, zero, suc, ◌+◌, ◌-◌, ◌*◌, ◌/◌, ◌%◌, ◌≤◌, ◌<◌}
use native.Mathlib.Omega.{arith}
use native.Mathlib.Nat.{add-zero, add-suc, suc-mul, mul-le-mul_right}
use native.Mathlib.Numerals.{sub-one}
use lib.Dec.{ltb, eqb}
use borrow.Author.Tests.{ltb-true, eqb-true, eqb-false, ltb-false}
use Rattle.packed.proofs.LayoutLaws.{lt-or-ge}
use Rattle.values.specs.Calendar.{is_leap, days_in, days_of_years, days_of_months}

-- ---- years and months

years-up : (x y : ℕ) → x ≤ y → days_of_years x ≤ days_of_years y
unfolding days_of_years
years-up x y h = go (ltb x y) refl
  where
    go : (t : Bool) → ltb x y ≡ t → days_of_years x ≤ days_of_years y
    go true e = let l = ltb-true x y e in omega arith
    go false e = let g = ltb-false x y e in let s : x ≡ y = omega arith in rw s (omega arith)

-- a year later, with n days more than 365: a, b and c are the numbers of fourth, hundredth and four-hundredth years
year-later :
    (y z a b c u v w n : ℕ) → y ≡ z + 1 → b ≤ a → v ≤ u → a + v + c + n ≤ u + b + w →
    365 * z + a - b + c + (365 + n) ≤ 365 * y + u - v + w
year-later y z a b c u v w n e p q h = omega arith

-- where y is a fourth year, the fourth years before it are one fewer
fourth-is : (y : ℕ) → 1 ≤ y → y % 4 ≡ 0 → (y - 1) / 4 + 1 ≡ y / 4
fourth-is y h e = omega arith

fourth-not : (y : ℕ) → (y % 4 ≡ 0 → ⊥) → (y - 1) / 4 ≡ y / 4
fourth-not y n = omega arith

hundredth-not : (y : ℕ) → (y % 100 ≡ 0 → ⊥) → (y - 1) / 100 ≡ y / 100
hundredth-not y n = omega arith

hundredth-most : (y : ℕ) → y / 100 ≤ (y - 1) / 100 + 1
hundredth-most y = omega arith

last_up : (y : ℕ) → (y - 1) / 400 ≤ y / 400
last_up y = omega arith

leap-year : (y : ℕ) → 1 ≤ y → is_leap y ≡ true → days_of_years (y - 1) + 366 ≤ days_of_years y
unfolding days_of_years is_leap
leap-year y h e = go (eqb (y % 4) 0) (eqb (y % 100) 0) (eqb (y % 400) 0) refl refl refl e
  where
    by : ((y - 1) / 4 + y / 100 + (y - 1) / 400 + 1 ≤ y / 4 + (y - 1) / 100 + y / 400) → days_of_years (y - 1) + 366 ≤ days_of_years y
    by k = year-later y (y - 1) ((y - 1) / 4) ((y - 1) / 100) ((y - 1) / 400) (y / 4) (y / 100) (y / 400) 1 (omega arith) (omega arith) (omega arith) k

    go :
        (p q r : Bool) → eqb (y % 4) 0 ≡ p → eqb (y % 100) 0 ≡ q → eqb (y % 400) 0 ≡ r →
        (p && (not q || r)) ≡ true → days_of_years (y - 1) + 366 ≤ days_of_years y
    go false q r ep eq er e = absurd (false≢true e)
    go true false r ep eq er e =
        let a = eqb-true (y % 4) 0 ep in
        let b = eqb-false (y % 100) 0 eq in
        by (omega (arith, fourth-is y h a, hundredth-not y b, last_up y))
    go true true true ep eq er e = let a = eqb-true (y % 400) 0 er in by (omega arith)
    go true true false ep eq er e = absurd (false≢true e)

common-year : (y : ℕ) → 1 ≤ y → days_of_years (y - 1) + 365 ≤ days_of_years y
unfolding days_of_years
common-year y h =
    year-later y (y - 1) ((y - 1) / 4) ((y - 1) / 100) ((y - 1) / 400) (y / 4) (y / 100) (y / 400) 0 (omega arith) (omega arith) (omega arith)
    (go (eqb (y % 4) 0) refl)
  where
    go : (t : Bool) → eqb (y % 4) 0 ≡ t → (y - 1) / 4 + y / 100 + (y - 1) / 400 + 0 ≤ y / 4 + (y - 1) / 100 + y / 400
    go true e = omega (arith, fourth-is y h (eqb-true (y % 4) 0 e), hundredth-most y, last_up y)
    go false e = omega (arith, fourth-not y (eqb-false (y % 4) 0 e), hundredth-not y (λ k. eqb-false (y % 4) 0 e (omega arith)), last_up y)

months-add : (y m d : ℕ) → days_of_months y m ≤ days_of_months y (m + d)
unfolding days_of_months
months-add y m zero = rw add-zero (omega arith)
months-add y m (suc d) = rw add-suc (omega (arith, months-add y m d))

months-up : (y m n : ℕ) → m ≤ n → days_of_months y m ≤ days_of_months y n
months-up y m n h = let e : m + (n - m) ≡ n = omega arith in rw e at (months-add y m (n - m))

month-next : (y m : ℕ) → 1 ≤ m → days_of_months y m ≡ days_of_months y (m - 1) + days_in y m
unfolding days_of_months
month-next y zero h = absurd (omega arith)
month-next y (suc m) h = rw sub-one

year-days : (y : ℕ) → 1 ≤ y → days_of_years (y - 1) + days_of_months y 12 ≤ days_of_years y
unfolding days_of_months days_in
year-days y h = go (is_leap y) refl
  where
    go : (t : Bool) → is_leap y ≡ t → days_of_years (y - 1) + days_of_months y 12 ≤ days_of_years y
    go true e = rw e (leap-year y h e)
    go false e = rw e (common-year y h)

-- ---- days

-- a day of the calendar
pub record Day (y m d : ℕ) : Type 0 where
  pub from_one : 1 ≤ y
  pub month-one : 1 ≤ m
  pub month-last : m ≤ 12
  pub day-one : 1 ≤ d
  pub day-last : d ≤ days_in y m

-- the days from the first day of year 1 to a day
abbrev pub day_of : ℕ → ℕ → ℕ → ℕ
day_of y m d = days_of_years (y - 1) + days_of_months y (m - 1) + d

later-month : (y m d n e : ℕ) → Day y m d → Day y n e → m < n → day_of y m d < day_of y n e
later-month y m d n e p q h = omega (arith, month-next y m (omega arith), months-up y m (n - 1) (omega arith))

-- a year's days are before the next year's first
in-year : (y m d : ℕ) → Day y m d → day_of y m d ≤ days_of_years y
in-year y m d p = omega (arith, month-next y m (omega arith), months-up y m 12 (omega arith), year-days y (omega arith))

later-year : (y m d z n e : ℕ) → Day y m d → Day z n e → y < z → day_of y m d < day_of z n e
later-year y m d z n e p q h = omega (arith, in-year y m d p, years-up y (z - 1) (omega arith))

-- the number of the digits of a day
abbrev pub date_of : ℕ → ℕ → ℕ → ℕ
date_of y m d = (y * 100 + m) * 100 + d

pub days-in-most : (y m : ℕ) → days_in y m ≤ 31
unfolding days_in
days-in-most y m = go (eqb m 2) (is_leap y) (eqb m 4 || eqb m 6 || eqb m 9 || eqb m 11)
  where
    go : (p q r : Bool) → cond p (cond q 29 28) (cond r 30 31) ≤ 31
    go true true r = omega arith
    go true false r = omega arith
    go false q true = omega arith
    go false q false = omega arith

-- two numbers in one of their three orders
pub ordered : {C : Type 0} (a b : ℕ) → (a < b → C) → (a ≡ b → C) → (b < a → C) → C
ordered a b f g h = ⊎_elim f (λ p. ⊎_elim h (λ q. g (omega arith)) (lt-or-ge b a)) (lt-or-ge a b)

in-a-year : (y m d n e : ℕ) → Day y m d → Day y n e → date_of y m d < date_of y n e → day_of y m d < day_of y n e
in-a-year y m d n e p q h =
    ordered m n
    (λ l. later-month y m d n e p q l)
    (λ s. let k : d < e = omega arith in rw s (omega arith))
    (λ g. absurd (omega (arith, q.day-last, days-in-most y n)))

later-day : (y m d z n e : ℕ) → Day y m d → Day z n e → date_of y m d < date_of z n e → day_of y m d < day_of z n e
later-day y m d z n e p q h =
    ordered y z
    (λ l. later-year y m d z n e p q l)
    (λ s. subst (λ (x : ℕ). Day x n e → date_of y m d < date_of x n e → day_of y m d < day_of x n e) s (in-a-year y m d n e p) q h)
    (λ g. absurd (omega (arith, q.day-last, days-in-most z n)))

-- ---- an order goes along with another

-- two values t and u of one quantity are in the order of d and e, those of another
pub record Along (t u d e : ℕ) : Type 0 where
  pub less : t < u → d < e
  pub same : t ≡ u → d ≡ e

same-day : (y m d z n e : ℕ) → Day y m d → Day z n e → date_of y m d ≡ date_of z n e → day_of y m d ≡ day_of z n e
same-day y m d z n e p q h =
    let bd = days-in-most y m in
    let be = days-in-most z n in
    let a : y ≡ z = omega (arith, p.day-last, q.day-last) in
    let b : m ≡ n = omega (arith, p.day-last, q.day-last) in
    let c : d ≡ e = omega (arith, p.day-last, q.day-last) in
    rw (a, b, c)

pub days-along : (y m d z n e : ℕ) → Day y m d → Day z n e → Along (date_of y m d) (date_of z n e) (day_of y m d) (day_of z n e)
days-along y m d z n e p q = record { less = later-day y m d z n e p q; same = same-day y m d z n e p q }

-- one digit pair more, of which there are b
pub along-more : (b t u d e h k : ℕ) → b ≤ 100 → h < b → k < b → Along t u d e → Along (t * 100 + h) (u * 100 + k) (d * b + h) (e * b + k)
along-more b t u d e h k n p q a = record { less = less; same = same }
  where
    less : t * 100 + h < u * 100 + k → d * b + h < e * b + k
    less l =
        ordered t u
        (λ s. omega (arith, rw suc-mul at (mul-le-mul_right b (a.less s))))
        (λ s. let i : h < k = omega arith in rw (a.same s) (omega arith))
        (λ s. absurd (omega arith))

    same : t * 100 + h ≡ u * 100 + k → d * b + h ≡ e * b + k
    same l =
        let s : t ≡ u = omega arith in
        let i : h ≡ k = omega arith in
        rw (a.same s, i)
