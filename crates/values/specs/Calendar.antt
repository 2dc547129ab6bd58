-- Moments of the Gregorian calendar, written YYYY-MM-DDThh:mm:ssZ, or with a point and six digits before Z.
use Rattle.std.specs.Prelude.{ℕ, zero, suc, ◌+◌, ◌-◌, ◌*◌, ◌/◌, ◌%◌, Bool, true, false}
use Rattle.std.specs.Prelude.{cond, not, ◌&&◌, ◌||◌, [], ◌∷◌, take, drop, ltb, leb, eqb}
use Rattle.model.specs.Order.{Text}
use Rattle.packed.specs.Ascii.{ascii}
use Rattle.values.specs.Decimal.{is_digit, numeral}

-- a text has a form: each 0 of the form stands for any digit, each other byte for itself
unfoldable pub has_form : Text → Text → Bool
has_form [] [] = true
has_form [] (b ∷ v) = false
has_form (f ∷ form) [] = false
has_form (f ∷ form) (b ∷ v) = cond (eqb f 48) (is_digit b) (eqb f b) && has_form form v

unfoldable pub whole_second : Text → Bool
whole_second v = has_form (ascii "0000-00-00T00:00:00Z") v

unfoldable pub with_fraction : Text → Bool
with_fraction v = has_form (ascii "0000-00-00T00:00:00.000000Z") v

-- the number that the digits from a position on write
unfoldable pub field : Text → ℕ → ℕ → ℕ
field v at digits = numeral (take digits (drop at v))

abbrev pub year : Text → ℕ
year v = field v 0 4

abbrev pub month : Text → ℕ
month v = field v 5 2

abbrev pub day : Text → ℕ
day v = field v 8 2

abbrev pub hour : Text → ℕ
hour v = field v 11 2

abbrev pub minute : Text → ℕ
minute v = field v 14 2

abbrev pub second : Text → ℕ
second v = field v 17 2

-- 0 where the text has no fraction: there is no digit to read
abbrev pub microsecond : Text → ℕ
microsecond v = field v 20 6

-- every fourth year has a leap day, but of the years that end a century every fourth alone
unfoldable pub is_leap : ℕ → Bool
is_leap y = eqb (y % 4) 0 && (not (eqb (y % 100) 0) || eqb (y % 400) 0)

unfoldable pub days_in : ℕ → ℕ → ℕ
days_in y m = cond (eqb m 2) (cond (is_leap y) 29 28) (cond (eqb m 4 || eqb m 6 || eqb m 9 || eqb m 11) 30 31)

-- "years 0001 to 9999, Gregorian days, hours 00 to 23, minutes and seconds 00 to 59"
unfoldable pub is_moment : Text → Bool
is_moment v =
    leb 1 (year v) && leb 1 (month v) && leb (month v) 12 && leb 1 (day v) && leb (day v) (days_in (year v) (month v))
    && leb (hour v) 23 && leb (minute v) 59 && leb (second v) 59

-- "YYYY-MM-DDThh:mm:ssZ, or with a point and six digits, not all zero, before Z"
unfoldable pub is_datetime : Text → Bool
is_datetime v = (whole_second v || (with_fraction v && ltb 0 (microsecond v))) && is_moment v

-- the days of the years 1 to y
unfoldable pub days_of_years : ℕ → ℕ
days_of_years y = 365 * y + y / 4 - y / 100 + y / 400

-- the days of a year's months 1 to m
unfoldable pub days_of_months : ℕ → ℕ → ℕ
days_of_months y zero = 0
days_of_months y (suc m) = days_of_months y m + days_in y (suc m)

-- the days from the first day of year 1 to the day
unfoldable pub day_number : Text → ℕ
day_number v = days_of_years (year v - 1) + days_of_months (year v) (month v - 1) + day v

-- the instant, in microseconds
unfoldable pub instant : Text → ℕ
instant v = (((day_number v * 24 + hour v) * 60 + minute v) * 60 + second v) * 1000000 + microsecond v
