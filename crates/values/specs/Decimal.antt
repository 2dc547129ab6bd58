-- Numbers written with decimal digits.
use Rattle.std.specs.Prelude.{ℕ, zero, suc, ◌+◌, ◌-◌, ◌*◌, ◌/◌, ◌%◌, Bool, true, false, cond, not, ◌&&◌, [], ◌∷◌, ltb, leb, eqb}
use Rattle.model.specs.Order.{Text}

-- a decimal digit, 0 to 9
unfoldable pub is_digit : ℕ → Bool
is_digit b = leb 48 b && leb b 57

unfoldable pub are_digits : Text → Bool
are_digits [] = true
are_digits (b ∷ v) = is_digit b && are_digits v

-- the number that digits write after digits of the number n, the highest first
unfoldable pub numeral_after : ℕ → Text → ℕ
numeral_after n [] = n
numeral_after n (b ∷ v) = numeral_after (10 * n + (b - 48)) v

-- the number that digits write
unfoldable pub numeral : Text → ℕ
numeral v = numeral_after 0 v

-- "decimal digits, no plus, no leading zero": digits, and where there are several the first is not 0
unfoldable pub is_natural : Text → Bool
is_natural [] = false
is_natural (b ∷ []) = is_digit b
is_natural (b ∷ c ∷ v) = not (eqb b 48) && are_digits (b ∷ c ∷ v)

-- a number's digits in front of a text, at most so many
unfoldable pub digits_before : ℕ → ℕ → Text → Text
digits_before zero n v = v
digits_before (suc most) n v = cond (ltb n 10) ((48 + n) ∷ v) (digits_before most (n / 10) ((48 + n % 10) ∷ v))

-- a number below 2^64 in decimal: it has at most 20 digits
unfoldable pub in_decimal : ℕ → Text
in_decimal n = digits_before 20 n []

-- the minus sign, and what follows it
unfoldable pub is_negative : Text → Bool
is_negative [] = false
is_negative (b ∷ v) = eqb b 45

unfoldable pub magnitude : Text → Text
magnitude [] = []
magnitude (b ∷ v) = cond (eqb b 45) v (b ∷ v)
