-- What the functions on numbers answer, in the terms of the definitions.
use Prim.Native.Nat.{Ordering}
use Rattle.std.specs.Prelude.{◌≡◌, ℕ, Bool, true, false, ◌||◌, [], ◌∷◌, length, ltb, leb}
use Rattle.model.specs.Order.{Text, texts, numbers, ranked}
use Rattle.values.specs.Decimal.{numeral, is_natural}
use Rattle.values.specs.Spaces.{Kind, sequence, kind_number}

-- "Kinds: 1 unsigned and 2 signed integer ..; 3 decimal ..; 4 currency ..; 5 sequence": the kinds whose values are numbers
abbrev pub is_number : Kind → Bool
is_number k = leb (kind_number k) (kind_number sequence)

-- by length, and then by bytes
unfoldable pub size_order : Text → Text → Ordering
size_order = (ranked length numbers texts).cmp

-- some digit is not 0: the minus sign and the point are below the digits
unfoldable pub has_nonzero : Text → Bool
has_nonzero [] = false
has_nonzero (b ∷ v) = ltb 48 b || has_nonzero v

-- the natural numeral of a number
abbrev pub IsNumeral : Text → ℕ → Type 0
IsNumeral v n = (is_natural v ≡ true) × (numeral v ≡ n)
