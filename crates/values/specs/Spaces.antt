-- Document 01, "Kinds" and "Value spaces".
use Rattle.std.specs.Prelude.{ℕ, ◌+◌, ◌-◌, ◌*◌, ◌^◌, Bool, true, false, cond, not}
use Rattle.std.specs.Prelude.{◌&&◌, ◌||◌, [], ◌∷◌, ◌++◌, length, take, drop, ltb, leb, eqb}
use Rattle.model.specs.Order.{Text, texts, equal}
use Rattle.packed.specs.Ascii.{ascii}
use Rattle.packed.specs.Packed.{is_within}
use Rattle.values.specs.Decimal.{is_digit, are_digits, numeral, is_natural, is_negative, magnitude}
use Rattle.values.specs.Calendar.{is_datetime}
use Rattle.values.specs.Unicode.{is_utf8}

-- "Kinds: 1 unsigned and 2 signed integer (parameter: width 1, 2, 3, 4 or 8 bytes); 3 decimal (total digits 2 to 38, digits after the point 1 to total
-- minus 1, signed 0 or 1); 4 currency, which is decimal 19, 4, signed; 5 sequence; 6 datetime; 7 boolean; 8 string (most bytes, 1 to 120); 9 hex (bytes,
-- 1 to 60)."
pub data Kind : Type 0 where
  unsigned : ℕ → Kind
  signed : ℕ → Kind
  decimal : ℕ → ℕ → Bool → Kind
  currency : Kind
  sequence : Kind
  datetime : Kind
  boolean : Kind
  string : ℕ → Kind
  hex : ℕ → Kind

-- the number of a kind
abbrev pub kind_number : Kind → ℕ
kind_number (unsigned w) = 1
kind_number (signed w) = 2
kind_number (decimal t a g) = 3
kind_number currency = 4
kind_number sequence = 5
kind_number datetime = 6
kind_number boolean = 7
kind_number (string n) = 8
kind_number (hex n) = 9

-- the numbers of the kinds with parameters, which are the same for all parameters

abbrev pub unsigned_number : ℕ
unsigned_number = kind_number (unsigned 0)

abbrev pub signed_number : ℕ
signed_number = kind_number (signed 0)

abbrev pub decimal_number : ℕ
decimal_number = kind_number (decimal 0 0 false)

abbrev pub string_number : ℕ
string_number = kind_number (string 0)

abbrev pub hex_number : ℕ
hex_number = kind_number (hex 0)

-- a kind is sequence
abbrev pub is_sequence : Kind → Bool
is_sequence k = eqb (kind_number k) (kind_number sequence)

-- "width 1, 2, 3, 4 or 8 bytes"
unfoldable pub is_width : ℕ → Bool
is_width w = is_within 1 4 w || eqb w 8

-- the parameters of a kind are in their ranges
unfoldable pub is_kind : Kind → Bool
is_kind (unsigned width) = is_width width
is_kind (signed width) = is_width width
is_kind (decimal total after sign) = is_within 2 38 total && is_within 1 (total - 1) after
is_kind currency = true
is_kind sequence = true
is_kind datetime = true
is_kind boolean = true
is_kind (string most) = is_within 1 120 most
is_kind (hex bytes) = is_within 1 60 bytes

-- "Integers: decimal digits, no plus, no leading zero, .. inside the width."
unfoldable pub is_unsigned : ℕ → Text → Bool
is_unsigned width v = is_natural v && ltb (numeral v) (2 ^ (8 * width))

-- ".. zero without sign, minus only in kind 2 ..": a width of w bytes has the integers from -2^(8w - 1) to 2^(8w - 1) - 1
unfoldable pub is_signed : ℕ → Text → Bool
is_signed width v =
    let n = numeral (magnitude v) in
    is_natural (magnitude v) && cond (is_negative v) (ltb 0 n && leb n (2 ^ (8 * width - 1))) (ltb n (2 ^ (8 * width - 1)))

-- the digits before the point, where so many digits come after it
unfoldable pub whole_part : ℕ → Text → Text
whole_part after m = take (length m - (after + 1)) m

-- the point, and what follows it
unfoldable pub point_part : ℕ → Text → Text
point_part after m = drop (length m - (after + 1)) m

-- ".. exactly the set digits after"
unfoldable pub is_fraction : ℕ → Text → Bool
is_fraction after [] = false
is_fraction after (b ∷ v) = eqb b 46 && eqb (length v) after && are_digits v

-- the number that is written with a point, times 10 for each digit after it
unfoldable pub unscaled : ℕ → Text → ℕ
unscaled after m = numeral (whole_part after m ++ drop 1 (point_part after m))

-- "Decimal: at least one and at most total minus after digits before the point, no leading zero but a lone 0, exactly the set digits after, .."
unfoldable pub is_magnitude : ℕ → ℕ → Text → Bool
is_magnitude total after m = is_natural (whole_part after m) && leb (length (whole_part after m)) (total - after) && is_fraction after (point_part after m)

-- ".. zero without sign, minus only where signed is 1."
unfoldable pub is_decimal : ℕ → ℕ → Bool → Text → Bool
is_decimal total after sign v =
    is_magnitude total after (magnitude v) && (not (is_negative v) || (sign && ltb 0 (unscaled after (magnitude v))))

-- "two digits 0 to 9, a to f for each byte"
unfoldable pub is_hex_digit : ℕ → Bool
is_hex_digit b = is_digit b || (leb 97 b && leb b 102)

unfoldable pub are_hex_digits : Text → Bool
are_hex_digits [] = true
are_hex_digits (b ∷ v) = is_hex_digit b && are_hex_digits v

unfoldable pub is_of_kind : Kind → Text → Bool
is_of_kind (unsigned width) v = is_unsigned width v
is_of_kind (signed width) v = is_signed width v
is_of_kind (decimal total after sign) v = is_decimal total after sign v
is_of_kind currency v = is_decimal 19 4 true v
-- "Sequence: as unsigned width 8."
is_of_kind sequence v = is_unsigned 8 v
is_of_kind datetime v = is_datetime v
-- "Boolean: true or false."
is_of_kind boolean v = equal texts v (ascii "true") || equal texts v (ascii "false")
-- "String: well-formed UTF-8."
is_of_kind (string most) v = leb (length v) most && is_utf8 v
-- "Hex: two digits 0 to 9, a to f for each byte."
is_of_kind (hex bytes) v = eqb (length v) (2 * bytes) && are_hex_digits v

-- "Every value has 1 to 120 bytes."
unfoldable pub in_space : Kind → Text → Bool
in_space k v = leb 1 (length v) && leb (length v) 120 && is_of_kind k v
