-- Document 01: the order of values.
use Rattle.std.specs.Prelude.{ℕ, zero, suc, Bool, cond, leb}
use Rattle.model.specs.Order.{Text, texts, Order, Integer, below, from, integers, ranked, reversed}
use Rattle.values.specs.Decimal.{numeral, is_negative, magnitude}
use Rattle.values.specs.Calendar.{instant}
use Rattle.values.specs.Spaces.{Kind, kind_number, unsigned, signed, decimal, currency, sequence, datetime, boolean, string, hex, unscaled}

-- "Kinds 1 to 6 are ordered by their numbers or instants, so equal values have equal bytes."
unfoldable pub is_ordered : Kind → Bool
is_ordered k = leb (kind_number k) (kind_number datetime)

-- the integer of a sign and a magnitude
unfoldable pub minus : ℕ → Integer
minus zero = from zero
minus (suc n) = below n

unfoldable pub with_sign : Text → ℕ → Integer
with_sign v n = cond (is_negative v) (minus n) (from n)

-- the number or instant of a value. A decimal's is taken times 10^after, which keeps the order; the other kinds have none.
unfoldable pub value_number : Kind → Text → Integer
value_number (unsigned width) v = from (numeral v)
value_number (signed width) v = with_sign v (numeral (magnitude v))
value_number (decimal total after sign) v = with_sign v (unscaled after (magnitude v))
value_number currency v = with_sign v (unscaled 4 (magnitude v))
value_number sequence v = from (numeral v)
value_number datetime v = from (instant v)
value_number boolean v = from 0
value_number (string most) v = from 0
value_number (hex bytes) v = from 0

-- by number or instant, and then by bytes: a total order of all texts
unfoldable pub value_order : Kind → Order Text
value_order k = ranked (value_number k) integers texts

-- min takes the first value in the order of its kind, max the first from the order's other end
abbrev pub extreme_order : Bool → Kind → Order Text
extreme_order largest k = cond largest (reversed (value_order k)) (value_order k)
