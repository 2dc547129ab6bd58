-- A kind by its number and its parameters, of which there are up to three.
use Rattle.std.specs.Prelude.{Bool, cond, ◌&&◌, ℕ, leb, eqb}
use Rattle.std.proofs.Math.Option.{Option, none, some}
use Rattle.values.specs.Spaces.{Kind, unsigned, signed, decimal, currency, sequence, datetime, boolean, string, hex, kind_number, unsigned_number}

-- The parameters of a kind, 0 where it has none

-- its size: the width of an integer, the total digits of a decimal, the most bytes of a string, the bytes of a hex
abbrev pub size_parameter : Kind → ℕ
size_parameter (unsigned width) = width
size_parameter (signed width) = width
size_parameter (decimal total after sign) = total
size_parameter currency = 0
size_parameter sequence = 0
size_parameter datetime = 0
size_parameter boolean = 0
size_parameter (string most) = most
size_parameter (hex bytes) = bytes

-- the digits after the point
abbrev pub after_parameter : Kind → ℕ
after_parameter (unsigned width) = 0
after_parameter (signed width) = 0
after_parameter (decimal total after sign) = after
after_parameter currency = 0
after_parameter sequence = 0
after_parameter datetime = 0
after_parameter boolean = 0
after_parameter (string most) = 0
after_parameter (hex bytes) = 0

-- whether it is signed, 0 or 1
abbrev pub sign_parameter : Kind → ℕ
sign_parameter (unsigned width) = 0
sign_parameter (signed width) = 0
sign_parameter (decimal total after sign) = cond sign 1 0
sign_parameter currency = 0
sign_parameter sequence = 0
sign_parameter datetime = 0
sign_parameter boolean = 0
sign_parameter (string most) = 0
sign_parameter (hex bytes) = 0

-- "Kinds 1 to 6 are ordered by their numbers or instants"
abbrev pub is_ordered_number : ℕ → Bool
is_ordered_number kind = leb unsigned_number kind && leb kind (kind_number datetime)

-- a kind where the number is its own
abbrev kind_or : ℕ → Kind → Option Kind → Option Kind
kind_or kind k others = cond (eqb kind (kind_number k)) (some k) others

-- the kind of a number and parameters, if the number is one of a kind
unfoldable pub kind_of : ℕ → ℕ → ℕ → ℕ → Option Kind
kind_of kind size after sign =
    kind_or kind (unsigned size)
    (kind_or kind (signed size)
    (kind_or kind (decimal size after (eqb sign 1))
    (kind_or kind currency
    (kind_or kind sequence
    (kind_or kind datetime
    (kind_or kind boolean
    (kind_or kind (string size)
    (kind_or kind (hex size) none))))))))
