-- Document 01, "Ontology table": its bytes.
use Rattle.std.specs.Prelude.{ℕ, Bool, cond, length, leb, eqb}
use Rattle.std.proofs.Math.Option.{Option}
use mathlib.Core.List.{List, [], ◌++◌, map, flatten}
use Rattle.packed.specs.Parse.{fail, Layout, ◌>>=◌, found, found_if, such_that, times, whole}
use Rattle.packed.specs.Packed.{number, read_number, text, read_text, is_within}
use Rattle.values.specs.Spaces.{Kind, unsigned, signed, decimal, currency, sequence, datetime, boolean, string, hex, is_kind}
use Rattle.values.specs.Spaces.{kind_number, unsigned_number, signed_number, decimal_number, string_number, hex_number}
use Rattle.ontology.specs.Table.{Strategy, min, max, add, replace, match, set, any, strategy_number}
use Rattle.ontology.specs.Table.{Property, EventType, Table, is_name_within, names_rise, type_rules}

-- 0 or 1
unfoldable pub read_flag : Layout Bool
read_flag = do
  n ← such_that (λ n. leb n 1) read_number
  found (eqb n 1)

-- "total digits .., digits after the point .., signed 0 or 1"
unfoldable pub read_decimal : Layout Kind
read_decimal = do
  total ← read_number
  after ← read_number
  sign ← read_flag
  found (decimal total after sign)

-- the parameters of the kind of a number
unfoldable pub read_parameters : ℕ → Layout Kind
read_parameters n =
    cond (eqb n unsigned_number) (read_number >>= λ width. found (unsigned width))
    (cond (eqb n signed_number) (read_number >>= λ width. found (signed width))
    (cond (eqb n decimal_number) read_decimal
    (cond (eqb n (kind_number currency)) (found currency)
    (cond (eqb n (kind_number sequence)) (found sequence)
    (cond (eqb n (kind_number datetime)) (found datetime)
    (cond (eqb n (kind_number boolean)) (found boolean)
    (cond (eqb n string_number) (read_number >>= λ most. found (string most))
    (cond (eqb n hex_number) (read_number >>= λ bytes. found (hex bytes))
    (λ s. fail)))))))))

-- "data kind with its parameters"
unfoldable pub read_kind : Layout Kind
read_kind = such_that is_kind (read_number >>= read_parameters)

-- a strategy where the number is its own
abbrev strategy_or : ℕ → Strategy → Layout Strategy → Layout Strategy
strategy_or n s others = cond (eqb n (strategy_number s)) (found s) others

unfoldable pub read_strategy : Layout Strategy
read_strategy = read_number >>= λ n.
    strategy_or n min
    (strategy_or n max
    (strategy_or n add
    (strategy_or n replace
    (strategy_or n match
    (strategy_or n set
    (strategy_or n any
    (λ s. fail)))))))

-- "A property is: name (text, 1 to 32 bytes), data kind with its parameters, optional 0 or 1, multivalued 0 or 1, strategy"
unfoldable pub read_property : Layout Property
read_property = do
  name ← such_that (is_name_within 32) read_text
  kind ← read_kind
  optional ← read_flag
  multivalued ← read_flag
  strategy ← read_strategy
  found (record { name = name; kind = kind; optional = optional; multivalued = multivalued; strategy = strategy })

-- "A type is: name (text, ..), definition version (number, ..), event-version mark (..), property count .., the properties"
unfoldable pub read_type : Layout EventType
read_type = do
  name ← read_text
  definition ← read_number
  mark ← read_number
  count ← read_number
  properties ← times read_property count
  found (record { name = name; definition = definition; mark = mark; properties = properties })

-- "A count of types 1 to 16; the types by rising name."
unfoldable pub read_table : Layout Table
read_table = do
  count ← such_that (is_within 1 16) read_number
  types ← times (such_that type_rules read_type) count
  found_if (names_rise (map (λ (t : EventType). t.name) types)) types

-- The table that some bytes are; none where they break a rule. "Nothing follows the last type."
unfoldable pub table_of : List ℕ → Option Table
table_of s = whole (read_table s)

-- The same layout, written

unfoldable pub flag_bytes : Bool → List ℕ
flag_bytes b = number (cond b 1 0)

unfoldable pub parameter_bytes : Kind → List ℕ
parameter_bytes (unsigned width) = number width
parameter_bytes (signed width) = number width
parameter_bytes (decimal total after sign) = number total ++ number after ++ flag_bytes sign
parameter_bytes currency = []
parameter_bytes sequence = []
parameter_bytes datetime = []
parameter_bytes boolean = []
parameter_bytes (string most) = number most
parameter_bytes (hex bytes) = number bytes

unfoldable pub kind_bytes : Kind → List ℕ
kind_bytes k = number (kind_number k) ++ parameter_bytes k

unfoldable pub property_bytes : Property → List ℕ
property_bytes p =
    text p.name ++ kind_bytes p.kind ++ flag_bytes p.optional ++ flag_bytes p.multivalued ++ number (strategy_number p.strategy)

unfoldable pub type_bytes : EventType → List ℕ
type_bytes t =
    text t.name ++ number t.definition ++ number t.mark ++ number (length t.properties) ++ flatten (map property_bytes t.properties)

unfoldable pub table_bytes : Table → List ℕ
table_bytes ts = number (length ts) ++ flatten (map type_bytes ts)
