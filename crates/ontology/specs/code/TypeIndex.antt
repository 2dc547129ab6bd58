-- What the readers of a table answer, as relations between the bytes, the model and what the code holds.
use Rattle.std.specs.Prelude.{ℕ, ◌+◌, ◌-◌, ◌*◌, ◌/◌, ◌%◌, ◌≤◌, ◌<◌, ◌≡◌, ◌⊎◌, Bool, true, false}
use Rattle.std.specs.Prelude.{cond, not, ◌&&◌, ◌||◌, List, [], ◌∷◌, map, length, drop, get_or, ltb, leb, eqb}
use Rattle.std.proofs.Math.Option.{Option, none, some}
use Rattle.std.proofs.Math.ListN.{get_elem?}
use Rattle.model.specs.Order.{Text}
use Rattle.packed.specs.Parse.{Parse, fail, got, Layout, and_then, found_if, such_that, times}
use Rattle.packed.specs.Packed.{part, is_within}
use Rattle.packed.specs.code.Located.{Got}
use Rattle.packed.specs.code.Comparison.{precedes}
use Rattle.values.specs.Spaces.{Kind, kind_number, unsigned_number, signed_number, string_number, hex_number, is_width}
use Rattle.values.specs.code.KindNumbers.{size_parameter, after_parameter, sign_parameter}
use Rattle.values.specs.declared.versions.DefinitionVersion.{DefinitionVersion}
use Rattle.ontology.specs.Table.{Strategy, min, max, replace, match, strategy_number, Property, EventType, Table, type_named}
use Rattle.ontology.specs.Table.{names_rise, strategy_fits, all_fit, can_be_marked, mark_fits, type_rules}
use Rattle.ontology.specs.TableLayout.{read_property, read_type}
use Rattle.ontology.specs.declared.properties.PropertyAt.{PropertyAt}
use Rattle.ontology.specs.declared.types.TypeIndex.{TypeIndex}
use Rattle.std.specs.Prelude.{Some, None}
use Rattle.std.specs.Prelude as std
use Rattle.ontology.specs.declared.kinds.KindAt.{KindAt}

-- ---- fields

abbrev pub FlagReads : Parse Bool → List ℕ → ℕ → std.Option (Bool × ℕ) → Type 0
FlagReads p s at (Some (b, next)) = Got p s at b next
FlagReads p s at None = p ≡ fail

-- ---- kinds

-- the number of a kind with one parameter
abbrev pub HasOne : ℕ → Type 0
HasOne kind = (kind ≡ unsigned_number) ⊎ (kind ≡ signed_number) ⊎ (kind ≡ string_number) ⊎ (kind ≡ hex_number)

-- that parameter is in its range
unfoldable pub parameter_fits : ℕ → ℕ → Bool
parameter_fits kind n = cond (leb kind signed_number) (is_width n) (is_within 1 (cond (eqb kind string_number) 120 60) n)

-- A kind as its number and its parameters
pub record KindIs (k : Kind) (kind size after sign : ℕ) : Type 0 where
  pub number : kind ≡ kind_number k
  pub size_is : size ≡ size_parameter k
  pub after_is : after ≡ after_parameter k
  pub sign-is : sign ≡ sign_parameter k

pub record KindStops (p : Parse Kind) (s : List ℕ) (at kind size after sign next : ℕ) : Type 0 where
  pub what : Kind
  pub stops : Got p s at what next
  pub are : KindIs what kind size after sign

abbrev pub KindReads : Parse Kind → List ℕ → ℕ → std.Option (KindAt × ℕ) → Type 0
KindReads p s at (Some (k, next)) = KindStops p s at k.kind k.size k.after k.sign next
KindReads p s at None = p ≡ fail

-- ---- properties

-- The property q, whose name stands in the bytes s, as the index has it
pub record PropertyIs (s : List ℕ) (q : Property) (x : PropertyAt) : Type 0 where
  pub name : part s x.start x.end ≡ q.name
  pub order : x.start ≤ x.end
  pub within : x.end ≤ length s
  pub kind : KindIs q.kind x.kind x.size x.after x.sign
  pub optional : x.optional ≡ q.optional
  pub multivalued : x.multivalued ≡ q.multivalued
  pub strategy : x.strategy ≡ strategy_number q.strategy

-- what the index of a property says of its strategy
abbrev pub has_strategy : Strategy → PropertyAt → Bool
has_strategy s x = eqb x.strategy (strategy_number s)

abbrev pub has_min : PropertyAt → Bool
has_min x = has_strategy min x

abbrev pub has_max : PropertyAt → Bool
has_max x = has_strategy max x

-- min or max
abbrev pub has_extreme : PropertyAt → Bool
has_extreme x = has_min x || has_max x

abbrev pub has_replace : PropertyAt → Bool
has_replace x = has_strategy replace x

abbrev pub has_match : PropertyAt → Bool
has_match x = has_strategy match x

pub record PropertyStops (p : Parse Property) (s : List ℕ) (at : ℕ) (x : PropertyAt) (next : ℕ) : Type 0 where
  pub what : Property
  pub stops : Got p s at what next
  pub is : PropertyIs s what x

abbrev pub PropertyReads : Parse Property → List ℕ → ℕ → std.Option (PropertyAt × ℕ) → Type 0
PropertyReads p s at (Some (x, next)) = PropertyStops p s at x next
PropertyReads p s at None = p ≡ fail

-- a flag as a bit
unfoldable pub bit_of : Bool → ℕ
bit_of true = 1
bit_of false = 0

-- all of a property but its name as one number
abbrev pub code_of : PropertyAt → ℕ
code_of p =
    p.kind + 256 * p.size + 65536 * p.after + 16777216 * p.sign + 4294967296 * p.strategy
    + 1099511627776 * bit_of p.optional + 2199023255552 * bit_of p.multivalued

-- the property that such a number is of, with its name from start to end
abbrev pub decoded : ℕ → ℕ → ℕ → PropertyAt
decoded start end code = record {
  start = start;
  end = end;
  kind = code % 256;
  size = code / 256 % 256;
  after = code / 65536 % 256;
  sign = code / 16777216 % 256;
  optional = eqb (code / 1099511627776 % 2) 1;
  multivalued = eqb (code / 2199023255552 % 2) 1;
  strategy = code / 4294967296 % 256;
}

-- a property among those of a type, which are lent as three numbers each
abbrev pub property_in : List ℕ → ℕ → PropertyAt
property_in xs k = decoded (get_or xs (3 * k) 0) (get_or xs (3 * k + 1) 0) (get_or xs (3 * k + 2) 0)

-- each of n properties, at its place among the numbers xs
pub record PropertiesAre (s : List ℕ) (qs : List Property) (n : ℕ) (xs : List ℕ) : Type 0 where
  pub count : n ≡ length qs
  pub few : n ≤ 32
  pub each : (i : ℕ) (q : Property) → get_elem? qs i ≡ some q → PropertyIs s q (property_in xs i)

-- the rules that a property of a type has to meet: its name comes after the last one, its strategy fits, and it can be marked if it is marked
unfoldable pub property_fits : Bool → Bool → Text → Property → Bool
property_fits versioned marked last q = precedes last q.name && strategy_fits versioned q && (not marked || can_be_marked q)

-- Each property meets them in its turn. The mark is counted from the first of these properties: 1 marks that one, and 0 none of them.
unfoldable pub fit_in_turn : Bool → ℕ → Text → List Property → Bool
fit_in_turn versioned mark last [] = true
fit_in_turn versioned mark last (q ∷ qs) = property_fits versioned (eqb mark 1) last q && fit_in_turn versioned (mark - 1) q.name qs

-- so many properties that meet them
abbrev pub fitting_from : Bool → ℕ → Text → ℕ → Layout (List Property)
fitting_from versioned mark last n = such_that (fit_in_turn versioned mark last) (times read_property n)

-- the properties of a type with that mark: every name comes after the empty one, so that the first is asked the same as the others
abbrev pub read_fitting : ℕ → ℕ → Layout (List Property)
read_fitting mark n = fitting_from (ltb 0 mark) mark [] n

pub record PropertiesStop (p : Parse (List Property)) (s : List ℕ) (at n next : ℕ) (keep : Bool) (xs : List ℕ) : Type 0 where
  pub what : List Property
  pub is : p ≡ got what (drop next s)
  pub after : at ≤ next
  pub within : next ≤ length s
  pub are : keep ≡ true → PropertiesAre s what n xs

-- what the reader of n properties answers, and leaves in the numbers xs where it keeps the properties
abbrev pub PropertiesSay : Parse (List Property) → List ℕ → ℕ → ℕ → Bool → List ℕ → std.Option ℕ → Type 0
PropertiesSay p s at n keep xs (Some next) = PropertiesStop p s at n next keep xs
PropertiesSay p s at n keep xs None = p ≡ fail

-- ---- types

-- the rules of a type that its mark and its properties have to meet, besides their count
unfoldable pub property_rules : ℕ → List Property → Bool
property_rules mark qs =
    names_rise (map (λ (p : Property). p.name) qs) && all_fit (ltb 0 mark) qs && (not (ltb 0 mark) || mark_fits (get_elem? qs (mark - 1)))

abbrev pub type_of : Text → ℕ → ℕ → List Property → EventType
type_of name definition mark qs = record { name = name; definition = definition; mark = mark; properties = qs }

-- What stands before the properties was read: what is left of the type, and of its rules, is about them, and that the mark is at most their count.
pub record HeadStops (s : List ℕ) (at start end : ℕ) (definition : DefinitionVersion) (mark count next : ℕ) : Type 0 where
  pub is :
      such_that type_rules read_type (drop at s) ≡
      and_then (read_fitting mark count (drop next s)) (λ qs. found_if (leb mark count) (type_of (part s start end) definition.0 mark qs))
  pub order : start ≤ end
  pub ends : end ≤ length s
  pub few : count ≤ 32
  pub after : at < next
  pub within : next ≤ length s

abbrev pub HeadReads : List ℕ → ℕ → std.Option (TypeIndex × ℕ) → Type 0
HeadReads s at (Some (x, next)) = HeadStops s at x.start x.end x.definition x.mark x.count next
HeadReads s at None = such_that type_rules read_type (drop at s) ≡ fail

-- The type t, as the index has it, with its properties at their places among the numbers ps
pub record TypeIs (s : List ℕ) (t : EventType) (x : TypeIndex) (ps : List ℕ) : Type 0 where
  pub name : part s x.start x.end ≡ t.name
  pub order : x.start ≤ x.end
  pub within : x.end ≤ length s
  pub definition : x.definition.0 ≡ t.definition
  pub mark : x.mark ≡ t.mark
  pub are : PropertiesAre s t.properties x.count ps

pub record TypeStops (p : Parse EventType) (s : List ℕ) (at : ℕ) (keep : Bool) (ps : List ℕ) (x : TypeIndex) (next : ℕ) : Type 0 where
  pub what : EventType
  pub stops : Got p s at what next
  pub name : part s x.start x.end ≡ what.name
  pub order : x.start ≤ x.end
  pub ends : x.end ≤ length s
  pub is : keep ≡ true → TypeIs s what x ps

-- what the reader of a type answers, and leaves in the numbers ps where it keeps the properties
abbrev pub TypeReads : Parse EventType → List ℕ → ℕ → Bool → List ℕ → std.Option (TypeIndex × ℕ) → Type 0
TypeReads p s at keep ps (Some (x, next)) = TypeStops p s at keep ps x next
TypeReads p s at keep ps None = p ≡ fail

-- ---- tables

-- The type t, as the index has it, where there is one
pub record TypeSaid (p : Option EventType) (s ps : List ℕ) (x : TypeIndex) : Type 0 where
  pub what : EventType
  pub is : p ≡ some what
  pub typed : TypeIs s what x ps

-- what is kept of the type of the name that was asked for
abbrev pub TypeSays : Option EventType → List ℕ → List ℕ → std.Option TypeIndex → Type 0
TypeSays p s ps (Some x) = TypeSaid p s ps x
TypeSays p s ps None = p ≡ none

pub record TableSaid (p : Option Table) (s : List ℕ) (name : Text) (ps : List ℕ) (r : std.Option TypeIndex) : Type 0 where
  pub what : Table
  pub is : p ≡ some what
  pub says : TypeSays (type_named name what) s ps r

-- what the reader of a table answers that is asked for the type of a name, and leaves in the numbers ps
abbrev pub TableSays : Option Table → List ℕ → Text → List ℕ → std.Option (std.Option TypeIndex) → Type 0
TableSays p s name ps (Some r) = TableSaid p s name ps r
TableSays p s name ps None = p ≡ none
