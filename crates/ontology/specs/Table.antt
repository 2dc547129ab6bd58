-- Document 01, "Ontology table": what a table has, and its rules.
use Rattle.std.specs.Prelude.{ℕ, ◌-◌, Bool, true, false, cond, not, ◌&&◌, ◌||◌, List, [], ◌∷◌, map, length, leb, ltb, eqb}
use Rattle.std.proofs.Math.Option.{Option, none, some}
use Rattle.std.proofs.Math.ListN.{get_elem?}
use Rattle.model.specs.Order.{Text, texts, equal, rising}
use Rattle.values.specs.Spaces.{Kind, is_sequence}
use Rattle.values.specs.ValueOrder.{is_ordered}

-- "strategy 1 min, 2 max, 3 add, 4 replace, 5 match, 6 set, 7 any"
pub data Strategy : Type 0 where
  min : Strategy
  max : Strategy
  add : Strategy
  replace : Strategy
  match : Strategy
  set : Strategy
  any : Strategy

abbrev pub strategy_number : Strategy → ℕ
strategy_number min = 1
strategy_number max = 2
strategy_number add = 3
strategy_number replace = 4
strategy_number match = 5
strategy_number set = 6
strategy_number any = 7

-- "A property is: name (text, 1 to 32 bytes), data kind with its parameters, optional 0 or 1, multivalued 0 or 1, strategy"
pub record Property : Type 0 where
  pub name : Text
  pub kind : Kind
  pub optional : Bool
  pub multivalued : Bool
  pub strategy : Strategy

-- "A type is: name (text, 1 to 64 bytes), definition version (number, at least 1), event-version mark (0 for none, else property place plus 1), property
-- count 1 to 32, the properties by rising name. A property's place is its position from 0."
pub record EventType : Type 0 where
  pub name : Text
  pub definition : ℕ
  pub mark : ℕ
  pub properties : List Property

abbrev pub Table : Type 0
Table = List EventType

abbrev pub is_mandatory : Property → Bool
is_mandatory p = not p.optional

abbrev pub is_single : Property → Bool
is_single p = not p.multivalued

abbrev pub is_strategy : Strategy → Property → Bool
is_strategy s p = eqb (strategy_number p.strategy) (strategy_number s)

abbrev pub is_min : Property → Bool
is_min p = is_strategy min p

abbrev pub is_max : Property → Bool
is_max p = is_strategy max p

abbrev pub is_replace : Property → Bool
is_replace p = is_strategy replace p

abbrev pub is_match : Property → Bool
is_match p = is_strategy match p

-- "A type with a mark is versioned."
abbrev pub is_versioned : EventType → Bool
is_versioned t = ltb 0 t.mark

-- "Names use a to z, 0 to 9, dot and hyphen and begin with a letter."
unfoldable pub is_letter : ℕ → Bool
is_letter b = leb 97 b && leb b 122

unfoldable pub is_name_byte : ℕ → Bool
is_name_byte b = is_letter b || (leb 48 b && leb b 57) || eqb b 46 || eqb b 45

unfoldable pub are_name_bytes : Text → Bool
are_name_bytes [] = true
are_name_bytes (b ∷ v) = is_name_byte b && are_name_bytes v

unfoldable pub is_name : Text → Bool
is_name [] = false
is_name (b ∷ v) = is_letter b && are_name_bytes v

-- a name of 1 byte to so many
unfoldable pub is_name_within : ℕ → Text → Bool
is_name_within most v = is_name v && leb (length v) most

-- "Min and max need a mandatory single-valued property of kind 1 to 6. Replace needs an optional single-valued one and a type with an event-version mark."
unfoldable pub strategy_fits : Bool → Property → Bool
strategy_fits versioned p =
    (not (is_min p || is_max p) || (is_mandatory p && is_single p && is_ordered p.kind))
    && (not (is_replace p) || (p.optional && is_single p && versioned))

unfoldable pub all_fit : Bool → List Property → Bool
all_fit versioned [] = true
all_fit versioned (p ∷ ps) = strategy_fits versioned p && all_fit versioned ps

-- "The marked property is mandatory, single-valued, kind 5, strategy max."
unfoldable pub can_be_marked : Property → Bool
can_be_marked p = is_mandatory p && is_single p && is_sequence p.kind && is_max p

-- the property at a place can be marked; where there is no property, none can
unfoldable pub mark_fits : Option Property → Bool
mark_fits none = false
mark_fits (some p) = can_be_marked p

unfoldable pub names_rise : List Text → Bool
names_rise ns = rising texts ns

-- "A type is: name (text, 1 to 64 bytes), definition version (number, at least 1), .. property count 1 to 32, the properties by rising name."; each property's
-- strategy fits, and so does the mark
unfoldable pub type_rules : EventType → Bool
type_rules t =
    is_name_within 64 t.name && leb 1 t.definition
    && leb 1 (length t.properties) && leb (length t.properties) 32
    && names_rise (map (λ (p : Property). p.name) t.properties)
    && all_fit (is_versioned t) t.properties
    && (not (is_versioned t) || mark_fits (get_elem? t.properties (t.mark - 1)))

-- the type of a name
unfoldable pub type_named : Text → Table → Option EventType
type_named n [] = none
type_named n (t ∷ ts) = cond (equal texts n t.name) (some t) (type_named n ts)

-- what is said of a place through its property; of a place without one, the default
unfoldable pub at_place : {A : Type 0} → A → (Property → A) → Option Property → A
at_place d f none = d
at_place d f (some p) = f p

-- the name of the property at a place
unfoldable pub name_at : EventType → ℕ → Text
name_at t p = at_place [] (λ (q : Property). q.name) (get_elem? t.properties p)
