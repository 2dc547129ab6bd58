-- Two unversioned snapshots of one type that are joined, place by place, as the code has them.
use Rattle.std.specs.Prelude.{ℕ, ◌+◌, ◌≤◌, ◌<◌, ◌≡◌, Bool, true, false, ◌||◌, ltb, length, get_or}
use Rattle.std.proofs.Math.Option.{some}
use mathlib.Core.List.{List, map, flatten}
use Rattle.std.proofs.Math.ListN.{get_elem?}
use Rattle.model.specs.Order.{Text, texts, rising}
use Rattle.model.specs.Sets.{union}
use Rattle.model.specs.Rule.{holds, join_cell}
use Rattle.model.specs.Opening.{held}
use Rattle.packed.specs.Packed.{text}
use Rattle.values.specs.Spaces.{Kind, kind_number}
use Rattle.values.specs.ValueOrder.{is_ordered}
use Rattle.ontology.specs.Table.{Property, EventType, is_min, is_max}
use Rattle.ontology.specs.code.TypeIndex.{PropertiesAre}
use Rattle.event.specs.Event.{type_view}
use Rattle.event.specs.EventLayout.{set_bytes}
use Rattle.event.specs.EventQuestions.{are_in_space}
use Rattle.event.specs.code.EventIndex.{SetIs, set_in}
use Rattle.event.specs.declared.sets.SetAt.{SetAt}
use Rattle.combining.specs.code.CombineIndex.{is_extreme_at}

-- one of two places has objects
abbrev pub have_objects : SetAt → SetAt → Bool
have_objects x y = ltb 0 x.count || ltb 0 y.count

-- so of each of the 32 places
pub record PresentAre (left right : List ℕ) (r : List Bool) : Type 0 where
  pub long : length r ≡ 32
  pub each : (p : ℕ) → p < 32 → get_or r p false ≡ have_objects (set_in left p) (set_in right p)

-- no place from `count` on has any
pub record NoObjectsFrom (count : ℕ) (left right : List ℕ) : Type 0 where
  pub each : (p : ℕ) → count ≤ p → p < 32 → have_objects (set_in left p) (set_in right p) ≡ false

-- at most one value on each side and one at least, in the space of an ordered kind of this number
pub record Extremes (k : Kind) (kind : ℕ) (xs ys : List Text) : Type 0 where
  pub number : kind_number k ≡ kind
  pub ordered : is_ordered k ≡ true
  pub left_one : length xs ≤ 1
  pub right-one : length ys ≤ 1
  pub left-values : are_in_space k xs ≡ true
  pub right-values : are_in_space k ys ≡ true
  pub some : 1 ≤ length xs + length ys

-- the rising values xs and ys, m and n of them, are all that stands in a and b
pub record ValuesAre (a : List ℕ) (m : ℕ) (b : List ℕ) (n : ℕ) (xs ys : List Text) : Type 0 where
  pub left : a ≡ flatten (map text xs)
  pub right : b ≡ flatten (map text ys)
  pub left-count : m ≡ length xs
  pub right-count : n ≡ length ys
  pub left-rises : rising texts xs ≡ true
  pub right-rises : rising texts ys ≡ true

-- there is one at least, and their union, as a set, has its room in an output of `size` bytes
pub record ValuesRoom (a : List ℕ) (m : ℕ) (b : List ℕ) (n at size : ℕ) : Type 0 where
  pub xs : List Text
  pub ys : List Text
  pub are : ValuesAre a m b n xs ys
  pub some : 1 ≤ m + n
  pub room : at + length (set_bytes (union texts xs ys)) ≤ size

-- the set of a place of two unversioned snapshots together, from the sets that they have there
abbrev pub joined_set : EventType → ℕ → List Text → List Text → List Text
joined_set ty p xs ys = held (join_cell false ((type_view ty).choice p) (holds xs) (holds ys))

-- the sets of a place of two unversioned snapshots of each of which questions 5 and 6 are answered yes
pub record Paired (ty : EventType) (p : ℕ) (xs ys : List Text) : Type 0 where
  pub left-rises : rising texts xs ≡ true
  pub right-rises : rising texts ys ≡ true
  pub few : is_extreme_at ty p ≡ true → (length xs ≤ 1) × (length ys ≤ 1)
  pub values : (q : Property) → get_elem? ty.properties p ≡ some q → (are_in_space q.kind xs ≡ true) × (are_in_space q.kind ys ≡ true)
  pub ordered : (q : Property) → get_elem? ty.properties p ≡ some q → (is_min q || is_max q) ≡ true → is_ordered q.kind ≡ true

-- they stand in a and b where x and y say
pub record PlaceIs (count : ℕ) (ps : List ℕ) (p : ℕ) (a : List ℕ) (x : SetAt) (b : List ℕ) (y : SetAt) : Type 0 where
  pub table : List ℕ
  pub type : EventType
  pub typed : PropertiesAre table type.properties count ps
  pub xs : List Text
  pub ys : List Text
  pub left : SetIs a xs x
  pub right : SetIs b ys y
  pub paired : Paired type p xs ys

-- one of them has objects, and what they are together has its room in an output of `size` bytes
pub record PlaceRoom (count : ℕ) (ps : List ℕ) (p : ℕ) (a : List ℕ) (x : SetAt) (b : List ℕ) (y : SetAt) (at size : ℕ) : Type 0 where
  pub low : p < 32
  pub some : have_objects x y ≡ true
  pub place : PlaceIs count ps p a x b y
  pub room : at + length (set_bytes (joined_set place.type p place.xs place.ys)) ≤ size
