-- Document 01, "Packed event": what an event has, and what the rule reads of it.
use Rattle.std.specs.Prelude.{ℕ, ◌+◌, ◌-◌, false, cond, ◌||◌, List, [], ◌∷◌, length, get_or}
use Rattle.std.proofs.Math.ListN.{get_elem?}
use Rattle.model.specs.Order.{Text}
use Rattle.model.specs.Rule.{TypeView, EventView, View, Choice, every, least}
use Rattle.values.specs.Decimal.{numeral}
use Rattle.values.specs.ValueOrder.{extreme_order}
use Rattle.ontology.specs.Table.{Property, EventType, is_min, is_max, is_versioned, is_replace, is_single, at_place}
use Rattle.event.specs.Head.{Head}

-- An event: its sets are by place, one for each of the 32 bits of the presence number; a place without objects has the empty set
pub record Event : Type 0 where
  pub head : Head
  pub sets : List (List Text)

-- "At most 32 objects in all": how many
unfoldable pub object_count : List (List Text) → ℕ
object_count [] = 0
object_count (s ∷ ss) = length s + object_count ss

-- the set at a place
abbrev pub set_at : Event → ℕ → List Text
set_at e p = get_or e.sets p []

-- "An event's version is the number in its marked property." An unversioned type's events have the version 0 of their snapshot.
unfoldable pub version_of : EventType → Event → ℕ
version_of t e = cond (is_versioned t) (numeral (get_or (set_at e (t.mark - 1)) 0 [])) 0

-- "min and max have the smallest or largest value, other properties the union"
unfoldable pub choice_of : Property → Choice
choice_of p = cond (is_min p || is_max p) (least (extreme_order (is_max p) p.kind)) every

-- What the rule, combining and opening read of a type. Places are the 32 bits of the presence number: where the type has no property all sets are empty.
unfoldable pub type_view : EventType → TypeView
type_view t = record {
  versioned = is_versioned t;
  width = 32;
  choice = λ p. at_place every choice_of (get_elem? t.properties p);
  replaces = λ p. at_place false is_replace (get_elem? t.properties p);
  single = λ p. at_place false is_single (get_elem? t.properties p);
}

-- What the rule reads of an event.
unfoldable pub event_view : EventType → EventView Event
event_view t = record { parents = λ e. e.head.parents; version = version_of t; set = set_at }

abbrev pub view : EventType → View Event
view t = record { type = type_view t; event = event_view t }
