-- What the code holds of a hash text's objects, and what it stands for.
use Rattle.std.specs.Prelude.{ℕ, ◌+◌, ◌≤◌, ◌≡◌, List, ◌++◌, length}
use Rattle.model.specs.Order.{Text, texts}
use Rattle.model.specs.Sorting.{sorted}
use Rattle.packed.specs.code.Strings.{strings_of}
use Rattle.packed.specs.declared.strings.StringAt.{StringAt}
use Rattle.replies.specs.Capacities.{hash_text_capacity}
use Rattle.ontology.specs.Table.{Property, EventType}
use Rattle.ontology.specs.code.TypeIndex.{PropertiesAre, TypeIs}
use Rattle.ontology.specs.declared.types.TypeIndex.{TypeIndex}
use Rattle.event.specs.Event.{Event}
use Rattle.event.specs.EventQuestions.{match_count}
use Rattle.event.specs.code.EventIndex.{SetsAre, EventIs}
use Rattle.event.specs.declared.read.EventIndex.{EventIndex}
use Rattle.hashing.specs.HashText.{event_text}

-- the first m of ys are the strings of the first n of xs with those of `added`
pub record Gathered (table event : List ℕ) (xs : List StringAt) (n : ℕ) (ys : List StringAt) (m : ℕ) (added : List Text) : Type 0 where
  pub more : m ≡ n + length added
  pub is : (ws : List Text) → strings_of table event xs n ≡ sorted texts ws → strings_of table event ys m ≡ sorted texts (ws ++ added)

-- ps are the numbers of properties and ats those of their sets, and the objects of the match properties are few
pub record Gatherable (table bytes : List ℕ) (count : ℕ) (ps ats : List ℕ) : Type 0 where
  pub properties : List Property
  pub sets : List (List Text)
  pub are : PropertiesAre table properties count ps
  pub stand : SetsAre bytes sets ats
  pub few : match_count properties sets ≤ 32

-- t and e are the indexes of a type and of an event whose hash text is to be had, with the numbers ps of its properties and ats of its sets
pub record Hashable (table bytes : List ℕ) (t : TypeIndex) (ps : List ℕ) (e : EventIndex) (ats : List ℕ) : Type 0 where
  pub type : EventType
  pub event : Event
  pub typed : TypeIs table type t ps
  pub read : EventIs bytes event e ats
  pub few : match_count type.properties event.sets ≤ 32
  pub short : length (event_text type event) ≤ hash_text_capacity
