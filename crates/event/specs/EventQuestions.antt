-- Document 01, questions 3 to 6 of an event.
use Rattle.std.specs.Prelude.{ℕ, ◌+◌, Bool, true, cond, ◌&&◌, ◌||◌, List, [], ◌∷◌, length, leb, eqb}
use Rattle.model.specs.Order.{Text}
use Rattle.values.specs.Spaces.{Kind, in_space}
use Rattle.replies.specs.Questions.{Asked, accepted, ◌>>=◌, ◌>>◌, ask, ensure}
use Rattle.ontology.specs.Table.{Property, EventType, Table, is_match, type_named}
use Rattle.event.specs.Event.{Event}
use Rattle.event.specs.EventLayout.{Counts, narrow, event_of}

-- A test of each place: of a property and its set, where sets that are not there are empty; and of a set where there is no property
unfoldable pub each_place : (Property → List Text → Bool) → (List Text → Bool) → List Property → List (List Text) → Bool
each_place f g [] [] = true
each_place f g [] (s ∷ ss) = g s && each_place f g [] ss
each_place f g (p ∷ ps) [] = f p [] && each_place f g ps []
each_place f g (p ∷ ps) (s ∷ ss) = f p s && each_place f g ps ss

abbrev pub is_empty : List Text → Bool
is_empty s = eqb (length s) 0

-- "are mandatory ones there, single ones single"
unfoldable pub set_fits : Property → List Text → Bool
set_fits p s = (p.optional || leb 1 (length s)) && (p.multivalued || leb (length s) 1)

-- the objects of the match properties
unfoldable pub match_count : List Property → List (List Text) → ℕ
match_count [] ss = 0
match_count (p ∷ ps) [] = 0
match_count (p ∷ ps) (s ∷ ss) = cond (is_match p) (length s) 0 + match_count ps ss

-- "Do presence .. bits name properties, are mandatory ones there, single ones single, match objects 32 at most?"
unfoldable pub event_shape : EventType → Event → Bool
event_shape t e = each_place set_fits is_empty t.properties e.sets && leb (match_count t.properties e.sets) 32

-- "Is every value in its space, its length of 1 to 120 bytes included?"
unfoldable pub are_in_space : Kind → List Text → Bool
are_in_space k [] = true
are_in_space k (v ∷ vs) = in_space k v && are_in_space k vs

unfoldable pub values_fit : EventType → List (List Text) → Bool
values_fit t ss = each_place (λ p s. are_in_space p.kind s) (λ s. true) t.properties ss

-- An event with its type in the table
pub record Typed : Type 0 where
  pub type : EventType
  pub event : Event

-- "Does the input read by its layout to its exact end? 3", "Has the table its type? 4", and then 5 and 6
unfoldable pub event_asked : Counts → Table → List ℕ → Asked Typed
event_asked counts table s = do
  e ← ask 3 (event_of counts s)
  t ← ask 4 (type_named e.head.type table)
  ensure 5 (event_shape t e)
  ensure 6 (values_fit t e.sets)
  accepted (record { type = t; event = e })

-- "An event is accepted under a table when each question that checking asks of the two is answered yes."
abbrev pub new_event_asked : Table → List ℕ → Asked Typed
new_event_asked = event_asked narrow
