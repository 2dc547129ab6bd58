-- Document 01, "Hash text".
use Rattle.std.specs.Prelude.{ℕ, cond, List, [], ◌∷◌, ◌++◌, map}
use Rattle.model.specs.Order.{Text, texts}
use Rattle.model.specs.Sorting.{sorted}
use Rattle.ontology.specs.Table.{Property, EventType, is_match}
use Rattle.event.specs.Event.{Event}

-- "name, colon and value"
abbrev pub object_string : Text → Text → Text
object_string name value = name ++ (58 ∷ value)

-- "of each object of the match properties"
unfoldable pub object_strings : List Property → List (List Text) → List Text
object_strings [] ss = []
object_strings (p ∷ ps) [] = []
object_strings (p ∷ ps) (s ∷ ss) = cond (is_match p) (map (object_string p.name) s) [] ++ object_strings ps ss

-- "FF FF FF FF between"
abbrev pub separator : List ℕ
separator = 0xff ∷ 0xff ∷ 0xff ∷ 0xff ∷ []

unfoldable pub separated : List Text → List ℕ
separated [] = []
separated (s ∷ []) = s
separated (s ∷ r ∷ ss) = s ++ separator ++ separated (r ∷ ss)

-- "Source URI, byte 0A, type name, byte 0A, then name, colon and value of each object of the match properties, sorted as whole strings, FF FF FF FF between.
-- With no such object it ends after the second 0A."
unfoldable pub hash_text : Text → EventType → List (List Text) → List ℕ
hash_text source t ss = source ++ (10 ∷ []) ++ t.name ++ (10 ∷ []) ++ separated (sorted texts (object_strings t.properties ss))

-- the hash text of an event of a type
abbrev pub event_text : EventType → Event → List ℕ
event_text t e = hash_text e.head.source t e.sets
