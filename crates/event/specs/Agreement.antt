-- Document 01, question 7: "Do the two agree in type, source URI and match sets?"
use Rattle.std.specs.Prelude.{Bool, cond, ◌&&◌, List, [], ◌∷◌}
use Rattle.model.specs.Order.{Text, texts, sets, lists, equal}
use Rattle.ontology.specs.Table.{Property, is_match}

-- the sets of the match properties
unfoldable pub match_sets : List Property → List (List Text) → List (List Text)
match_sets [] ss = []
match_sets (p ∷ ps) [] = cond (is_match p) ([] ∷ match_sets ps []) (match_sets ps [])
match_sets (p ∷ ps) (s ∷ ss) = cond (is_match p) (s ∷ match_sets ps ss) (match_sets ps ss)

-- "Do the two agree in type, source URI and match sets?"
unfoldable pub agree : Text → Text → List (List Text) → Text → Text → List (List Text) → Bool
agree type source match type' source' match' = equal texts type type' && equal texts source source' && equal (lists sets) match match'
