-- Sorting by insertion, in any order.
use Rattle.std.specs.Prelude.{List, [], ◌∷◌}
use Rattle.model.specs.Order.{Order, pick}

module _ {A : Type 0} (O : Order A) where
  unfoldable pub insert : A → List A → List A
  insert a [] = a ∷ []
  insert a (b ∷ xs) = pick (O.cmp a b) (a ∷ b ∷ xs) (a ∷ b ∷ xs) (b ∷ insert a xs)

  unfoldable pub sorted : List A → List A
  sorted [] = []
  sorted (a ∷ xs) = insert a (sorted xs)
