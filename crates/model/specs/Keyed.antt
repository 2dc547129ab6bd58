-- Lists of entries by rising key: one notion for parents and values (an entry is its own key) and for snapshots (the key is the event version).
-- `put` brings an entry in, and joins it with the entry of its key where there is one; `merge` brings in a whole list.
use Rattle.std.specs.Prelude.{◌≡◌, List, [], ◌∷◌}
use Prim.Native.Nat.{Ordering}
use Rattle.model.specs.Order.{Order, pick}

module _ {E K : Type 0} (O : Order K) (key : E → K) where
  -- every key is above k
  abbrev pub Above : K → List E → Type 0
  Above k [] = Unit {0}
  Above k (x ∷ xs) = (O.cmp k (key x) ≡ Ordering.lt) × Above k xs

  -- the keys rise
  abbrev pub Rising : List E → Type 0
  Rising [] = Unit {0}
  Rising (x ∷ xs) = Above (key x) xs × Rising xs

  module _ (join : E → E → E) where
    unfoldable pub put : E → List E → List E
    put e [] = e ∷ []
    put e (x ∷ xs) = pick (O.cmp (key e) (key x)) (e ∷ x ∷ xs) (join e x ∷ xs) (x ∷ put e xs)

    unfoldable pub merge : List E → List E → List E
    merge [] ys = ys
    merge (x ∷ xs) ys = put x (merge xs ys)
