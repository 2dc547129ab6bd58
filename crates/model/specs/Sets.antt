-- Sets as rising lists.
use mathlib.Core.List.{List, [], ◌∷◌, Memᴰ}
use Rattle.std.specs.Prelude.{ℕ, zero, suc, take}
use Rattle.model.specs.Order.{Order, pick}
use Rattle.model.specs.Keyed.{Rising, put, merge}

-- each element is so
abbrev pub All : {A : Type 0} → (A → Type 0) → List A → Type 0
All ok [] = Unit {0}
All ok (x ∷ xs) = ok x × All ok xs

module _ {A : Type 0} where
  -- each member of the one is a member of the other; and both ways
  abbrev pub Within : List A → List A → Type 0
  Within xs ys = (a : A) → Memᴰ a xs → Memᴰ a ys

  abbrev pub Same : List A → List A → Type 0
  Same xs ys = Within xs ys × Within ys xs

-- an element is its own key, and of two equal ones the first is kept
abbrev pub itself : {K : Type 0} → K → K
itself a = a

abbrev pub first : {K : Type 0} → K → K → K
first a b = a

module _ {K : Type 0} (O : Order K) where
  -- "Rising" means strictly rising
  abbrev pub Ups : List K → Type 0
  Ups = Rising O itself

  -- the members of a list, rising and each once
  unfoldable pub canon : List K → List K
  canon [] = []
  canon (x ∷ xs) = put O itself first x (canon xs)

  unfoldable pub union : List K → List K → List K
  union = merge O itself first

  -- the smallest alone, or none of none
  unfoldable pub smallest : List K → List K
  smallest xs = take 1 (canon xs)

module _ {A K : Type 0} (O : Order K) (f : A → K) where
  -- the elements whose f is k
  unfoldable pub only : K → List A → List A
  only k [] = []
  only k (x ∷ xs) = pick (O.cmp k (f x)) (only k xs) (x ∷ only k xs) (only k xs)

-- n numbers from k on, rising by one
unfoldable pub up_from : ℕ → ℕ → List ℕ
up_from k zero = []
up_from k (suc n) = k ∷ up_from (suc k) n

-- the numbers below n, rising
unfoldable pub up_to : ℕ → List ℕ
up_to n = up_from 0 n
