-- The rule's parts in the steps that a program takes: two rising lists from their first elements, sets added one at a time, cells place by place.
use mathlib.Core.Path.{◌≡◌, refl, sym, ◌∙◌, ap, ap₂}
use mathlib.Core.List.{List, [], ◌∷◌, ◌++◌, map, flatten, append-nil}
use Prim.Native.Nat.{ℕ, ◌<◌}
use lib.ListN.{length, take, get_or}
use Rattle.model.specs.Order.{Order, pick}
use Rattle.model.specs.Keyed.{merge}
use Rattle.model.specs.Sets.{Ups, itself, first, union, smallest, up_to}
use Rattle.model.specs.Rule.{Cell, holds, TypeView, places, Snapshot, join_cell, join_cells, join_snapshots}
use Rattle.model.specs.Opening.{cell_at}
use Rattle.model.proofs.KeyedLaws.{merge-nil, merge_step}
use Rattle.model.proofs.SetLaws.{smallest-append}
use Rattle.model.proofs.PartLaws.{flatten-append, map-get_d, get_d-up_to}
use Rattle.model.proofs.RuleLaws.{join-cells-map}

module _ {K : Type 0} (O : Order K) where
  -- the union of two rising lists, by their first elements
  pub union-left-nil : (ys : List K) → union O [] ys ≡ ys
  unfolding union merge
  union-left-nil ys = refl

  pub union-right-nil : (xs : List K) → Ups O xs → union O xs [] ≡ xs
  unfolding union
  union-right-nil xs h = merge-nil O itself first (λ a b e. refl) xs h

  pub union-step : (x : K) (xs : List K) (y : K) (ys : List K) → Ups O (x ∷ xs) → Ups O (y ∷ ys) →
      union O (x ∷ xs) (y ∷ ys) ≡ pick (O.cmp x y) (x ∷ union O xs (y ∷ ys)) (x ∷ union O xs ys) (y ∷ union O (x ∷ xs) ys)
  unfolding union
  union-step x xs y ys hx hy = merge_step O itself first (λ a b e. refl) x xs y ys hx hy

  -- the smallest, with one more set after the others
  pub smallest-snoc :
      (ss : List (List K)) (s : List K) → smallest O (flatten (ss ++ (s ∷ []))) ≡ take 1 (union O (smallest O (flatten ss)) (smallest O s))
  unfolding flatten
  smallest-snoc ss s = rw (flatten-append ss (s ∷ []), append-nil s) (sym (smallest-append O (flatten ss) s))

-- the cells of two snapshots, place by place
module _ (t : TypeView) (a b : Snapshot) (la : length a.cells ≡ t.width) (lb : length b.cells ≡ t.width) where
  pub join-map : (join_snapshots t a b).cells ≡ map (λ p. join_cell t.versioned (t.choice p) (cell_at a p) (cell_at b p)) (places t)
  unfolding join_snapshots cell_at places
  join-map =
      ap₂ (join_cells t (up_to t.width)) (sym (map-get_d a.cells (holds []) t.width la)) (sym (map-get_d b.cells (holds []) t.width lb))
      ∙ join-cells-map t (up_to t.width) (cell_at a) (cell_at b)

  pub join-at : (p : ℕ) → p < t.width → cell_at (join_snapshots t a b) p ≡ join_cell t.versioned (t.choice p) (cell_at a p) (cell_at b p)
  unfolding cell_at places
  join-at p h =
      ap (λ (cs : List Cell). get_or cs p (holds [])) join-map
      ∙ get_d-up_to t.width (λ p. join_cell t.versioned (t.choice p) (cell_at a p) (cell_at b p)) (holds []) p h
