-- The laws of the rules of a property, on its index.
use mathlib.Core.Path.{◌≡◌, refl}
use mathlib.Core.Bool.{Bool, not, ◌&&◌, ◌||◌}
use mathlib.Core.List.{List}
use Prim.Native.Nat.{ℕ}
use lib.Dec.{leb, eqb}
use Rattle.values.specs.Spaces.{sequence, datetime, kind_number}
use Rattle.values.specs.ValueOrder.{is_ordered}
use Rattle.ontology.specs.Table.{Property, strategy_fits, can_be_marked}
use Rattle.ontology.specs.declared.properties.PropertyAt.{PropertyAt}
use Rattle.ontology.specs.code.TypeIndex.{PropertyIs, has_max, has_extreme, has_replace}
use Rattle.ontology.proofs.TypeIndexLaws.{max_of, extreme-of, replace-of}

module _ {s : List ℕ} {q : Property} {x : PropertyAt} (w : PropertyIs s q x) where
  pub strategy_by :
      (v : Bool) →
      strategy_fits v q
      ≡ ((not (has_extreme x) || (not x.optional && not x.multivalued && leb x.kind (kind_number datetime)))
      && (not (has_replace x) || (x.optional && not x.multivalued && v)))
  unfolding strategy_fits is_ordered
  strategy_by v = rw (extreme-of w, replace-of w, w.optional, w.multivalued, w.kind.number) refl

  pub marked_by : can_be_marked q ≡ (not x.optional && not x.multivalued && eqb x.kind (kind_number sequence) && has_max x)
  unfolding can_be_marked
  marked_by = rw (max_of w, w.optional, w.multivalued, w.kind.number) refl
