-- What the rule reads of events through something else, as through their bytes: the rule is that over the events.
use mathlib.Core.Path.{◌≡◌, refl, sym, ap, ◌∙◌}
use mathlib.Core.List.{List, [], ◌∷◌, ◌++◌, map, flatten}
use Prim.Native.Nat.{ℕ}
use Rattle.model.specs.Order.{texts, numbers}
use Rattle.model.proofs.Cases.{three}
use Rattle.model.specs.Sets.{canon, only}
use Rattle.model.specs.Rule.{View, through, places, cell, of_version, cell_of, snapshot, rule_at, rule, combine}
use Rattle.model.proofs.PartLaws.{map_same, map-append}
use Rattle.model.proofs.RuleLaws.{rule-append}

module _ {A B : Type 0} (f : A → B) (v : View B) where
  abbrev read : View A
  read = through f v

  map-through : {C : Type 0} (g : B → C) (xs : List A) → map (λ x. g (f x)) xs ≡ map g (map f xs)
  map-through g [] = refl
  map-through {C} g (x ∷ xs) = ap {B = List C} (λ r. g (f x) ∷ r) (map-through g xs)

  only_through : (n : ℕ) (xs : List A) → map f (only numbers (λ x. v.event.version (f x)) n xs) ≡ only numbers v.event.version n (map f xs)
  unfolding only
  only_through n [] = refl
  only_through n (x ∷ xs) =
      let others = only_through n xs in
      three (numbers.cmp n (v.event.version (f x))) (λ l. rw l others) (λ s. rw (s, others)) (λ g. rw g others)

  cell-through : (xs : List A) (p : ℕ) → cell_of read xs p ≡ cell_of v (map f xs) p
  unfolding cell_of
  cell-through xs p = ap (cell v.type.versioned (v.type.choice p)) (map-through (λ x. v.event.set x p) xs)

  at-through : (xs : List A) (n : ℕ) → rule_at read xs n ≡ rule_at v (map f xs) n
  unfolding rule_at snapshot of_version places
  at-through xs n = λ i. record { version = n; cells = cells i }
    where
      cells : map (cell_of read (of_version read n xs)) (places v.type) ≡ map (cell_of v (of_version v n (map f xs))) (places v.type)
      cells = map_same _ _ (places v.type) (λ p m. cell-through (of_version read n xs) p ∙ ap (λ (ys : List B). cell_of v ys p) (only_through n xs))

  -- the rule, over what is read
  pub rule-through : (xs : List A) → rule read xs ≡ rule v (map f xs)
  unfolding rule
  rule-through xs = λ i. record {
    parents = canon texts (flatten (map-through v.event.parents xs i));
    snapshots = snapshots i;
  }
    where
      snapshots :
          map (rule_at read xs) (canon numbers (map read.event.version xs)) ≡ map (rule_at v (map f xs))
          (canon numbers (map v.event.version (map f xs)))
      snapshots =
          map_same (rule_at read xs) (rule_at v (map f xs)) (canon numbers (map read.event.version xs)) (λ n m. at-through xs n)
          ∙ ap (λ (ns : List ℕ). map (rule_at v (map f xs)) (canon numbers ns)) (map-through v.event.version xs)

  pub combine-through : (xs ys : List A) → combine v.type (rule read xs) (rule read ys) ≡ combine v.type (rule v (map f xs)) (rule v (map f ys))
  combine-through xs ys =
      rule-append read xs ys ∙ (rule-through (xs ++ ys) ∙ (ap (rule v) (map-append f xs ys) ∙ sym (rule-append v (map f xs) (map f ys))))
