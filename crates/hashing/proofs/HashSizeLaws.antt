-- How long a hash text is, and that it has room in an output of 8,192 bytes.
use mathlib.Core.Path.{◌≡◌, refl, ap, ◌∙◌}
use mathlib.Core.Bool.{Bool, true, false, cond}
use mathlib.Core.List.{List, [], ◌∷◌, ◌++◌, map, flatten}
use Prim.Native.Nat.{suc, ◌+◌, ◌*◌, ◌≤◌}
use native.Mathlib.Omega.{arith}
use lib.ListN.{length, length-append, length-map}
use Rattle.model.specs.Order.{Order, Text, texts}
use Rattle.model.specs.Sorting.{insert, sorted}
use Rattle.model.proofs.Cases.{three}
use Rattle.replies.specs.Capacities.{hash_text_capacity}
use Rattle.ontology.specs.Table.{Property, EventType, is_match}
use Rattle.event.specs.Event.{Event}
use Rattle.event.specs.EventLayout.{wide}
use Rattle.event.specs.EventQuestions.{match_count, event_shape, values_fit}
use Rattle.event.proofs.EventLayoutLaws.{EventWritten}
use Rattle.event.proofs.HeadLayoutLaws.{source-length}
use Rattle.event.proofs.EventSizeLaws.{All, ValuesShort, event-short, event-match}
use Rattle.hashing.specs.HashText.{object_string, object_strings, separated, hash_text, event_text}

-- ---- sorting keeps the number of texts and of their bytes

module _ (O : Order Text) where
  insert-size :
      (a : Text) (xs : List Text) → (length (insert O a xs) ≡ suc (length xs)) × (length (flatten (insert O a xs)) ≡ length a + length (flatten xs))
  unfolding insert flatten
  insert-size a [] = (refl, length-append a [])
  insert-size a (b ∷ xs) =
      let h = insert-size a xs in
      let whole = length-append a (b ++ flatten xs) in
      three (O.cmp a b)
      (λ l. rw l (refl, whole))
      (λ e. rw e (refl, whole))
      (λ g. rw g (ap suc h.0, simp length-append (omega arith)))

  pub sorted-length : (xs : List Text) → length (sorted O xs) ≡ length xs
  unfolding sorted
  sorted-length [] = refl
  sorted-length (a ∷ xs) = (insert-size a (sorted O xs)).0 ∙ ap suc (sorted-length xs)

  pub sorted-bytes : (xs : List Text) → length (flatten (sorted O xs)) ≡ length (flatten xs)
  unfolding sorted flatten
  sorted-bytes [] = refl
  sorted-bytes (a ∷ xs) = simp length-append (omega (arith, (insert-size a (sorted O xs)).1, sorted-bytes xs))

-- ---- what stands between them

pub separated-size : (xs : List Text) → length (separated xs) ≤ length (flatten xs) + 4 * length xs
unfolding separated flatten
separated-size [] = omega arith
separated-size (x ∷ []) = simp length-append (omega arith)
separated-size (x ∷ y ∷ xs) = simp length-append (omega (arith, simp length-append at (separated-size (y ∷ xs))))

-- ---- the strings

-- a string for each match object
pub strings-length : (ps : List Property) (xs : List (List Text)) → length (object_strings ps xs) ≡ match_count ps xs
unfolding object_strings match_count
strings-length [] xs = refl
strings-length (p ∷ ps) [] = refl
strings-length (p ∷ ps) (x ∷ xs) = go (is_match p) (strings-length ps xs)
  where
    go :
        (t : Bool) → length (object_strings ps xs) ≡ match_count ps xs →
        length (cond t (map (object_string p.name) x) [] ++ object_strings ps xs) ≡ cond t (length x) 0 + match_count ps xs
    go true h = simp (length-append, length-map) (omega arith)
    go false h = omega arith

flatten-append : (xs ys : List Text) → length (flatten (xs ++ ys)) ≡ length (flatten xs) + length (flatten ys)
unfolding flatten
flatten-append [] ys = omega arith
flatten-append (x ∷ xs) ys = simp length-append (omega (arith, flatten-append xs ys))

-- name, colon and value: 32 + 1 + 120 bytes
named-size :
    (name : Text) (x : List Text) → length name ≤ 32 → All (λ (v : Text). length v ≤ 120) x →
    length (flatten (map (object_string name) x)) ≤ 153 * length x
unfolding flatten
named-size name [] n h = omega arith
named-size name (v ∷ x) n h = simp length-append (omega (arith, h.0, named-size name x n h.1))

pub strings-size :
    (ps : List Property) (xs : List (List Text)) → All (λ (p : Property). length p.name ≤ 32) ps → ValuesShort xs →
    length (flatten (object_strings ps xs)) ≤ 153 * match_count ps xs
unfolding object_strings match_count flatten
strings-size [] xs n v = omega arith
strings-size (p ∷ ps) [] n v = omega arith
strings-size (p ∷ ps) (x ∷ xs) n v = go (is_match p) (strings-size ps xs n.1 v.1)
  where
    go :
        (t : Bool) → length (flatten (object_strings ps xs)) ≤ 153 * match_count ps xs →
        length (flatten (cond t (map (object_string p.name) x) [] ++ object_strings ps xs)) ≤ 153 * (cond t (length x) 0 + match_count ps xs)
    go true h = simp flatten-append (omega (arith, named-size p.name x n.0 v.0))
    go false h = omega arith

-- 120 + 1 + 64 + 1 + 32 * (153 + 4) = 5,210
pub hash-size :
    (t : EventType) (e : Event) → length t.name ≤ 64 → length e.head.source ≤ 120 →
    All (λ (p : Property). length p.name ≤ 32) t.properties → match_count t.properties e.sets ≤ 32 → ValuesShort e.sets →
    length (event_text t e) ≤ hash_text_capacity
unfolding hash_text
hash-size t e n s p m v =
    let xs = object_strings t.properties e.sets in
    simp length-append
    (omega (
      arith,
      separated-size (sorted texts xs),
      sorted-bytes texts xs,
      sorted-length texts xs,
      strings-length t.properties e.sets,
      strings-size t.properties e.sets p v,
    ))

-- an event of which questions 3, 5 and 6 are answered yes
pub hash-fits :
    (t : EventType) (e : Event) → EventWritten wide e → event_shape t e ≡ true → values_fit t e.sets ≡ true → length t.name ≤ 64 →
    All (λ (p : Property). length p.name ≤ 32) t.properties → length (event_text t e) ≤ hash_text_capacity
hash-fits t e w h v n p = hash-size t e n (source-length e.head.source w.head.source).1 p (event-match t e h) (event-short t e h v)
