-- Document 01, "Opening", on values.
use Rattle.std.specs.Prelude.{Bool, true, false, cond, ◌&&◌, ℕ, leb, length, get_or}
use Rattle.std.proofs.Math.Option.{Option, none, some}
use mathlib.Core.List.{List, [], ◌∷◌, map, flatten}
use Rattle.model.specs.Order.{Text, texts}
use Rattle.model.specs.Sets.{canon, smallest}
use Rattle.model.specs.Rule.{Cell, holds, differs, Choice, every, least, TypeView, places, Snapshot, Dossier}

-- the first number of a list that passes a test
unfoldable pub lowest : (ℕ → Bool) → List ℕ → Option ℕ
lowest test [] = none
lowest test (p ∷ ps) = cond (test p) (some p) (lowest test ps)

-- the cell of a place
unfoldable pub cell_at : Snapshot → ℕ → Cell
cell_at s p = get_or s.cells p (holds [])

unfoldable pub is_mark : Cell → Bool
is_mark (holds s) = false
is_mark differs = true

-- the set of a cell; a mark has none
unfoldable pub held : Cell → List Text
held (holds s) = s
held differs = []

-- The conflict that a dossier names, if any: the snapshot of a version differs at a place
pub data Conflict : Type 0 where
  no_conflict : Conflict
  differs_at : ℕ → ℕ → Conflict

-- the lowest place with a differ bit
unfoldable pub marked : List ℕ → Snapshot → Option ℕ
marked ps s = lowest (λ p. is_mark (cell_at s p)) ps

unfoldable pub or_later : ℕ → Option ℕ → Conflict → Conflict
or_later v (some p) c = differs_at v p
or_later v none c = c

-- "Conflict (lowest snapshot with a differ bit, lowest place)": the snapshots and the places are given rising
unfoldable pub conflict : List ℕ → List Snapshot → Conflict
conflict ps [] = no_conflict
conflict ps (s ∷ ss) = or_later s.version (marked ps s) (conflict ps ss)

-- the sets of a place, lowest snapshot first
unfoldable pub column : List Snapshot → ℕ → List (List Text)
column ss p = map (λ s. held (cell_at s p)) ss

-- the last set, or none
unfoldable pub last_of : List (List Text) → List Text
last_of [] = []
last_of (s ∷ []) = s
last_of (s ∷ r ∷ ss) = last_of (r ∷ ss)

-- "Min and max run over all snapshots, replace takes the highest snapshot's set or nothing, the rest the union".
-- The first argument tells strategy replace.
unfoldable pub merged_set : Bool → Choice → List (List Text) → List Text
merged_set true c ss = last_of ss
merged_set false every ss = canon texts (flatten ss)
merged_set false (least O) ss = smallest O (flatten ss)

-- What opening finds in place of a merged event: a conflict at a version and a place, or an overfull place
pub data Finding : Type 0 where
  conflict_at : ℕ → ℕ → Finding
  overfull_at : ℕ → Finding

-- the place that is found
unfoldable pub place_of : Finding → ℕ
place_of (conflict_at v p) = p
place_of (overfull_at p) = p

-- What opening answers: a finding, or the sets of the merged event from place 0 on.
-- The merged event's parents are the dossier's, and so are its type and source.
pub data Opened : Type 0 where
  finds : Finding → Opened
  merged : List (List Text) → Opened

-- "Conflict .. comes before overfull .., else a merged event"
unfoldable pub first_of : Conflict → Option ℕ → List (List Text) → Opened
first_of (differs_at v p) full ss = finds (conflict_at v p)
first_of no_conflict (some p) ss = finds (overfull_at p)
first_of no_conflict none ss = merged ss

module _ (t : TypeView) (d : Dossier) where
  -- the merged event's set at a place
  unfoldable pub merged_at : ℕ → List Text
  merged_at p = merged_set (t.replaces p) (t.choice p) (column d.snapshots p)

  unfoldable pub merged_sets : List (List Text)
  merged_sets = map merged_at (places t)

  -- "overfull (lowest single-valued place that would get more than one object)"
  unfoldable pub overfull : Option ℕ
  overfull = lowest (λ p. t.single p && leb 2 (length (merged_at p))) (places t)

  unfoldable pub opening : Opened
  opening = first_of (conflict (places t) d.snapshots) overfull merged_sets
