-- Two versioned snapshots of one version, place by place, as the code writes what they are together.
use Rattle.std.specs.Prelude.{◌≡◌, Bool, true, false, List, [], ◌∷◌, map}
use Rattle.model.specs.Order.{sets, equal}
use Rattle.model.specs.Rule.{Cell, holds, differs}
use Rattle.model.specs.Opening.{is_mark}
use Rattle.combining.specs.declared.agreed.Places.{Places}

-- neither is marked, and both have the same set
unfoldable pub is_agreed : Cell → Cell → Bool
is_agreed differs d = false
is_agreed (holds s) differs = false
is_agreed (holds s) (holds t) = equal sets s t

-- a cell that has objects
unfoldable pub is_filled : Cell → Bool
is_filled differs = false
is_filled (holds []) = false
is_filled (holds (v ∷ vs)) = true

-- the places of all cells
pub record PlacesAre (cs : List Cell) (p : Places) : Type 0 where
  pub present : p.present ≡ map is_filled cs
  pub marked : p.marked ≡ map is_mark cs
