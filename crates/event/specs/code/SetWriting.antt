-- Sets that are written from where they stand.
use Rattle.std.specs.Prelude.{ℕ, ◌+◌, ◌/◌, ◌%◌, ◌≤◌, cond, List, [], ◌∷◌, ◌++◌, eqb, length}
use Rattle.model.specs.Order.{Text}
use Rattle.packed.specs.Packed.{part}
use Rattle.event.specs.EventLayout.{set_bytes}
use Rattle.event.specs.code.EventIndex.{SetIs, SetsAre}
use Rattle.event.specs.declared.sets.SetAt.{SetAt}
use Rattle.event.specs.declared.write.Run.{Run}

-- a set, written with its count, has its room in an output of `size` bytes
pub record SetRoom (s : List ℕ) (x : SetAt) (at size : ℕ) : Type 0 where
  pub values : List Text
  pub is : SetIs s values x
  pub room : at + length (set_bytes values) ≤ size

-- what is written of a place whose bit of the presence number is `bit`
unfoldable pub place_bytes : ℕ → List Text → List ℕ
place_bytes bit vs = cond (eqb bit 1) (set_bytes vs) []

unfoldable pub present_bytes : ℕ → List (List Text) → List ℕ
present_bytes presence [] = []
present_bytes presence (x ∷ xs) = place_bytes (presence % 2) x ++ present_bytes (presence / 2) xs

-- the sets of a presence number have their room in an output of `size` bytes
pub record PresentRoom (s ats : List ℕ) (presence at size : ℕ) : Type 0 where
  pub values : List (List Text)
  pub are : SetsAre s values ats
  pub room : at + length (present_bytes presence values) ≤ size

-- ---- sets that stand one after the other

-- the bytes of a run
abbrev pub run_bytes : List ℕ → Run → List ℕ
run_bytes s r = part s r.start r.end

-- a run is of the bytes s
pub record RunIs (s : List ℕ) (r : Run) : Type 0 where
  pub order : r.start ≤ r.end
  pub within : r.end ≤ length s

-- a run has its room in an output of `size` bytes, and a set may follow it
pub record RunRoom (s : List ℕ) (r : Run) (x : SetAt) (size : ℕ) : Type 0 where
  pub run : RunIs s r
  pub values : List Text
  pub is : SetIs s values x
  pub room : r.to + length (run_bytes s r) ≤ size
