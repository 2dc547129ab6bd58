-- Document 01, "Dossier": the bytes after its head, which are its snapshots.
use Rattle.std.specs.Prelude.{ℕ, zero, suc, ◌/◌, ◌%◌, Bool, true, cond, not, ◌&&◌, length, leb, eqb}
use mathlib.Core.List.{List, [], ◌∷◌, ◌++◌, map, flatten}
use Rattle.model.specs.Order.{Text, numbers, rising}
use Rattle.model.specs.Rule.{Cell, holds, differs, Snapshot}
use Rattle.model.specs.Limits.{Limits}
use Rattle.model.specs.Opening.{held}
use Rattle.packed.specs.Parse.{Layout, ◌>>=◌, found_if, such_that, times}
use Rattle.packed.specs.Packed.{number, read_number, is_within}
use Rattle.event.specs.EventLayout.{read_bits, read_sets, presence_bit, bit_number, sets_bytes}

-- "no bit in common with presence": of the lowest so many bits
unfoldable pub apart : ℕ → ℕ → ℕ → Bool
apart zero m n = true
apart (suc k) m n = not (eqb (m % 2) 1 && eqb (n % 2) 1) && apart k (m / 2) (n / 2)

-- a place whose differ bit is set is marked, any other has its set
unfoldable pub cells_of : ℕ → List (List Text) → List Cell
cells_of differ [] = []
cells_of differ (s ∷ ss) = cond (eqb (differ % 2) 1) differs (holds s) ∷ cells_of (differ / 2) ss

-- "each of at most 256 values"
unfoldable pub are_small : List (List Text) → Bool
are_small [] = true
are_small (s ∷ ss) = leb (length s) 256 && are_small ss

-- "A snapshot is: event version (0 for an unversioned type), presence number, differ number (no bit in common with presence, both below 2^32), the sets as
-- in an event, each of at most 256 values."
unfoldable pub read_snapshot : Layout Snapshot
read_snapshot = do
  version ← read_number
  presence ← read_bits
  differ ← such_that (apart 32 presence) read_bits
  sets ← read_sets 32 presence
  found_if (are_small sets) (record { version = version; cells = cells_of differ sets })

-- "snapshot count 1 to 8, snapshots by rising event version"; Q-13: "the reading of dossiers (3 for versions ..)", so as many as the limits allow
unfoldable pub read_body : Limits → Layout (List Snapshot)
read_body limits = do
  count ← such_that (is_within 1 limits.versions) read_number
  snapshots ← times read_snapshot count
  found_if (rising numbers (map (λ (s : Snapshot). s.version) snapshots)) snapshots

-- The same layout, written

unfoldable pub differ_bit : Cell → ℕ
differ_bit (holds s) = 0
differ_bit differs = 1

unfoldable pub snapshot_bytes : Snapshot → List ℕ
snapshot_bytes s =
    let sets = map held s.cells in
    number s.version ++ number (bit_number (map presence_bit sets)) ++ number (bit_number (map differ_bit s.cells)) ++ sets_bytes sets

unfoldable pub body_bytes : List Snapshot → List ℕ
body_bytes ss = number (length ss) ++ flatten (map snapshot_bytes ss)
