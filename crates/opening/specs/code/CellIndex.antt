-- Sets as three numbers each: where they start, where they end, and their count.
use Rattle.std.specs.Prelude.{ℕ, ◌+◌, ◌*◌, List, get_or, set}
use Rattle.event.specs.declared.sets.SetAt.{SetAt}

-- the set whose numbers stand from `at` on
unfoldable pub set_from : List ℕ → ℕ → SetAt
set_from xs at = record { start = get_or xs at 0; end = get_or xs (at + 1) 0; count = get_or xs (at + 2) 0 }

unfoldable pub with_set : List ℕ → ℕ → SetAt → List ℕ
with_set xs at x = set (set (set xs at x.start) (at + 1) x.end) (at + 2) x.count

-- the set of place p in snapshot j, whose row has 96 numbers
abbrev pub cell_in : List ℕ → ℕ → ℕ → SetAt
cell_in rows p j = set_from rows (96 * j + 3 * p)
