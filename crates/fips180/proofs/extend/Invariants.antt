-- What held the words below `from` now holds those below `t`.
use Rattle.std.proofs.Common.{◌≡◌, ℕ, List, take}
use Rattle.fips180.specs.Fips.{schedule}
use Rattle.fips180.proofs.extend.Given as goal

abbrev pub invariant-loop-t : goal.invariant-loop-t
invariant-loop-t l = (m : List ℕ) → take l.from l.fn.w ≡ schedule m l.from → take l.t l.w ≡ schedule m l.t
