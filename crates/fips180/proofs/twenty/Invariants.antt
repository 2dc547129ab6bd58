-- What was the state after the rounds below `from` is now that after the rounds below `t`.
use Rattle.std.proofs.Common.{◌≡◌, ℕ, ◌+◌, List, take}
use Rattle.fips180.specs.Fips.{HashValue, rounds}
use Rattle.fips180.specs.code.StateWords.{words_of}
use Rattle.fips180.proofs.twenty.Given as goal

abbrev pub invariant-loop-t : goal.invariant-loop-t
invariant-loop-t l =
    (ws : List ℕ) (h : HashValue) → take (l.from + 20) l.w ≡ take (l.from + 20) ws → words_of l.fn.s ≡ rounds ws l.from h →
    words_of l.r ≡ rounds ws l.t h
