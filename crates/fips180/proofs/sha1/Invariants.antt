-- The hash value is that after the blocks below `i`.
use Rattle.std.proofs.Common.{◌≡◌}
use Rattle.fips180.specs.Fips.{hash, padded}
use Rattle.fips180.specs.code.StateWords.{words_of}
use Rattle.fips180.proofs.sha1.Given as goal

abbrev pub invariant-loop-i : goal.invariant-loop-i
invariant-loop-i l = words_of l.s ≡ hash (padded l.message) l.i
