-- The words below `t` are those of the schedule.
use Rattle.std.proofs.Common.{◌≡◌, take}
use Rattle.fips180.specs.Fips.{schedule}
use Rattle.fips180.proofs.block_words.Given as goal

abbrev pub invariant-loop-t : goal.invariant-loop-t
invariant-loop-t l = take l.t l.w ≡ schedule l.m l.t
