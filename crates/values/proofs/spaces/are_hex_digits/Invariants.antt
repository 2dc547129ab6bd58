-- The answer for all of v is the answer for what is left of it.
use Rattle.std.proofs.Common.{◌≡◌, drop}
use Rattle.values.specs.Spaces.{are_hex_digits}
use Rattle.values.proofs.spaces.are_hex_digits.Given as goal

abbrev pub invariant-loop-i : goal.invariant-loop-i
invariant-loop-i l = are_hex_digits l.v ≡ are_hex_digits (drop l.i l.v)
