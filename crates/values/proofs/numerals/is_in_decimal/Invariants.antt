use Rattle.std.proofs.Common.{◌≤◌}
use Rattle.values.proofs.DigitLaws.{Left}
use Rattle.values.proofs.numerals.is_in_decimal.Given as goal

-- the digits of m are still to be compared with those before i, of which there is one at least
abbrev pub invariant-loop-i : goal.invariant-loop-i
invariant-loop-i l = (1 ≤ l.i) × Left l.v l.n l.m l.i
