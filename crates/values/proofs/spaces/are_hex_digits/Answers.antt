use Rattle.std.proofs.Common.{arith}
use Rattle.values.proofs.SpaceLaws.{hex-other, hex-more, hex-end}
use Rattle.values.proofs.spaces.are_hex_digits.Goals as goal

pub returns-then-not-is_hex_digit : goal.returns-then-not-is_hex_digit
returns-then-not-is_hex_digit c = hex-other _ _ c.loop-i.invariant (omega arith) c.is_hex_digit.ensures c.if-not-is_hex_digit.true

pub loop-i-preserved : goal.loop-i-preserved
loop-i-preserved c = hex-more _ _ c.loop-i.invariant (omega arith) c.is_hex_digit.ensures c.if-not-is_hex_digit.false

pub returns : goal.returns
returns c = hex-end _ _ c.loop-i.invariant (omega arith)
