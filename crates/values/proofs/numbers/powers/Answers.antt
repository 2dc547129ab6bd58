use Rattle.std.proofs.Common.{rules}
use Rattle.values.specs.Decimal.{is_digit, are_digits, numeral_after, numeral, is_natural}
use Rattle.values.specs.Spaces.{is_width}
use Rattle.values.proofs.numbers.powers.Goals as goal

pub returns-in-1 : goal.returns-in-1
unfolding is_natural are_digits is_digit numeral numeral_after is_width
returns-in-1 c = search rules

pub returns-in-2 : goal.returns-in-2
unfolding is_natural are_digits is_digit numeral numeral_after is_width
returns-in-2 c = search rules

pub returns-in-3 : goal.returns-in-3
unfolding is_natural are_digits is_digit numeral numeral_after is_width
returns-in-3 c = search rules

pub returns-in-4 : goal.returns-in-4
unfolding is_natural are_digits is_digit numeral numeral_after is_width
returns-in-4 c = search rules

pub returns-in_default : goal.returns-in_default
unfolding is_natural are_digits is_digit numeral numeral_after is_width
returns-in_default c = search rules
