use Rattle.std.proofs.Common.{◌∙◌, sym, arith}
use Rattle.values.proofs.NumberOrderLaws.{size_less, size-more, size-alike}
use Rattle.values.proofs.numbers.by_size.Goals as goal

pub returns-then-a-b : goal.returns-then-a-b
returns-then-a-b c = sym (size_less _ _ c.if-a-b.true)

pub returns-then-b-a : goal.returns-then-b-a
returns-then-b-a c = sym (size-more _ _ c.if-b-a.true)

pub returns : goal.returns
returns c = c.compare.ensures ∙ sym (size-alike _ _ (omega arith))
