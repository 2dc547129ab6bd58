-- `read_number` is `read_groups` with ten bytes.
use Rattle.std.proofs.Common.{arith, ◌∙◌}
use Rattle.packed.proofs.ReadLaws.{at-end, at_last, number-ten}
use Rattle.packed.proofs.read.read_number.Goals as goal

pub returns-then-s-at : goal.returns-then-s-at
returns-then-s-at c = at-end _ _ 10 c.if-s-at.true ∙ number-ten _ _

pub returns-then-b-lt128 : goal.returns-then-b-lt128
returns-then-b-lt128 c = at_last _ _ 10 (omega arith) (omega arith) c.if-b-lt128.true ∙ number-ten _ _

pub returns : goal.returns
returns c = c.read_groups.ensures ∙ number-ten _ _
