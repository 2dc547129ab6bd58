use Rattle.std.proofs.Common.{sym, ◌∙◌}
use borrow.Author.Tests.{le-ltb}
use Rattle.combining.proofs.ObjectLaws.{extreme-past, extreme-here}
use Rattle.combining.proofs.limits.is_extreme_at.Goals as goal

pub returns-then-k-count : goal.returns-then-k-count
returns-then-k-count c = λ u ty w. c.is_extreme.ensures ∙ sym (extreme-here u ty _ _ _ w c.property_at.ensures c.if-k-count.true)

pub returns-else-k-count : goal.returns-else-k-count
returns-else-k-count c = λ u ty w. le-ltb _ _ c.if-k-count.false ∙ extreme-past u ty _ _ _ w c.if-k-count.false
