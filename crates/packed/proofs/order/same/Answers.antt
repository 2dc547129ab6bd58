use Rattle.std.proofs.Common.{sym, ◌∙◌, ne_eqb}
use Rattle.packed.proofs.OrderLaws.{equal-lengths, same-is}
use Rattle.packed.proofs.order.same.Goals as goal

pub returns-then-a-b : goal.returns-then-a-b
returns-then-a-b c = c.is_eq.ensures ∙ same-is _ _ _ c.compare.ensures

pub returns-else-a-b : goal.returns-else-a-b
returns-else-a-b c = ne_eqb _ _ c.if-a-b.false ∙ sym (equal-lengths _ _ c.if-a-b.false)
