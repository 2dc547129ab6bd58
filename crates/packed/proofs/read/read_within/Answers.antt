use Rattle.packed.proofs.FieldLaws.{within_none, within-below, within-above, within-got}
use Rattle.packed.proofs.read.read_within.Goals as goal

pub returns-in_err-n : goal.returns-in_err-n
returns-in_err-n c = rw c.from_residual.ensures (within_none _ _ _ _ c.read_number.ensures c.in_err-n.was)

pub returns-then-n-least : goal.returns-then-n-least
returns-then-n-least c = within-below _ _ _ _ c.read_number.ensures c.in_ok-n.was c.if-n-least.true

pub returns-then-most-n : goal.returns-then-most-n
returns-then-most-n c = within-above _ _ _ _ c.read_number.ensures c.in_ok-n.was c.if-n-least.false c.if-most-n.true

pub returns : goal.returns
returns c = within-got _ _ _ _ c.read_number.ensures c.in_ok-n.was c.if-n-least.false c.if-most-n.false
