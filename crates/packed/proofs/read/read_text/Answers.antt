use Rattle.std.proofs.Common.{arith, ◌∙◌}
use Rattle.packed.proofs.ReadLaws.{length-read, text-is, text-short, text-no-length}
use Rattle.packed.proofs.read.read_text.Goals as goal

pub returns-in_err-length : goal.returns-in_err-length
returns-in_err-length c = c.from_residual.ensures ∙ text-no-length _ _ c.read_number.ensures c.in_err-length.was

pub overflow_sub-s : goal.overflow_sub-s
overflow_sub-s c = omega (arith, length-read _ _ c.read_number.ensures c.in_ok-length.was)

pub returns-then-n-s : goal.returns-then-n-s
returns-then-n-s c = text-is _ _ c.read_number.ensures c.in_ok-length.was c.if-n-s.true

pub returns-else-n-s : goal.returns-else-n-s
returns-else-n-s c = text-short _ _ c.read_number.ensures c.in_ok-length.was c.if-n-s.false
