-- A text that is not there ends the batch, each other one is one event more, and after the last the batch is whole where it ends with its bytes.
use Rattle.std.proofs.Common.{arith}
use Rattle.batch.proofs.FrameLaws.{passed_none, passed-bad, passed-more, passed-all, passed-early}
use Rattle.batch.proofs.frame.read_texts.Goals as goal

pub loop-i-init : goal.loop-i-init
loop-i-init c = search passed_none

pub returns-in_err-event : goal.returns-in_err-event
returns-in_err-event c = rw c.from_residual.ensures (passed-bad c.loop-i.invariant (omega arith) c.in_err-event.ensures)

pub loop-i-preserved : goal.loop-i-preserved
loop-i-preserved c = passed-more c.loop-i.invariant (omega arith) c.in_ok-event.ensures

pub returns-then-next-batch : goal.returns-then-next-batch
returns-then-next-batch c = passed-all c.loop-i.invariant (omega arith) (omega arith) (omega arith)

pub returns-else-next-batch : goal.returns-else-next-batch
returns-else-next-batch c = passed-early c.loop-i.invariant (omega arith) (λ e. omega arith)
