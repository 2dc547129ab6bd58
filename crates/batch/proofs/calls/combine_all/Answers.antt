-- As `combine_first` of all events, with the last step into the output: one event is checked. Of more, those before the last are combined; what that gave is
-- what adding the last asks for (`last-addable`), and adding answers what the batch answers (`last-added`). Where those before the last are refused, so are
-- all (`all-refused`).
use Rattle.std.proofs.Common.{rules, arith}
use Rattle.replies.proofs.RefusalLaws.{passed-on}
use Rattle.batch.proofs.BatchLaws.{one-checked, all-refused, last-addable, last-added, all-taken}
use Rattle.batch.proofs.calls.combine_all.Goals as goal

pub returns-then-n-le1 : goal.returns-then-n-le1
returns-then-n-le1 c =
    let w = c.requires.first_of in
    all-taken _ (one-checked c.requires.permitted.0 w w.agreed.is_batch.one c.if-n-le1.true c.requires.permitted.2 c.event_part.ensures
    c.check_known.ensures.out_after)

pub returns-in_err-size : goal.returns-in_err-size
returns-in_err-size c =
    all-taken _ (all-refused c.requires.permitted.0 c.requires.first_of (omega arith) c.in_err-size.ensures (passed-on c.from_residual.ensures.1))

pub add_event-requires-clause-addable_under : goal.add_event-requires-clause-addable_under
add_event-requires-clause-addable_under c = (
  last-addable c.requires.permitted.0 c.requires.first_of (omega arith) c.in_ok-size.ensures c.event_part-event.ensures,
  search rules,
  search rules,
)

pub returns : goal.returns
returns c =
    all-taken _ (last-added c.requires.permitted.0 c.requires.first_of (omega arith) c.in_ok-size.ensures c.event_part-event.ensures _
    c.requires.permitted.2 c.add_event.ensures.out_after)
