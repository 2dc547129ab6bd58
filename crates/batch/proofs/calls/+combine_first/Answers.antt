-- One event is checked (`one-combined`). Of more, those before the last are combined by the function itself, with fewer events: that is the measure. Their
-- dossier and its measures are what adding the last asks for (`last-addable`), and what adding answers is what combining all answers (`last-combined`).
-- Where those before the last are refused, so are all (`refused-combined`).
use Rattle.std.proofs.Common.{rules, arith}
use Rattle.replies.proofs.RefusalLaws.{passed-on}
use Rattle.batch.proofs.BatchLaws.{one-combined, refused-combined, last-addable, last-combined}
use Rattle.batch.proofs.calls.+combine_first.Goals as goal

pub returns-then-n-le1 : goal.returns-then-n-le1
returns-then-n-le1 t c = search one-combined

pub returns-in_err-size : goal.returns-in_err-size
returns-in_err-size t c =
    refused-combined c.requires.permitted.0 c.requires.first_of (omega arith) c.in_err-size.ensures (passed-on c.from_residual.ensures.1)

pub add_event-requires-clause-addable_under : goal.add_event-requires-clause-addable_under
add_event-requires-clause-addable_under t c = (
  last-addable c.requires.permitted.0 c.requires.first_of (omega arith) c.in_ok-size.ensures c.event_part-event.ensures,
  search rules,
  search rules,
)

pub returns : goal.returns
returns t c =
    let told = c.add_event.ensures in
    last-combined c.requires.permitted.0 c.requires.first_of (omega arith) c.in_ok-size.ensures c.event_part-event.ensures _ (omega arith)
    told.out_after told.measured
