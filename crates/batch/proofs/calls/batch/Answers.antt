-- The questions are asked in the order of the call: each no is a law of the call (`no-limits`, `no_room`, `no_table`, `no-frame`, `refused-events`), and
-- after them all, what combining the events answers is what the call answers (`combined-events`).
use Rattle.std.proofs.Common.{Ok, Err, rules, refl, sym}
use Rattle.model.proofs.LimitLaws.{permitted}
use Rattle.replies.specs.Replies.{at_first}
use Rattle.replies.proofs.RefusalLaws.{passed-on}
use Rattle.batch.proofs.BatchLaws.{none-first, rooms-are, first-named, frame-few, agreed-first, no-limits, no_room, no_table, no-frame}
use Rattle.batch.proofs.BatchLaws.{refused-events, combined-events}
use Rattle.batch.proofs.calls.batch.Goals as goal

pub returns-then-not-is_permitted : goal.returns-then-not-is_permitted
returns-then-not-is_permitted c = rw c.from.ensures (no-limits _ _ _ _ _ c.if-not-is_permitted.ensures)

pub returns-then-not-have_room : goal.returns-then-not-have_room
returns-then-not-have_room c =
    rw c.from-then-not-have_room.ensures (no_room _ c.if-not-is_permitted.ensures _ _ _ _ c.if-not-have_room.ensures)

pub returns-in_err-found : goal.returns-in_err-found
returns-in_err-found c =
    let told = c.in_err-found.ensures in
    rw (none-first told.value told.ok_part c.from_residual.ensures.1)
    (no_table _ c.if-not-is_permitted.ensures _ _ _ _ c.if-not-have_room.ensures _ _ c.read_table.ensures told.ok_part)

pub returns-in_err-x : goal.returns-in_err-x
returns-in_err-x c =
    let told = c.in_err-x.ensures in
    rw (none-first told.value told.ok_part c.from_residual-in_err-x.ensures.1)
    (no-frame _ c.if-not-is_permitted.ensures _ _ _ _ c.if-not-have_room.ensures _ _ c.read_table.ensures c.in_ok-found.ensures.ok_part
    c.read_batch-frame.ensures told.ok_part)

pub ask_events-requires : goal.ask_events-requires
ask_events-requires c =
    let told = c.in_ok-x.ensures.ok_part in
    (first-named _ _ _ _ c.read_table.ensures c.in_ok-found.ensures.ok_part c.read_batch-frame.ensures told (c.first_name-name.ensures _ told), search rules)

pub returns-in_err-t : goal.returns-in_err-t
returns-in_err-t c =
    rw (passed-on c.from_residual-in_err-t.ensures.1)
    (refused-events _ c.if-not-is_permitted.ensures _ _ _ _ c.if-not-have_room.ensures _ _ c.read_table.ensures c.in_ok-found.ensures.ok_part
    c.read_batch-frame.ensures c.in_ok-x.ensures.ok_part c.in_err-t.ensures)

pub combine_all-requires-clause-permitted : goal.combine_all-requires-clause-permitted
combine_all-requires-clause-permitted c = (
  permitted _ (sym c.if-not-is_permitted.ensures),
  frame-few _ _ _ _ c.read_table.ensures c.in_ok-found.ensures.ok_part c.read_batch-frame.ensures c.in_ok-x.ensures.ok_part,
  (rooms-are _ c.if-not-have_room.ensures).0,
  search rules,
)

pub combine_all-requires-clause-dossier_capacity_in_bounds : goal.combine_all-requires-clause-dossier_capacity_in_bounds
combine_all-requires-clause-dossier_capacity_in_bounds c = let r = rooms-are _ c.if-not-have_room.ensures in (r.1, r.2, r.3)

pub combine_all-requires-clause-first_of : goal.combine_all-requires-clause-first_of
combine_all-requires-clause-first_of c =
    agreed-first _ _ _ _ c.read_table.ensures c.in_ok-found.ensures.ok_part c.read_batch-frame.ensures c.in_ok-x.ensures.ok_part c.in_ok-t.ensures

pub returns-in_err-n : goal.returns-in_err-n
returns-in_err-n c =
    rw (passed-on c.from_residual-in_err-n.ensures.1)
    (combined-events _ c.if-not-is_permitted.ensures _ _ _ _ c.if-not-have_room.ensures _ _ c.read_table.ensures c.in_ok-found.ensures.ok_part
    c.read_batch-frame.ensures c.in_ok-x.ensures.ok_part c.in_ok-t.ensures (Err (at_first _)) (Err _) refl c.in_err-n.ensures)

pub returns : goal.returns
returns c =
    combined-events _ c.if-not-is_permitted.ensures _ _ _ _ c.if-not-have_room.ensures _ _ c.read_table.ensures c.in_ok-found.ensures.ok_part
    c.read_batch-frame.ensures c.in_ok-x.ensures.ok_part c.in_ok-t.ensures (Ok _) (Ok _) refl c.in_ok-n.ensures
