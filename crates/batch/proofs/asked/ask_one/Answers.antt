-- Where the event's type has the name that the table was read for, what was read for it answers; otherwise the table is read again, for the other name.
use Rattle.std.proofs.Common.{Some}
use Rattle.event.proofs.EventLayoutLaws.{event-name}
use Rattle.ontology.proofs.TypeIndexLaws.{says_same}
use Rattle.batch.proofs.AskedLaws.{one-answers}
use Rattle.batch.proofs.asked.ask_one.Goals as goal

pub returns-then-same : goal.returns-then-same
returns-then-same c =
    one-answers _ _ _ _ _ _ (c.ask_event.ensures _ _ _
    (says_same c.args.table.now _ c.args.properties.now (Some c.args.found) _ c.same.ensures c.if-same.true c.requires.0)
    (event-name _ _ c.type_name-other.ensures _) c.read_event-e.ensures)

pub returns : goal.returns
returns c =
    one-answers _ _ _ _ _ _ (c.ask_event-2.ensures _ _ _ c.read_table-again.ensures (event-name _ _ c.type_name-other.ensures _) c.read_event-e.ensures)
