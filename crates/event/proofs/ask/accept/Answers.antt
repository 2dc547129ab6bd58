-- The table is read for the type name that the event begins with.
use Rattle.event.proofs.EventLayoutLaws.{event-name}
use Rattle.event.proofs.ask.accept.Goals as goal

pub returns : goal.returns
returns c = c.ask_event.ensures _ _ _ c.read_table-found.ensures (event-name _ _ c.type_name.ensures _) c.read_event-e.ensures
