-- The questions are asked in their order, and each return is the law of the first that is answered no, or of all.
use Rattle.replies.proofs.RefusalLaws.{none-refused, passed-on}
use Rattle.event.proofs.AskLaws.{ask-read, ask-type, ask-places, ask-all}
use Rattle.event.proofs.ask.ask_event.Goals as goal

pub returns-in_err-e : goal.returns-in_err-e
returns-in_err-e c =
    let told = c.in_err-e.ensures in
    ask-read _ _ _ c.in_ok-found.ensures.ok_part told.ok_part (none-refused told.value told.ok_part c.from_residual-in_err-e.ensures.1)

pub returns-in_err-t : goal.returns-in_err-t
returns-in_err-t c =
    let told = c.in_err-t.ensures in
    ask-type _ _ _ c.in_ok-found.ensures.ok_part c.in_ok-e.ensures.ok_part told.ok_part
    (none-refused told.value told.ok_part c.from_residual-in_err-t.ensures.1)

pub returns-in_err-ask_places : goal.returns-in_err-ask_places
returns-in_err-ask_places c =
    ask-places _ _ _ c.in_ok-found.ensures.ok_part c.in_ok-e.ensures.ok_part c.in_ok-t.ensures.ok_part c.in_err-ask_places.ensures
    (passed-on c.from_residual-in_err-ask_places.ensures.1)

pub returns : goal.returns
returns c =
    ask-all _ _ _ c.in_ok-found.ensures.ok_part c.in_ok-e.ensures.ok_part c.in_ok-t.ensures.ok_part c.in_ok-ask_places.ensures
