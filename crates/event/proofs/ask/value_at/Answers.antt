-- Of an accepted event the value stands where `find_value` says, and otherwise there is none.
use Rattle.event.proofs.AskLaws.{accepted-is, ok-kept, value-none, value-told}
use Rattle.event.proofs.ask.value_at.Goals as goal

pub returns-in_err-e : goal.returns-in_err-e
returns-in_err-e c = rw c.from_residual.ensures (value-none _ _ _ _ _ _ _ c.accept.ensures c.in_err-e.ensures.value)

pub returns : goal.returns
returns c = value-told (accepted-is _ _ _ _ _ c.accept.ensures (ok-kept _ c.in_ok-e.ensures.value)) _ _ _ c.find_value.ensures
