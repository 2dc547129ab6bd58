use Rattle.interface.proofs.PackingLaws.{value-none, value-packed}
use Rattle.interface.proofs.calls.merger_value.Goals as goal

pub returns-in-Some : goal.returns-in-Some
returns-in-Some c = value-packed c.in-Some.ensures

pub returns-in-None : goal.returns-in-None
returns-in-None c = value-none c.in-None.ensures
