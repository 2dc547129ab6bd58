use Rattle.std.proofs.Common.{◌≡◌}
use Rattle.event.proofs.EventLayoutLaws.{event-name}
use Rattle.batch.proofs.BatchLaws.{first-name}
use Rattle.batch.proofs.calls.first_name.Goals as goal

pub returns-in-Some : goal.returns-in-Some
returns-in-Some c = λ x e.
    let same : x ≡ c.in-Some.x = cc in
    rw same (first-name c.event_part.ensures (event-name _ _ c.type_name.ensures))

pub returns-in-None : goal.returns-in-None
returns-in-None c = λ x e. absurd cc
