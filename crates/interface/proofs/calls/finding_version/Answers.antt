use Rattle.interface.proofs.PackingLaws.{conflict-version, overfull-version}
use Rattle.interface.proofs.calls.finding_version.Goals as goal

pub returns-in-Conflict : goal.returns-in-Conflict
returns-in-Conflict c = search conflict-version

pub returns-in-Overfull : goal.returns-in-Overfull
returns-in-Overfull c = search overfull-version
