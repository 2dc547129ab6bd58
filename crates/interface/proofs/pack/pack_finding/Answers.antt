use Rattle.interface.proofs.PackingLaws.{found-conflict, found-overfull}
use Rattle.interface.proofs.pack.pack_finding.Goals as goal

pub returns-in-Conflict : goal.returns-in-Conflict
returns-in-Conflict c = search found-conflict

pub returns-in-Overfull : goal.returns-in-Overfull
returns-in-Overfull c = search found-overfull
