use Rattle.std.proofs.Common.{refl}
use Rattle.event.specs.EventLayout.{narrow, wide}
use Rattle.event.proofs.read.most_objects.Goals as goal

pub returns-in-Narrow : goal.returns-in-Narrow
unfolding narrow
returns-in-Narrow c = rw c.in-Narrow.is refl

pub returns-in-Wide : goal.returns-in-Wide
unfolding wide
returns-in-Wide c = rw c.in-Wide.is refl
