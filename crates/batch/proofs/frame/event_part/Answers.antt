use Rattle.std.proofs.Common.{◌∙◌}
use Rattle.batch.proofs.frame.event_part.Goals as goal

pub returns : goal.returns
returns c = λ ss w l. let t = w.each _ l in c.part_of.ensures t.order t.within ∙ t.bytes
