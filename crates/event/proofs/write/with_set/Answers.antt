use Rattle.event.proofs.SetWriteLaws.{run-longer, run-new}
use Rattle.event.proofs.write.with_set.Goals as goal

pub returns-then-start-run : goal.returns-then-start-run
returns-then-start-run c = run-longer c.requires c.set_start-start.ensures c.if-start-run.true

pub returns : goal.returns
returns c = run-new c.requires c.set_start-start.ensures c.copy_part-to.ensures
