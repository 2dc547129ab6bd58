use Rattle.values.proofs.UnicodeLaws.{run_none, run-eight, run-one}
use Rattle.values.proofs.unicode.ascii_end.Goals as goal

pub loop-i-init : goal.loop-i-init
loop-i-init c = run_none _ _ c.requires

pub loop-i-preserved : goal.loop-i-preserved
loop-i-preserved c = run-eight c.loop-i.invariant c.loop-i-test.true c.all_low.ensures c.if-all_low.true

pub loop-i-2-preserved : goal.loop-i-2-preserved
loop-i-2-preserved c = run-one c.loop-i-2.invariant c.loop-i-2-test.true c.if-v-i-lt128.true
