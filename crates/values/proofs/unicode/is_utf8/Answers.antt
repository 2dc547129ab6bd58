use Rattle.values.proofs.UnicodeLaws.{ahead-first, ahead-next, ahead_none, ahead-end, ahead-low}
use Rattle.values.proofs.unicode.is_utf8.Goals as goal

pub loop-i-init : goal.loop-i-init
loop-i-init c = ahead-first _

pub loop-i-preserved-then-v-i-lt128 : goal.loop-i-preserved-then-v-i-lt128
loop-i-preserved-then-v-i-lt128 c = ahead-low _ c.loop-i.invariant c.ascii_end-i.ensures.size c.ascii_end-i.ensures.low

pub returns-in_default : goal.returns-in_default
returns-in_default c = ahead_none c.loop-i.invariant c.loop-i-test.true _ c.scalar.ensures.read c.in_default.is

pub loop-i-preserved : goal.loop-i-preserved
loop-i-preserved c = ahead-next c.loop-i.invariant c.loop-i-test.true _ c.scalar.ensures.read c.in-Some.is c.in-Some.ensures.size

pub returns : goal.returns
returns c = ahead-end c.loop-i.invariant c.loop-i-test.false
