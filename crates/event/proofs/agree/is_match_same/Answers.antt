use Rattle.event.proofs.MatchLaws.{same_none, same-bad, same_more, same_end}
use Rattle.event.proofs.agree.is_match_same.Goals as goal

pub loop-k-init : goal.loop-k-init
loop-k-init c = same_none

pub returns-then-not-place_same : goal.returns-then-not-place_same
returns-then-not-place_same c =
    same-bad c.loop-k.invariant c.loop-k-test.true c.property_at.ensures c.set_at.ensures c.set_at-in-loop-k.ensures c.place_same.ensures
    c.if-not-place_same.true-raw

pub loop-k-preserved : goal.loop-k-preserved
loop-k-preserved c =
    same_more c.loop-k.invariant c.loop-k-test.true c.property_at.ensures c.set_at.ensures c.set_at-in-loop-k.ensures c.place_same.ensures
    c.if-not-place_same.false-raw

pub returns : goal.returns
returns c = same_end c.loop-k.invariant c.loop-k-test.false
