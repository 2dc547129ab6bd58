-- Each text is told by its length.
use Rattle.std.proofs.Common.{refl, arith}
use Rattle.values.specs.Spaces.{string}
use Rattle.event.proofs.AnswerLaws.{text-order, text-less}
use Rattle.event.proofs.SpaceLaws.{space-none, space-end, space-bad, space-not, space-more, short-fits}
use Rattle.event.proofs.spaces.are_short.Goals as goal

pub loop-at-init : goal.loop-at-init
loop-at-init c = space-none

pub returns-in_default : goal.returns-in_default
returns-in_default c vs low is =
    space-bad c.loop-at.invariant (omega arith) c.loop-at-test.true c.read_text.ensures c.in_default.is (string c.args.most) vs (refl, low) is

pub overflow_sub-end : goal.overflow_sub-end
overflow_sub-end c = text-order _ _ c.read_text.ensures c.in-Some.is

pub returns-then-not-is_short : goal.returns-then-not-is_short
returns-then-not-is_short c vs low is =
    space-not c.loop-at.invariant (omega arith) c.loop-at-test.true c.read_text.ensures c.in-Some.is
    (short-fits _ _ c.read_text.ensures c.in-Some.is c.is_short.ensures) c.if-not-is_short.true-raw (string c.args.most) vs (refl, low) is

pub loop-at-smaller : goal.loop-at-smaller
loop-at-smaller c = text-less _ _ c.read_text.ensures c.in-Some.is c.loop-at-test.true

pub loop-at-preserved : goal.loop-at-preserved
loop-at-preserved c =
    space-more c.loop-at.invariant (omega arith) c.loop-at-test.true c.read_text.ensures c.in-Some.is
    (short-fits _ _ c.read_text.ensures c.in-Some.is c.is_short.ensures) c.if-not-is_short.false-raw

pub returns : goal.returns
returns c vs low is = space-end c.loop-at.invariant c.loop-at-test.false (string c.args.most) vs (refl, low) is
