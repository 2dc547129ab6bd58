-- Strings without a byte above 7F are told by `are_short`.
use Rattle.std.proofs.Common.{ap, ◌∙◌, arith}
use Rattle.values.specs.Spaces.{Kind}
use Rattle.values.proofs.SpaceLaws.{is-string-kind}
use Rattle.event.specs.EventQuestions.{are_in_space}
use Rattle.event.proofs.AnswerLaws.{text-order, text-within, text-less}
use Rattle.event.proofs.SpaceLaws.{space-none, space-end, space-bad, space-not, space-more}
use Rattle.event.proofs.spaces.are_in_space.Goals as goal

pub returns-then-is_plain : goal.returns-then-is_plain
returns-then-is_plain c k vs h i e =
    let told = c.is_plain.ensures c.if-is_plain.true in
    c.are_short.ensures vs told.1 e ∙ ap (λ (x : Kind). are_in_space x vs) (is-string-kind _ _ _ _ k told.0 h)

pub loop-at-init : goal.loop-at-init
loop-at-init c = space-none

pub returns-in_default : goal.returns-in_default
returns-in_default c k vs h i e =
    space-bad c.loop-at.invariant (omega arith) c.loop-at-test.true c.read_text.ensures c.in_default.is k vs (h, i) e

pub slice_bounds-in_space-count : goal.slice_bounds-in_space-count
slice_bounds-in_space-count c = text-order _ _ c.read_text.ensures c.in-Some.is

pub slice_bounds-in_space-start : goal.slice_bounds-in_space-start
slice_bounds-in_space-start c = text-order _ _ c.read_text.ensures c.in-Some.is

pub slice_bounds-in_space-end : goal.slice_bounds-in_space-end
slice_bounds-in_space-end c = text-within _ _ c.read_text.ensures c.in-Some.is

pub returns-then-not-in_space : goal.returns-then-not-in_space
returns-then-not-in_space c k vs h i e =
    space-not c.loop-at.invariant (omega arith) c.loop-at-test.true c.read_text.ensures c.in-Some.is (λ a q. c.in_space.ensures a q.0 q.1)
    c.if-not-in_space.true-raw k vs (h, i) e

pub loop-at-smaller : goal.loop-at-smaller
loop-at-smaller c = text-less _ _ c.read_text.ensures c.in-Some.is c.loop-at-test.true

pub loop-at-preserved : goal.loop-at-preserved
loop-at-preserved c =
    space-more c.loop-at.invariant (omega arith) c.loop-at-test.true c.read_text.ensures c.in-Some.is (λ a q. c.in_space.ensures a q.0 q.1)
    c.if-not-in_space.false-raw

pub returns : goal.returns
returns c k vs h i e = space-end c.loop-at.invariant c.loop-at-test.false k vs (h, i) e
