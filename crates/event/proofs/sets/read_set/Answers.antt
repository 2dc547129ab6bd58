use Rattle.std.proofs.Common.{arith}
use Rattle.event.proofs.AnswerLaws.{number-not, text-order, text-within, text-not}
use Rattle.event.proofs.SetLaws.{value-bad, value-promised, value_not, value-more, set-none, set-zero, set-bad, set_first, set_found}
use Rattle.event.proofs.sets.read_set.Goals as goal

pub returns-in_err-count : goal.returns-in_err-count
returns-in_err-count c = rw c.from_residual.ensures (set-none _ (number-not _ _ c.read_number.ensures c.in_err-count.was))

pub returns-then-count-eq0 : goal.returns-then-count-eq0
returns-then-count-eq0 c = set-zero _ _ c.read_number.ensures c.in_ok-count.was c.if-count-eq0.true

pub returns-in_err-last : goal.returns-in_err-last
returns-in_err-last c =
    rw c.from_residual-in_err-last.ensures
    (set-bad _ _ c.read_number.ensures c.in_ok-count.was c.if-count-eq0.false (text-not _ _ c.read_text.ensures c.in_err-last.was))

pub loop-init : goal.loop-init
loop-init c = set_first _ _ c.read_number.ensures c.in_ok-count.was c.if-count-eq0.false c.read_text.ensures c.in_ok-last.was

pub returns-in_err-value : goal.returns-in_err-value
returns-in_err-value c = rw c.from_residual-in_err-value.ensures (value-bad c.loop.invariant (omega arith) c.read_text-in-loop.ensures c.in_err-value.was)

pub comes_after-requires-clause-within : goal.comes_after-requires-clause-within
comes_after-requires-clause-within c =
    let w = c.loop.invariant in
    (w.order, w.within, text-order _ _ c.read_text-in-loop.ensures c.in_ok-value.was, text-within _ _ c.read_text-in-loop.ensures c.in_ok-value.was)

pub comes_after-requires-clause-rising : goal.comes_after-requires-clause-rising
comes_after-requires-clause-rising c = value-promised c.loop.invariant (omega arith) c.read_text-in-loop.ensures c.in_ok-value.was c.requires

pub returns-then-not-comes_after : goal.returns-then-not-comes_after
returns-then-not-comes_after c =
    value_not c.loop.invariant (omega arith) c.read_text-in-loop.ensures c.in_ok-value.was c.comes_after.ensures c.if-not-comes_after.true-raw

pub loop-preserved : goal.loop-preserved
loop-preserved c =
    value-more c.loop.invariant (omega arith) c.read_text-in-loop.ensures c.in_ok-value.was c.comes_after.ensures c.if-not-comes_after.false-raw (omega arith)

pub returns : goal.returns
returns c = set_found _ _ c.read_number.ensures c.in_ok-count.was c.if-count-eq0.false c.loop.invariant (omega arith)
