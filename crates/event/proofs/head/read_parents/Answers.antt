use Rattle.std.proofs.Common.{arith}
use Rattle.event.proofs.AnswerLaws.{number-within, number-not}
use Rattle.event.proofs.HeadLaws.{hash-bad, hash-not, hash-more, parents-none, parents-many, parents-zero, parents-bad, parents-first, parents-found}
use Rattle.event.proofs.head.read_parents.Goals as goal

pub returns-in_err-number : goal.returns-in_err-number
returns-in_err-number c = rw c.from_residual.ensures (parents-none _ _ (number-not _ _ c.read_number.ensures c.in_err-number.was))

pub returns-then-most-count : goal.returns-then-most-count
returns-then-most-count c = parents-many _ _ _ c.read_number.ensures c.in_ok-number.was c.if-most-count.true

pub returns-then-count-eq0 : goal.returns-then-count-eq0
returns-then-count-eq0 c = parents-zero _ _ _ c.read_number.ensures c.in_ok-number.was c.if-most-count.false c.if-count-eq0.true

pub overflow_sub-s : goal.overflow_sub-s
overflow_sub-s c = number-within _ _ c.read_number.ensures c.in_ok-number.was

pub returns-then-s-after_count-lt20 : goal.returns-then-s-after_count-lt20
returns-then-s-after_count-lt20 c =
    parents-bad _ _ _ c.read_number.ensures c.in_ok-number.was c.if-most-count.false c.if-count-eq0.false c.if-s-after_count-lt20.true

pub loop-init : goal.loop-init
loop-init c =
    parents-first _ _ _ c.read_number.ensures c.in_ok-number.was c.if-most-count.false c.if-count-eq0.false c.if-s-after_count-lt20.false

pub returns-then-s-to-lt20 : goal.returns-then-s-to-lt20
returns-then-s-to-lt20 c = hash-bad c.loop.invariant (omega arith) c.if-s-to-lt20.true

pub returns-then-not-is_before : goal.returns-then-not-is_before
returns-then-not-is_before c = hash-not c.loop.invariant (omega arith) c.if-s-to-lt20.false c.is_before.ensures c.if-not-is_before.true-raw

pub loop-preserved : goal.loop-preserved
loop-preserved c =
    hash-more c.loop.invariant (omega arith) c.if-s-to-lt20.false c.is_before.ensures c.if-not-is_before.false-raw (omega arith)

pub returns : goal.returns
returns c = parents-found _ _ _ c.read_number.ensures c.in_ok-number.was c.if-most-count.false c.loop.invariant (omega arith)
