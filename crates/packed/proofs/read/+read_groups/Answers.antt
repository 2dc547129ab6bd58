-- A return before the inner call is a law of the first byte, and after it the whole answer is `more_at` of that byte and of what the inner call answered
-- (`more-read`).
use Rattle.std.proofs.Common.{arith, ◌∙◌}
use Rattle.packed.proofs.ReadLaws.{more-zero, more-large, more-none, more-all, at_none, at-end, at_last, more-read}
use Rattle.packed.proofs.read.+read_groups.Goals as goal

pub returns-then-most-eq0 : goal.returns-then-most-eq0
returns-then-most-eq0 t c = at_none _ _ _ c.if-most-eq0.true

pub returns-then-s-at : goal.returns-then-s-at
returns-then-s-at t c = at-end _ _ _ c.if-s-at.true

pub returns-then-b-lt128 : goal.returns-then-b-lt128
returns-then-b-lt128 t c = at_last _ _ _ (omega arith) (omega arith) c.if-b-lt128.true

pub returns-in_err-m : goal.returns-in_err-m
returns-in_err-m t c =
    c.from_residual.ensures ∙ more-none _
    ∙ more-read _ _ _ (omega arith) (omega arith) (omega arith) (omega (arith, c.type_inv.s c.args.at)) c.in_err-m.ensures

pub returns-then-m-eq0 : goal.returns-then-m-eq0
returns-then-m-eq0 t c =
    more-zero _ _ _ c.if-m-eq0.true
    ∙ more-read _ _ _ (omega arith) (omega arith) (omega arith) (omega (arith, c.type_inv.s c.args.at)) c.in_ok-m.ensures

pub returns-then-m-lt144115188075855872 : goal.returns-then-m-lt144115188075855872
returns-then-m-lt144115188075855872 t c =
    more-all _ _ _ (omega (arith, c.type_inv.s c.args.at)) (omega arith) (omega arith)
    ∙ more-read _ _ _ (omega arith) (omega arith) (omega arith) (omega (arith, c.type_inv.s c.args.at)) c.in_ok-m.ensures

pub returns-else-m-lt144115188075855872 : goal.returns-else-m-lt144115188075855872
returns-else-m-lt144115188075855872 t c =
    more-large _ _ _ (omega arith)
    ∙ more-read _ _ _ (omega arith) (omega arith) (omega arith) (omega (arith, c.type_inv.s c.args.at)) c.in_ok-m.ensures
