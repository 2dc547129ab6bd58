use native.Mathlib.Omega.{arith}
use Rattle.replies.proofs.RangeLaws.{not-permitted, permitted-by}
use Rattle.replies.proofs.limits.is_permitted.Statement.{statement}
use Rattle.replies.proofs.limits.is_permitted.Tie as tie

pub is_permitted_spec : {M : Type 1} → statement M
is_permitted_spec =
    tie.close
    (tie.spec
    (λ c. not-permitted _ (λ h. omega (arith, h.some-versions)))
    (λ c. not-permitted _ (λ h. omega (arith, h.few-versions)))
    (λ c. not-permitted _ (λ h. omega (arith, h.some-parents)))
    (λ c. not-permitted _ (λ h. omega (arith, h.few-parents)))
    (λ c. not-permitted _ (λ h. omega (arith, h.some-objects)))
    (λ c. permitted-by _ (omega arith) (omega arith) (omega arith) (omega arith) (omega arith)))
