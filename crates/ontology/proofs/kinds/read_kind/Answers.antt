-- The number that is read says which reader takes the parameters: its answer is the answer for the kind, and a number of no kind fails.
use Rattle.std.proofs.Common.{arith, drop, refl, subst, ℕ, ◌≡◌, ◌≤◌}
use Rattle.std.proofs.lemmas.Grind.{common_steps}
use Rattle.packed.specs.Packed.{read_number}
use Rattle.packed.specs.code.Located.{Got}
use Rattle.ontology.proofs.OnwardLaws.{any-got, any-fail}
use Rattle.ontology.proofs.KindLaws.{kind-none, kind-after, kind-plain, kind-below, kind-above}
use Rattle.ontology.proofs.kinds.read_kind.Goals as goal
use Rattle.ontology.proofs.kinds.read_kind.Goals.{In_ok-kind}

-- the number that was read is the kind's
numbered : (c : In_ok-kind) → Got (read_number (drop c.args.at c.args.s.now)) c.args.s.now c.args.at c.in_ok-kind.kind c.in_ok-n.next
numbered c =
    let a = c.in_ok-kind.ensures.value in
    let same : c.in_ok-n.n ≡ c.in_ok-kind.kind = grind (arith, common_steps) in
    subst (λ (n : ℕ). Got (read_number (drop c.args.at c.args.s.now)) c.args.s.now c.args.at n c.in_ok-n.next) same (any-got c.in_ok-n.ensures)

pub returns-in_err-n : goal.returns-in_err-n
returns-in_err-n c = rw c.from_residual.ensures (kind-none _ (any-fail _ _ c.in_err-n.ensures))

pub returns-in_err-kind : goal.returns-in_err-kind
returns-in_err-kind c =
    let a = c.in_err-kind.ensures.value in
    let large : 256 ≤ c.in_ok-n.n = grind (arith, common_steps) in
    rw c.from_residual-in_err-kind.ensures (kind-above (any-got c.in_ok-n.ensures) (omega arith))

pub returns-in-3 : goal.returns-in-3
returns-in-3 c = kind-after (numbered (goal.at.returns-in-3 c).In_ok-kind) _ c.in-3.is c.read_decimal.ensures

pub returns-in-4-to-7 : goal.returns-in-4-to-7
returns-in-4-to-7 c = kind-plain (numbered (goal.at.returns-in-4-to-7 c).In_ok-kind) (omega arith) (omega arith)

pub returns-in-1 : goal.returns-in-1
returns-in-1 c = kind-after (numbered (goal.at.returns-in-1 c).In_ok-kind) _ refl c.read_parameter.ensures

pub returns-in_default : goal.returns-in_default
returns-in_default c = kind-below (numbered (goal.at.returns-in_default c).In_ok-kind) (omega arith)

pub returns-in_default-2 : goal.returns-in_default-2
returns-in_default-2 c = kind-above (numbered (goal.at.returns-in_default-2 c).In_ok-kind) (omega arith)
