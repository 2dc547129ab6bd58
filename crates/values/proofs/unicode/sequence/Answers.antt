use Rattle.std.proofs.Common.{◌≡◌, ◌<◌, ◌+◌, ◌&&◌, leb, length, arith, rules, tests}
use mathlib.Core.Logic.{⊎_elim}
use Rattle.values.specs.Unicode.{is_scalar}
use Rattle.values.proofs.UnicodeLaws.{rest-byte, continued-first, continued-short, continued-low, continued-high, continued-more, sequence-told}
use Rattle.values.proofs.unicode.sequence.Goals as goal
use Rattle.values.proofs.unicode.sequence.Goals.{then-least-n, else-least-n}

pub returns-in_err-rest-clause-read : goal.returns-in_err-rest-clause-read
returns-in_err-rest-clause-read c =
    let short : length c.args.v.now < c.args.at + 1 + c.args.k = ⊎_elim (λ e. absurd (omega arith)) (λ e. e) c.in_err-rest.ensures.lookup.0 in
    rw c.from_residual.ensures (continued-short _ _ _ _ _ c.requires.at_in_bounds short)

pub loop-b-init : goal.loop-b-init
loop-b-init c = continued-first _ _ _ _ c.in_ok-rest.ensures.lookup.0.1 c.requires.k_bound

pub returns-in_default-clause-read : goal.returns-in_default-clause-read
returns-in_default-clause-read c =
    let part = c.in_ok-rest.ensures.lookup.0 in
    let here = rest-byte c.args.v.now c.in_ok-rest.rest.now (c.args.at + 1) c.args.k c.loop-b.b-index part.2 (omega (arith, part.3)) in
    continued-low c.loop-b.invariant (omega (arith, part.3)) _ (omega arith)

pub returns-in_default-2-clause-read : goal.returns-in_default-2-clause-read
returns-in_default-2-clause-read c =
    let part = c.in_ok-rest.ensures.lookup.0 in
    let here = rest-byte c.args.v.now c.in_ok-rest.rest.now (c.args.at + 1) c.args.k c.loop-b.b-index part.2 (omega (arith, part.3)) in
    continued-high c.loop-b.invariant (omega (arith, part.3)) _ (omega arith)

pub loop-b-preserved : goal.loop-b-preserved
loop-b-preserved c =
    let part = c.in_ok-rest.ensures.lookup.0 in
    let here = rest-byte c.args.v.now c.in_ok-rest.rest.now (c.args.at + 1) c.args.k c.loop-b.b-index part.2 (omega (arith, part.3)) in
    rw (c.from.ensures, here) (continued-more c.loop-b.invariant (omega (arith, part.3)) (omega arith) (omega arith))

pub returns-clause-read : goal.returns-clause-read
returns-clause-read c =
    let part = c.in_ok-rest.ensures.lookup.0 in
    let told : c.if-least-n.then_some ≡ (leb c.args.least c.loop-b.n && is_scalar c.loop-b.n) =
    elim c.if-least-n.branch [ then-least-n w ↦ search (rules, tests) | else-least-n w ↦ search (rules, tests) ] in
    sequence-told c.loop-b.invariant _ (omega (arith, part.3)) told c.then_some.ensures
