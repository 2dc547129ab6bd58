use Rattle.std.proofs.Common.{◌≤◌, ◌⊎◌, inl, inr, arith}
use Rattle.event.proofs.SetLaws.{sofar-none, sofar-bad, sofar-more, sofar-found, sofar-promised, few-objects, set-refused, cleared-kept, cleared-from}
use Rattle.event.proofs.sets.read_sets.Goals as goal
use Rattle.event.proofs.sets.read_sets.Goals.{then-loop-k-test+else-bits-gt0, else-loop-k-test}

pub loop-k-init : goal.loop-k-init
loop-k-init c = sofar-none c.requires.0 c.requires.1

pub read_place-requires : goal.read_place-requires
read_place-requires c = (c.loop-k.invariant.within, sofar-promised c.loop-k.invariant c.loop-k-test.true c.requires.2)

pub returns-in_err-x : goal.returns-in_err-x
returns-in_err-x c =
    rw c.from_residual.ensures (sofar-bad c.loop-k.invariant c.loop-k-test.true (set-refused _ c.in_err-x.was c.read_place.ensures))

pub overflow_add-objects : goal.overflow_add-objects
overflow_add-objects c = omega (arith, few-objects c.loop-k.invariant c.loop-k-test.true c.read_place.ensures c.in_ok-x.was (omega arith))

pub loop-k-preserved : goal.loop-k-preserved
loop-k-preserved c = sofar-more c.loop-k.invariant c.loop-k-test.true c.read_place.ensures c.in_ok-x.was

pub returns : goal.returns
returns c =
    let ended : (32 ≤ c.loop-k.k) ⊎ (c.loop-k.bits ≤ 0) = elim c.loop-k-test.branch [
      | then-loop-k-test+else-bits-gt0 w ↦ inr (omega arith)
      | else-loop-k-test w ↦ inl (omega arith)
    ] in
    let w = c.loop-k.invariant in
    let clear = c.fill.ensures.after (λ y e. e) in
    sofar-found w ended _ (cleared-kept _ w.ats-long w.few clear) (cleared-from _ w.ats-long w.few clear)
