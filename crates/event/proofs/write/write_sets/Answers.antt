use Rattle.std.proofs.Common.{◌≤◌, ◌⊎◌, inl, inr, arith}
use Rattle.event.proofs.SetWriteLaws.{runs_none, runs_same, runs_copy, runs-room, runs-over, runs-more, runs_last}
use Rattle.event.proofs.write.write_sets.Goals as goal
use Rattle.event.proofs.write.write_sets.Goals.{then-bits-eq1, else-bits-eq1, then-loop-k-test+else-bits-gt0, else-loop-k-test}

pub loop-k-init : goal.loop-k-init
loop-k-init c = runs_none

pub with_set-run-requires : goal.with_set-run-requires
with_set-run-requires c = runs-room c.loop-k.invariant c.requires.1 c.loop-k-test.true c.set_at.ensures

pub loop-k-preserved : goal.loop-k-preserved
loop-k-preserved c = elim c.if-bits-eq1.branch [
  | then-bits-eq1 w ↦
      runs_same (runs-more c.loop-k.invariant c.loop-k-test.true w.if-bits-eq1.true w.set_at.ensures w.with_set-run.ensures) w.out-is w.run-is
  | else-bits-eq1 w ↦ runs_same (runs-over c.loop-k.invariant c.loop-k-test.true w.if-bits-eq1.false) w.out-is w.run-is
]

pub copy_part-requires : goal.copy_part-requires
copy_part-requires c = runs_copy c.loop-k.invariant c.requires.1

pub returns : goal.returns
returns c =
    let over : (32 ≤ c.loop-k.k) ⊎ (c.loop-k.bits ≤ 0) = elim c.loop-k-test.branch [
      | then-loop-k-test+else-bits-gt0 w ↦ inr (omega arith)
      | else-loop-k-test w ↦ inl (omega arith)
    ] in
    runs_last c.loop-k.invariant over c.copy_part.ensures
