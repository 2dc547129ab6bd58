-- It stays so with an empty set or one of the same bytes, a set after empty ones takes its place, and two that differ are to be joined.
use Rattle.std.proofs.Common.{arith}
use Rattle.opening.proofs.MergeLaws.{union-one, union-taken, union-kept, union-same, union-differs, union-all}
use Rattle.opening.proofs.merge.only_set.Goals as goal
use Rattle.opening.proofs.merge.only_set.Goals.{then-x-ne0+then-only-eq0, then-x-ne0+else-only-eq0+else-not-same, else-x-ne0}

pub loop-j-init : goal.loop-j-init
loop-j-init c = search union-one

pub returns-then-not-same : goal.returns-then-not-same
returns-then-not-same c =
    union-differs c.loop-j.invariant (omega arith) c.cell_at-x.ensures c.set_part.ensures c.set_part-else-only-eq0.ensures c.same.ensures
    c.if-only-eq0.false c.if-x-ne0.true c.if-not-same.true

pub loop-j-preserved : goal.loop-j-preserved
loop-j-preserved c =
    let inv = c.loop-j.invariant in
    let is = c.cell_at-x.ensures in
    elim c.if-x-ne0.branch [
      | then-x-ne0+then-only-eq0 w ↦ union-taken inv (omega arith) is w.if-only-eq0.true w.only-is
      | then-x-ne0+else-only-eq0+else-not-same w ↦
          union-same inv (omega arith) is w.set_part.ensures w.set_part-else-only-eq0.ensures w.same.ensures w.if-not-same.false w.only-is
      | else-x-ne0 w ↦ union-kept inv (omega arith) is w.if-x-ne0.false w.only-is
    ]

pub returns : goal.returns
returns c = union-all c.loop-j.invariant (omega arith)
