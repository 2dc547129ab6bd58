-- Each turn puts one run more, or is past the last snapshot.
use Rattle.std.proofs.Common.{arith}
use Rattle.opening.proofs.StandLaws.{runs_none, runs-more, runs_past, runs-all}
use Rattle.opening.proofs.cells.runs_of.Goals as goal
use Rattle.opening.proofs.cells.runs_of.Goals.{then-j-n, else-j-n}

pub loop-j-init : goal.loop-j-init
loop-j-init c = search runs_none

pub loop-j-preserved : goal.loop-j-preserved
loop-j-preserved c =
    let inv = c.loop-j.invariant in
    elim c.if-j-n.branch [
      | then-j-n w ↦ runs-more inv (omega arith) w.cell_at-x.ensures w.r-is
      | else-j-n w ↦ runs_past inv w.if-j-n.false w.r-is
    ]

pub returns : goal.returns
returns c = runs-all c.loop-j.invariant (omega arith) (omega arith)
