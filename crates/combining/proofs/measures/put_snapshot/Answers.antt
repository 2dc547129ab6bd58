-- The snapshot's measure is put instead of the one of its version, or where those behind it have moved up.
use borrow.Author.Tests.{not-true, not-false}
use Rattle.combining.proofs.MeasureLaws.{put-met, put-unmet}
use Rattle.combining.proofs.measures.put_snapshot.Goals as goal
use Rattle.combining.proofs.measures.put_snapshot.Goals.{then-not-p, else-not-p}

pub returns : goal.returns
returns c = λ ss s w v z.
    let put = c.put_measure.ensures in
    let bound = c.requires.index_bound in
    elim c.if-not-p.branch [
      | then-not-p t ↦
          let unmet = not-true _ t.if-not-p.true in
          put-unmet _ ss w _ s v z c.args.p _ _ put.here put.others put.count unmet c.requires.measures_len.2 (bound.1 unmet)
          (rw t.measures-is t.move_up.ensures)
      | else-not-p t ↦
          let met = not-false _ t.if-not-p.false in
          put-met _ ss w _ s v z c.args.p _ _ put.here put.others put.count met (bound.0 met) t.measures-is
    ]
