-- Two snapshots have no more objects together than each has by itself, added up. Where that is above `most` they are counted place by place; from `count` on
-- there are none.
use Rattle.std.proofs.Common.{sym, ◌∙◌, arith}
use Rattle.event.specs.Event.{type_view}
use Rattle.combining.proofs.ObjectLaws.{objects-few, joins, counted-over, counted_next, counted-all}
use Rattle.combining.proofs.limits.objects_fit.Goals as goal

pub returns-then-n-most : goal.returns-then-n-most
returns-then-n-most c = λ u ty left right w un m o p v z. objects-few (type_view ty) left right _ _ _ o p (omega arith)

pub returns-then-room-here : goal.returns-then-room-here
returns-then-room-here c = λ u ty left right w un m o p v z.
    let h = joins w un m v z in
    sym (
    c.loop-k.invariant _ _ _ _ h
    ∙ counted-over h _ _ (omega arith) c.set_at.ensures c.set_at-in-loop-k.ensures c.count_place-here.ensures c.if-room-here.true
    )

pub loop-k-preserved : goal.loop-k-preserved
loop-k-preserved c = λ u ty left right h.
    c.loop-k.invariant _ _ _ _ h
    ∙ counted_next h _ _ (omega arith) c.set_at.ensures c.set_at-in-loop-k.ensures c.count_place-here.ensures c.if-room-here.false

pub returns : goal.returns
returns c = λ u ty left right w un m o p v z.
    let h = joins w un m v z in
    counted-all h c.loop-k.k c.loop-k.room (omega arith) ∙ sym (c.loop-k.invariant _ _ _ _ h)
