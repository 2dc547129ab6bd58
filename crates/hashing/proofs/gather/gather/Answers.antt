-- A match property adds the objects of its set.
use Rattle.std.proofs.Common.{arith, sym, ◌∙◌}
use Rattle.hashing.proofs.GatherLaws.{gathered-start, gathered-same, gathered-other, gathered-match, gathered-all, set-ready}
use Rattle.hashing.proofs.gather.gather.Goals as goal
use Rattle.hashing.proofs.gather.gather.Goals.{then-is_match, else-is_match}

pub loop-place-init : goal.loop-place-init
loop-place-init c = search gathered-start

pub gather_set-n-requires : goal.gather_set-n-requires
gather_set-n-requires c =
    let h = c.requires.0 in
    let inv = c.loop-place.invariant in
    let (order, within, room) =
    set-ready h (omega arith) (inv.so_far h) c.property_at-p.ensures (sym c.is_match.ensures ∙ c.if-is_match.true) c.set_at.ensures in
    (inv.fit, order, within, room, inv.size)

pub loop-place-preserved : goal.loop-place-preserved
loop-place-preserved c =
    let inv = c.loop-place.invariant in
    let p = c.property_at-p.ensures in
    let told = sym c.is_match.ensures in
    elim c.if-is_match.branch [
      | then-is_match w ↦
          gathered-same w.objects-is w.n-is
          (gathered-match inv (omega arith) p (told ∙ w.if-is_match.true) w.set_at.ensures (omega arith)
          (w.gather_set-n.ensures.fit, w.gather_set-n.ensures.gathered))
      | else-is_match w ↦ gathered-same w.objects-is w.n-is (gathered-other inv (omega arith) p (told ∙ w.if-is_match.false))
    ]

pub returns : goal.returns
returns c = let (fit, all) = gathered-all c.loop-place.invariant (omega arith) in record { fit = fit; result_after = all }
