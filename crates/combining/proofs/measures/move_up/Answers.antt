use Rattle.std.proofs.Common.{◌≡◌, ◌+◌, ◌-◌, arith, subst, ◌∙◌}
use Rattle.combining.proofs.MeasureLaws.{Moved, none-moved, moved-next, moved_up}
use Rattle.combining.proofs.measures.move_up.Goals as goal

pub loop-k-init : goal.loop-k-init
loop-k-init c = (c.requires.1, none-moved _ c.requires.0)

pub loop-k-preserved : goal.loop-k-preserved
loop-k-preserved c =
    let before : c.loop-k.k ≡ c.loop-k.k - 1 + 1 = omega arith in
    let put = c.put_measure.ensures in
    let new = c.put_measure.new.measures in
    let moved = subst (λ k. Moved c.args.measures.now k c.loop-k.measures) before c.loop-k.invariant.1 in
    (omega arith, moved-next _ _ new (c.loop-k.k - 1) moved (omega arith) (put.here ∙ c.measure_at-x.ensures) put.others)

pub returns : goal.returns
returns c = moved_up _ _ _ _ (omega arith) (omega arith) c.loop-k.invariant.1
