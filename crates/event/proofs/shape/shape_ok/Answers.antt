use Rattle.std.proofs.Common.{arith}
use Rattle.event.proofs.ShapeLaws.{shape-none, shape-not, shape-many, shape-few, shape-more, shape-end}
use Rattle.event.proofs.shape.shape_ok.Goals as goal

pub loop-k-init : goal.loop-k-init
loop-k-init c = shape-none

pub returns-then-not-set_fits : goal.returns-then-not-set_fits
returns-then-not-set_fits c =
    shape-not c.loop-k.invariant (omega arith) (omega arith) c.property_at-p.ensures c.set_at-set.ensures c.set_fits.ensures c.if-not-set_fits.true-raw

pub returns-then-matches-n : goal.returns-then-matches-n
returns-then-matches-n c =
    shape-many c.loop-k.invariant (omega arith) (omega arith) c.property_at-p.ensures c.set_at-set.ensures c.matches_at-n.ensures c.if-matches-n.true

pub returns-then-left-set : goal.returns-then-left-set
returns-then-left-set c = shape-few c.loop-k.invariant (omega arith) (omega arith) c.property_at-p.ensures c.set_at-set.ensures c.if-left-set.true

pub loop-k-preserved : goal.loop-k-preserved
loop-k-preserved c =
    shape-more c.loop-k.invariant (omega arith) (omega arith) c.property_at-p.ensures c.set_at-set.ensures c.matches_at-n.ensures c.set_fits.ensures
    c.if-not-set_fits.false-raw c.if-matches-n.false

pub returns : goal.returns
returns c = shape-end c.loop-k.invariant (omega (arith, c.min-k-end.ensures))
