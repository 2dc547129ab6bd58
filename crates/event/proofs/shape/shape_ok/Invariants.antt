-- The places below k fit, and have so many match objects, and the others have the objects that are left.
use Rattle.event.proofs.ShapeLaws.{ShapeTo}
use Rattle.event.proofs.shape.shape_ok.Given as goal

abbrev pub invariant-loop-k : goal.invariant-loop-k
invariant-loop-k l = ShapeTo l.count l.properties l.objects l.sets l.left l.matches l.k
