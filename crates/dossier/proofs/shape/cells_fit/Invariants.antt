-- The loop goes from the highest place with a property down. The masks are those of the places from the one reached on, and the objects left are those of the
-- places below it and of the places without a property. At place 0 the masks and what is left answer for all cells (`counts-fit`).
use Rattle.dossier.proofs.MaskLaws.{CountsDown}
use Rattle.dossier.proofs.shape.cells_fit.Given as goal

abbrev pub invariant-loop-k : goal.invariant-loop-k
invariant-loop-k l = CountsDown l.count l.differ l.objects l.sets l.present l.several l.left l.k
