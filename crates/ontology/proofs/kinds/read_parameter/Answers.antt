-- A number is read, and whether it is in its range decides.
use Rattle.std.proofs.Common.{arith, sym}
use Rattle.ontology.proofs.OnwardLaws.{any-got, any-fail}
use Rattle.ontology.proofs.KindLaws.{fits-small, one_none, one-stops, one-not}
use Rattle.ontology.proofs.kinds.read_parameter.Goals as goal

pub returns-in_err-n : goal.returns-in_err-n
returns-in_err-n c = rw c.from_residual.ensures (one_none c.requires _ (any-fail _ _ c.in_err-n.ensures))

pub overflow_cast-result : goal.overflow_cast-result
overflow_cast-result c = omega (arith, fits-small _ _ (sym c.if-parameter_fits.ensures))

pub returns-then-parameter_fits : goal.returns-then-parameter_fits
returns-then-parameter_fits c = one-stops c.requires (any-got c.in_ok-n.ensures) c.if-parameter_fits.ensures

pub returns-else-parameter_fits : goal.returns-else-parameter_fits
returns-else-parameter_fits c = one-not c.requires (any-got c.in_ok-n.ensures) c.if-parameter_fits.ensures
