use mathlib.Core.Path.{refl}
use Rattle.model.specs.Limits.{standard}
use Rattle.replies.proofs.limits.standard_limits.Statement.{statement}
use Rattle.replies.proofs.limits.standard_limits.Tie as tie

returns : tie.Need-returns
unfolding standard
returns c = refl

pub standard_limits_spec : {M : Type 1} → statement M
standard_limits_spec = tie.close (tie.spec returns)
