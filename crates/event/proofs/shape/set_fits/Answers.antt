use Rattle.std.proofs.Common.{sym, ◌∙◌, arith}
use Rattle.event.proofs.ShapeLaws.{fits-none, fits_one, fits_more}
use Rattle.event.proofs.shape.set_fits.Goals as goal

pub returns-in-0 : goal.returns-in-0
returns-in-0 c s q vs w n = w.optional ∙ sym (fits-none q vs (sym n ∙ c.in-0.is))

pub returns-in-1 : goal.returns-in-1
returns-in-1 c s q vs w n = sym (fits_one q vs (sym n ∙ c.in-1.is))

pub returns-in_default : goal.returns-in_default
returns-in_default c s q vs w n = w.multivalued ∙ sym (fits_more q vs (λ e. omega arith) (λ e. omega arith))
