use Rattle.std.proofs.Common.{eqb-true}
use Rattle.packed.proofs.WordLaws.{all-low}
use Rattle.packed.proofs.words.all_low.Goals as goal

pub returns : goal.returns
returns c = λ e. all-low _ _ _ c.type_inv.s c.requires c.word.ensures (eqb-true _ _ e)
