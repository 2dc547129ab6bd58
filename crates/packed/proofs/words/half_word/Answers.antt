use Rattle.std.proofs.Common.{◌∙◌}
use Rattle.packed.proofs.WordLaws.{four-word}
use Rattle.packed.proofs.words.half_word.Goals as goal

pub returns : goal.returns
returns c = c.from.ensures ∙ four-word _ _ c.requires (rw c.unwrap.ensures at c.try_into.ensures).1 c.from_be_bytes.ensures
