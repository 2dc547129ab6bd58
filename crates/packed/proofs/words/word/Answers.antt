use Rattle.packed.proofs.WordLaws.{eight-word}
use Rattle.packed.proofs.words.word.Goals as goal

pub returns : goal.returns
returns c = eight-word _ _ c.requires (rw c.unwrap.ensures at c.try_into.ensures).1 c.from_be_bytes.ensures
