use Rattle.packed.proofs.StringPlaceLaws.{string-put}
use Rattle.packed.proofs.strings.put_string.Goals as goal

pub returns : goal.returns
returns c = string-put _ _ _ c.requires.1 c.requires.0
