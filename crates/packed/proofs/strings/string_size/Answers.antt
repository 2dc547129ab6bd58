use Rattle.std.proofs.Common.{sym}
use Rattle.packed.proofs.StringLaws.{string-length}
use Rattle.packed.proofs.strings.string_size.Goals as goal

pub returns : goal.returns
returns c = sym (string-length _ _ _ c.requires)
