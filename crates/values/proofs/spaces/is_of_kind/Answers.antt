use Rattle.std.proofs.Common.{rules}
use Rattle.values.specs.Spaces.{is_width, is_kind, is_of_kind}
use Rattle.values.specs.code.KindNumbers.{kind_of}
use Rattle.values.proofs.spaces.is_of_kind.Goals as goal

pub returns-in-5 : goal.returns-in-5
unfolding is_width is_kind is_of_kind kind_of
returns-in-5 c = search rules
