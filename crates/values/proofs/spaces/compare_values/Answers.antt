use Rattle.std.proofs.Common.{arith}
use Rattle.values.proofs.SpaceLaws.{kind-least, ordered-low}
use Rattle.values.proofs.spaces.compare_values.Goals as goal

pub returns-in_default-2 : goal.returns-in_default-2
returns-in_default-2 c k n l p q = absurd (omega (arith, kind-least k, ordered-low k l))
