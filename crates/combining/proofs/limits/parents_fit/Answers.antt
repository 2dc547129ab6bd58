use Rattle.std.proofs.Common.{arith}
use Rattle.combining.proofs.FitLaws.{parents-few}
use Rattle.combining.proofs.limits.parents_fit.Goals as goal

pub returns-then-y-most : goal.returns-then-y-most
returns-then-y-most c = λ gs hs g h eg eh rg rh. parents-few gs hs _ _ _ g.count h.count (omega arith)
