use Rattle.std.proofs.Common.{arith, ap, ◌∙◌}
use Rattle.opening.specs.code.OpenIndex.{lowest_of}
use Rattle.opening.proofs.ConflictLaws.{lowest-mark}
use Rattle.opening.proofs.conflict.lowest_mark.Goals as goal

pub returns : goal.returns
returns c = λ cs e. ap lowest_of c.then_some.ensures ∙ lowest-mark cs c.args.differ e (omega arith)
