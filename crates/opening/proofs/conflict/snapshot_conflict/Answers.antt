use Rattle.std.proofs.Common.{ap, ◌∙◌}
use Rattle.opening.specs.code.OpenIndex.{conflict_of}
use Rattle.opening.proofs.ConflictLaws.{snapshot-differs, snapshot-clear}
use Rattle.opening.proofs.conflict.snapshot_conflict.Goals as goal

pub returns-in_err-place : goal.returns-in_err-place
returns-in_err-place c = λ x v e. ap conflict_of c.from_residual.ensures ∙ snapshot-clear x _ v (c.in_err-place.ensures x.cells e)

pub returns : goal.returns
returns c = λ x v e. snapshot-differs x _ v _ (c.in_ok-place.ensures x.cells e)
