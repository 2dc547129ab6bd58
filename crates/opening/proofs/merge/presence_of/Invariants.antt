-- The bits before this one say whether the plan counts a value.
use Rattle.std.proofs.Common.{◌+◌, ◌*◌, ltb, get_or}
use Rattle.event.proofs.BitLaws.{FilledTo}
use Rattle.opening.proofs.merge.presence_of.Given as goal

abbrev pub invariant-loop-p : goal.invariant-loop-p
invariant-loop-p l = FilledTo (λ i. ltb 0 (get_or l.plan (4 * i + 2) 0)) l.present l.p
