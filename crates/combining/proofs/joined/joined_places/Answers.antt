use Rattle.std.proofs.Common.{ap₂, ◌∙◌, arith}
use Rattle.combining.specs.code.JoinedIndex.{have_objects}
use Rattle.combining.proofs.PlaceLaws.{only_none, only-more}
use Rattle.combining.proofs.JoinedLaws.{places-all}
use Rattle.combining.proofs.joined.joined_places.Goals as goal

pub loop-k-init : goal.loop-k-init
loop-k-init c = only_none

pub loop-k-preserved : goal.loop-k-preserved
loop-k-preserved c =
    only-more c.loop-k.invariant (omega arith) (c.have_objects.ensures ∙ ap₂ have_objects c.set_at.ensures c.set_at-in-loop-k.ensures)

-- where the loop ends no place is left that has objects
pub returns : goal.returns
returns c = λ empty. places-all c.loop-k.invariant empty (omega arith)
