-- In a turn the lesser of the two first values is written; where one side has no more, the rest of the other is.
use Rattle.std.proofs.Common.{arith}
use Rattle.unions.proofs.RunLaws.{LeftStep, RightStep, less-step, same_step, more-step}
use Rattle.unions.proofs.RunLaws.{left-fits, left-on, right-fits, right-on, right-rest, right-wrote, left-rest, left-wrote}
use Rattle.unions.proofs.pair.write_runs.Goals as goal
use Rattle.unions.proofs.pair.write_runs.Goals.{In-Less, In-Equal, In-Greater}

-- the step of each arm
less : (c : In-Less) → LeftStep c.loop-x.invariant 1 c.in-Some.x.end c.loop-x.j
less c = less-step _ c.in-Some.ensures c.in-Some-head_at.ensures c.in-Less.ensures

same : (c : In-Equal) → LeftStep c.loop-x.invariant 2 c.in-Some.x.end c.in-Some-head_at.y.end
same c = same_step _ c.in-Some.ensures c.in-Some-head_at.ensures c.in-Equal.ensures

more : (c : In-Greater) → RightStep c.loop-x.invariant c.in-Some-head_at.y.end
more c = more-step _ c.in-Some.ensures c.in-Some-head_at.ensures c.in-Greater.ensures

pub copy_part-requires : goal.copy_part-requires
copy_part-requires c = right-rest c.loop-x.invariant c.in_default.ensures

pub returns-in_default : goal.returns-in_default
returns-in_default c = right-wrote c.loop-x.invariant c.in_default.ensures c.copy_part.ensures

pub copy_part-requires-in_default-head_at : goal.copy_part-requires-in_default-head_at
copy_part-requires-in_default-head_at c = left-rest c.loop-x.invariant c.in_default-head_at.ensures

pub returns-in_default-head_at : goal.returns-in_default-head_at
returns-in_default-head_at c = left-wrote c.loop-x.invariant c.in_default-head_at.ensures c.copy_part-in_default-head_at.ensures

pub copy_part-next-requires : goal.copy_part-next-requires
copy_part-next-requires c = left-fits (less (goal.at.copy_part-next-requires c).In-Less)

pub loop-x-preserved-in-Less : goal.loop-x-preserved-in-Less
loop-x-preserved-in-Less c = left-on (less (goal.at.loop-x-preserved-in-Less c).In-Less) (omega arith) c.copy_part-next.ensures

pub copy_part-next-requires-in-Equal : goal.copy_part-next-requires-in-Equal
copy_part-next-requires-in-Equal c = left-fits (same (goal.at.copy_part-next-requires-in-Equal c).In-Equal)

pub loop-x-preserved-in-Equal : goal.loop-x-preserved-in-Equal
loop-x-preserved-in-Equal c = left-on (same (goal.at.loop-x-preserved-in-Equal c).In-Equal) (omega arith) c.copy_part-next-in-Equal.ensures

pub copy_part-next-requires-in-Greater : goal.copy_part-next-requires-in-Greater
copy_part-next-requires-in-Greater c = right-fits (more (goal.at.copy_part-next-requires-in-Greater c).In-Greater)

pub loop-x-preserved : goal.loop-x-preserved
loop-x-preserved c = right-on (more (goal.at.loop-x-preserved c).In-Greater) c.copy_part-next-in-Greater.ensures
