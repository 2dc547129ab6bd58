use Rattle.std.proofs.Common.{arith}
use Rattle.event.proofs.AnswerLaws.{number-not}
use Rattle.event.proofs.LookupLaws.{sets-none, sets-bad, sets_more, sets-all}
use Rattle.event.proofs.lookup.skip_sets.Goals as goal

pub loop-init : goal.loop-init
loop-init c = sets-none (omega arith)

pub returns-in_default : goal.returns-in_default
returns-in_default c = sets-bad c.loop.invariant (omega arith) (omega arith) (number-not _ _ c.read_number.ensures c.in_default.is)

pub loop-preserved : goal.loop-preserved
loop-preserved c = sets_more c.loop.invariant (omega arith) (omega arith) c.read_number.ensures c.in-Some.is c.skip_texts-pos.ensures (omega arith)

pub returns : goal.returns
returns c = sets-all c.loop.invariant (omega arith)
