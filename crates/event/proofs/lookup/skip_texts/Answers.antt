use Rattle.std.proofs.Common.{arith}
use Rattle.event.proofs.AnswerLaws.{text-not}
use Rattle.event.proofs.LookupLaws.{texts-none, texts-bad, texts-more, texts-all}
use Rattle.event.proofs.lookup.skip_texts.Goals as goal

pub loop-init : goal.loop-init
loop-init c = texts-none (omega arith)

pub returns-in_default : goal.returns-in_default
returns-in_default c = texts-bad c.loop.invariant (omega arith) (omega arith) (text-not _ _ c.read_text.ensures c.in_default.is)

pub loop-preserved : goal.loop-preserved
loop-preserved c = texts-more c.loop.invariant (omega arith) (omega arith) c.read_text.ensures c.in-Some.is (omega arith)

pub returns : goal.returns
returns c = texts-all c.loop.invariant (omega arith)
