use Rattle.std.proofs.Common.{arith}
use Rattle.event.proofs.AnswerLaws.{text-order, text-within, text-not}
use Rattle.event.proofs.SetLaws.{walks-none, walks-bad, walks_more, walks-found}
use Rattle.event.proofs.sets.value_in.Goals as goal

pub loop-init : goal.loop-init
loop-init c = walks-none (omega arith)

pub returns-in_default : goal.returns-in_default
returns-in_default c = walks-bad c.loop.invariant (omega arith) (text-not _ _ c.read_text.ensures c.in_default.is)

pub loop-preserved : goal.loop-preserved
loop-preserved c = walks_more c.loop.invariant (omega arith) c.read_text.ensures c.in-Some.is (omega arith)

pub returns-in_default-read_text : goal.returns-in_default-read_text
returns-in_default-read_text c = walks-bad c.loop.invariant (omega arith) (text-not _ _ c.read_text-2.ensures c.in_default-read_text.is)

pub slice_bounds-result-count-2 : goal.slice_bounds-result-count-2
slice_bounds-result-count-2 c = text-order _ _ c.read_text-2.ensures c.in-Some-read_text.is

pub slice_bounds-result-start-2 : goal.slice_bounds-result-start-2
slice_bounds-result-start-2 c = text-order _ _ c.read_text-2.ensures c.in-Some-read_text.is

pub slice_bounds-result-end-2 : goal.slice_bounds-result-end-2
slice_bounds-result-end-2 c = text-within _ _ c.read_text-2.ensures c.in-Some-read_text.is

pub returns : goal.returns
returns c = walks-found c.loop.invariant (omega arith) c.read_text-2.ensures c.in-Some-read_text.is (omega arith)
