-- A head begins with the text of its type name.
use mathlib.Core.Path.{sym, ◌∙◌}
use Rattle.packed.proofs.LayoutLaws.{fail-got}
use Rattle.event.proofs.AnswerLaws.{text-order, text-within}
use Rattle.event.proofs.HeadLaws.{no_name, name-part}
use Rattle.event.proofs.head.type_name.Goals as goal

pub slice_bounds-result-count : goal.slice_bounds-result-count
slice_bounds-result-count c = text-order _ _ c.read_text.ensures c.in-Some.is

pub slice_bounds-result-start : goal.slice_bounds-result-start
slice_bounds-result-start c = text-order _ _ c.read_text.ensures c.in-Some.is

pub slice_bounds-result-end : goal.slice_bounds-result-end
slice_bounds-result-end c = text-within _ _ c.read_text.ensures c.in-Some.is

pub returns-in-Some : goal.returns-in-Some
returns-in-Some c most h r e = name-part most _ c.read_text.ensures c.in-Some.is e

pub returns-in-None : goal.returns-in-None
returns-in-None c most h r e = fail-got (sym (no_name most _ c.read_text.ensures c.in-None.is) ∙ e)
