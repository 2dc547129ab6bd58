-- Each return is a law of the program's answer, for an output that is too small, an input that is too long or has no table, and one whose table and batch are
-- reported.
use Rattle.std.proofs.Common.{◌≡◌, ℕ, List, arith, sym, ◌∙◌}
use Rattle.std.specs.Prelude.{Option, Some}
use Rattle.packed.specs.code.Located.{text_at}
use Rattle.packed.specs.declared.read.TextAt.{TextAt}
use Rattle.packed.proofs.ReadLaws.{TextStops, text-stops, text-none}
use Rattle.report.proofs.LineLaws.{refused-as, refused-short}
use Rattle.report.proofs.ReportLaws.{report-small, report-long, report-unread, report-parts}
use Rattle.report.proofs.calls.report.Goals as goal

-- where the table stands
stops : {s : List ℕ} {r : Option TextAt} {x : TextAt} → r ≡ text_at s 0 → r ≡ Some x → TextStops s 0 x.start x.end
stops {s} {r} {x} e f = text-stops s 0 x (sym e ∙ f)

pub returns-then-out-lt-REPORT_CAPACITY : goal.returns-then-out-lt-REPORT_CAPACITY
returns-then-out-lt-REPORT_CAPACITY c = search report-small

pub write_refused-requires : goal.write_refused-requires
write_refused-requires c = omega (arith, refused-short c.number.result 0)

pub returns-then-input-gt-MOST_INPUT : goal.returns-then-input-gt-MOST_INPUT
returns-then-input-gt-MOST_INPUT c =
    report-long _ _ (omega arith) (omega arith) (refused-as _ _ c.number.ensures c.write_refused.ensures)

pub write_refused-requires-in_default : goal.write_refused-requires-in_default
write_refused-requires-in_default c = omega (arith, refused-short c.number-in_default.result 0)

pub returns-in_default : goal.returns-in_default
returns-in_default c =
    report-unread _ _ (omega arith) (omega arith) (text-none _ _ (sym c.read_text.ensures ∙ c.in_default.is))
    (refused-as _ _ c.number-in_default.ensures c.write_refused-in_default.ensures)

pub slice_bounds-report_batch-count : goal.slice_bounds-report_batch-count
slice_bounds-report_batch-count c = omega (arith, stops c.read_text.ensures c.in-Some.is)

pub slice_bounds-report_batch-start : goal.slice_bounds-report_batch-start
slice_bounds-report_batch-start c = omega (arith, stops c.read_text.ensures c.in-Some.is)

pub slice_bounds-report_batch-end : goal.slice_bounds-report_batch-end
slice_bounds-report_batch-end c = omega (arith, stops c.read_text.ensures c.in-Some.is)

pub slice_bounds-report_batch-count-2 : goal.slice_bounds-report_batch-count-2
slice_bounds-report_batch-count-2 c = omega (arith, stops c.read_text.ensures c.in-Some.is)

pub slice_bounds-report_batch-start-2 : goal.slice_bounds-report_batch-start-2
slice_bounds-report_batch-start-2 c = omega (arith, stops c.read_text.ensures c.in-Some.is)

pub returns : goal.returns
returns c =
    report-parts _ _ (omega arith) (omega arith) (stops c.read_text.ensures c.in-Some.is) c.report_batch.ensures
