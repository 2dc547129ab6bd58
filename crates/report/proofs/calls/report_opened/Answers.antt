-- The call `open_dossier` answers what the dossier opens as, a merged event or a finding, each with lines of its own, and never a refusal.
use Rattle.std.proofs.Common.{◌≡◌, ◌≤◌, length, rules, sym}
use Rattle.std.proofs.Math.Seq.{length-take-le}
use Rattle.model.specs.Opening.{finds}
use Rattle.replies.specs.Replies.{finding_of}
use Rattle.dossier.specs.DossierQuestions.{TypedDossier}
use Rattle.report.specs.code.ReportIndex.{opens, DossierOpens}
use Rattle.report.proofs.ReportLaws.{OpensMerged, opened-merged, opened-found, opened-refused}
use Rattle.report.proofs.ReportLaws.{merged-ready, merged-lines, finding-place, finding-room, finding-lines}
use Rattle.report.proofs.calls.report_opened.Goals as goal
use Rattle.report.proofs.calls.report_opened.Goals.{In-Ok-Merged, In-Ok-Found}

-- ---- the facts

merges : (c : In-Ok-Merged) {d : TypedDossier} → DossierOpens c.args.table.now c.args.dossier.now d (length c.args.out.now) →
    OpensMerged d c.open_dossier.new.out c.in-Ok-Merged.n
merges c w = let o = c.in-Ok-Merged in opened-merged _ _ _ _ w c.requires.2 c.standard_limits.ensures _ o.ensures o.field-0-is

within : (c : In-Ok-Merged) → c.in-Ok-Merged.n ≤ length c.open_dossier.new.out
within c = (merges c c.requires.1).within

finding : (c : In-Ok-Found) {d : TypedDossier} → DossierOpens c.args.table.now c.args.dossier.now d (length c.args.out.now) →
    opens d ≡ finds (finding_of c.in-Ok-Found.f)
finding c w = let o = c.in-Ok-Found in opened-found _ _ _ _ w c.requires.2 c.standard_limits.ensures _ o.ensures o.field-0-is

-- ---- the goals

pub slice_bounds-report_merged-end : goal.slice_bounds-report_merged-end
slice_bounds-report_merged-end c = within c

pub slice_bounds-report_merged-end-in-Ok-Merged : goal.slice_bounds-report_merged-end-in-Ok-Merged
slice_bounds-report_merged-end-in-Ok-Merged c = sym (length-take-le _ _ (within c))

pub report_merged-requires : goal.report_merged-requires
report_merged-requires c =
    let w = c.requires.1 in
    (_, _, merged-ready w (merges (goal.at.report_merged-requires c).In-Ok-Merged w))

pub write_finding-requires : goal.write_finding-requires
write_finding-requires c =
    let w = c.requires.1 in
    let f = finding (goal.at.write_finding-requires c).In-Ok-Found w in
    (search rules, finding-place w f (c.properties_of.ensures _ _ w.tabled w.asked), finding-room w f)

pub write_refused-requires : goal.write_refused-requires
write_refused-requires c = absurd (opened-refused _ _ _ _ c.requires.1 c.requires.2 c.standard_limits.ensures _ c.in-Err.ensures)

pub returns-in-Ok-Merged : goal.returns-in-Ok-Merged
returns-in-Ok-Merged c = λ d w.
    let m = merges (goal.at.returns-in-Ok-Merged c).In-Ok-Merged w in
    merged-lines w m (c.report_merged.ensures _ _ (merged-ready w m))

pub returns-in-Ok-Found : goal.returns-in-Ok-Found
returns-in-Ok-Found c = λ d w.
    let f = finding (goal.at.returns-in-Ok-Found c).In-Ok-Found w in
    finding-lines w f (c.write_finding.ensures (finding-place w f (c.properties_of.ensures _ _ w.tabled w.asked)))

pub returns-in-Err : goal.returns-in-Err
returns-in-Err c = λ d w. absurd (opened-refused _ _ _ _ w c.requires.2 c.standard_limits.ensures _ c.in-Err.ensures)
