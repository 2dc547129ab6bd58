-- The arrays have their room, so the call `batch` answers what the batch comes to. The dossier that it makes opens, and a refusal is a line.
use Rattle.std.proofs.Common.{arith, sym}
use Rattle.std.proofs.Math.Seq.{length-take-le}
use Rattle.report.proofs.LineLaws.{refused-as, refused-short}
use Rattle.report.proofs.ReportLaws.{BatchDone, batch-done, batch-refused, done-opens, done-lines, refused-lines}
use Rattle.report.proofs.calls.report_batch.Goals as goal
use Rattle.report.proofs.calls.report_batch.Goals.{In-Ok}

done : (c : In-Ok) → BatchDone c.args.table.now c.args.events.now c.batch.new.out c.in-Ok.n
done c = batch-done _ _ _ _ _ (omega arith, omega arith, omega arith, omega arith) c.standard_limits.ensures c.in-Ok.ensures

pub slice_bounds-dossier-end : goal.slice_bounds-dossier-end
slice_bounds-dossier-end c = (done c).within

pub slice_bounds-report_opened-end : goal.slice_bounds-report_opened-end
slice_bounds-report_opened-end c = sym (length-take-le _ _ (done (goal.at.slice_bounds-report_opened-end c).In-Ok).within)

pub report_opened-requires : goal.report_opened-requires
report_opened-requires c = (_, done-opens (done (goal.at.report_opened-requires c).In-Ok) _ c.requires, omega arith)

pub write_refused-requires : goal.write_refused-requires
write_refused-requires c = omega (arith, refused-short c.number.result c.in-Err.b.position)

pub returns-in-Ok : goal.returns-in-Ok
returns-in-Ok c =
    let d = done (goal.at.returns-in-Ok c).In-Ok in
    done-lines _ _ d.what d.is (c.report_opened.ensures _ (done-opens d _ c.requires))

pub returns-in-Err : goal.returns-in-Err
returns-in-Err c =
    refused-lines _ _ _ _
    (batch-refused _ _ _ _ _ (omega arith, omega arith, omega arith, omega arith) c.standard_limits.ensures _ c.in-Err.ensures)
    (refused-as _ _ c.number.ensures c.write_refused.ensures)
