-- The report has its room, and stands at the front of the output.
use Rattle.std.proofs.Common.{◌≤◌, OnOk, length, subst, arith}
use lib.Seq.{length-take-le}
use Rattle.std.specs.Io.KnownBytes.{Appends}
use Rattle.merge.proofs.PrintLaws.{prints-done, never-refused}
use Rattle.merge.proofs.print_report.Goals as goal

pub slice_bounds-out-end : goal.slice_bounds-out-end
slice_bounds-out-end g c =
    omega (arith, (prints-done c.args.input.now c.report_buffer-out.result c.report.new.out c.in-Ok.n (omega arith) c.in-Ok.ensures).0)

pub slice_bounds-write_all-end : goal.slice_bounds-write_all-end
slice_bounds-write_all-end g c =
    let fits = (prints-done c.args.input.now c.report_buffer-out.result c.report.new.out c.in-Ok.n (omega arith) c.in-Ok.ensures).0 in
    let within : c.in-Ok.n ≤ length c.report.new.out = omega (arith, fits) in
    omega (arith, length-take-le c.in-Ok.n c.report.new.out within)

pub returns-in-Ok : goal.returns-in-Ok
returns-in-Ok g c =
    subst (λ lines. OnOk c.write_all.result (Appends (g.W.Write.contents c.args.writer.now) (g.W.Write.contents c.write_all.new.self) lines))
    (prints-done c.args.input.now c.report_buffer-out.result c.report.new.out c.in-Ok.n (omega arith) c.in-Ok.ensures).1
    c.write_all.ensures.bytes

pub returns-in-Err : goal.returns-in-Err
returns-in-Err g c =
    elim (never-refused c.args.input.now c.report_buffer-out.result c.report.new.out _ (omega arith) c.in-Err.ensures) [ ]
