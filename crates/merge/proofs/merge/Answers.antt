-- What was read has the report of the whole input.
use Rattle.std.proofs.Common.{◌≡◌, ℕ, List, length, take, arith}
use Rattle.std.proofs.lemmas.Result.{on_ok_weaker}
use Rattle.std.specs.Io.KnownBytes.{Appends}
use Rattle.merge.proofs.InputLaws.{report-read, report-told}
use Rattle.merge.proofs.merge.Goals as goal

pub returns : goal.returns
returns g c =
    let known = g.R.Read.remaining c.args.reader.now in
    let left = g.R.Read.remaining c.read_full.new.reader in
    let buf = c.read_full.new.buf in
    let room : 65537 ≡ length c.read_full.new.buf = omega arith in
    let told = c.in_ok-n.ensures in
    let same = report-read known left c.in_ok-n.n buf room told.in_bounds told.bytes told.end in
    let appended = λ (lines : List ℕ). Appends (g.W.Write.contents c.args.writer.now) (g.W.Write.contents c.print_report.new.writer) lines in
    on_ok_weaker c.print_report.result (report-told known (take c.in_ok-n.n buf) appended same) c.print_report.ensures
