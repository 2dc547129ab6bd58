-- The lines of the places from `k` on are still to be written.
use Rattle.std.proofs.Common.{length}
use Rattle.report.specs.code.ReportIndex.{ObjectsRoom}
use Rattle.report.proofs.LineLaws.{ObjectsGo}
use Rattle.report.proofs.lines.write_objects.Given as goal

abbrev pub invariant-loop-k : goal.invariant-loop-k
invariant-loop-k l =
    (o : ObjectsRoom l.table l.count l.properties l.event l.sets l.at (length l.initial.out)) →
    ObjectsGo o.properties o.sets l.initial.out l.at l.out l.next l.k
