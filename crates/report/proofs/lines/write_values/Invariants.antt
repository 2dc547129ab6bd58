-- The lines of the values that stand from here on are still to be written.
use Rattle.std.proofs.Common.{◌-◌, length, drop}
use Rattle.report.specs.code.ReportIndex.{ValuesRoom}
use Rattle.report.proofs.LineLaws.{Lines}
use Rattle.report.proofs.lines.write_values.Given as goal

abbrev pub invariant-loop : goal.invariant-loop
invariant-loop l =
    (v : ValuesRoom l.table l.p l.event l.fn.x l.at (length l.initial.out)) →
    Lines v.property.name v.values l.event l.initial.out l.at l.out l.next l.from (l.fn.x.count - l.counter) (drop l.fn.x.end l.event)
