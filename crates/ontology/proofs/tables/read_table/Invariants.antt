use Rattle.std.proofs.Common.{◌-◌}
use Rattle.ontology.proofs.TableReadLaws.{Listed}
use Rattle.ontology.proofs.tables.read_table.Given as goal

abbrev pub invariant-loop : goal.invariant-loop
invariant-loop l = Listed l.table l.name l.properties l.found (l.count - l.counter) l.at l.last.start l.last.end
