use Rattle.std.proofs.Common.{drop}
use Rattle.ontology.specs.code.TypeIndex.{read_fitting}
use Rattle.ontology.proofs.TypeLaws.{Filled}
use Rattle.ontology.proofs.types.read_properties.Given as goal

abbrev pub invariant-loop-k : goal.invariant-loop-k
invariant-loop-k l =
    Filled (read_fitting l.mark l.count (drop l.at l.table)) l.table l.at l.mark l.keep l.initial.properties l.properties l.next l.start l.end l.k l.count
