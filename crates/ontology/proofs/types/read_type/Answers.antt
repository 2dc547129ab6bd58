-- What stands before the properties says what is left of the type: its properties, which are read with their rules, and that its mark is at most their count.
use Rattle.ontology.proofs.TypeLaws.{type-short, type-reads}
use Rattle.ontology.proofs.types.read_type.Goals as goal

pub returns-in_err-next-clause-reads : goal.returns-in_err-next-clause-reads
returns-in_err-next-clause-reads c = rw c.from_residual-in_err-next.ensures (type-short c.in_ok-t.ensures c.in_err-next.ensures.says)

pub returns-clause-reads : goal.returns-clause-reads
returns-clause-reads c = rw c.then_some.ensures (type-reads c.in_ok-t.ensures c.in_ok-next.ensures.says)
