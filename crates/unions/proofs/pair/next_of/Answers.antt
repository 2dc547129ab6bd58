use Rattle.unions.proofs.RunLaws.{step_less, step_same, step-more, stepped}
use Rattle.unions.proofs.pair.next_of.Goals as goal

pub returns-in-Less : goal.returns-in-Less
returns-in-Less c = stepped (step_less c.in_ok-x.ensures c.in_ok-y.ensures c.in-Less.ensures)

pub returns-in-Equal : goal.returns-in-Equal
returns-in-Equal c = stepped (step_same c.in_ok-x.ensures c.in_ok-y.ensures c.in-Equal.ensures)

pub returns-in-Greater : goal.returns-in-Greater
returns-in-Greater c = stepped (step-more c.in_ok-x.ensures c.in_ok-y.ensures c.in-Greater.ensures)
