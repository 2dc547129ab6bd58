use Rattle.values.proofs.SpaceLaws.{chosen-first, chosen-second}
use Rattle.values.proofs.spaces.choose.Goals as goal

pub returns-then-takes_first : goal.returns-then-takes_first
returns-then-takes_first c = search (chosen-first, c.compare_values.ensures)

pub returns-else-takes_first : goal.returns-else-takes_first
returns-else-takes_first c = search (chosen-second, c.compare_values.ensures)
