use Rattle.std.proofs.Common.{arith}
use Rattle.std.proofs.lemmas.Bool.Decides.{nat_tests}
use Rattle.ontology.proofs.RuleLaws.{marked_by}
use Rattle.ontology.proofs.types.can_be_marked.Goals as goal

pub returns-then-is_max : goal.returns-then-is_max
returns-then-is_max c s q w = let e = marked_by w in grind (arith, nat_tests)

pub returns-else-is_max : goal.returns-else-is_max
returns-else-is_max c s q w = let e = marked_by w in grind (arith, nat_tests)
