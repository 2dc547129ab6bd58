use Rattle.std.proofs.Common.{arith}
use Rattle.std.proofs.lemmas.Bool.Decides.{nat_tests}
use Rattle.ontology.proofs.NameLaws.{name_empty, name-parts}
use Rattle.ontology.proofs.names.is_name.Goals as goal

pub returns-in-empty : goal.returns-in-empty
returns-in-empty c = name_empty _ _ (omega arith)

pub returns-then-is_letter : goal.returns-then-is_letter
returns-then-is_letter c = let e = name-parts c.args.most c.args.v.now (omega arith) in grind (arith, nat_tests)

pub returns-else-is_letter : goal.returns-else-is_letter
returns-else-is_letter c = let e = name-parts c.args.most c.args.v.now (omega arith) in grind (arith, nat_tests)
