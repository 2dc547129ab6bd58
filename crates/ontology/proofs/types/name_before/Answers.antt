use Rattle.std.proofs.Common.{arith}
use Rattle.ontology.proofs.NameLaws.{first-decides}
use Rattle.ontology.proofs.types.name_before.Goals as goal

pub returns-then-x-y : goal.returns-then-x-y
returns-then-x-y c = first-decides _ _ _ _ _ c.if-a-e.true (omega arith) c.if-b-f.true (omega arith) c.if-x-y.true
