use Rattle.std.proofs.Common.{arith}
use Rattle.ontology.proofs.CodeLaws.{bool-small}
use Rattle.ontology.proofs.properties.code_of.Goals as goal

pub overflow_mul-result-6 : goal.overflow_mul-result-6
overflow_mul-result-6 c = omega (arith, bool-small c.args.p.multivalued)

pub overflow_add-result-6 : goal.overflow_add-result-6
overflow_add-result-6 c = omega (arith, bool-small c.args.p.optional, bool-small c.args.p.multivalued)
