-- Three writes put the three numbers of a property at its place: what is read back there is the property.
use Rattle.std.proofs.Common.{arith}
use Rattle.ontology.proofs.CodeLaws.{IsSmall, put-here}
use Rattle.ontology.proofs.properties.put_property.Goals as goal

pub returns-clause-here : goal.returns-clause-here
returns-clause-here c =
    let small : IsSmall c.args.p =
    record { kind = omega arith; size = omega arith; after = omega arith; sign = omega arith; strategy = omega arith } in
    put-here _ c.args.k c.args.p _ (omega arith) small c.code_of.ensures
