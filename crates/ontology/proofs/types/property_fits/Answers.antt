use Rattle.std.proofs.Common.{arith}
use Rattle.std.proofs.lemmas.Bool.Decides.{nat_tests}
use Rattle.packed.specs.Packed.{part}
use Rattle.ontology.proofs.TurnLaws.{fits-by}
use Rattle.ontology.proofs.types.property_fits.Goals as goal

pub returns-then-not-marked : goal.returns-then-not-marked
returns-then-not-marked c q w =
    let e = fits-by c.args.versioned c.args.marked (part c.args.table.now c.args.start c.args.end) w in grind (arith, nat_tests)

pub returns-else-not-marked : goal.returns-else-not-marked
returns-else-not-marked c q w =
    let e = fits-by c.args.versioned c.args.marked (part c.args.table.now c.args.start c.args.end) w in grind (arith, nat_tests)

pub returns-else-strategy_fits : goal.returns-else-strategy_fits
returns-else-strategy_fits c q w =
    let e = fits-by c.args.versioned c.args.marked (part c.args.table.now c.args.start c.args.end) w in grind (arith, nat_tests)
