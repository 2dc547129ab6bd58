use Rattle.std.proofs.Common.{arith}
use Rattle.std.proofs.lemmas.Bool.Decides.{nat_tests}
use Rattle.ontology.proofs.RuleLaws.{strategy_by}
use Rattle.ontology.proofs.types.strategy_fits.Goals as goal

pub returns-then-is_mandatory_single : goal.returns-then-is_mandatory_single
returns-then-is_mandatory_single c s q w = let e = strategy_by w c.args.versioned in grind (arith, nat_tests)

pub returns-else-is_mandatory_single : goal.returns-else-is_mandatory_single
returns-else-is_mandatory_single c s q w = let e = strategy_by w c.args.versioned in grind (arith, nat_tests)

pub returns-then-not-p : goal.returns-then-not-p
returns-then-not-p c s q w = let e = strategy_by w c.args.versioned in grind (arith, nat_tests)

pub returns-else-not-p : goal.returns-else-not-p
returns-else-not-p c s q w = let e = strategy_by w c.args.versioned in grind (arith, nat_tests)

pub returns-else-is_replace : goal.returns-else-is_replace
returns-else-is_replace c s q w = let e = strategy_by w c.args.versioned in grind (arith, nat_tests)
