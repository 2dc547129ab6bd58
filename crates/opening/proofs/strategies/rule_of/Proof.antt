use borrow.Author.Rules.{rules}
use Rattle.opening.proofs.StrategyLaws.{rule-from}
use Rattle.opening.proofs.strategies.rule_of.Statement.{statement}
use Rattle.opening.proofs.strategies.rule_of.Tie as tie

returns : tie.Need-returns
returns c = λ s q w. rule-from _ c.is_replace.ensures c.is_extreme.ensures c.is_max.ensures s q w

pub rule_of_spec : {M : Type 1} → statement M
rule_of_spec =
    tie.close
    (tie.spec
    (λ c κs. search rules) (λ c κs. search rules) (λ c κs. search rules)
    returns)
