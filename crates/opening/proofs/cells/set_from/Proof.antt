use borrow.Author.Rules.{rules}
use mathlib.Core.Path.{refl}
use Rattle.opening.specs.code.CellIndex.{set_from}
use Rattle.opening.proofs.cells.set_from.Statement.{statement}
use Rattle.opening.proofs.cells.set_from.Tie as tie

returns : tie.Need-returns
unfolding set_from
returns c = refl

pub set_from_spec : {M : Type 1} → statement M
set_from_spec =
    tie.close
    (tie.spec
    (λ c. search rules) (λ c. search rules) (λ c. search rules) (λ c. search rules) (λ c. search rules)
    (λ c. search rules) (λ c. search rules) (λ c. search rules)
    returns)
