use borrow.Author.Rules.{rules}
use native.Mathlib.Omega.{arith}
use mathlib.Core.Path.{refl}
use lib.ListN.{length-set}
use Rattle.opening.specs.code.CellIndex.{with_set}
use Rattle.opening.proofs.cells.put_set.Statement.{statement}
use Rattle.opening.proofs.cells.put_set.Tie as tie

slice-write-xs-2 : tie.Need-bounds-xs-at-2
slice-write-xs-2 c = omega (arith, c.requires, length-set c.args.xs.now c.args.at c.args.x.start)

returns : tie.Need-returns
unfolding with_set
returns c = refl

pub put_set_spec : {M : Type 1} → statement M
put_set_spec =
    tie.close
    (tie.spec
    (λ c. search rules) (λ c. search rules) (λ c. search rules) (λ c. search rules)
    slice-write-xs-2
    (λ c. search rules) (λ c. search rules) (λ c. search rules) (λ c. search rules)
    returns)
