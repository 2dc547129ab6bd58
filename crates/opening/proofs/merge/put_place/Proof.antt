-- What is stored is `with_place`, by its two cases: the set that stands and 0 (`place-stands`), or 2 and 1 (`place-joins`).
use borrow.Author.Rules.{rules}
use native.Mathlib.Omega.{arith}
use Prim.Native.Nat.{◌+◌, ◌*◌}
use lib.ListN.{length-set}
use Rattle.opening.proofs.PlanLaws.{place-stands, place-joins}
use Rattle.opening.proofs.merge.put_place.Statement.{statement}
use Rattle.opening.proofs.merge.put_place.Tie as tie

-- ---- the needs

slice-write-plan-3 : tie.Need-bounds-plan-place-in-Joins-2
slice-write-plan-3 c =
    let start = c in
    omega (arith, start.requires.0, start.requires.1, length-set start.args.plan.now (4 * start.args.place + 2) 2)

pub put_place_spec : {M : Type 1} → statement M
put_place_spec =
    tie.close
    (tie.spec
    (λ c. search rules) (λ c. search rules) (λ c κs. search rules) (λ c. search rules) (λ c. search rules)
    (λ c. search rules) (λ c. search rules) (λ c. search rules) (λ c. search rules) (λ c. search rules)
    (λ c. search rules) (λ c. search rules) (λ c. search rules) (λ c. search rules) (λ c. search rules)
    slice-write-plan-3
    (λ c. search rules)
    (λ c. search place-stands)
    (λ c. search rules)
    (λ c. search place-joins))
