-- An empty set leaves the other one (`better-none`, `better-only`); of two values the one that the comparison takes is chosen (`better-chosen`).
use borrow.Author.Rules.{rules}
use Rattle.opening.proofs.MergeLaws.{BetterBy, better-none, better-only, better-chosen}
use Rattle.opening.proofs.merge.better.Statement.{statement}
use Rattle.opening.proofs.merge.better.Tie as tie

-- ---- the places

abbrev to_start : tie.Else-b-eq0 → tie.Start
to_start c = (search)

abbrev to_values : tie.After-takes_first → tie.After-set_part-2
to_values c = (search)

abbrev to_both : tie.After-takes_first → tie.Else-b-eq0
to_both c = (search)

-- ---- the facts

chosen :
    (c : tie.After-takes_first) → let g = (to_start (to_both c)).args in
    BetterBy g.s.now g.kind g.largest g.a g.b c.takes_first.result
chosen c =
    let both = to_both c in
    let values = to_values c in
    let first = values in
    let compared = c in
    better-chosen (to_start both).args.largest both.if-a-eq0.false both.if-b-eq0.false
    first.set_part.ensures first.value_in-v.ensures values.set_part-2.ensures compared.value_in-w.ensures
    compared.compare_values.ensures c.takes_first.ensures

-- ---- the needs

returns-3 : tie.Need-returns-then-takes_first
returns-3 c = (chosen (search)).0 c.if-takes_first.true

returns-4 : tie.Need-returns-else-takes_first
returns-4 c = (chosen (search)).1 c.if-takes_first.false

pub better_spec : {M : Type 1} → statement M
better_spec =
    tie.close
    (tie.spec
    (λ c. search better-none)
    (λ c. search better-only)
    (λ c κs. search rules) (λ c κs. search rules) (λ c κs. search rules) (λ c κs. search rules)
    (λ c κs. search rules) (λ c κs. search rules)
    returns-3
    returns-4)
