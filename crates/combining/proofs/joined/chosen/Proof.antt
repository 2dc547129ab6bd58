-- `joined::chosen` meets its contract: where one place is empty, the other one's value is all that the union has; where neither is, `choose` takes the first of
-- both in the order of the strategy.
use borrow.Author.Rules.{rules}
use mathlib.Core.Path.{◌≡◌, sym, ◌∙◌}
use mathlib.Core.List.{List, []}
use lib.ListN.{get_or}
use Rattle.model.specs.Order.{Text}
use Rattle.event.specs.code.EventIndex.{SetIs}
use Rattle.combining.proofs.JoinedLaws.{chosen-right, chosen-left, chosen-both}
use Rattle.combining.proofs.joined.chosen.Statement.{statement}
use Rattle.combining.proofs.joined.chosen.Tie as tie

-- ---- the places

abbrev to_start : tie.After-value_in-w → tie.Start
to_start c = (search)

abbrev to_values : tie.After-struct_known-2-1 → tie.After-value_in-w
to_values c = (search)

-- ---- the values of the two places

module _ (c : tie.After-value_in-w) {vs : List Text} where
  left-value : SetIs (to_start c).args.a.now vs (to_start c).args.x → c.value_in-v.result.now ≡ get_or vs 0 []
  left-value w = c.value_in-v.ensures vs (c.set_part.ensures vs w)

  right-value : SetIs (to_start c).args.b.now vs (to_start c).args.y → c.value_in-w.result.now ≡ get_or vs 0 []
  right-value w = c.value_in-w.ensures vs (c.set_part-2.ensures vs w)

-- ---- the needs

returns : tie.Need-returns-then-x-eq0
returns c = λ kind xs ys v w e. chosen-right e _ (sym v.count ∙ c.if-x-eq0.true) (right-value (search) w)

returns-2 : tie.Need-returns-then-y-eq0
returns-2 c = λ kind xs ys v w e. chosen-left e _ (sym w.count ∙ c.if-y-eq0.true) (left-value (to_values (search)) v)

returns-3 : tie.Need-returns
returns-3 c = λ kind xs ys v w e.
    let max : tie.After-is_max = search in
    let both : tie.Else-y-eq0 = search in
    let values = to_values (search) in
    chosen-both e max.is_max.ensures (λ z. both.if-x-eq0.false (v.count ∙ z)) (λ z. both.if-y-eq0.false (w.count ∙ z))
    (left-value values v) (right-value values w) c.choose.ensures

pub chosen_spec : {M : Type 1} → statement M
chosen_spec =
    tie.close
    (tie.spec
    (λ c κs. search rules) (λ c κs. search rules) (λ c κs. search rules) (λ c κs. search rules)
    returns
    returns-2
    (λ c κs. search rules) (λ c κs. search rules)
    returns-3)
