-- A place of strategy min or max has one object where either side has one, and any other place those of the union.
use Rattle.std.proofs.Common.{sym, ◌∙◌}
use Rattle.combining.proofs.ObjectLaws.{place-every, place-right, place-one}
use Rattle.combining.proofs.limits.count_place.Goals as goal

pub returns-then-x-eq0 : goal.returns-then-x-eq0
returns-then-x-eq0 c = λ u ty xs ys w v z p q few.
    place-right ty c.args.k xs ys c.is_extreme_at.ensures w c.if-is_extreme_at.true (sym v.count ∙ c.if-x-eq0.true) z.count few

pub returns-else-x-eq0 : goal.returns-else-x-eq0
returns-else-x-eq0 c = λ u ty xs ys w v z p q few.
    place-one ty c.args.k xs ys c.is_extreme_at.ensures w c.if-is_extreme_at.true (λ e. c.if-x-eq0.false (v.count ∙ e))

pub returns-else-is_extreme_at : goal.returns-else-is_extreme_at
returns-else-is_extreme_at c = λ u ty xs ys w v z p q few.
    c.count_union.ensures xs ys (c.set_part.ensures xs v) (c.set_part-else-is_extreme_at.ensures ys z) p q
    ∙ place-every ty c.args.k xs ys c.is_extreme_at.ensures w c.if-is_extreme_at.false
