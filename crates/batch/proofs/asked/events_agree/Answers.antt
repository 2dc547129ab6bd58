use Rattle.std.proofs.Common.{◌∙◌}
use Rattle.batch.proofs.AskedLaws.{agree-heads, agree-match}
use Rattle.batch.proofs.asked.events_agree.Goals as goal

pub returns-then-heads_agree : goal.returns-then-heads_agree
returns-then-heads_agree c = λ u ty tz f g w x y e.
    agree-match ty tz f g (c.heads_agree.ensures _ _ x.head y.head) c.if-heads_agree.true e
    (c.is_match_same.ensures u ty f.sets g.sets w x.sets y.sets)

pub returns-else-heads_agree : goal.returns-else-heads_agree
returns-else-heads_agree c = λ u ty tz f g w x y e.
    c.if-heads_agree.false ∙ agree-heads ty tz f g (c.heads_agree.ensures _ _ x.head y.head) c.if-heads_agree.false
