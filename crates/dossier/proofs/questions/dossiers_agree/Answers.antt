use Rattle.std.proofs.Common.{◌∙◌}
use Rattle.dossier.proofs.AskLaws.{in_count, first-sets}
use Rattle.dossier.proofs.AnswerLaws.{agree-heads, agree-match}
use Rattle.dossier.proofs.questions.dossiers_agree.Goals as goal

pub returns-then-heads_agree : goal.returns-then-heads_agree
returns-then-heads_agree c u ty tz h g w x y l r e =
    let heads = c.heads_agree.ensures _ _ x.head y.head in
    let matches = c.is_match_same.ensures u ty _ _ w (first-sets _ h _ x _ l) (first-sets _ g _ y _ r) in
    agree-match ty tz h g heads c.if-heads_agree.true (in_count _ h _ x 0 x.one) (in_count _ g _ y 0 y.one) e matches

pub returns-else-heads_agree : goal.returns-else-heads_agree
returns-else-heads_agree c u ty tz h g w x y l r e =
    c.if-heads_agree.false ∙ agree-heads ty tz h g (c.heads_agree.ensures _ _ x.head y.head) c.if-heads_agree.false
