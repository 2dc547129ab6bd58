use Rattle.std.proofs.Common.{ap₂, ◌∙◌, arith}
use Rattle.model.specs.Order.{texts, equal}
use Rattle.event.proofs.AnswerLaws.{told-yes}
use Rattle.event.proofs.MatchLaws.{flat-equal, set-short, place-held}
use Rattle.event.proofs.agree.place_same.Goals as goal

pub returns-else-not-is_match : goal.returns-else-not-is_match
returns-else-not-is_match c s q vs ws w x y =
    c.same.ensures
    ∙ ap₂ (equal texts) (c.set_part.ensures vs x) (c.set_part-else-not-is_match.ensures ws y)
    ∙ flat-equal vs ws (set-short _ vs _ x (omega arith))
    ∙ place-held s q _ w _ (told-yes c.is_match.ensures c.if-not-is_match.false-raw)
