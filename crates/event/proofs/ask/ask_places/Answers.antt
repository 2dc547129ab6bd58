use Rattle.event.proofs.AskLaws.{places-shape, places-values, places-all}
use Rattle.event.proofs.ask.ask_places.Goals as goal

pub returns-then-not-shape_ok : goal.returns-then-not-shape_ok
returns-then-not-shape_ok c = places-shape _ _ _ _ _ c.shape_ok.ensures c.if-not-shape_ok.true

pub returns-then-not-sets_in_space : goal.returns-then-not-sets_in_space
returns-then-not-sets_in_space c =
    places-values _ _ _ _ _ c.shape_ok.ensures c.if-not-shape_ok.false c.sets_in_space.ensures c.if-not-sets_in_space.true

pub returns : goal.returns
returns c = places-all _ _ _ _ _ c.shape_ok.ensures c.if-not-shape_ok.false c.sets_in_space.ensures c.if-not-sets_in_space.false
