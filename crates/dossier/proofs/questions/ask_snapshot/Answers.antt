-- The shape and the match sets answer 5, each by itself, and the values are asked only after both.
use Rattle.dossier.specs.DossierQuestions.{snapshot_values}
use Rattle.dossier.proofs.AskLaws.{asked-shape, asked-match, asked-values}
use Rattle.dossier.proofs.questions.ask_snapshot.Goals as goal

pub returns-then-not-snapshot_fits : goal.returns-then-not-snapshot_fits
returns-then-not-snapshot_fits c u ty xs y m w b g x i =
    asked-shape _ ty xs y c.if-not-snapshot_fits.true (c.snapshot_fits.ensures u ty y m w b i)

pub returns-then-not-is_match_same : goal.returns-then-not-is_match_same
returns-then-not-is_match_same c u ty xs y m w b g x i =
    asked-match _ ty xs y c.if-not-is_match_same.true (c.is_match_same.ensures u ty xs _ w x i.sets)

pub returns-then-not-sets_in_space : goal.returns-then-not-sets_in_space
unfolding snapshot_values
returns-then-not-sets_in_space c u ty xs y m w b g x i =
    asked-values _ ty xs y (c.snapshot_fits.ensures u ty y m w b i) c.if-not-snapshot_fits.false (c.is_match_same.ensures u ty xs _ w x i.sets)
    c.if-not-is_match_same.false (c.sets_in_space.ensures u ty _ w g i.sets) c.if-not-sets_in_space.true

pub returns : goal.returns
unfolding snapshot_values
returns c u ty xs y m w b g x i =
    asked-values _ ty xs y (c.snapshot_fits.ensures u ty y m w b i) c.if-not-snapshot_fits.false (c.is_match_same.ensures u ty xs _ w x i.sets)
    c.if-not-is_match_same.false (c.sets_in_space.ensures u ty _ w g i.sets) c.if-not-sets_in_space.false
