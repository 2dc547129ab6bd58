-- The questions are asked in their order, and the first that is answered no refuses with its number.
use Rattle.replies.proofs.RefusalLaws.{passed-on}
use Rattle.dossier.proofs.DossierLayoutLaws.{dossier-name}
use Rattle.combining.proofs.CombineLaws.{name-says, agree-is, combinable, combine-left, combine-right, combine-apart}
use Rattle.combining.proofs.combine.combine_with.Goals as goal

pub returns-in_err-t : goal.returns-in_err-t
returns-in_err-t c =
    rw (passed-on c.from_residual.ensures.1)
    (combine-left c.requires.permitted.0 _ _ _ _ c.requires.permitted.1 _ c.in_err-t.ensures.answers)

pub ask_other-requires-clause-says : goal.ask_other-requires-clause-says
ask_other-requires-clause-says c = name-says _ c.in_ok-t.ensures.answers (dossier-name _ _ c.type_name.ensures _)

pub returns-in_err-e : goal.returns-in_err-e
returns-in_err-e c =
    rw (passed-on c.from_residual-in_err-e.ensures.1)
    (combine-right c.requires.permitted.0 _ _ _ _ c.requires.permitted.1 c.in_ok-t.ensures.answers _ c.in_err-e.ensures.answers)

pub returns-then-not-dossiers_agree : goal.returns-then-not-dossiers_agree
returns-then-not-dossiers_agree c =
    let x = c.in_ok-t.ensures.answers in
    let y = c.in_ok-e.ensures.answers in
    combine-apart c.requires.permitted.0 _ _ _ _ c.requires.permitted.1 x y (agree-is _ x y c.dossiers_agree.ensures) c.if-not-dossiers_agree.true

pub combine_read-requires-clause-combinable_under :
    goal.combine_read-requires-clause-combinable_under
combine_read-requires-clause-combinable_under c =
    combinable _ c.in_ok-t.ensures.answers c.in_ok-e.ensures.answers c.dossiers_agree.ensures c.requires.permitted.0 c.if-not-dossiers_agree.false
