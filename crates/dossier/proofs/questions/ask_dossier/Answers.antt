-- Each return is the law of the first question that is answered no, or of all. What the table has of the dossier's type is known in the clause alone.
use Rattle.replies.proofs.RefusalLaws.{none-refused, passed-on}
use Rattle.dossier.proofs.AnswerLaws.{answer-layout, answer-type, answer-refused, answer-accepted}
use Rattle.dossier.proofs.questions.ask_dossier.Goals as goal

pub returns-in_err-index-clause-answers : goal.returns-in_err-index-clause-answers
returns-in_err-index-clause-answers c = λ table ts e says.
    let told = c.in_err-index.ensures in
    rw (none-refused told.value told.ok_part c.from_residual.ensures.1) (answer-layout _ table ts _ _ c.requires.dossier_reads.0 told.ok_part)

pub returns-in_err-t-clause-answers : goal.returns-in_err-t-clause-answers
returns-in_err-t-clause-answers c = λ table ts e says.
    let told = c.in_err-t.ensures in
    rw (none-refused told.value told.ok_part c.from_residual-in_err-t.ensures.1)
    (answer-type _ table ts _ _ c.requires.dossier_reads.0 c.in_ok-index.ensures.ok_part _ says told.ok_part)

pub returns-in_err-ask_snapshots-clause-answers : goal.returns-in_err-ask_snapshots-clause-answers
returns-in_err-ask_snapshots-clause-answers c = λ table ts e says.
    rw (passed-on c.from_residual-in_err-ask_snapshots.ensures.1)
    (answer-refused _ table ts _ _ c.requires.dossier_reads.0 c.in_ok-index.ensures.ok_part _ says c.in_ok-t.ensures.ok_part e
    c.in_err-ask_snapshots.ensures)

pub returns-clause-answers : goal.returns-clause-answers
returns-clause-answers c = λ table ts e says.
    answer-accepted _ table ts _ _ c.requires.dossier_reads.0 c.in_ok-index.ensures.ok_part _ says c.in_ok-t.ensures.ok_part e
    c.in_ok-ask_snapshots.ensures
