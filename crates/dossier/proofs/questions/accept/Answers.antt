-- The table is read for the type name that the dossier begins with, so that question 2 and what `ask_dossier` answers make the whole.
use Rattle.std.specs.Prelude.{Ok, Err}
use Rattle.replies.proofs.RefusalLaws.{passed-on}
use Rattle.ontology.proofs.TypeIndexLaws.{table_got}
use Rattle.dossier.proofs.DossierLayoutLaws.{dossier-name}
use Rattle.dossier.proofs.AnswerLaws.{questions-answered}
use Rattle.dossier.proofs.questions.accept.Goals as goal

pub returns-in_err-t-clause-answers : goal.returns-in_err-t-clause-answers
returns-in_err-t-clause-answers c =
    rw (passed-on c.from_residual-in_err-t.ensures.1)
    (questions-answered _ _ (table_got _ _ _ _ c.read_table.ensures c.in_ok-found.ensures.ok_part) c.read_dossier-d.new.rows (Err _)
    (dossier-name _ _ c.type_name.ensures _) c.in_err-t.ensures.answers)

pub returns-clause-answers : goal.returns-clause-answers
returns-clause-answers c =
    questions-answered _ _ (table_got _ _ _ _ c.read_table.ensures c.in_ok-found.ensures.ok_part) _ (Ok _)
    (dossier-name _ _ c.type_name.ensures _) c.in_ok-t.ensures.answers
