-- Document 01: the call check an event, "whose dossier is the output".
use Rattle.std.specs.Prelude.{ℕ, List, [], ◌∷◌, length}
use Rattle.model.specs.Rule.{rule}
use Rattle.replies.specs.Questions.{Asked, accepted, ◌>>=◌, ◌>>◌, ask}
use Rattle.replies.specs.Capacities.{dossier_capacity, has_room}
use Rattle.replies.specs.Answers.{Answer, answer, Outcome, outcome}
use Rattle.ontology.specs.TableLayout.{table_of}
use Rattle.event.specs.Event.{view}
use Rattle.event.specs.EventQuestions.{Typed, new_event_asked}
use Rattle.dossier.specs.DossierLayout.{Headed, headed, dossier_bytes}

-- "Freshly checked, one event gives the rule over itself."
unfoldable pub event_dossier : Typed → Headed
event_dossier a = headed a.event.head.type a.event.head.source (rule (view a.type) (a.event ∷ []))

-- the dossier of an event under a table, after the questions; `room` is the output's size
unfoldable pub check_asked : ℕ → List ℕ → List ℕ → Asked (List ℕ)
check_asked room table event = do
  has_room dossier_capacity room
  ts ← ask 2 (table_of table)
  a ← new_event_asked ts event
  accepted (dossier_bytes (event_dossier a))

unfoldable pub check_answer : ℕ → List ℕ → List ℕ → Answer
check_answer room table event = answer (check_asked room table event)

-- the call with its output
unfoldable pub check_call : List ℕ → List ℕ → List ℕ → Outcome
check_call table event out = outcome (check_answer (length out) table event) out
