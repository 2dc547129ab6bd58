-- Document 01: the call open. Document 02, Q-13: the limits are a parameter of it.
use Rattle.std.specs.Prelude.{ℕ, List, length}
use Rattle.model.specs.Order.{Text}
use Rattle.model.specs.Limits.{Limits}
use Rattle.model.specs.Opening.{Opened, finds, merged, opening}
use Rattle.replies.specs.Questions.{Asked, refused, accepted, ◌>>=◌, ◌>>◌, ask}
use Rattle.replies.specs.Capacities.{dossier_capacity, has_room}
use Rattle.replies.specs.ChosenLimits.{in_range}
use Rattle.replies.specs.Answers.{Answer, gives, refuses, Outcome, outcome}
use Rattle.ontology.specs.TableLayout.{table_of}
use Rattle.event.specs.Event.{Event, type_view}
use Rattle.event.specs.EventLayout.{event_bytes}
use Rattle.dossier.specs.DossierLayout.{Headed, model_of}
use Rattle.dossier.specs.DossierQuestions.{TypedDossier, dossier_asked}

-- "else a merged event: packed event form with up to 32 parents and 256 objects"
unfoldable pub merged_event : Headed → List (List Text) → Event
merged_event h ss = record { head = h.head; sets = ss }

unfoldable pub opened_answer : Headed → Opened → Answer
opened_answer h (finds f) = Answer.finds f
opened_answer h (merged ss) = gives (event_bytes (merged_event h ss))

unfoldable pub asked_opening : Asked TypedDossier → Answer
asked_opening (refused n) = refuses n
asked_opening (accepted a) = opened_answer a.headed (opening (type_view a.type) (model_of a.headed))

unfoldable pub open_answer : Limits → ℕ → List ℕ → List ℕ → Answer
open_answer limits room table dossier = asked_opening do
  in_range limits
  has_room dossier_capacity room
  ts ← ask 2 (table_of table)
  dossier_asked limits ts dossier

-- the call with its output
unfoldable pub open_call : Limits → List ℕ → List ℕ → List ℕ → Outcome
open_call limits table dossier out = outcome (open_answer limits (length out) table dossier) out
