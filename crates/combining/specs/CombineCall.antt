-- Document 01: the call combine. "Combining gives the rule over both sides together". Document 02, Q-13: the limits are a parameter of it.
use Rattle.std.specs.Prelude.{ℕ, List, length}
use Rattle.model.specs.Rule.{Dossier, combine}
use Rattle.model.specs.Limits.{Limits, fits}
use Rattle.replies.specs.Questions.{Asked, accepted, ◌>>=◌, ◌>>◌, ask, ensure}
use Rattle.replies.specs.Capacities.{dossier_capacity, has_room}
use Rattle.replies.specs.ChosenLimits.{in_range}
use Rattle.replies.specs.Answers.{Answer, answer, Outcome, outcome}
use Rattle.ontology.specs.TableLayout.{table_of}
use Rattle.event.specs.Event.{type_view}
use Rattle.dossier.specs.DossierLayout.{Headed, dossier_bytes, model_of, headed}
use Rattle.dossier.specs.DossierQuestions.{TypedDossier, dossier_asked, dossiers_agree}

-- a dossier under another's head
abbrev pub headed_as : Headed → Dossier → Headed
headed_as h d = headed h.head.type h.head.source d

unfoldable pub combined : TypedDossier → TypedDossier → Dossier
combined a b = combine (type_view a.type) (model_of a.headed) (model_of b.headed)

-- "18 for a parameter outside its range, before everything else"; "The first input is asked 3 to 6, then the second."
unfoldable pub combine_asked : Limits → ℕ → List ℕ → List ℕ → List ℕ → Asked (List ℕ)
combine_asked limits room table left right = do
  in_range limits
  has_room dossier_capacity room
  ts ← ask 2 (table_of table)
  a ← dossier_asked limits ts left
  b ← dossier_asked limits ts right
  ensure 7 (dossiers_agree a b)
  ensure 8 (fits limits (type_view a.type) (combined a b))
  accepted (dossier_bytes (headed_as a.headed (combined a b)))

unfoldable pub combine_answer : Limits → ℕ → List ℕ → List ℕ → List ℕ → Answer
combine_answer limits room table left right = answer (combine_asked limits room table left right)

-- the call with its output
unfoldable pub combine_call : Limits → List ℕ → List ℕ → List ℕ → List ℕ → Outcome
combine_call limits table left right out = outcome (combine_answer limits (length out) table left right) out
