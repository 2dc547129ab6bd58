-- Document 01: the batch. "A batch asks 3 to 6 of each event in turn, then 7 of each against the first, then 8 of all; its refusal has the event's position
-- from 0 (0 for 1, 2, 8, 9)." Document 02, Q-13: the limits are a parameter of it; "18 for a parameter outside its range, before everything else, in a batch
-- with position 0".
use Rattle.std.specs.Prelude.{ℕ, suc, Bool, ◌&&◌, List, [], ◌∷◌, map, leb}
use Rattle.std.proofs.Math.Option.{Option}
use Rattle.model.specs.Rule.{rule}
use Rattle.model.specs.Limits.{Limits, fits}
use Rattle.packed.specs.Parse as layout
use Rattle.packed.specs.Parse.{Layout, such_that, times, whole}
use Rattle.packed.specs.Packed.{read_number, read_text, is_within}
use Rattle.replies.specs.Questions as asked
use Rattle.replies.specs.Questions.{Asked, ask, ensure}
use Rattle.replies.specs.Capacities.{dossier_capacity}
use Rattle.replies.specs.ChosenLimits.{in_range}
use Rattle.replies.specs.Answers.{Answer, gives, refuses_at, Outcome, outcome}
use Rattle.ontology.specs.Table.{Table}
use Rattle.ontology.specs.TableLayout.{table_of}
use Rattle.event.specs.Event.{type_view, view}
use Rattle.event.specs.EventQuestions.{Typed, new_event_asked}
use Rattle.event.specs.Agreement.{match_sets, agree}
use Rattle.dossier.specs.DossierLayout.{Headed, dossier_bytes, headed, model_of}
use Rattle.dossier.specs.DossierQuestions.{TypedDossier}

infixl 10 ◌>>=◌ ◌>>◌
-- "A batch is a count 1 to 16, then each event as a text."
unfoldable pub read_batch : Layout (List (List ℕ))
read_batch = layout.◌>>=◌ (such_that (is_within 1 16) read_number) (times read_text)

unfoldable pub batch_of : List ℕ → Option (List (List ℕ))
batch_of s = whole (read_batch s)

-- What the questions come to, with the position of the event whose question was answered no
pub data AskedAt (A : Type 0) : Type 0 where
  refused_at : ℕ → ℕ → AskedAt A
  accepted : A → AskedAt A

abbrev pub ◌>>=◌ : {A B : Type 0} → AskedAt A → (A → AskedAt B) → AskedAt B
refused_at n i >>= k = refused_at n i
accepted a >>= k = k a

abbrev pub ◌>>◌ : {A B : Type 0} → AskedAt A → AskedAt B → AskedAt B
refused_at n i >> k = refused_at n i
accepted a >> k = k

-- questions asked of the event at a position; 0 for those of the whole batch
abbrev pub at : {A : Type 0} → ℕ → Asked A → AskedAt A
at i (asked.refused n) = refused_at n i
at i (asked.accepted a) = accepted a

-- "3 to 6 of each event in turn": of the events from a position on
unfoldable pub events_asked : Table → ℕ → List (List ℕ) → AskedAt (List Typed)
events_asked ts i [] = accepted []
events_asked ts i (s ∷ ss) = at i (new_event_asked ts s) >>= λ a. events_asked ts (suc i) ss >>= λ as'. accepted (a ∷ as')

-- "Do the two agree in type, source URI and match sets?"
unfoldable pub events_agree : Typed → Typed → Bool
events_agree a b =
    agree a.event.head.type a.event.head.source (match_sets a.type.properties a.event.sets)
    b.event.head.type b.event.head.source (match_sets b.type.properties b.event.sets)

-- "then 7 of each against the first": of the events from a position on
unfoldable pub agree_with : Typed → ℕ → List Typed → AskedAt (Unit {0})
agree_with a i [] = accepted tt
agree_with a i (b ∷ bs) = at i (ensure 7 (events_agree a b)) >> agree_with a (suc i) bs

-- the rule over the events of a batch
unfoldable pub batch_dossier : Typed → List Typed → Headed
batch_dossier a bs =
    headed a.event.head.type a.event.head.source (rule (view a.type) (map (λ (b : Typed). b.event) (a ∷ bs)))

-- "then 8 of all"; a batch has a first event
unfoldable pub together : Limits → List Typed → AskedAt TypedDossier
together limits [] = refused_at 9 0
together limits (a ∷ bs) = do
  agree_with a 1 bs
  at 0 (ensure 8 (fits limits (type_view a.type) (model_of (batch_dossier a bs))))
  accepted (record { type = a.type; headed = batch_dossier a bs })

-- the questions after 18 and 1
unfoldable pub batch_asked : Limits → List ℕ → List ℕ → AskedAt TypedDossier
batch_asked limits table batch = do
  ts ← at 0 (ask 2 (table_of table))
  ss ← at 0 (ask 9 (batch_of batch))
  xs ← events_asked ts 0 ss
  together limits xs

unfoldable pub batch_given : AskedAt TypedDossier → Answer
batch_given (refused_at n i) = refuses_at n i
batch_given (accepted d) = gives (dossier_bytes d.headed)

-- The sizes of the output and of the three scratch buffers
pub record Rooms : Type 0 where
  pub output : ℕ
  pub first : ℕ
  pub second : ℕ
  pub third : ℕ

-- "Has the output at least 32,768 bytes .. and each of a batch's three scratch buffers 32,768?"
unfoldable pub have_room : Rooms → Bool
have_room r = leb dossier_capacity r.output && leb dossier_capacity r.first && leb dossier_capacity r.second && leb dossier_capacity r.third

unfoldable pub batch_answer : Limits → Rooms → List ℕ → List ℕ → Answer
batch_answer limits rooms table batch = batch_given do
  at 0 (in_range limits)
  at 0 (ensure 1 (have_room rooms))
  batch_asked limits table batch

-- The call with its output; "Scratch may hold anything after a batch", so that of the scratch buffers only the sizes are in the equation
unfoldable pub batch_call : Limits → Rooms → List ℕ → List ℕ → List ℕ → Outcome
batch_call limits rooms table batch out = outcome (batch_answer limits rooms table batch) out
