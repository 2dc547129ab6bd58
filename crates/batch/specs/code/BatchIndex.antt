-- What the code holds of a batch, and what it answers.
use Rattle.std.specs.Prelude.{ℕ, ◌≤◌, ◌<◌, ◌≡◌, List, [], ◌∷◌, length, take, get_or, Some, None, Result, Ok, Err}
use Rattle.std.specs.Prelude as std
use Rattle.std.proofs.Math.Option.{Option, none, some}
use Rattle.model.specs.Limits.{Limits}
use Rattle.model.specs.Order.{Text}
use Rattle.replies.specs.Questions as questions
use Rattle.replies.specs.Questions.{Asked}
use Rattle.replies.specs.Answers.{Answer, gives, refuses, outcome}
use Rattle.replies.specs.Replies as replies
use Rattle.replies.specs.Replies.{refusal_number}
use Rattle.replies.specs.declared.reply.Refusal.{Refusal}
use Rattle.replies.specs.declared.reply.BatchRefusal.{BatchRefusal}
use Rattle.packed.specs.declared.read.TextAt.{TextAt}
use Rattle.ontology.specs.Table.{Table}
use Rattle.ontology.specs.TableLayout.{table_of}
use Rattle.ontology.specs.code.TypeIndex.{TypeIs, TableSays}
use Rattle.ontology.specs.declared.types.TypeIndex.{TypeIndex}
use Rattle.event.specs.Event.{Event}
use Rattle.event.specs.EventLayout.{narrow, event_of}
use Rattle.event.specs.EventQuestions.{Typed, event_asked}
use Rattle.event.specs.code.EventIndex.{TextIs, EventAccepted}
use Rattle.event.specs.declared.read.EventIndex.{EventIndex}
use Rattle.dossier.specs.DossierLayout.{dossier_bytes}
use Rattle.dossier.specs.DossierQuestions.{TypedDossier}
use Rattle.combining.specs.code.AddIndex.{Measured}
use Rattle.ways.specs.ByteWays.{dossier_returned, returned}
use Rattle.batch.specs.Batch.{AskedAt, refused_at, accepted, ◌>>=◌, events_asked, agree_with, together}
use Rattle.batch.specs.declared.frame.BatchIndex.{BatchIndex}

abbrev pub no_text : TextAt
no_text = record { start = 0; end = 0 }

-- The bytes s are a batch of the events ss, each of which stands where the index says
pub record BatchIs (s : List ℕ) (ss : List (List ℕ)) (x : BatchIndex) : Type 0 where
  pub count : x.count ≡ length ss
  pub one : 1 ≤ x.count
  pub few : x.count ≤ 16
  pub each : (i : ℕ) → i < length ss → TextIs s (get_or ss i []) (get_or x.events i no_text)

pub record BatchStands (p : Option (List (List ℕ))) (s : List ℕ) (x : BatchIndex) : Type 0 where
  pub what : List (List ℕ)
  pub is : p ≡ some what
  pub stands : BatchIs s what x

abbrev pub BatchReads : Option (List (List ℕ)) → List ℕ → std.Option BatchIndex → Type 0
BatchReads p s (Some x) = BatchStands p s x
BatchReads p s None = p ≡ none

-- question 7 of all events; a batch has a first event
unfoldable pub events_agreed : List Typed → AskedAt (Unit {0})
events_agreed [] = refused_at 9 0
events_agreed (a ∷ bs) = agree_with a 1 bs

-- questions 3 to 7 of all events
unfoldable pub events_together : Table → List (List ℕ) → AskedAt (Unit {0})
events_together ts ss = events_asked ts 0 ss >>= events_agreed

-- the type of the first event of the batch has this name
abbrev pub FirstName : List ℕ → BatchIndex → Text → Type 0
FirstName batch x name =
    (ss : List (List ℕ)) → BatchIs batch ss x → (e : Event) → event_of narrow (get_or ss 0 []) ≡ some e → name ≡ e.head.type

-- x is the index of a batch, and the table was read for the name that the type of its first event has
pub record FirstNamed (table batch : List ℕ) (x : BatchIndex) (name : Text) (read : std.Option (std.Option TypeIndex)) (ps : List ℕ) : Type 0 where
  pub events : List (List ℕ)
  pub stands : BatchIs batch events x
  pub named : (e : Event) → event_of narrow (get_or events 0 []) ≡ some e → name ≡ e.head.type
  pub says : TableSays (table_of table) table name ps read

-- an event that was accepted; the numbers of its type's properties are not kept
pub record OneAccepted (p : Asked Typed) (table event ats : List ℕ) (t : TypeIndex) (e : EventIndex) : Type 0 where
  pub numbers : List ℕ
  pub accepted : EventAccepted p table event numbers ats t e

-- what asking it answers, where the questions come to p
abbrev pub OneAnswers : Asked Typed → List ℕ → List ℕ → List ℕ → Result (TypeIndex × EventIndex) Refusal → Type 0
OneAnswers p table event ats (Ok (t, e)) = OneAccepted p table event ats t e
OneAnswers p table event ats (Err q) = p ≡ questions.refused (refusal_number q)

-- the first of the events ss is accepted, and has the type t with the numbers ps of its properties
pub record FirstTyped (table : List ℕ) (ts : Table) (ss : List (List ℕ)) (t : TypeIndex) (ps : List ℕ) : Type 0 where
  pub first : Typed
  pub taken : event_asked narrow ts (get_or ss 0 []) ≡ questions.accepted first
  pub typed : TypeIs table first.type t ps

-- questions 3 to 7 of all events are answered yes, and t is their type
pub record AllAccepted (p : AskedAt (Unit {0})) (table : List ℕ) (ts : Table) (ss : List (List ℕ)) (ps : List ℕ) (t : TypeIndex) : Type 0 where
  pub is : p ≡ accepted tt
  pub typed : FirstTyped table ts ss t ps

-- what asking all events answers, where the questions come to p
abbrev pub AllAnswers : AskedAt (Unit {0}) → List ℕ → Table → List (List ℕ) → List ℕ → Result TypeIndex BatchRefusal → Type 0
AllAnswers p table ts ss ps (Ok t) = AllAccepted p table ts ss ps t
AllAnswers p table ts ss ps (Err b) = p ≡ refused_at (refusal_number b.refusal) b.position

-- ---- combining the events

-- what combining them answers: as the batch, without a position
unfoldable pub combined_given : AskedAt TypedDossier → Answer
combined_given (refused_at n i) = refuses n
combined_given (accepted d) = gives (dossier_bytes d.headed)

unfoldable pub combined_answer : Limits → Table → List (List ℕ) → Answer
combined_answer limits ts ss = combined_given (events_asked ts 0 ss >>= together limits)

-- the table and the batch of the events ss, of which questions 3 to 7 are answered yes
pub record Agreed (table batch : List ℕ) (x : BatchIndex) (ts : Table) (ss : List (List ℕ)) : Type 0 where
  pub is_table : table_of table ≡ some ts
  pub is_batch : BatchIs batch ss x
  pub agreed : events_together ts ss ≡ accepted tt

-- such a batch has n events at least, and its events have the type t with the numbers ps
pub record FirstOf (table batch : List ℕ) (x : BatchIndex) (t : TypeIndex) (ps : List ℕ) (n : ℕ) : Type 0 where
  pub types : Table
  pub events : List (List ℕ)
  pub agreed : Agreed table batch x types events
  pub typed : FirstTyped table types events t ps
  pub within : n ≤ length events

-- where the events ss were combined, m are the measures of their dossier
abbrev pub MeasuredFirst : Limits → Table → List (List ℕ) → Result ℕ Refusal → List ℕ → Type 0
MeasuredFirst limits ts ss (Ok n) m = (d : TypedDossier) → (events_asked ts 0 ss >>= together limits) ≡ accepted d →
    Measured d.headed.snapshots m
MeasuredFirst limits ts ss (Err q) m = Unit {0}

-- what a call says that it wrote is inside its buffer
abbrev pub DoneWithin : Result ℕ Refusal → List ℕ → Type 0
DoneWithin (Ok n) s = n ≤ length s
DoneWithin (Err q) s = Unit {0}

-- r and m are what combining the first n events answers, in a buffer that had the bytes `old` and has `after`
pub record CombinedFirst (limits : Limits) (table batch : List ℕ) (x : BatchIndex) (n : ℕ) (r : Result ℕ Refusal) (m after old : List ℕ) : Type 0 where
  pub within : DoneWithin r after
  pub first :
      (ts : Table) (ss : List (List ℕ)) → Agreed table batch x ts ss → n ≤ length ss →
      dossier_returned (replies.replied r) after ≡ returned (outcome (combined_answer limits ts (take n ss)) old)
  pub measured : (ts : Table) (ss : List (List ℕ)) → Agreed table batch x ts ss → n ≤ length ss → MeasuredFirst limits ts (take n ss) r m
