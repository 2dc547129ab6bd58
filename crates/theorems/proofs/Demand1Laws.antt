-- Demand 1's last sentence, of every call but the report: what is refused gets a number from 1 to 9, or 18 where the call takes limits, and the output keeps
-- its old bytes.
use mathlib.Core.Path.{◌≡◌, refl, sym, subst}
use mathlib.Core.Bool.{Bool, true, false}
use mathlib.Core.Logic.{◌⊎◌, inl, inr}
use mathlib.Core.Option.{Option, none, some}
use mathlib.Core.List.{List, []}
use Prim.Native.Nat.{ℕ}
use native.Mathlib.Omega.{arith}
use lib.ListN.{length}
use lib.Dec.{leb}
use Rattle.model.specs.Limits.{Limits, is_permitted, fits}
use Rattle.model.specs.Opening.{Opened, finds, merged, opening}
use Rattle.replies.specs.Questions as questions
use Rattle.replies.specs.Questions.{Asked, ask, ensure}
use Rattle.replies.specs.Capacities.{dossier_capacity, hash_text_capacity, hash_capacity, has_room}
use Rattle.replies.specs.Answers.{Answer, refuses, Reply, answer, Outcome, outcome}
use Rattle.ontology.specs.Table.{Table, type_named}
use Rattle.ontology.specs.TableLayout.{table_of}
use Rattle.ontology.specs.TableCall.{reply_to_table, table_call}
use Rattle.event.specs.Event.{type_view}
use Rattle.event.specs.EventLayout.{narrow, wide, event_of, event_bytes}
use Rattle.event.specs.EventQuestions.{Typed}
use Rattle.event.specs.Value.{asked_part, value_call}
use Rattle.dossier.specs.DossierLayout.{Headed, dossier_of, dossier_bytes, model_of}
use Rattle.dossier.specs.DossierQuestions.{each_snapshot, dossier_shape, snapshot_values, TypedDossier, dossier_asked, dossiers_agree}
use Rattle.hashing.specs.HashCalls.{hash_text_asked, hash_text_answer, hash_text_call, hash_answer, hash_call}
use Rattle.combining.specs.CheckCall.{check_asked, check_answer, check_call}
use Rattle.combining.specs.CombineCall.{combined, combine_asked, combine_answer, combine_call}
use Rattle.opening.specs.OpenCall.{merged_event, opened_answer, asked_opening, open_answer, open_call}
use Rattle.batch.specs.Batch.{AskedAt, refused_at, accepted, ◌>>◌, at, batch_given, have_room, batch_answer, batch_call}
use Rattle.batch.specs.Taken.{IsNumber, IsNumberOr18, Reads, TakesIn, Takes}
use Rattle.batch.proofs.TakenLaws.{Asks, asks-one, asks-whether, accepts, asks-then, asks-more, asks-next, asks-event, AsksAt, asks-all, asks-next-at}
use Rattle.batch.proofs.TakenLaws.{asks-batch, takes-given}
use Rattle.theorems.specs.Demand1.{Demand1}

pub asks-dossier : (limits : Limits) (ts : Table) (s : List ℕ) → Asks (λ a. Reads (dossier_of limits s)) (dossier_asked limits ts s)
unfolding dossier_asked
asks-dossier limits ts s =
    asks-then (asks-one 3 (omega arith, omega arith) (dossier_of limits s)) λ h read.
    asks-then (asks-one 4 (omega arith, omega arith) (type_named h.head.type ts)) λ t typed.
    asks-next (asks-whether 5 (omega arith, omega arith) (dossier_shape limits t h.snapshots)) λ u shape.
    asks-next (asks-whether 6 (omega arith, omega arith) (each_snapshot (snapshot_values t) h.snapshots)) λ u values. accepts (h, read)

-- question 2, and then others under the table
asks-tabled :
    {A : Type 0} {P : A → Type 0} (table : List ℕ) {k : Table → Asked A} → ((ts : Table) → table_of table ≡ some ts → Asks P (k ts)) →
    Asks P (questions.◌>>=◌ (ask 2 (table_of table)) k)
asks-tabled table f = asks-then (asks-one 2 (omega arith, omega arith) (table_of table)) f

-- after question 1
pub asks-table :
    {A : Type 0} {P : A → Type 0} (least room : ℕ) (table : List ℕ) {k : Table → Asked A} →
    ((ts : Table) → table_of table ≡ some ts → Asks P (k ts)) →
    Asks P (questions.◌>>◌ (has_room least room) (questions.◌>>=◌ (ask 2 (table_of table)) k))
asks-table least room table f =
    asks-next (asks-whether 1 (omega arith, omega arith) (leb least room)) λ u room. asks-tabled table f

asks-hash :
    (least room : ℕ) (table event : List ℕ) → Asks (λ m. Reads (table_of table) × Reads (event_of wide event)) (hash_text_asked least room table event)
unfolding hash_text_asked
asks-hash least room table event = asks-table least room table λ ts is_table. asks-then (asks-event wide ts event) λ a read. accepts ((ts, is_table), read)

-- ---- what the calls make of it

takes-answer : {P : Type 0} {q : Asked (List ℕ)} (old : List ℕ) → Asks (λ x. P) q → Takes IsNumber P (outcome (answer q) old) old
unfolding TakesIn
takes-answer {q = questions.refused n} old h = record { replied = (h.answers, refl) }
takes-answer {q = questions.accepted x} old h = takes-given x old h.answers

takes-opened : {N : ℕ → Type 0} {P : Type 0} (h : Headed) (o : Opened) (old : List ℕ) → P → Takes N P (outcome (opened_answer h o) old) old
unfolding TakesIn opened_answer
takes-opened h (finds f) old x = record { replied = (x, refl) }
takes-opened h (merged ss) old x = takes-given (event_bytes (merged_event h ss)) old x

takes-opening : {P : Type 0} {q : Asked TypedDossier} (old : List ℕ) → Asks (λ a. P) q → Takes IsNumber P (outcome (asked_opening q) old) old
unfolding TakesIn asked_opening
takes-opening {q = questions.refused n} old h = record { replied = (h.answers, refl) }
takes-opening {q = questions.accepted a} old h = takes-opened a.headed (opening (type_view a.type) (model_of a.headed)) old h.answers

takes_part : {P : Type 0} {q : Asked Typed} (place index : ℕ) → Asks (λ a. P) q → ((asked_part place index q).bytes ≡ []) ⊎ P
unfolding asked_part
takes_part {q = questions.refused n} place index h = inl refl
takes_part {q = questions.accepted a} place index h = inr h.answers

takes-batch : {P : Type 0} {q : AskedAt TypedDossier} (old : List ℕ) → AsksAt (λ d. P) q → Takes IsNumber P (outcome (batch_given q) old) old
unfolding TakesIn batch_given
takes-batch {q = refused_at n i} old h = record { replied = (h.answers.0, refl) }
takes-batch {q = accepted d} old h = takes-given (dossier_bytes d.headed) old h.answers

takes-table : (m : Option Table) → Takes IsNumber (Reads m) (record { reply = reply_to_table m; bytes = [] }) []
unfolding TakesIn reply_to_table
takes-table none = record { replied = ((omega arith, omega arith), refl) }
takes-table (some ts) = takes-given [] [] (ts, refl)

-- ---- question 18 comes before the others

takes-more : {P : Type 0} (o : Outcome) (old : List ℕ) → Takes IsNumber P o old → Takes IsNumberOr18 P o old
unfolding TakesIn
takes-more {P} o old h = record { replied = go o.reply h.replied }
  where
    go : (r : Reply) → TakesIn IsNumber P r o.bytes old → TakesIn IsNumberOr18 P r o.bytes old
    go (Reply.done n) x = x
    go (Reply.found f) x = x
    go (Reply.refused n) x = (inl x.0, x.1)
    go (Reply.refused_at n i) x = (inl x.0, x.1)

-- of what the others come to
module _ {P A : Type 0} (give : Asked A → Answer) (old : List ℕ) (refuses-with : (n : ℕ) → give (questions.refused n) ≡ refuses n) where
  takes-ranged :
      (permitted : Bool) (q : Asked A) → Takes IsNumber P (outcome (give q) old) old →
      Takes IsNumberOr18 P (outcome (give (questions.◌>>◌ (ensure 18 permitted) q)) old) old
  unfolding TakesIn
  takes-ranged true q h = takes-more (outcome (give q) old) old h
  takes-ranged false q h =
      subst (λ (a : Answer). Takes IsNumberOr18 P (outcome a old) old) (sym (refuses-with 18)) (record { replied = (inr refl, refl) })

takes-ranged-at :
    {P : Type 0} (old : List ℕ) (permitted : Bool) (q : AskedAt TypedDossier) → Takes IsNumber P (outcome (batch_given q) old) old →
    Takes IsNumberOr18 P (outcome (batch_given (at 0 (ensure 18 permitted) >> q)) old) old
unfolding TakesIn batch_given
takes-ranged-at old true q h = takes-more (outcome (batch_given q) old) old h
takes-ranged-at old false q h = record { replied = (inr refl, refl) }

pub demand1 : Demand1
unfolding table_call check_call check_answer check_asked combine_call combine_answer combine_asked open_call open_answer
    hash_text_call hash_text_answer hash_call hash_answer batch_call batch_answer value_call
demand1 = record {
  table = λ table. takes-table (table_of table);
  check = λ table event old.
      takes-answer old (asks-table dossier_capacity (length old) table λ ts is_table.
      asks-then (asks-event narrow ts event) λ a read. accepts ((ts, is_table), read));
  combine = λ limits table left right old.
      takes-ranged answer old (λ n. refl) (is_permitted limits) _
      (takes-answer old (asks-table dossier_capacity (length old) table λ ts is_table.
      asks-then (asks-dossier limits ts left) λ a first. asks-then (asks-dossier limits ts right) λ b second.
      asks-next (asks-whether 7 (omega arith, omega arith) (dossiers_agree a b)) λ u agree.
      asks-next (asks-whether 8 (omega arith, omega arith) (fits limits (type_view a.type) (combined a b))) λ u inside.
      accepts ((ts, is_table), first, second)));
  opens = λ limits table dossier old.
      takes-ranged asked_opening old (λ n. unfold asked_opening in refl) (is_permitted limits) _
      (takes-opening old (asks-table dossier_capacity (length old) table λ ts is_table.
      asks-more (λ a read. ((ts, is_table), read)) (asks-dossier limits ts dossier)));
  hash_text = λ table event old. takes-answer old (asks-hash hash_text_capacity (length old) table event);
  hash = λ table event old. takes-answer old (asks-then (asks-hash hash_capacity (length old) table event) λ m reads. accepts reads);
  value = λ table event place index.
      takes_part place index (asks-tabled table λ ts is_table.
      asks-more (λ a read. ((ts, is_table), read)) (asks-event wide ts event));
  batch = λ limits rooms table batch old.
      takes-ranged-at old (is_permitted limits) _
      (takes-batch old (asks-next-at (asks-all (asks-whether 1 (omega arith, omega arith) (have_room rooms))) (asks-batch limits table batch)));
}
