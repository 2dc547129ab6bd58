-- What a call's questions come to: they refuse with a number from 1 to 9, and where they accept, what was asked for is known.
use mathlib.Core.Path.{◌≡◌, refl, ap}
use mathlib.Core.Logic.{⊎_elim}
use mathlib.Core.Bool.{Bool, true, false}
use mathlib.Core.Option.{Option, none, some}
use mathlib.Core.List.Memᴰ
use mathlib.Core.List.{List, [], ◌∷◌, Memᴰ}
use Prim.Native.Nat.{ℕ, suc, ◌+◌, ◌^◌, ◌≤◌, ◌<◌}
use native.Mathlib.Omega.{arith}
use lib.ListN.{length, drop}
use lib.Dec.{leb}
use lib.Seq.{drop-append_seam}
use borrow.Author.Tests.{leb-true}
use Rattle.model.specs.Limits.{Limits, fits}
use Rattle.model.proofs.Cases.{and_parts}
use Rattle.packed.specs.Parse.{such_that, times}
use Rattle.packed.specs.Packed.{read_number, text, read_text, is_within}
use Rattle.packed.proofs.LayoutLaws.{and_then-got, such_that-got, whole-some, text-was, times-was}
use Rattle.replies.specs.Questions as questions
use Rattle.replies.specs.Questions.{Asked, ask, ensure}
use Rattle.replies.specs.Answers.{gives, outcome}
use Rattle.ontology.specs.Table.{Table, type_named}
use Rattle.ontology.specs.TableLayout.{table_of}
use Rattle.event.specs.Event.{type_view}
use Rattle.event.specs.EventLayout.{Counts, narrow, event_of}
use Rattle.event.specs.EventQuestions.{event_shape, values_fit, Typed, event_asked}
use Rattle.dossier.specs.DossierLayout.{model_of}
use Rattle.batch.specs.Batch.{AskedAt, refused_at, accepted, ◌>>=◌, ◌>>◌, at}
use Rattle.batch.specs.Batch.{read_batch, batch_of, events_asked, events_agree, agree_with, batch_dossier}
use Rattle.batch.specs.Batch.{together, batch_asked}
use Rattle.batch.specs.Taken.{IsNumber, IsPosition, Reads, TakesIn, Takes, BatchReads}

-- ---- questions with numbers from 1 to 9 refuse with such a number, and where they accept, what was asked for is known

abbrev pub AnswersOf : {A : Type 0} → (A → Type 0) → Asked A → Type 0
AnswersOf P (questions.refused n) = IsNumber n
AnswersOf P (questions.accepted a) = P a

pub record Asks {A : Type 0} (P : A → Type 0) (q : Asked A) : Type 0 where
  pub answers : AnswersOf P q

pub asks-one : {A : Type 0} (n : ℕ) → IsNumber n → (m : Option A) → Asks (λ a. m ≡ some a) (ask n m)
asks-one n h none = record { answers = h }
asks-one n h (some a) = record { answers = refl }

pub asks-whether : (n : ℕ) → IsNumber n → (b : Bool) → Asks (λ u. b ≡ true) (ensure n b)
asks-whether n h true = record { answers = refl }
asks-whether n h false = record { answers = h }

pub accepts : {A : Type 0} {P : A → Type 0} {a : A} → P a → Asks P (questions.accepted a)
accepts h = record { answers = h }

pub asks-then :
    {A B : Type 0} {P : A → Type 0} {R : B → Type 0} {q : Asked A} {k : A → Asked B} → Asks P q → ((a : A) → P a → Asks R (k a)) →
    Asks R (questions.◌>>=◌ q k)
asks-then {q = questions.refused n} h f = record { answers = h.answers }
asks-then {q = questions.accepted a} h f = f a h.answers

pub asks-more : {A : Type 0} {P R : A → Type 0} {q : Asked A} → ((a : A) → P a → R a) → Asks P q → Asks R q
asks-more {q = questions.refused n} f h = record { answers = h.answers }
asks-more {q = questions.accepted a} f h = record { answers = f a h.answers }

pub asks-next :
    {A B : Type 0} {P : A → Type 0} {R : B → Type 0} {q : Asked A} {k : Asked B} → Asks P q → ((a : A) → P a → Asks R k) →
    Asks R (questions.◌>>◌ q k)
asks-next {q = questions.refused n} h f = record { answers = h.answers }
asks-next {q = questions.accepted a} h f = f a h.answers

pub asks-event : (counts : Counts) (ts : Table) (s : List ℕ) → Asks (λ a. Reads (event_of counts s)) (event_asked counts ts s)
unfolding event_asked
asks-event counts ts s =
    asks-then (asks-one 3 (omega arith, omega arith) (event_of counts s)) λ e read.
    asks-then (asks-one 4 (omega arith, omega arith) (type_named e.head.type ts)) λ t typed.
    asks-next (asks-whether 5 (omega arith, omega arith) (event_shape t e)) λ u shape.
    asks-next (asks-whether 6 (omega arith, omega arith) (values_fit t e.sets)) λ u values. accepts (e, read)

-- ---- the same of questions with a position

abbrev pub AnswersAt : {A : Type 0} → (A → Type 0) → AskedAt A → Type 0
AnswersAt P (refused_at n i) = IsNumber n × IsPosition i
AnswersAt P (accepted a) = P a

pub record AsksAt {A : Type 0} (P : A → Type 0) (q : AskedAt A) : Type 0 where
  pub answers : AnswersAt P q

asks_at : {A : Type 0} {P : A → Type 0} (i : ℕ) → IsPosition i → {q : Asked A} → Asks P q → AsksAt P (at i q)
asks_at i l {q = questions.refused n} h = record { answers = (h.answers, l) }
asks_at i l {q = questions.accepted a} h = record { answers = h.answers }

-- of the whole batch
pub asks-all : {A : Type 0} {P : A → Type 0} {q : Asked A} → Asks P q → AsksAt P (at 0 q)
asks-all h = asks_at 0 (omega arith) h

accepts-at : {A : Type 0} {P : A → Type 0} {a : A} → P a → AsksAt P (accepted a)
accepts-at h = record { answers = h }

asks-then-at :
    {A B : Type 0} {P : A → Type 0} {R : B → Type 0} {q : AskedAt A} {k : A → AskedAt B} → AsksAt P q → ((a : A) → P a → AsksAt R (k a)) →
    AsksAt R (q >>= k)
asks-then-at {q = refused_at n i} h f = record { answers = h.answers }
asks-then-at {q = accepted a} h f = f a h.answers

pub asks-next-at : {A B : Type 0} {P : A → Type 0} {R : B → Type 0} {q : AskedAt A} {k : AskedAt B} → AsksAt P q → AsksAt R k → AsksAt R (q >> k)
asks-next-at {q = refused_at n i} h f = record { answers = h.answers }
asks-next-at {q = accepted a} h f = f

asks-events : (ts : Table) (i : ℕ) (ss : List (List ℕ)) → i + length ss ≤ 16 →
    AsksAt (λ xs. (length xs ≡ length ss) × ((s : List ℕ) → Memᴰ s ss → Reads (event_of narrow s))) (events_asked ts i ss)
unfolding events_asked
asks-events ts i [] l = accepts-at (refl, λ s m. absurd (Memᴰ.not-nil m))
asks-events ts i (r ∷ ss) l =
    asks-then-at (asks_at i (omega arith) (asks-event narrow ts r)) λ a read.
    asks-then-at (asks-events ts (suc i) ss (omega arith)) λ xs reads.
    accepts-at (ap suc reads.0, λ s m. ⊎_elim (λ q. rw q read) (reads.1 s) (Memᴰ.cases_cons m))

asks-agree : (a : Typed) (i : ℕ) (bs : List Typed) → i + length bs ≤ 16 → AsksAt (λ u. Unit {0}) (agree_with a i bs)
unfolding agree_with
asks-agree a i [] l = accepts-at tt
asks-agree a i (b ∷ bs) l =
    asks-next-at (asks_at i (omega arith) (asks-whether 7 (omega arith, omega arith) (events_agree a b))) (asks-agree a (suc i) bs (omega arith))

asks-together : {P : Type 0} (limits : Limits) (xs : List Typed) → length xs ≤ 16 → P → AsksAt (λ d. P) (together limits xs)
unfolding together
asks-together limits [] l h = record { answers = ((omega arith, omega arith), omega arith) }
asks-together limits (a ∷ bs) l h =
    asks-next-at (asks-agree a 1 bs (omega arith))
    (asks-next-at (asks-all (asks-whether 8 (omega arith, omega arith) (fits limits (type_view a.type) (model_of (batch_dossier a bs))))) (accepts-at h))

-- "A batch is a count 1 to 16"
batch-few : (batch : List ℕ) (ss : List (List ℕ)) → batch_of batch ≡ some ss → length ss ≤ 16
unfolding batch_of read_batch
batch-few batch ss e =
    let c = and_then-got (such_that (is_within 1 16) read_number batch) (times read_text) ss [] ((whole-some (read_batch batch) ss).0 e) in
    let n = such_that-got (is_within 1 16) read_number batch c.value c.left c.first in
    omega (
      arith,
      (times-was read_text text (λ (v : List ℕ). length v < 2 ^ 64) text-was c.value c.left ss [] c.second).1,
      leb-true c.value 16 (and_parts (leb 1 c.value) (leb c.value 16) n.test).1,
    )

pub asks-batch : (limits : Limits) (table batch : List ℕ) → AsksAt (λ d. Reads (table_of table) × BatchReads batch) (batch_asked limits table batch)
unfolding batch_asked
asks-batch limits table batch =
    asks-then-at (asks-all (asks-one 2 (omega arith, omega arith) (table_of table))) λ ts is_table.
    asks-then-at (asks-all (asks-one 9 (omega arith, omega arith) (batch_of batch))) λ ss is_batch.
    let few = batch-few batch ss is_batch in
    asks-then-at (asks-events ts 0 ss (omega arith)) λ xs reads.
    asks-together limits xs (omega (arith, reads.0)) ((ts, is_table), (ss, is_batch, reads.1))

-- ---- what a call gives

pub takes-given : {N : ℕ → Type 0} {P : Type 0} (x old : List ℕ) → P → Takes N P (outcome (gives x) old) old
unfolding TakesIn
takes-given x old h = record { replied = (h, drop-append_seam x (drop (length x) old)) }
