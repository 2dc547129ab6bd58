-- The numbers of each call's reply are bounded, whatever the call is handed.
use mathlib.Core.Path.{◌≡◌, refl, sym, subst}
use mathlib.Core.Logic.{inl, inr}
use mathlib.Core.Bool.{Bool, true, false}
use mathlib.Core.Option.{Option, none, some}
use mathlib.Core.List.{List, [], ◌∷◌}
use Prim.Native.Nat.{ℕ, ◌≤◌}
use native.Mathlib.Omega.{arith}
use lib.ListN.{length}
use Rattle.model.specs.Rule.{places}
use Rattle.model.specs.Limits.{Limits, is_permitted, Permitted, fits}
use Rattle.model.specs.Opening.{conflict_at, overfull_at, place_of, Opened, finds, merged, overfull, opening}
use Rattle.model.proofs.LimitLaws.{permitted, fits_one}
use Rattle.model.proofs.ValidLaws.{in-places, ups-places}
use Rattle.model.proofs.ClashLaws.{lowest-found, conflict-found, opening-conflict}
use Rattle.model.proofs.OpeningLaws.{opening-overfull}
use Rattle.replies.specs.Questions as questions
use Rattle.replies.specs.Questions.{Asked, ensure}
use Rattle.replies.specs.Capacities.{dossier_capacity, hash_text_capacity, hash_capacity}
use Rattle.replies.specs.Answers.{Answer, refuses, Reply, answer, reply_of}
use Rattle.ontology.specs.Table.{Table}
use Rattle.ontology.specs.TableLayout.{table_of}
use Rattle.ontology.specs.TableCall.{reply_to_table, table_call}
use Rattle.event.specs.Event.{type_view, event_view, view}
use Rattle.event.specs.EventLayout.{narrow, wide}
use Rattle.event.specs.EventQuestions.{Typed, event_asked}
use Rattle.event.proofs.EventQuestionLaws.{count-objects}
use Rattle.dossier.specs.DossierLayout.{dossier_bytes, model_of}
use Rattle.dossier.specs.DossierQuestions.{TypedDossier, dossier_asked, dossiers_agree}
use Rattle.dossier.proofs.AcceptedLaws.{DossierTaken, dossier-taken}
use Rattle.fips180.proofs.Laws.{length-sha1_of}
use Rattle.hashing.proofs.CallLaws.{hash-short}
use Rattle.hashing.specs.HashCalls.{hash_text_asked, hash_text_answer, hash_text_call, hash_answer, hash_call}
use Rattle.combining.specs.CheckCall.{event_dossier, check_asked, check_answer, check_call}
use Rattle.combining.specs.CombineCall.{combined, combine_asked, combine_answer, combine_call}
use Rattle.combining.proofs.MeetLaws.{taken-rises}
use Rattle.combining.proofs.RoomLaws.{combined-short}
use Rattle.opening.specs.OpenCall.{opened_answer, asked_opening, open_answer, open_call}
use Rattle.batch.specs.Batch.{AskedAt, refused_at, accepted, ◌>>◌, at, agree_with}
use Rattle.batch.specs.Batch.{batch_dossier, together, batch_asked, batch_given, have_room, batch_answer}
use Rattle.batch.specs.Batch.{batch_call}
use Rattle.batch.specs.Taken.{IsNumber, IsNumberOr18, Bounded}
use Rattle.batch.proofs.TakenLaws.{Asks, asks-whether, accepts, asks-then, asks-more, asks-next, asks-event, AsksAt, asks-batch}
use Rattle.batch.proofs.GatheredLaws.{fits-self, Gathers, gathers-asked, typed-gathers, batch-gathers}
use Rattle.theorems.specs.ReplyBounds.{RepliesBounded}
use Rattle.theorems.proofs.Demand1Laws.{asks-dossier, asks-table}
use Rattle.theorems.proofs.ReplySizeLaws.{dossier-short, merged-short}

-- where the questions accept something, they come to it
asks-itself : {A : Type 0} {P : A → Type 0} {q : Asked A} → Asks P q → Asks (λ a. q ≡ questions.accepted a) q
asks-itself {q = questions.refused n} h = record { answers = h.answers }
asks-itself {q = questions.accepted a} h = record { answers = refl }

bounded-answer : {n : ℕ} {q : Asked (List ℕ)} → Asks (λ x. length x ≤ n) q → Bounded IsNumber n (reply_of (answer q))
unfolding Bounded
bounded-answer {q = questions.refused n} h = h.answers
bounded-answer {q = questions.accepted x} h = h.answers

-- ---- dossiers

gathers-short : {limits : Limits} {table : List ℕ} {d : TypedDossier} → Gathers limits table d → length (dossier_bytes d.headed) ≤ dossier_capacity
gathers-short {limits} {table} {d} g = dossier-short g.gathered.permitted table (dossier_bytes d.headed) g.types d g.tabled (gathers-asked g)

-- the smallest limits that are permitted, within which every event is
abbrev smallest : Limits
smallest = record { versions = 1; parents = 8; objects = 32 }

smallest-permitted : Permitted smallest
smallest-permitted = permitted smallest (unfold is_permitted in refl)

-- the dossier of one event is that of a batch of this event
checked-short : (table event : List ℕ) (ts : Table) (a : Typed) → table_of table ≡ some ts → event_asked narrow ts event ≡ questions.accepted a →
    length (dossier_bytes (event_dossier a)) ≤ dossier_capacity
unfolding event_dossier batch_dossier narrow type_view event_view
checked-short table event ts a t h =
    gathers-short (typed-gathers smallest smallest-permitted table (record { type = a.type; headed = batch_dossier a [] }) ts t (a ∷ [])
    ((event, h), tt) alone)
  where
    inside : fits smallest (type_view a.type) (model_of (batch_dossier a [])) ≡ true
    inside =
        let w = (fits-self ts a (event, h)).written in
        let few = count-objects a.type a.event w.sets.long in
        fits_one (view a.type) a.event smallest (omega arith) (omega (arith, w.head.parents.within)) (omega (arith, few, w.objects))

    alone : together smallest (a ∷ []) ≡ accepted (record { type = a.type; headed = batch_dossier a [] })
    alone = unfold together agree_with in (rw inside)

bounded-batch :
    {P : TypedDossier → Type 0} (limits : Limits) (allowed : Permitted limits) (room : Bool) (table batch : List ℕ) (q : AskedAt TypedDossier) →
    batch_asked limits table batch ≡ q → AsksAt P q → Bounded IsNumber dossier_capacity (reply_of (batch_given (at 0 (ensure 1 room) >> q)))
unfolding Bounded batch_given
bounded-batch limits allowed false table batch q e h = ((omega arith, omega arith), omega arith)
bounded-batch limits allowed true table batch (refused_at n i) e h = h.answers
bounded-batch limits allowed true table batch (accepted d) e h = gathers-short (batch-gathers limits allowed table batch d e)

-- ---- what a dossier opens as

module _
    {limits : Limits} (allowed : Permitted limits) (table s : List ℕ) (ts : Table) (a : TypedDossier) (t : table_of table ≡ some ts)
    (w : DossierTaken limits ts s a) where
  bounded-opened : (o : Opened) → opening (type_view a.type) (model_of a.headed) ≡ o →
      Bounded IsNumber dossier_capacity (reply_of (opened_answer a.headed o))
  unfolding Bounded place_of opened_answer overfull type_view event_view
  bounded-opened (finds (conflict_at v p)) e =
      let k = type_view a.type in
      let d = model_of a.headed in
      (in-places k p).1 (conflict-found (places k) (ups-places k) d.snapshots v p (taken-rises w) ((opening-conflict k d v p).0 e)).3
  bounded-opened (finds (overfull_at p)) e =
      let k = type_view a.type in
      (in-places k p).1 (lowest-found _ (places k) p (ups-places k) ((opening-overfull k (model_of a.headed) p).0 e).1).0
  bounded-opened (merged ss) e = merged-short allowed table s ts a t w ss e

bounded-opening : {limits : Limits} → Permitted limits → (table : List ℕ) {q : Asked TypedDossier} →
    Asks (λ a. (s : List ℕ) × (ts : Table) × (table_of table ≡ some ts) × DossierTaken limits ts s a) q →
    Bounded IsNumber dossier_capacity (reply_of (asked_opening q))
unfolding asked_opening Bounded
bounded-opening allowed table {q = questions.refused n} h = h.answers
bounded-opening allowed table {q = questions.accepted a} h =
    let (s, ts, t, w) = h.answers in
    bounded-opened allowed table s ts a t w (opening (type_view a.type) (model_of a.headed)) refl

-- ---- the calls

bounded-table : (m : Option Table) → Bounded IsNumber 0 (reply_to_table m)
unfolding Bounded reply_to_table
bounded-table none = (omega arith, omega arith)
bounded-table (some ts) = omega arith

-- the dossiers and events that are read under a table
asked-dossier : (limits : Limits) (ts : Table) (s : List ℕ) → Asks (DossierTaken limits ts s) (dossier_asked limits ts s)
asked-dossier limits ts s = asks-more (λ a e. dossier-taken limits ts s a e) (asks-itself (asks-dossier limits ts s))

hashed-short : (least room : ℕ) (table event : List ℕ) → Asks (λ x. length x ≤ hash_text_capacity) (hash_text_asked least room table event)
unfolding hash_text_asked
hashed-short least room table event =
    asks-table least room table λ ts t. asks-then (asks-itself (asks-event wide ts event)) λ a e. accepts (hash-short table event ts a t e)

-- ---- question 18 comes before the others

bounded-more : (size : ℕ) (r : Reply) → Bounded IsNumber size r → Bounded IsNumberOr18 size r
unfolding Bounded
bounded-more size (Reply.done n) h = h
bounded-more size (Reply.found f) h = h
bounded-more size (Reply.refused n) h = inl h
bounded-more size (Reply.refused_at n i) h = (inl h.0, h.1)

-- of what the others come to, which are asked where the limits are permitted
bounded-ranged :
    {A : Type 0} (give : Asked A → Answer) → ((n : ℕ) → give (questions.refused n) ≡ refuses n) → (size : ℕ) (limits : Limits) (q : Asked A) →
    (Permitted limits → Bounded IsNumber size (reply_of (give q))) →
    Bounded IsNumberOr18 size (reply_of (give (questions.◌>>◌ (ensure 18 (is_permitted limits)) q)))
unfolding Bounded
bounded-ranged give refuses-with size limits q others = go (is_permitted limits) refl
  where
    go : (b : Bool) → is_permitted limits ≡ b → Bounded IsNumberOr18 size (reply_of (give (questions.◌>>◌ (ensure 18 b) q)))
    go true e = bounded-more size (reply_of (give q)) (others (permitted limits e))
    go false e = subst (λ (a : Answer). Bounded IsNumberOr18 size (reply_of a)) (sym (refuses-with 18)) (inr refl)

bounded-ranged-at :
    (size : ℕ) (limits : Limits) (q : AskedAt TypedDossier) → (Permitted limits → Bounded IsNumber size (reply_of (batch_given q))) →
    Bounded IsNumberOr18 size (reply_of (batch_given (at 0 (ensure 18 (is_permitted limits)) >> q)))
unfolding Bounded batch_given
bounded-ranged-at size limits q others = go (is_permitted limits) refl
  where
    go : (b : Bool) → is_permitted limits ≡ b → Bounded IsNumberOr18 size (reply_of (batch_given (at 0 (ensure 18 b) >> q)))
    go true e = bounded-more size (reply_of (batch_given q)) (others (permitted limits e))
    go false e = (inr refl, omega arith)

pub replies-bounded : RepliesBounded
unfolding table_call check_call check_answer check_asked combine_call combine_answer combine_asked open_call open_answer
    hash_text_call hash_text_answer hash_call hash_answer batch_call batch_answer
replies-bounded = record {
  table = λ table. bounded-table (table_of table);
  check = λ table event old.
      bounded-answer (asks-table dossier_capacity (length old) table λ ts t.
      asks-then (asks-itself (asks-event narrow ts event)) λ a e. accepts (checked-short table event ts a t e));
  combine = λ limits table left right old.
      bounded-ranged answer (λ n. refl) dossier_capacity limits _ λ allowed.
      bounded-answer (asks-table dossier_capacity (length old) table λ ts t.
      asks-then (asked-dossier limits ts left) λ a x. asks-then (asked-dossier limits ts right) λ b y.
      asks-next (asks-whether 7 (omega arith, omega arith) (dossiers_agree a b)) λ u agree.
      asks-next (asks-whether 8 (omega arith, omega arith) (fits limits (type_view a.type) (combined a b))) λ u inside.
      accepts (combined-short table left right ts a b t x y agree (record { limits = limits; permitted = allowed; is = inside })));
  opens = λ limits table dossier old.
      bounded-ranged asked_opening (λ n. unfold asked_opening in refl) dossier_capacity limits _ λ allowed.
      bounded-opening allowed table (asks-table dossier_capacity (length old) table λ ts t.
      asks-more (λ a w. (dossier, ts, t, w)) (asked-dossier limits ts dossier));
  hash_text = λ table event old. bounded-answer (hashed-short hash_text_capacity (length old) table event);
  hash =
      λ table event old. bounded-answer
      (asks-then (hashed-short hash_capacity (length old) table event) λ m short. accepts (omega (arith, length-sha1_of m)));
  batch = λ limits rooms table batch old.
      bounded-ranged-at dossier_capacity limits _ λ allowed.
      bounded-batch limits allowed (have_room rooms) table batch (batch_asked limits table batch) refl (asks-batch limits table batch);
}
