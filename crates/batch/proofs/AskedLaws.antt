-- The laws of questions 3 to 7 of the events of a batch.
use mathlib.Core.Path.{◌≡◌, refl, sym, ap, ◌∙◌, subst}
use mathlib.Core.Bool.{Bool, true, false, ◌&&◌}
use mathlib.Core.Option.{some}
use mathlib.Core.Option as model
use mathlib.Core.List.{List, [], ◌∷◌}
use Prim.Native.Nat.{ℕ, zero, suc, ◌+◌, ◌≤◌, ◌<◌}
use native.Mathlib.Omega.{arith}
use native.Mathlib.Numerals.{add-one}
use lib.ListN.{length, drop, get_or}
use lib.Seq.{drop-cons}
use Rattle.model.specs.Order.{Text, texts, sets, lists, equal}
use Rattle.model.proofs.OrderLaws.{equal-true}
use Rattle.model.proofs.Cases.{and_parts}
use Rattle.replies.specs.Questions as questions
use Rattle.replies.specs.Questions.{Asked, ask, ensure}
use Rattle.replies.specs.Replies.{refusal_number, at_first}
use Rattle.replies.specs.declared.reply.Refusal.{Refusal}
use Rattle.replies.specs.declared.reply.Refusal.TheVariants.{Disagreement}
use Rattle.replies.specs.declared.reply.BatchRefusal.{BatchRefusal}
use Rattle.ontology.specs.Table.{EventType, Table, type_named}
use Rattle.ontology.specs.TableLayout.{table_of}
use Rattle.ontology.specs.code.TypeIndex.{PropertiesAre, TypeIs, TableSays}
use Rattle.ontology.specs.declared.types.TypeIndex.{TypeIndex}
use Rattle.event.specs.Event.{Event}
use Rattle.event.specs.EventLayout.{narrow, event_of}
use Rattle.event.specs.EventQuestions.{Typed, event_asked}
use Rattle.event.specs.code.EventIndex.{EventIs, EventAnswers, event_questions}
use Rattle.event.specs.declared.read.EventIndex.{EventIndex}
use Rattle.event.proofs.EventQuestionLaws.{event-accepted}
use Rattle.event.proofs.AskLaws.{read-typed}
use Rattle.event.specs.Agreement.{match_sets, agree}
use Rattle.batch.specs.Batch.{AskedAt, refused_at, accepted, ◌>>=◌, ◌>>◌, at, events_asked, events_agree, agree_with}
use Rattle.batch.specs.code.BatchIndex.{BatchIs, events_agreed, events_together, FirstNamed, OneAccepted, OneAnswers, AllAnswers}
use Rattle.batch.specs.declared.frame.BatchIndex.{BatchIndex}
use Rattle.std.proofs.Math.Option.{none-ne-some}
use Rattle.std.proofs.lemmas.Bool.{false≢true}
use Rattle.std.specs.Option.{is_some}
use Rattle.std.specs.Prelude.{Option, Some, None, Result, Ok, Err}

-- ---- question 7 of two events

module _ (ty tz : EventType) (f g : Event) where
  abbrev both : Bool
  both = events_agree (record { type = ty; event = f }) (record { type = tz; event = g })

  abbrev heads : Bool
  heads = equal texts f.head.type g.head.type && equal texts f.head.source g.head.source

  abbrev match-same : Bool
  match-same = equal (lists sets) (match_sets ty.properties f.sets) (match_sets tz.properties g.sets)

  pub agree-heads : {r : Bool} → r ≡ heads → r ≡ false → false ≡ both
  unfolding events_agree agree
  agree-heads e k = sym (ap (λ (b : Bool). b && match-same) (sym e ∙ k))

  pub agree-match :
      {a : Bool} → a ≡ heads → a ≡ true → (f.head.type ≡ g.head.type → ty ≡ tz) →
      {r : Bool} → r ≡ equal (lists sets) (match_sets ty.properties f.sets) (match_sets ty.properties g.sets) → r ≡ both
  unfolding events_agree agree
  agree-match d e l n =
      let q : ty ≡ tz = l ((equal-true texts f.head.type g.head.type).0
      (and_parts (equal texts f.head.type g.head.type) (equal texts f.head.source g.head.source) (sym d ∙ e)).0) in
      n
      ∙ sym (ap (λ (b : Bool). b && match-same) (sym d ∙ e)
      ∙ ap (λ (t : EventType). equal (lists sets) (match_sets ty.properties f.sets) (match_sets t.properties g.sets)) (sym q))

-- ---- questions 3 to 6 of one event

-- the numbers of the type's properties are not kept
pub one-answers :
    (p : Asked Typed) (table event ps ats : List ℕ) (r : Result (TypeIndex × EventIndex) Refusal) → EventAnswers p table event ps ats r →
    OneAnswers p table event ats r
one-answers p table event ps ats (Ok (t, e)) w = record { numbers = ps; accepted = w }
one-answers p table event ps ats (Err q) w = w

module _ (table : List ℕ) (ts : Table) (is_table : table_of table ≡ some ts) where
  -- of the bytes that stand for an event of the batch
  asked_of : (event s : List ℕ) (q : Asked Typed) → event ≡ s → event_questions narrow table event ≡ q → event_asked narrow ts s ≡ q
  asked_of event s q e h =
      sym (ap (λ (o : model.Option Table). questions.◌>>=◌ (ask 2 o) (λ xs. event_asked narrow xs s)) is_table)
      ∙ (ap (event_questions narrow table) (sym e) ∙ h)

some_same : {A : Type 0} {a b : A} → some a ≡ some b → a ≡ b
some_same e = cc

-- one name, one type
pub same-type :
    (ts : Table) (s r : List ℕ) (a b : Typed) → event_asked narrow ts s ≡ questions.accepted a → event_asked narrow ts r ≡ questions.accepted b →
    a.event.head.type ≡ b.event.head.type → a.type ≡ b.type
same-type ts s r a b h k e =
    some_same (sym (event-accepted narrow ts s a.type a.event h).typed
    ∙ (ap (λ (n : List ℕ). type_named n ts) e ∙ (event-accepted narrow ts r b.type b.event k).typed))

-- what is said of a type by its index holds with any numbers of its properties
same-numbers : {s : List ℕ} {y : EventType} {t x : TypeIndex} {ns ps : List ℕ} → TypeIs s y t ns → TypeIs s y x ps → TypeIs s y t ps
same-numbers a b = record {
  name = a.name;
  order = a.order;
  within = a.within;
  definition = a.definition;
  mark = a.mark;
  are = record { count = a.are.count; few = a.are.few; each = b.are.each };
}

-- ---- all events

-- what was found so far comes before what is still to be asked
unfoldable pub apart_then : Option ℕ → AskedAt (Unit {0}) → AskedAt (Unit {0})
apart_then None k = k
apart_then (Some p) k = refused_at 7 p

-- the position of the first event that does not agree with the first one, once the one at position i was asked
unfoldable pub first_apart : Option ℕ → Bool → ℕ → Option ℕ
first_apart None true i = None
first_apart None false i = Some i
first_apart (Some p) agrees i = Some p

some-stays : (o : Option ℕ) (agrees : Bool) (i : ℕ) → is_some o ≡ true → o ≡ first_apart o agrees i
unfolding first_apart
some-stays None agrees i e = absurd (false≢true e)
some-stays (Some p) agrees i e = refl

alike-stays : (o : Option ℕ) (agrees : Bool) (i : ℕ) → agrees ≡ true → o ≡ first_apart o agrees i
unfolding first_apart
alike-stays None agrees i h = rw h refl
alike-stays (Some p) agrees i h = refl

apart-here : (o : Option ℕ) (agrees : Bool) (i : ℕ) → is_some o ≡ false → agrees ≡ false → Some i ≡ first_apart o agrees i
unfolding first_apart
apart-here None agrees i e h = rw h refl
apart-here (Some p) agrees i e h = absurd (false≢true (sym e))

-- The events from position i on are still to be asked, a is the first of the batch, and `apart` the position of the first that does not agree with it
unfoldable pub going_on : Table → Typed → ℕ → Option ℕ → List (List ℕ) → AskedAt (Unit {0})
going_on ts a i apart ss = events_asked ts i ss >>= λ bs. apart_then apart (agree_with a i bs)

pub first-accepted :
    (ts : Table) (ss : List (List ℕ)) (a : Typed) → 1 ≤ length ss → event_asked narrow ts (get_or ss 0 []) ≡ questions.accepted a →
    events_together ts ss ≡ going_on ts a 1 None (drop 1 ss)
unfolding events_together events_asked events_agreed going_on apart_then
first-accepted ts [] a h e = absurd (omega arith)
first-accepted ts (s ∷ ss) a h e = rw e (go (events_asked ts 1 ss))
  where
    go : (q : AskedAt (List Typed)) → ((q >>= λ bs. accepted (a ∷ bs)) >>= events_agreed) ≡ (q >>= λ bs. apart_then None (agree_with a 1 bs))
    go (refused_at n i) = refl
    go (accepted bs) = refl

pub first-refused :
    (ts : Table) (ss : List (List ℕ)) (n : ℕ) → 1 ≤ length ss → event_asked narrow ts (get_or ss 0 []) ≡ questions.refused n →
    events_together ts ss ≡ refused_at n 0
unfolding events_together events_asked
first-refused ts [] n h e = absurd (omega arith)
first-refused ts (s ∷ ss) n h e = rw e

apart-step : (p : Option ℕ) (i : ℕ) (t : Bool) (k : AskedAt (Unit {0})) → apart_then p (at i (ensure 7 t) >> k) ≡ apart_then (first_apart p t i) k
unfolding apart_then first_apart
apart-step None i true k = refl
apart-step None i false k = refl
apart-step (Some p) i t k = refl

module _ (ts : Table) (a : Typed) (i : ℕ) (apart : Option ℕ) where
  accepted-step :
      (s : List ℕ) (ss : List (List ℕ)) (b : Typed) → event_asked narrow ts s ≡ questions.accepted b →
      going_on ts a i apart (s ∷ ss) ≡ going_on ts a (suc i) (first_apart apart (events_agree a b) i) ss
  unfolding going_on events_asked agree_with
  accepted-step s ss b e = rw e (go (events_asked ts (suc i) ss))
    where
      go :
          (q : AskedAt (List Typed)) →
          ((q >>= λ bs. accepted (b ∷ bs)) >>= λ bs. apart_then apart (agree_with a i bs))
          ≡ (q >>= λ bs. apart_then (first_apart apart (events_agree a b) i) (agree_with a (suc i) bs))
      go (refused_at n j) = refl
      go (accepted bs) = apart-step apart i (events_agree a b) (agree_with a (suc i) bs)

  refused-step :
      (s : List ℕ) (ss : List (List ℕ)) (n : ℕ) → event_asked narrow ts s ≡ questions.refused n →
      going_on ts a i apart (s ∷ ss) ≡ refused_at n i
  unfolding going_on events_asked
  refused-step s ss n e = rw e

  module _ (ss : List (List ℕ)) where
    next-accepted :
        (b : Typed) → i < length ss → event_asked narrow ts (get_or ss i []) ≡ questions.accepted b →
        going_on ts a i apart (drop i ss) ≡ going_on ts a (i + 1) (first_apart apart (events_agree a b) i) (drop (i + 1) ss)
    next-accepted b l e = rw (add-one i, drop-cons ss i [] l) (accepted-step (get_or ss i []) (drop (suc i) ss) b e)

    next-refused :
        (n : ℕ) → i < length ss → event_asked narrow ts (get_or ss i []) ≡ questions.refused n → going_on ts a i apart (drop i ss) ≡ refused_at n i
    next-refused n l e = rw (drop-cons ss i [] l) (refused-step (get_or ss i []) (drop (suc i) ss) n e)

drop_past : (ss : List (List ℕ)) (i : ℕ) → length ss ≤ i → drop i ss ≡ []
drop_past [] zero h = refl
drop_past [] (suc i) h = refl
drop_past (s ∷ ss) zero h = absurd (omega arith)
drop_past (s ∷ ss) (suc i) h = drop_past ss i (omega arith)

all_gone : (ts : Table) (a : Typed) (i : ℕ) (ss : List (List ℕ)) (apart : Option ℕ) → length ss ≤ i →
    going_on ts a i apart (drop i ss) ≡ apart_then apart (accepted tt)
unfolding going_on events_asked agree_with
all_gone ts a i ss apart past = rw (drop_past ss i past)

-- ---- the events of a batch, asked one after the other

-- s is the event at position i
abbrev pub IsEvent : List ℕ → BatchIndex → ℕ → List ℕ → Type 0
IsEvent batch x i s = (ss : List (List ℕ)) → BatchIs batch ss x → i < length ss → s ≡ get_or ss i []

-- r is what asking the events answers
abbrev pub AnswersEvents : List ℕ → List ℕ → BatchIndex → List ℕ → Result TypeIndex BatchRefusal → Type 0
AnswersEvents table batch x ps r =
    (ts : Table) (ss : List (List ℕ)) → table_of table ≡ some ts → BatchIs batch ss x → AllAnswers (events_together ts ss) table ts ss ps r

-- The first event is accepted, as `first` with the index d, and t is its type. The whole answer is the answer of going on from position i
pub record GoesOn
    (table batch : List ℕ) (x : BatchIndex) (head left : List ℕ) (d : EventIndex) (t : TypeIndex) (ps : List ℕ) (i : ℕ) (apart : Option ℕ) :
    Type 0 where
  pub first : Typed
  pub taken :
      (ts : Table) (ss : List (List ℕ)) → table_of table ≡ some ts → BatchIs batch ss x →
      event_asked narrow ts (get_or ss 0 []) ≡ questions.accepted first
  pub event : EventIs head first.event d left
  pub typed : TypeIs table first.type t ps
  pub few : x.count ≤ 16
  pub whole :
      (ts : Table) (ss : List (List ℕ)) → table_of table ≡ some ts → BatchIs batch ss x →
      events_together ts ss ≡ going_on ts first i apart (drop i ss)

-- the table was read for the name of the first event's type
module _ {table batch name ps : List ℕ} {x : BatchIndex} {read : Option (Option TypeIndex)} (f : FirstNamed table batch x name read ps) where
  -- a table that does not read has no events to ask
  pub none-asked : read ≡ None → (r : Result TypeIndex BatchRefusal) → AnswersEvents table batch x ps r
  none-asked e r ts ss tb b = absurd (none-ne-some ts (sym (subst (TableSays (table_of table) table name ps) e f.says) ∙ tb))

-- the first event, s, is asked
module _ {batch s : List ℕ} {x : BatchIndex} (is : IsEvent batch x 0 s) where
  first-asked :
      (table : List ℕ) (q : Asked Typed) → event_questions narrow table s ≡ q →
      (ts : Table) (ss : List (List ℕ)) → table_of table ≡ some ts → BatchIs batch ss x → event_asked narrow ts (get_or ss 0 []) ≡ q
  first-asked table q h ts ss tb b = asked_of table ts tb s _ q (is ss b (omega (arith, b.one, b.count))) h

  pub first-refuses :
      (table ps : List ℕ) {q : Refusal} {r : Result TypeIndex BatchRefusal} → r ≡ Err (at_first q) →
      event_questions narrow table s ≡ questions.refused (refusal_number q) → AnswersEvents table batch x ps r
  first-refuses table ps {q} h e ts ss tb b =
      rw h (first-refused ts ss (refusal_number q) (omega (arith, b.one, b.count)) (first-asked table _ e ts ss tb b))

  pub goes_first :
      {table : List ℕ} {name : Text} {read : Option (Option TypeIndex)} {ps : List ℕ} → FirstNamed table batch x name read ps →
      {ats : List ℕ} {t : TypeIndex} {e : EventIndex} → OneAccepted (event_questions narrow table s) table s ats t e →
      GoesOn table batch x s ats e t ps 1 None
  goes_first {read = read} f k =
      let w = k.accepted in
      let here = is f.events f.stands (omega (arith, f.stands.one, f.stands.count)) in
      let y = read-typed narrow _ _ w.what w.is _ _ read f.says (λ v m. f.named v (ap (event_of narrow) (sym here) ∙ m)) in
      record {
        first = w.what;
        taken = first-asked _ _ w.is;
        event = w.read;
        typed = same-numbers w.typed y.2;
        few = f.stands.few;
        whole = λ ts ss tb b. first-accepted ts ss w.what (omega (arith, b.one, b.count)) (first-asked _ _ w.is ts ss tb b);
      }

module _
    {table batch : List ℕ} {x : BatchIndex} {head left : List ℕ} {d : EventIndex} {t : TypeIndex} {ps : List ℕ} {i : ℕ} {apart : Option ℕ}
    (g : GoesOn table batch x head left d t ps i apart) where
  -- the next one, s, is asked
  module _ {s : List ℕ} (more : i < x.count) (is : IsEvent batch x i s) where
    pub next-refuses :
        (q : Refusal) → event_questions narrow table s ≡ questions.refused (refusal_number q) →
        AnswersEvents table batch x ps (Err (record { refusal = q; position = i }))
    next-refuses q e ts ss tb b =
        let here : i < length ss = omega (arith, b.count) in
        let refused = asked_of table ts tb s _ _ (is ss b here) e in
        g.whole ts ss tb b ∙ next-refused ts g.first i apart ss (refusal_number q) here refused

    module _ {ats : List ℕ} {y : TypeIndex} {e : EventIndex} (k : OneAccepted (event_questions narrow table s) table s ats y e) where
      abbrev b : Typed
      b = k.accepted.what

      goes-to : (now : Option ℕ) → ((ts : Table) (ss : List (List ℕ)) → table_of table ≡ some ts → BatchIs batch ss x →
          now ≡ first_apart apart (events_agree g.first b) i) → GoesOn table batch x head left d t ps (i + 1) now
      goes-to now n = record {
        first = g.first;
        taken = g.taken;
        event = g.event;
        typed = g.typed;
        few = g.few;
        whole = λ ts ss tb y.
            let here : i < length ss = omega (arith, y.count) in
            let asked = asked_of table ts tb s _ _ (is ss y here) k.accepted.is in
            g.whole ts ss tb y
            ∙ (next-accepted ts g.first i apart ss b here asked
            ∙ ap (λ (m : Option ℕ). going_on ts g.first (i + 1) m (drop (i + 1) ss)) (sym (n ts ss tb y)));
      }

      -- one before it did not agree
      pub goes-past : is_some apart ≡ true → {now : Option ℕ} → now ≡ apart → GoesOn table batch x head left d t ps (i + 1) now
      goes-past e n = goes-to _ (λ ts ss tb y. n ∙ some-stays apart _ i e)

      -- whether it agrees was asked
      module _
          {agrees : Bool}
          (agree : (u : List ℕ) (ty tz : EventType) (f h : Event) → PropertiesAre u ty.properties t.count ps → EventIs head f d left →
          EventIs s h e ats → (f.head.type ≡ h.head.type → ty ≡ tz) →
          agrees ≡ events_agree (record { type = ty; event = f }) (record { type = tz; event = h })) where
        agreed : (ts : Table) (ss : List (List ℕ)) → table_of table ≡ some ts → BatchIs batch ss x → agrees ≡ events_agree g.first b
        agreed ts ss tb y =
            let asked = asked_of table ts tb s _ _ (is ss y (omega (arith, y.count))) k.accepted.is in
            agree _ _ _ _ _ g.typed.are g.event k.accepted.read (same-type ts _ _ g.first b (g.taken ts ss tb y) asked)

        pub goes-alike : agrees ≡ true → {now : Option ℕ} → now ≡ apart → GoesOn table batch x head left d t ps (i + 1) now
        goes-alike h n = goes-to _ (λ ts ss tb y. n ∙ alike-stays apart _ i (sym (agreed ts ss tb y) ∙ h))

        pub goes-apart : is_some apart ≡ false → agrees ≡ false → {now : Option ℕ} → now ≡ Some i →
            GoesOn table batch x head left d t ps (i + 1) now
        goes-apart e h n = goes-to _ (λ ts ss tb y. n ∙ apart-here apart _ i e (sym (agreed ts ss tb y) ∙ h))

  -- all were asked
  module _ (all : x.count ≤ i) where
    pub none-refuses : apart ≡ None → AnswersEvents table batch x ps (Ok t)
    unfolding apart_then
    none-refuses z ts ss tb b = record {
      is = g.whole ts ss tb b ∙ (all_gone ts g.first i ss apart (omega (arith, b.count)) ∙ ap (λ (o : Option ℕ). apart_then o (accepted tt)) z);
      typed = record { first = g.first; taken = g.taken ts ss tb b; typed = g.typed };
    }

    pub apart-refuses : {p : ℕ} → apart ≡ Some p → AnswersEvents table batch x ps (Err (record { refusal = Disagreement; position = p }))
    unfolding apart_then
    apart-refuses z ts ss tb b =
        g.whole ts ss tb b ∙ (all_gone ts g.first i ss apart (omega (arith, b.count)) ∙ ap (λ (o : Option ℕ). apart_then o (accepted tt)) z)
