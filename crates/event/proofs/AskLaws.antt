-- The laws of asking questions 2 to 6, and of the value call's answer.
use mathlib.Core.Path.{◌≡◌, refl, sym, ap, ◌∙◌, subst}
use mathlib.Core.Bool.{Bool, true, false}
use mathlib.Core.Option.{Option, none, some}
use mathlib.Core.List.{List, []}
use Prim.Native.Nat.{ℕ}
use lib.ListN.{get_elem?}
use Rattle.model.specs.Order.{Text}
use Rattle.model.proofs.Cases.{never}
use Rattle.packed.specs.Packed.{part}
use Rattle.packed.specs.declared.read.TextAt.{TextAt}
use Rattle.replies.specs.Questions as questions
use Rattle.replies.specs.Questions.{Asked, refused, accepted, ask, ensure}
use Rattle.replies.specs.Replies.{refusal_number}
use Rattle.replies.specs.declared.reply.Refusal.{Refusal}
use Rattle.replies.specs.declared.reply.Refusal.TheVariants.{BadInput, UnknownType}
use Rattle.ontology.specs.Table.{EventType, Table, type_named}
use Rattle.ontology.specs.TableLayout.{table_of}
use Rattle.ontology.specs.declared.types.TypeIndex.{TypeIndex}
use Rattle.ontology.specs.code.TypeIndex.{TypeIs, TypeSays, TableSays}
use Rattle.ontology.proofs.TypeIndexLaws.{table_got, known-says, type-absent, type-found, type-there, properties-rules}
use Rattle.event.specs.Event.{Event, set_at}
use Rattle.event.specs.EventLayout.{Counts, wide, event_of}
use Rattle.event.specs.EventQuestions.{event_shape, values_fit, Typed, event_asked}
use Rattle.event.specs.Value.{Part, part_of, asked_part, value_call}
use Rattle.event.specs.declared.read.EventIndex.{EventIndex}
use Rattle.event.specs.code.EventIndex.{EventIs, EventStands, EventReads, ValueStands, ValueFound, ValueTold}
use Rattle.event.specs.code.EventIndex.{KindsAre, event_questions, places_asked, EventAccepted, EventAnswers}
use Rattle.event.proofs.EventReadLaws.{event-there}
use Rattle.event.proofs.EventQuestionLaws as question
use Rattle.event.proofs.EventQuestionLaws.{event-accepted}
use Rattle.event.proofs.ShapeLaws.{Shaped}
use Rattle.event.proofs.SpaceLaws.{Spoken}
use Rattle.std.specs.Option.{option_flatten}
use Rattle.std.specs.Result.{result_ok}
use Rattle.std.specs.Prelude.{Some, None, Result, Ok, Err}
use Rattle.std.specs.Prelude as std

-- ---- the kinds of a table

pub table-kinds : (s : List ℕ) (ts : Table) (n : Text) (t : EventType) → table_of s ≡ some ts → type_named n ts ≡ some t → KindsAre t
table-kinds s ts n t e f i q h = (properties-rules s n ts t e f i q h).kind

-- ---- questions 5 and 6

-- a is what they come to, of every type and event that the numbers are of
abbrev pub PlacesTold : List ℕ → List ℕ → List ℕ → TypeIndex → EventIndex → Asked (Unit {0}) → Type 0
PlacesTold event ats ps t x a =
    (table : List ℕ) (ty : EventType) (e : Event) → TypeIs table ty t ps → KindsAre ty → EventIs event e x ats → a ≡ places_asked ty e

module _
    (event ats ps : List ℕ) (t : TypeIndex) (x : EventIndex) {shape : Bool}
    (shaped : Shaped t.count ps x.objects ats (λ ty e. shape ≡ event_shape ty e)) where
  shape_is : (table : List ℕ) (ty : EventType) (e : Event) → TypeIs table ty t ps → EventIs event e x ats → event_shape ty e ≡ shape
  shape_is table ty e typed is = sym (shaped table event ty e typed.are is.sets is.objects)

  pub places-shape : shape ≡ false → PlacesTold event ats ps t x (refused 5)
  places-shape h table ty e typed kinds is = sym (rw (shape_is table ty e typed is ∙ h))

  module _ (fits : shape ≡ true) {values : Bool} (valued : Spoken event ats t.count ps (λ ty xs. values ≡ values_fit ty xs)) where
    -- only question 6 is left
    values-left :
        (table : List ℕ) (ty : EventType) (e : Event) → TypeIs table ty t ps → KindsAre ty → EventIs event e x ats →
        places_asked ty e ≡ ensure 6 values
    values-left table ty e typed kinds is =
        rw (shape_is table ty e typed is ∙ fits) (ap (ensure 6) (sym (valued table ty e.sets typed.are kinds is.sets)))

    pub places-values : values ≡ false → PlacesTold event ats ps t x (refused 6)
    places-values h table ty e typed kinds is = sym (values-left table ty e typed kinds is ∙ ap (ensure 6) h)

    pub places-all : values ≡ true → PlacesTold event ats ps t x (accepted tt)
    places-all h table ty e typed kinds is = sym (values-left table ty e typed kinds is ∙ ap (ensure 6) h)

-- ---- questions 2 to 6

-- r is what they come to, of every table and counts of which the readers' answers are right
abbrev pub Questioned :
    List ℕ → List ℕ → List ℕ → std.Option (std.Option TypeIndex) → std.Option EventIndex → Result (TypeIndex × EventIndex) Refusal → Type 0
Questioned event ats ps read x r =
    (table : List ℕ) (name : Text) (counts : Counts) → TableSays (table_of table) table name ps read →
    ((e : Event) → event_of counts event ≡ some e → name ≡ e.head.type) → EventReads (event_of counts event) event ats x →
    EventAnswers (event_questions counts table event) table event ps ats r

answer-refused :
    (p : Asked Typed) (table event ps ats : List ℕ) {q : Refusal} {r : Result (TypeIndex × EventIndex) Refusal} →
    r ≡ Err q → p ≡ refused (refusal_number q) → EventAnswers p table event ps ats r
answer-refused p table event ps ats h e = rw h e

-- the questions after 4, of a type and an event
abbrev typed : EventType → Event → Asked Typed
typed t e = accepted (record { type = t; event = e })

abbrev later : EventType → Event → Asked Typed
later t e = questions.◌>>◌ (ensure 5 (event_shape t e)) (questions.◌>>◌ (ensure 6 (values_fit t e.sets)) (typed t e))

later_is : (t : EventType) (e : Event) → later t e ≡ questions.◌>>◌ (places_asked t e) (typed t e)
later_is t e = go (event_shape t e) (values_fit t e.sets)
  where
    go :
        (a b : Bool) →
        questions.◌>>◌ (ensure 5 a) (questions.◌>>◌ (ensure 6 b) (typed t e))
        ≡ questions.◌>>◌ (questions.◌>>◌ (ensure 5 a) (ensure 6 b)) (typed t e)
    go false b = refl
    go true b = refl

-- the table and the event were read
module _
    (event ats ps : List ℕ) {table-read : std.Option (std.Option TypeIndex)} {found : std.Option TypeIndex}
    (table-is : table-read ≡ Some found) {x : std.Option EventIndex} where
  pub ask-read : x ≡ None → {r : Result (TypeIndex × EventIndex) Refusal} → r ≡ Err BadInput → Questioned event ats ps table-read x r
  unfolding event_asked
  ask-read h k table name counts says names reads =
      let g = table_got table name ps table-read says table-is in
      let n : event_of counts event ≡ none = subst (EventReads (event_of counts event) event ats) h reads in
      answer-refused _ table event ps ats k (rw (g.is, n))

  module _ {e : EventIndex} (event-is : x ≡ Some e) where
    -- what the table has of the event's type
    record Known (table : List ℕ) (counts : Counts) : Type 0 where
      table-said : Table
      is : table_of table ≡ some table-said
      event-said : EventStands (event_of counts event) event ats e
      says : TypeSays (type_named event-said.what.head.type table-said) table ps found

    known :
        (table : List ℕ) (name : Text) (counts : Counts) → TableSays (table_of table) table name ps table-read →
        ((e : Event) → event_of counts event ≡ some e → name ≡ e.head.type) → EventReads (event_of counts event) event ats x → Known table counts
    known table name counts says names reads =
        let g = table_got table name ps table-read says table-is in
        let w : EventStands (event_of counts event) event ats e = subst (EventReads (event_of counts event) event ats) event-is reads in
        record {
          table-said = g.what;
          is = g.is;
          event-said = w;
          says = subst (λ (n : Text). TypeSays (type_named n g.what) table ps found) (names w.what w.is) g.says;
        }

    pub ask-type : found ≡ None → {r : Result (TypeIndex × EventIndex) Refusal} → r ≡ Err UnknownType → Questioned event ats ps table-read x r
    unfolding event_asked
    ask-type h k table name counts says names reads =
        let g = known table name counts says names reads in
        answer-refused _ table event ps ats k (rw (g.is, g.event-said.is, type-absent _ table ps found g.says h))

    -- the type is there
    module _ {t : TypeIndex} (type-is : found ≡ Some t) where
      -- a is what its questions 5 and 6 come to
      record Met (a : Asked (Unit {0})) (table : List ℕ) (counts : Counts) : Type 0 where
        what : Typed
        is : event_questions counts table event ≡ questions.◌>>◌ a (accepted what)
        typed : TypeIs table what.type t ps
        read : EventIs event what.event e ats

      questions-later :
          (table : List ℕ) (counts : Counts) {ts : Table} {u : Event} {y : EventType} → table_of table ≡ some ts → event_of counts event ≡ some u →
          type_named u.head.type ts ≡ some y → event_questions counts table event ≡ later y u
      unfolding event_asked
      questions-later table counts f g h = rw (f, g, h)

      met :
          (a : Asked (Unit {0})) → PlacesTold event ats ps t e a →
          (table : List ℕ) (name : Text) (counts : Counts) → TableSays (table_of table) table name ps table-read →
          ((e : Event) → event_of counts event ≡ some e → name ≡ e.head.type) → EventReads (event_of counts event) event ats x → Met a table counts
      met a told table name counts says names reads =
          let g = known table name counts says names reads in
          let u = g.event-said in
          let y = type-found _ table ps found g.says type-is in
          let kinds = table-kinds table g.table-said u.what.head.type y.what g.is y.is in
          record {
            what = record { type = y.what; event = u.what };
            is = questions-later table counts g.is u.is y.is ∙ later_is y.what u.what
                ∙ ap (λ (b : Asked (Unit {0})). questions.◌>>◌ b (typed y.what u.what)) (sym (told table y.what u.what y.typed kinds u.stands));
            typed = y.typed;
            read = u.stands;
          }

      pub ask-places :
          {q : Refusal} → PlacesTold event ats ps t e (refused (refusal_number q)) →
          {r : Result (TypeIndex × EventIndex) Refusal} → r ≡ Err q → Questioned event ats ps table-read x r
      ask-places told h table name counts says names reads =
          answer-refused _ table event ps ats h (met _ told table name counts says names reads).is

      pub ask-all : PlacesTold event ats ps t e (accepted tt) → Questioned event ats ps table-read x (Ok (t, e))
      ask-all told table name counts says names reads =
          let m = met _ told table name counts says names reads in
          record { what = m.what; is = m.is; typed = m.typed; read = m.read }

-- ---- what is known after asking

module _
    (p : Asked Typed) (table event ps ats : List ℕ) {r : Result (TypeIndex × EventIndex) Refusal} (w : EventAnswers p table event ps ats r) where
  pub accepted-is : {t : TypeIndex} {e : EventIndex} → r ≡ Ok (t, e) → EventAccepted p table event ps ats t e
  accepted-is h = subst (EventAnswers p table event ps ats) h w

  pub refused-is : {q : Refusal} → r ≡ Err q → p ≡ refused (refusal_number q)
  refused-is h = subst (EventAnswers p table event ps ats) h w

-- `.ok()` keeps what is accepted, and no refusal
pub ok-kept : {A E : Type 0} (r : Result A E) {a : A} → Some a ≡ result_ok r → r ≡ Ok a
ok-kept (Ok b) e = cc
ok-kept (Err q) e = never (cc)

-- an accepted event, and the table, were read without being asked
module _ (counts : Counts) (table event : List ℕ) (a : Typed) (taken : event_questions counts table event ≡ accepted a) where
  record Tabled : Type 0 where
    types : Table
    is : table_of table ≡ some types
    asked : event_asked counts types event ≡ accepted a

  tabled : Tabled
  tabled = go (table_of table) refl taken
    where
      go : (m : Option Table) → table_of table ≡ m → questions.◌>>=◌ (ask 2 m) (λ ts. event_asked counts ts event) ≡ accepted a → Tabled
      go none e h = never (cc)
      go (some ts) e h = record { types = ts; is = e; asked = h }

  stood : question.EventAccepted counts tabled.types event a.type a.event
  stood = event-accepted counts tabled.types event a.type a.event tabled.asked

  -- where the table was read for the name of its type, that type was read
  pub read-typed :
      (name : Text) (ps : List ℕ) (r : std.Option (std.Option TypeIndex)) → TableSays (table_of table) table name ps r →
      ((e : Event) → event_of counts event ≡ some e → name ≡ e.head.type) →
      (x : TypeIndex) × (option_flatten r ≡ Some x) × TypeIs table a.type x ps
  read-typed name ps r says names =
      let found = ap (λ (n : Text). type_named n tabled.types) (names a.event stood.read) ∙ stood.typed in
      type-there _ table ps (option_flatten r) a.type found (known-says table name ps r tabled.types tabled.is says)

  pub read-accepted :
      (ats : List ℕ) (r : std.Option EventIndex) → EventReads (event_of counts event) event ats r →
      (x : EventIndex) × (r ≡ Some x) × EventIs event a.event x ats
  read-accepted ats r w = event-there _ event ats r a.event stood.read w

-- ---- the value call

abbrev pub nothing : Part
nothing = record { bytes = []; start = 0 }

pub value-refused :
    (table event : List ℕ) (place index n : ℕ) → event_questions wide table event ≡ refused n → value_call table event place index ≡ nothing
unfolding value_call asked_part
value-refused table event place index n e = rw e

pub value-none :
    (table event ps ats : List ℕ) (place index : ℕ) (r : Result (TypeIndex × EventIndex) Refusal) →
    EventAnswers (event_questions wide table event) table event ps ats r → None ≡ result_ok r → value_call table event place index ≡ nothing
value-none table event ps ats place index (Ok y) w e = never (cc)
value-none table event ps ats place index (Err q) w e = value-refused table event place index _ w

module _
    {table event ps ats : List ℕ} {t : TypeIndex} {x : EventIndex}
    (a : EventAccepted (event_questions wide table event) table event ps ats t x) (place index : ℕ) where
  value-missing : get_elem? (set_at a.what.event place) index ≡ none → value_call table event place index ≡ nothing
  unfolding value_call asked_part part_of
  value-missing h = ap (asked_part place index) a.is ∙ ap (part_of a.what.event place index) h

  value_is :
      {y : TextAt} → ValueStands event a.what.event place index y.start y.end →
      value_call table event place index ≡ record { bytes = part event y.start y.end; start = y.start }
  unfolding value_call asked_part part_of
  value_is {y} v =
      ap (asked_part place index) a.is ∙ ap (part_of a.what.event place index) v.some
      ∙ ap (λ (n : ℕ). record { bytes = part event y.start y.end; start = n }) (sym v.start)

  pub value-told :
      (r : std.Option TextAt) → ((e : Event) → EventIs event e x ats → ValueFound event e place index r) → ValueTold table event place index r
  value-told r finds = go r (finds a.what.event a.read)
    where
      go : (r : std.Option TextAt) → ValueFound event a.what.event place index r → ValueTold table event place index r
      go (Some y) v = record { is = value_is v; order = v.order; within = v.within }
      go None v = value-missing v
