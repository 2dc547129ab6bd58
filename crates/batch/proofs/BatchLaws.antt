-- The laws of the call batch: what is known of events of which questions 3 to 7 are answered yes, and what combining them answers.
use mathlib.Core.Path.{◌≡◌, refl, sym, ap, ap₂, ◌∙◌, subst}
use mathlib.Core.Logic.{⊎_elim}
use mathlib.Core.Bool.{Bool, true, false, cond, ◌&&◌, and-eq-true_iff}
use mathlib.Core.Option.{none, some}
use mathlib.Core.List.Memᴰ
use mathlib.Core.List.{List, [], ◌∷◌, ◌++◌, map, Memᴰ}
use Prim.Native.Nat.{ℕ, zero, suc, ◌+◌, ◌-◌, ◌≤◌}
use native.Mathlib.Omega.{arith}
use native.Mathlib.Numerals.{sub-one}
use lib.ListN.{length, take, drop, get_or, take-append-drop, length-append}
use lib.Seq.{take-suc, take_all}
use lib.Dec.{leb}
use borrow.Author.Tests.{leb-true}
use Rattle.model.specs.Order.{Text}
use Rattle.model.specs.Sets.{Within}
use Rattle.model.specs.Rule.{Snapshot, Dossier, rule, combine}
use Rattle.model.specs.Limits.{Limits, is_permitted, Permitted, fits}
use Rattle.model.specs.Ways as ways
use Rattle.model.specs.Ways.{wrote, said, limited}
use Rattle.model.proofs.WayClaims.{Each, Has, first_events}
use Rattle.model.proofs.Cases.{never}
use Rattle.model.proofs.RuleLaws.{rule-append}
use Rattle.model.proofs.LimitLaws.{permitted, fits-within}
use Rattle.model.proofs.WayLaws.{upto-list, batch-answer}
use Rattle.replies.specs.Questions as questions
use Rattle.replies.specs.Answers as answers
use Rattle.replies.specs.Questions.{Asked, ensure}
use Rattle.replies.proofs.RefusalLaws.{passed-on}
use Rattle.replies.proofs.RangeLaws.{in-range, out_of_range}
use Rattle.replies.specs.Capacities.{dossier_capacity}
use Rattle.replies.specs.Answers.{Answer, gives, refuses, refuses_at, reply_of, laid, answer, Outcome, outcome}
use Rattle.replies.specs.Replies.{refusal_number, replied, replies, batch_replied, batch_replies, at_first}
use Rattle.replies.specs.declared.reply.Refusal.{Refusal}
use Rattle.replies.specs.declared.reply.BatchRefusal.{BatchRefusal}
use Rattle.ontology.specs.Table.{EventType, Table}
use Rattle.ontology.specs.TableLayout.{table_of}
use Rattle.ontology.specs.code.TypeIndex.{TypeIs, TableSaid, TableSays}
use Rattle.ontology.proofs.TypeIndexLaws.{table-refused, table_got}
use Rattle.ontology.specs.declared.types.TypeIndex.{TypeIndex}
use Rattle.event.specs.Event.{Event, type_view, view}
use Rattle.event.specs.EventLayout.{Counts, narrow, event_of}
use Rattle.event.specs.EventQuestions.{Typed, event_asked}
use Rattle.event.proofs.EventQuestionLaws.{EventFits, event-accepted, event-fits}
use Rattle.event.specs.Agreement.{match_sets}
use Rattle.dossier.specs.DossierLayout.{Headed, dossier_bytes, headed, model_of}
use Rattle.dossier.specs.DossierQuestions.{TypedDossier, dossier_asked, dossiers_agree}
use Rattle.dossier.proofs.DossierQuestionLaws.{match-sets, agree-exact}
use Rattle.combining.specs.CheckCall.{event_dossier, check_asked, check_answer, check_call}
use Rattle.combining.specs.code.CheckIndex.{KnownEvent}
use Rattle.combining.specs.code.AddIndex.{Measured, Addable, AddableUnder}
use Rattle.combining.specs.CombineCall.{combined, combine_asked, combine_answer, combine_call}
use Rattle.ways.specs.ByteWays.{event_or, event_at, byte_view, dossier_returned, returned, way_answer, HasRoom, SameMatch}
use Rattle.ways.proofs.RuleQuestionLaws.{has-length}
use Rattle.ways.proofs.CallLaws.{returned-gives, rule-bytes, Colliding, rule_of, bytes_of, checked-one, asked, same-match, one-fits, two-joined, byte-calls}
use Rattle.batch.specs.Batch.{AskedAt, refused_at, accepted, ◌>>=◌, ◌>>◌, at, events_asked, events_agree, agree_with, batch_of, batch_dossier, together}
use Rattle.batch.specs.Batch.{batch_asked, batch_given, Rooms, have_room, batch_answer, batch_call}
use Rattle.batch.specs.code.BatchIndex.{BatchIs, BatchStands, BatchReads, events_agreed, events_together, FirstName, FirstNamed, FirstTyped}
use Rattle.batch.specs.code.BatchIndex.{combined_given, combined_answer, Agreed, FirstOf, MeasuredFirst, DoneWithin, CombinedFirst}
use Rattle.batch.specs.declared.frame.BatchIndex.{BatchIndex}
use Rattle.batch.proofs.AskedLaws.{same-type, apart_then, going_on, first-accepted, first-refused, IsEvent, AnswersEvents}
use Rattle.std.specs.Option.{ok_or}
use Rattle.std.specs.Result.{IsErrAnd}
use Rattle.std.specs.Prelude.{Some, None, Result, Ok, Err}
use Rattle.std.specs.Prelude as std

-- ---- events of which questions 3 to 7 are answered yes

-- an event that was asked, with its type, is one of those that were accepted
abbrev AskedIn : Table → List ℕ → List Typed → Type 0
AskedIn ts s xs = (b : Typed) × (event_asked narrow ts s ≡ questions.accepted b) × Memᴰ b xs

asked-member :
    (ts : Table) (i : ℕ) (ss : List (List ℕ)) (xs : List Typed) → events_asked ts i ss ≡ accepted xs → (s : List ℕ) → Memᴰ s ss →
    AskedIn ts s xs
unfolding events_asked
asked-member ts i [] xs e s m = absurd (Memᴰ.not-nil m)
asked-member ts i (r ∷ ss) xs e s m = go (event_asked narrow ts r) refl (events_asked ts (suc i) ss) (asked-member ts (suc i) ss) e
  where
    go :
        (q : Asked Typed) → event_asked narrow ts r ≡ q → (p : AskedAt (List Typed)) →
        ((ys : List Typed) → p ≡ accepted ys → (x : List ℕ) → Memᴰ x ss → AskedIn ts x ys) →
        (at i q >>= λ a. p >>= λ bs. accepted (a ∷ bs)) ≡ accepted xs → AskedIn ts s xs
    go (questions.refused n) h p k e = never (cc)
    go (questions.accepted a) h (refused_at n j) k e = never (cc)
    go (questions.accepted a) h (accepted ys) k e =
        let z : a ∷ ys ≡ xs = cc in
        subst (AskedIn ts s) z
        (⊎_elim (λ (q : s ≡ r). (a, rw q h, Memᴰ.head refl))
        (λ (n : Memᴰ s ss). let (b, f, w) = k ys refl s n in (b, f, Memᴰ.tail w))
        (Memᴰ.cases_cons m))

agreed-member : (a : Typed) (i : ℕ) (bs : List Typed) → agree_with a i bs ≡ accepted tt → (b : Typed) → Memᴰ b bs → events_agree a b ≡ true
unfolding agree_with
agreed-member a i [] e b m = absurd (Memᴰ.not-nil m)
agreed-member a i (c ∷ bs) e b m = go (events_agree a c) refl (agreed-member a (suc i) bs) e
  where
    go :
        (t : Bool) → events_agree a c ≡ t → (agree_with a (suc i) bs ≡ accepted tt → (x : Typed) → Memᴰ x bs → events_agree a x ≡ true) →
        (at i (ensure 7 t) >> agree_with a (suc i) bs) ≡ accepted tt → events_agree a b ≡ true
    go false h k e = never (cc)
    go true h k e = ⊎_elim (λ (q : b ≡ c). rw q h) (λ (n : Memᴰ b bs). k e b n) (Memᴰ.cases_cons m)

-- they agree in type, source and match sets
record Alike (a b : Typed) : Type 0 where
  type : a.event.head.type ≡ b.event.head.type
  source : a.event.head.source ≡ b.event.head.source
  sets : match_sets a.type.properties a.event.sets ≡ match_sets b.type.properties b.event.sets

agree-alike : (a b : Typed) → events_agree a b ≡ true → Alike a b
unfolding events_agree
agree-alike a b h = let (x, y, z) = (agree-exact _ _ _ _ _ _).0 h in record { type = x; source = y; sets = z }

-- The events ss are accepted, of one type and source, and have the match values of the first
pub record Known (ts : Table) (ss : List (List ℕ)) : Type 0 where
  pub type : EventType
  pub source : Text
  pub first : List ℕ
  pub model : Colliding ts type source first first
  pub each : Each (Colliding ts type source first) ss

-- an accepted event that is like the first one, a, whose bytes are s
module _ (ts : Table) (s : List ℕ) (a : Typed) (h : event_asked narrow ts s ≡ questions.accepted a) where
  is-event : event_at s ≡ a.event
  unfolding event_or
  is-event = rw (event-accepted narrow ts s a.type a.event h).read

  sets-long : length a.event.sets ≡ 32
  sets-long = (event-fits ts s a.type a.event (event-accepted narrow ts s a.type a.event h)).written.sets.long

module _
    (ts : Table) (s r : List ℕ) (a b : Typed) (h : event_asked narrow ts s ≡ questions.accepted a)
    (k : event_asked narrow ts r ≡ questions.accepted b) (l : Alike a b)
  where
    one_type : b.type ≡ a.type
    one_type = sym (same-type ts s r a b h k l.type)

    alike-match : SameMatch a.type b.event a.event
    alike-match =
        let e : match_sets a.type.properties b.event.sets ≡ match_sets a.type.properties a.event.sets =
        ap (λ (t : EventType). match_sets t.properties b.event.sets) (sym one_type) ∙ sym l.sets in
        (match-sets a.type.properties b.event.sets a.event.sets (sets-long ts r b k ∙ sym (sets-long ts s a h))).1 e

    colliding : Colliding ts a.type a.event.head.source s r
    colliding =
        let read = is-event ts r b k in
        record {
          taken = k ∙ ap questions.accepted (λ i. record { type = one_type i; event = sym read i });
          source = ap (λ (e : Event). e.head.source) read ∙ sym l.source;
          alike = subst (λ (e : Event). SameMatch a.type e (event_at s)) (sym read)
              (subst (λ (e : Event). SameMatch a.type b.event e) (sym (is-event ts s a h)) alike-match);
        }

pub known : (ts : Table) (ss : List (List ℕ)) → events_together ts ss ≡ accepted tt → Known ts ss
unfolding events_together events_asked events_agreed going_on apart_then
known ts [] e = never (cc)
known ts (s ∷ ss) e = asked (event_asked narrow ts s) refl
  where
    agreed :
        (a : Typed) → event_asked narrow ts s ≡ questions.accepted a → (q : AskedAt (List Typed)) → events_asked ts 1 ss ≡ q →
        (q >>= λ bs. agree_with a 1 bs) ≡ accepted tt → Known ts (s ∷ ss)
    agreed a h (refused_at n i) f g = never (cc)
    agreed a h (accepted bs) f g =
        let self = colliding ts s s a a h h (record { type = refl; source = refl; sets = refl }) in
        record {
          type = a.type;
          source = a.event.head.source;
          first = s;
          model = self;
          each = λ r m. ⊎_elim (λ (q : r ≡ s). subst (λ (x : List ℕ). Colliding ts a.type a.event.head.source s x) (sym q) self)
              (λ (n : Memᴰ r ss). let (b, k, w) = asked-member ts 1 ss bs f r n in colliding ts s r a b h k
              (agree-alike a b (agreed-member a 1 bs g b w)))
              (Memᴰ.cases_cons m);
        }

    asked : (q : Asked Typed) → event_asked narrow ts s ≡ q → Known ts (s ∷ ss)
    asked (questions.refused n) h = let z = sym (first-refused ts (s ∷ ss) n (omega arith) h) ∙ e in never (cc)
    asked (questions.accepted a) h =
        let z = sym (first-accepted ts (s ∷ ss) a (omega arith) h) ∙ e in
        agreed a h (events_asked ts 1 ss) refl z

pub known-has : (ts : Table) (ss : List (List ℕ)) → events_together ts ss ≡ accepted tt → Has ss
unfolding events_together events_asked events_agreed
known-has ts [] e = never (cc)
known-has ts (s ∷ ss) e = (s, Memᴰ.head refl)

-- ---- a call's answer, from what it returned

unfoldable pub answer_for : ways.Reply (List ℕ) → Answer
answer_for (wrote x) = gives x
answer_for (said n) = refuses n

answer-for : (q : Asked (List ℕ)) (out : List ℕ) → answer q ≡ answer_for (returned (outcome (answer q) out))
unfolding answer_for
answer-for (questions.refused n) out = refl
answer-for (questions.accepted x) out = sym (ap answer_for (returned-gives x out))

check-for : (table s out : List ℕ) → check_call table s out ≡ outcome (answer_for (returned (check_call table s out))) out
unfolding check_call check_answer
check-for table s out = ap (λ (a : Answer). outcome a out) (answer-for (check_asked (length out) table s) out)

combine-for : (limits : Limits) (table x y out : List ℕ) →
    combine_call limits table x y out ≡ outcome (answer_for (returned (combine_call limits table x y out))) out
unfolding combine_call combine_answer
combine-for limits table x y out = ap (λ (a : Answer). outcome a out) (answer-for (combine_asked limits (length out) table x y) out)

-- what was in the buffer before does not matter
any-buffer : (a : Answer) (x y : List ℕ) → returned (outcome a x) ≡ returned (outcome a y)
any-buffer (gives d) x y = returned-gives d x ∙ sym (returned-gives d y)
any-buffer (Answer.finds f) x y = refl
any-buffer (refuses n) x y = refl
any-buffer (refuses_at n i) x y = refl

for-done :
    (w : ways.Reply (List ℕ)) (n : ℕ) (bytes old : List ℕ) → wrote (take n bytes) ≡ returned (outcome (answer_for w) old) →
    answer_for w ≡ gives (take n bytes)
unfolding answer_for
for-done (wrote x) n bytes old e = let z = e ∙ returned-gives x old in cc
for-done (said m) n bytes old e = never (cc)

for-refused : (w : ways.Reply (List ℕ)) (n : ℕ) (old : List ℕ) → said n ≡ returned (outcome (answer_for w) old) → answer_for w ≡ refuses n
unfolding answer_for
for-refused (wrote x) n old e = let z = e ∙ returned-gives x old in never (cc)
for-refused (said m) n old e = cc

some_same : {A : Type 0} {a b : A} → some a ≡ some b → a ≡ b
some_same e = cc

accepted-same : {A : Type 0} {a b : A} → questions.accepted a ≡ questions.accepted b → a ≡ b
accepted-same e = cc

-- The event s can be added to the dossier `sofar` of which the code has the measures m, and that gives the dossier of the events es
record Adds
    (limits : Limits) (table sofar m s : List ℕ) (t : TypeIndex) (ps : List ℕ) (ts : Table) (es : List (List ℕ)) : Type 0 where
  addable : AddableUnder limits table sofar m s t ps
  joined : (out : List ℕ) → HasRoom out → combine_call limits table sofar addable.added.lone out ≡ outcome (combined_answer limits ts es) out
  measured :
      (r : Result ℕ Refusal) (p : List ℕ) →
      ((z : ℕ) → r ≡ Ok z → Measured (combined addable.added.both.left addable.added.both.right).snapshots p) →
      MeasuredFirst limits ts es r p

-- ---- combining such events

module _
    (limits : Limits) (permitted : Permitted limits) (table : List ℕ) (ts : Table) (is_table : table_of table ≡ some ts) (ss : List (List ℕ))
    (k : Known ts ss) where
  abbrev t : EventType
  t = k.type

  abbrev S : List ℕ → Type 0
  S s = Colliding ts t k.source k.first s

  abbrev rules : List (List ℕ) → Dossier
  rules es = rule_of limits permitted table ts is_table t k.source k.first k.model es

  abbrev bytes : List (List ℕ) → List ℕ
  bytes es = bytes_of limits permitted table ts is_table t k.source k.first k.model es

  -- the answer of the rule over some of them
  abbrev ruled : List (List ℕ) → ways.Reply (List ℕ)
  ruled es = limited limits (type_view t) (λ d. dossier_bytes (headed t.name k.source d)) (rules es)

  -- its dossier
  abbrev ruled_dossier : List (List ℕ) → TypedDossier
  ruled_dossier es = record { type = t; headed = headed t.name k.source (rules es) }

  abbrev typed : List ℕ → Typed
  typed s = record { type = t; event = event_at s }

  fitting : (s : List ℕ) → S s → EventFits t (event_at s)
  fitting s h = event-fits ts s t (event_at s) (event-accepted narrow ts s t (event_at s) h.taken)

  all_asked : (i : ℕ) (es : List (List ℕ)) → Each S es → events_asked ts i es ≡ accepted (map typed es)
  unfolding events_asked
  all_asked i [] h = refl
  all_asked i (s ∷ es) h = rw ((h s (Memᴰ.head refl)).taken, all_asked (suc i) es (λ r m. h r (Memᴰ.tail m)))

  two-agree : (s r : List ℕ) → S s → S r → events_agree (typed s) (typed r) ≡ true
  unfolding events_agree
  two-agree s r h g =
      let f = fitting s h in
      let e = fitting r g in
      let m = (match-sets t.properties (event_at s).sets (event_at r).sets (f.written.sets.long ∙ sym e.written.sets.long)).0
      (λ p q x y. h.alike p q x y ∙ sym (g.alike p q x y)) in
      (agree-exact _ _ _ _ _ _).1 (f.named ∙ sym e.named, h.source ∙ sym g.source, m)

  all-agree : (s : List ℕ) → S s → (i : ℕ) (es : List (List ℕ)) → Each S es → agree_with (typed s) i (map typed es) ≡ accepted tt
  unfolding agree_with
  all-agree s h i [] g = refl
  all-agree s h i (r ∷ es) g =
      rw (two-agree s r h (g r (Memᴰ.head refl)), all-agree s h (suc i) es (λ x m. g x (Memᴰ.tail m)))

  events-of : (es : List (List ℕ)) → map (λ (b : Typed). b.event) (map typed es) ≡ map event_at es
  events-of [] = refl
  events-of (s ∷ es) = ap (λ (l : List Event). event_at s ∷ l) (events-of es)

  the-dossier : (s : List ℕ) (es : List (List ℕ)) → S s → batch_dossier (typed s) (map typed es) ≡ headed t.name k.source (rules (s ∷ es))
  unfolding batch_dossier
  the-dossier s es h = λ i.
      headed ((fitting s h).named i) (h.source i) ((ap (rule (view t)) (events-of (s ∷ es)) ∙ sym (rule-bytes t (s ∷ es))) i)

  last-question : (s : List ℕ) (es : List (List ℕ)) → Each S (s ∷ es) →
      together limits (map typed (s ∷ es))
      ≡ (at 0 (ensure 8 (fits limits (type_view t) (model_of (batch_dossier (typed s) (map typed es)))))
      >> accepted (record { type = t; headed = batch_dossier (typed s) (map typed es) }))
  unfolding together
  last-question s es h = rw (all-agree s (h s (Memᴰ.head refl)) 1 es (λ r m. h r (Memᴰ.tail m)))

  all-together : (s : List ℕ) (es : List (List ℕ)) → Each S (s ∷ es) →
      (events_asked ts 0 (s ∷ es) >>= together limits)
      ≡ (at 0 (ensure 8 (fits limits (type_view t) (rules (s ∷ es)))) >> accepted (ruled_dossier (s ∷ es)))
  all-together s es h =
      let first = h s (Memᴰ.head refl) in
      let d = the-dossier s es first in
      ap (λ (q : AskedAt (List Typed)). q >>= together limits) (all_asked 0 (s ∷ es) h)
      ∙ (last-question s es h
      ∙ ap (λ (x : Headed). at 0 (ensure 8 (fits limits (type_view t) (model_of x))) >> accepted (record { type = t; headed = x })) d)

  pub combined-is : (es : List (List ℕ)) → Has es → Each S es → combined_answer limits ts es ≡ answer_for (ruled es)
  unfolding combined_answer combined_given answer_for limited
  combined-is [] n h = absurd (Memᴰ.not-nil n.1)
  combined-is (s ∷ es) n h = ap combined_given (all-together s es h) ∙ go (fits limits (type_view t) (rules (s ∷ es))) refl
    where
      go : (b : Bool) → fits limits (type_view t) (rules (s ∷ es)) ≡ b →
          combined_given (at 0 (ensure 8 b) >> accepted (ruled_dossier (s ∷ es))) ≡ answer_for (ruled (s ∷ es))
      go true e = rw e
      go false e = rw e

  inside_of :
      (es : List (List ℕ)) (x : List ℕ) → answer_for (ruled es) ≡ gives x → (fits limits (type_view t) (rules es) ≡ true) × (x ≡ bytes es)
  unfolding answer_for limited
  inside_of es x e = go (fits limits (type_view t) (rules es)) refl
    where
      go : (b : Bool) → fits limits (type_view t) (rules es) ≡ b → (fits limits (type_view t) (rules es) ≡ true) × (x ≡ bytes es)
      go true f = (f, cc)
      go false f = never (cc)

  -- a part of the events that is refused refuses all
  refused-more : (es fs : List (List ℕ)) (n : ℕ) → Within es fs → answer_for (ruled es) ≡ refuses n → answer_for (ruled fs) ≡ refuses n
  unfolding answer_for limited
  refused-more es fs n w e = go (fits limits (type_view t) (rules es)) refl (fits limits (type_view t) (rules fs)) refl
    where
      go :
          (a : Bool) → fits limits (type_view t) (rules es) ≡ a → (b : Bool) → fits limits (type_view t) (rules fs) ≡ b →
          answer_for (ruled fs) ≡ refuses n
      go true f b g = never (cc)
      go false f true g = let z = sym f ∙ fits-within limits (byte_view t) es fs w g in never (cc)
      go false f false g = cc

  -- ---- the first n of them

  first-within : (n : ℕ) → Within (take n ss) ss
  first-within n a m = subst (λ (l : List (List ℕ)). Memᴰ a l) (take-append-drop n ss) (Memᴰ.append_left (drop n ss) m)

  first-each : (n : ℕ) → Each S (take n ss)
  first-each n a m = k.each a (first-within n a m)

  first-has : (xs : List (List ℕ)) (n : ℕ) → 1 ≤ n → n ≤ length xs → Has (take n xs)
  first-has [] n h l = absurd (omega arith)
  first-has (s ∷ xs) zero h l = absurd (omega arith)
  first-has (s ∷ xs) (suc n) h l = (s, Memᴰ.head refl)

  first-last : (n : ℕ) → 1 ≤ n → n ≤ length ss → take n ss ≡ take (n - 1) ss ++ (get_or ss (n - 1) [] ∷ [])
  first-last zero h l = absurd (omega arith)
  first-last (suc n) h l = rw (sub-one) (take-suc ss n [] (omega arith))

  last-is : (n : ℕ) → 1 ≤ n → n ≤ length ss → S (get_or ss (n - 1) [])
  last-is n h l =
      first-each n (get_or ss (n - 1) []) (subst (λ (xs : List (List ℕ)). Memᴰ (get_or ss (n - 1) []) xs) (sym (first-last n h l))
      (Memᴰ.append_right (take (n - 1) ss) (Memᴰ.head refl)))

  first-is : (n : ℕ) → 1 ≤ n → n ≤ length ss → combined_answer limits ts (take n ss) ≡ answer_for (ruled (take n ss))
  first-is n h l = combined-is (take n ss) (first-has ss n h l) (first-each n)

  checked-for : (s out : List ℕ) → S s → HasRoom out → returned (check_call table s out) ≡ wrote (bytes (s ∷ []))
  checked-for s out h r = checked-one limits permitted table ts is_table t k.source k.first k.model out s r h

  one-is : (s : List ℕ) → S s → ruled (s ∷ []) ≡ wrote (bytes (s ∷ []))
  unfolding limited
  one-is s h = rw (one-fits limits permitted table ts is_table t k.source k.first k.model s h)

  one_each : (s : List ℕ) → S s → Each S (s ∷ [])
  one_each s h r m = subst S (sym (Memᴰ.eq_of_singleton m)) h

  -- the dossier of the first event
  check-first : (out : List ℕ) → 1 ≤ length ss → HasRoom out →
      check_call table (get_or ss 0 []) out ≡ outcome (combined_answer limits ts (take 1 ss)) out
  check-first out l r =
      let h : S (get_or ss 0 []) = last-is 1 (omega arith) l in
      let e : take 1 ss ≡ get_or ss 0 [] ∷ [] = first-last 1 (omega arith) l in
      check-for table (get_or ss 0 []) out
      ∙ ap (λ (a : Answer). outcome a out)
      (ap answer_for (checked-for (get_or ss 0 []) out h r ∙ sym (one-is (get_or ss 0 []) h))
      ∙ sym (ap (combined_answer limits ts) e ∙
      combined-is (get_or ss 0 [] ∷ []) (get_or ss 0 [], Memᴰ.head refl) (one_each (get_or ss 0 []) h)))

  check-one :
      (n : ℕ) (s out after : List ℕ) (r : Result ℕ Refusal) → n ≡ 1 → 1 ≤ length ss → HasRoom out → s ≡ get_or ss 0 [] →
      replies r after ≡ check_call table s out → replies r after ≡ outcome (combined_answer limits ts (take n ss)) out
  check-one n s out after r o l h q e =
      e ∙ (ap (λ (y : List ℕ). check_call table y out) q
      ∙ (check-first out l h ∙ ap (λ (m : ℕ). outcome (combined_answer limits ts (take m ss)) out) (sym o)))

  -- a dossier of some of these events
  abbrev dossier_of : List (List ℕ) → TypedDossier
  dossier_of es = record { type = t; headed = headed t.name k.source (rule (view t) (map event_at es)) }

  first-type : (x : TypeIndex) (ps : List ℕ) → 1 ≤ length ss → FirstTyped table ts ss x ps → TypeIs table t x ps
  first-type x ps l w =
      let e : questions.accepted w.first ≡ questions.accepted (typed (get_or ss 0 [])) = sym w.taken ∙ (last-is 1 (omega arith) l).taken in
      subst (λ (y : EventType). TypeIs table y x ps) (ap (λ (a : Typed). a.type) (accepted-same e)) w.typed

  -- the n-th event was accepted, with the type of the first
  abbrev nth-known :
      (n : ℕ) (s : List ℕ) (x : TypeIndex) (ps : List ℕ) → 1 ≤ n → n ≤ length ss → s ≡ get_or ss (n - 1) [] →
      FirstTyped table ts ss x ps →
      KnownEvent table s x
  nth-known n s x ps h l q w = record {
    types = ts;
    is = is_table;
    event = typed (get_or ss (n - 1) []);
    asked = ap (event_asked narrow ts) q ∙ (last-is n h l).taken;
    mark = (first-type x ps (omega arith) w).mark;
  }

  event-dossier : (s : List ℕ) → S s → (dossier_of (s ∷ [])).headed ≡ event_dossier (typed s)
  unfolding event_dossier
  event-dossier s h = λ i. headed (sym (fitting s h).named i) (sym h.source i) (rule (view t) (event_at s ∷ []))

  -- ---- the measures of their dossier

  -- where they are accepted together, their dossier has the snapshots of the rule over them
  given-snapshots :
      (es : List (List ℕ)) (d : TypedDossier) → Has es → Each S es → (events_asked ts 0 es >>= together limits) ≡ accepted d →
      d.headed.snapshots ≡ (rules es).snapshots
  given-snapshots [] d n h e = absurd (Memᴰ.not-nil n.1)
  given-snapshots (s ∷ es) d n h e = go (fits limits (type_view t) (rules (s ∷ es))) (sym (all-together s es h) ∙ e)
    where
      go : (b : Bool) → (at 0 (ensure 8 b) >> accepted (ruled_dossier (s ∷ es))) ≡ accepted d → d.headed.snapshots ≡ (rules (s ∷ es)).snapshots
      go true e = let z : d ≡ ruled_dossier (s ∷ es) = cc in ap (λ (x : TypedDossier). x.headed.snapshots) z
      go false e = never (cc)

  first-measured :
      (es : List (List ℕ)) (r : Result ℕ Refusal) (m : List ℕ) → Has es → Each S es → Measured (rules es).snapshots m →
      MeasuredFirst limits ts es r m
  first-measured es (Ok z) m n h w = λ d e. subst (λ (xs : List Snapshot). Measured xs m) (sym (given-snapshots es d n h e)) w
  first-measured es (Err q) m n h w = tt

  rule-measured :
      (es : List (List ℕ)) (z : ℕ) (m : List ℕ) → Has es → Each S es → fits limits (type_view t) (rules es) ≡ true →
      MeasuredFirst limits ts es (Ok z) m → Measured (rules es).snapshots m
  rule-measured [] z m n h f w = absurd (Memᴰ.not-nil n.1)
  rule-measured (s ∷ es) z m n h f w = w (ruled_dossier (s ∷ es)) (rw (all-together s es h, f))

  -- the first event alone
  one-measured :
      (s : List ℕ) (x : TypeIndex) (ps : List ℕ) (r : Result ℕ Refusal) (m : List ℕ) → 1 ≤ length ss → s ≡ get_or ss 0 [] →
      FirstTyped table ts ss x ps →
      ((e : KnownEvent table s x) → Measured (event_dossier e.event).snapshots m) → MeasuredFirst limits ts (take 1 ss) r m
  one-measured s x ps r m l q f w =
      let one = get_or ss 0 [] in
      let h : S one = last-is 1 (omega arith) l in
      let same : (event_dossier (typed one)).snapshots ≡ (rules (one ∷ [])).snapshots =
      ap (λ (d : Headed). d.snapshots) (sym (event-dossier one h)) ∙ ap (λ (d : Dossier). d.snapshots) (sym (rule-bytes t (one ∷ []))) in
      let measured : Measured (rules (one ∷ [])).snapshots m =
      subst (λ (xs : List Snapshot). Measured xs m) same (w (nth-known 1 s x ps (omega arith) l q f)) in
      rw (first-last 1 (omega arith) l) (first-measured (one ∷ []) r m (one, Memᴰ.head refl) (one_each one h) measured)

  -- the n-th event s, and the dossier `sofar` of those before it, of which the code has the measures m
  module _ (n size : ℕ) (s sofar m : List ℕ) (x : TypeIndex) (ps : List ℕ) (h : 2 ≤ n) (l : n ≤ length ss) (q : s ≡ get_or ss (n - 1) [])
      (c : combined_answer limits ts (take (n - 1) ss) ≡ gives sofar) (w : MeasuredFirst limits ts (take (n - 1) ss) (Ok size) m)
      (f : FirstTyped table ts ss x ps) where
    abbrev others : List (List ℕ)
    others = take (n - 1) ss

    abbrev last : List ℕ
    last = get_or ss (n - 1) []

    has-others : Has others
    has-others = first-has ss (n - 1) (omega arith) (omega arith)

    has_last : Has (last ∷ [])
    has_last = (last, Memᴰ.head refl)

    last-in : S last
    last-in = last-is n (omega arith) l

    others-each : Each S others
    others-each = first-each (n - 1)

    others-are : (fits limits (type_view t) (rules others) ≡ true) × (sofar ≡ bytes others)
    others-are = inside_of others sofar (sym (first-is (n - 1) (omega arith) (omega arith)) ∙ c)

    last_fits : fits limits (type_view t) (rules (last ∷ [])) ≡ true
    last_fits = one-fits limits permitted table ts is_table t k.source k.first k.model last last-in

    all-joined : combine (type_view t) (rules others) (rules (last ∷ [])) ≡ rules (take n ss)
    all-joined = rule-append (byte_view t) others (last ∷ []) ∙ ap (rule (byte_view t)) (sym (first-last n (omega arith) l))

    both-agree : dossiers_agree (dossier_of others) (dossier_of (last ∷ [])) ≡ true
    unfolding dossiers_agree
    both-agree =
        let ms = match_sets t.properties (event_at k.first).sets in
        let left = same-match limits permitted table ts is_table t k.source k.first k.model others has-others others-each others-are.0 in
        let right = same-match limits permitted table ts is_table t k.source k.first k.model (last ∷ []) has_last (one_each last last-in) last_fits in
        rw (left, right) ((agree-exact t.name k.source ms t.name k.source ms).1 (refl, refl, refl))

    abbrev adds-last : Addable table sofar m s x ps
    adds-last = record {
      new = nth-known n s x ps (omega arith) l q f;
      lone = bytes (last ∷ []);
      both = record {
        limits = limits;
        permitted = permitted;
        types = ts;
        is = is_table;
        left = dossier_of others;
        right = dossier_of (last ∷ []);
        left-asked = ap (dossier_asked limits ts) others-are.1
            ∙ asked limits permitted table ts is_table t k.source k.first k.model others has-others others-each others-are.0;
        right-asked = asked limits permitted table ts is_table t k.source k.first k.model (last ∷ []) has_last (one_each last last-in) last_fits;
        agree = both-agree;
        typed = first-type x ps (omega arith) f;
      };
      type-is = refl;
      headed-is = event-dossier last last-in;
      measured = subst (λ (d : Dossier). Measured d.snapshots m) (rule-bytes t others)
          (rule-measured others size m has-others others-each others-are.0 w);
    }

    add-next : (out : List ℕ) → HasRoom out → combine_call limits table sofar (bytes (last ∷ [])) out ≡ outcome
        (combined_answer limits ts (take n ss)) out
    add-next out o =
        let both =
        two-joined limits permitted table ts is_table t k.source k.first k.model out others (last ∷ []) o has-others has_last others-each
        (one_each last last-in) others-are.0 last_fits in
        let all : returned (combine_call limits table (bytes others) (bytes (last ∷ [])) out) ≡ ruled (take n ss) =
        both ∙ ap (limited limits (type_view t) (λ d. dossier_bytes (headed t.name k.source d))) all-joined in
        rw others-are.1
        (combine-for limits table (bytes others) (bytes (last ∷ [])) out
        ∙ ap (λ (a : Answer). outcome a out) (ap answer_for all ∙ sym (first-is n (omega arith) l)))

    both-joined : combined (dossier_of others) (dossier_of (last ∷ [])) ≡ rules (take n ss)
    unfolding combined
    both-joined = sym (ap₂ (combine (type_view t)) (rule-bytes t others) (rule-bytes t (last ∷ []))) ∙ all-joined

    next-measured :
        (r : Result ℕ Refusal) (p : List ℕ) →
        ((z : ℕ) → r ≡ Ok z → Measured (combined (dossier_of others) (dossier_of (last ∷ []))).snapshots p) →
        MeasuredFirst limits ts (take n ss) r p
    next-measured (Ok z) p g =
        first-measured (take n ss) (Ok z) p (first-has ss n (omega arith) l) (first-each n)
        (subst (λ (d : Dossier). Measured d.snapshots p) both-joined (g z refl))
    next-measured (Err q) p g = tt

    nth-adds : Adds limits table sofar m s x ps ts (take n ss)
    nth-adds = record { addable = record { added = adds-last; under = refl }; joined = add-next; measured = next-measured }

  -- what the first n came to
  module _ (n : ℕ) (h : 1 ≤ n) (l : n ≤ length ss) (r : Result ℕ Refusal) (after old : List ℕ)
      (e : dossier_returned (replied r) after ≡ returned (outcome (combined_answer limits ts (take n ss)) old)) where
    as-ruled : dossier_returned (replied r) after ≡ returned (outcome (answer_for (ruled (take n ss))) old)
    as-ruled = e ∙ ap (λ (a : Answer). returned (outcome a old)) (first-is n h l)

    replies-ruled :
        {y : Result ℕ Refusal} → r ≡ y → dossier_returned (replied y) after ≡ returned (outcome (answer_for (ruled (take n ss))) old)
    replies-ruled f = ap (λ (y : Result ℕ Refusal). dossier_returned (replied y) after) (sym f) ∙ as-ruled

    first_done : (m : ℕ) → r ≡ Ok m → combined_answer limits ts (take n ss) ≡ gives (take m after)
    first_done m f = first-is n h l ∙ for-done (ruled (take n ss)) m after old (replies-ruled f)

    -- so are more of them
    more-refused : (i : ℕ) (q : Refusal) → i ≡ n + 1 → i ≤ length ss → r ≡ Err q →
        combined_answer limits ts (take i ss) ≡ refuses (refusal_number q)
    more-refused i q f g k =
        let m = refusal_number q in
        let s = replies-ruled k in
        let j : i - 1 ≡ n = omega arith in
        let last = get_or ss (i - 1) [] ∷ [] in
        let all : take i ss ≡ take n ss ++ last = first-last i (omega arith) g ∙ ap (λ (y : ℕ). take y ss ++ last) j in
        let w : Within (take n ss) (take i ss) =
        λ a x. subst (λ (xs : List (List ℕ)). Memᴰ a xs) (sym all) (Memᴰ.append_left last x) in
        first-is i (omega arith) g ∙ refused-more (take n ss) (take i ss) m w (for-refused (ruled (take n ss)) m old s)

    stopped :
        (i : ℕ) (q : Refusal) (z : List ℕ) → i ≡ n + 1 → i ≤ length ss → r ≡ Err q →
        replies (Err q) z ≡ outcome (combined_answer limits ts (take i ss)) z
    stopped i q z f g k = ap (λ (a : Answer). outcome a z) (sym (more-refused i q f g k))

-- ---- replies and what they wrote

call-within : (r : Result ℕ Refusal) (after old : List ℕ) (a : Answer) → replies r after ≡ outcome a old → DoneWithin r after
call-within (Err q) after old a e = tt
call-within (Ok n) after old a e = go a (ap (λ (o : Outcome). o.reply) e) (ap (λ (o : Outcome). o.bytes) e)
  where
    go : (a : Answer) → answers.Reply.done n ≡ reply_of a → after ≡ laid a old → n ≤ length after
    go (gives x) p b = let q : n ≡ length x = cc in omega (arith, q, ap length b ∙ length-append x (drop (length x) old))
    go (Answer.finds f) p b = never (cc)
    go (refuses m) p b = never (cc)
    go (refuses_at m i) p b = never (cc)

check-within : (r : Result ℕ Refusal) (after table s out : List ℕ) → replies r after ≡ check_call table s out → DoneWithin r after
unfolding check_call
check-within r after table s out e = call-within r after out (check_answer (length out) table s) e

combine-within :
    (limits : Limits) (r : Result ℕ Refusal) (after table x y out : List ℕ) → replies r after ≡ combine_call limits table x y out →
    DoneWithin r after
unfolding combine_call
combine-within limits r after table x y out e = call-within r after out (combine_answer limits (length out) table x y) e

-- ---- what the code knows of the first n events

-- r is the answer of combining the first n events, in a buffer that had the bytes `old` and has `after`
pub record AnswersFirst (limits : Limits) (table batch : List ℕ) (x : BatchIndex) (n : ℕ) (r : Result ℕ Refusal) (after old : List ℕ) : Type 0 where
  pub is :
      (ts : Table) (ss : List (List ℕ)) → Agreed table batch x ts ss → n ≤ length ss →
      replies r after ≡ outcome (combined_answer limits ts (take n ss)) old

pub fewer :
    {table batch : List ℕ} {x : BatchIndex} {t : TypeIndex} {ps : List ℕ} {n : ℕ} → FirstOf table batch x t ps n → FirstOf table batch x t ps (n - 1)
fewer w = record { types = w.types; events = w.events; agreed = w.agreed; typed = w.typed; within = omega (arith, w.within) }

module _
    {limits : Limits} (permitted : Permitted limits) {table batch : List ℕ} {x : BatchIndex} {t : TypeIndex} {ps : List ℕ} {n : ℕ}
    (w : FirstOf table batch x t ps n) where
  -- the first event was accepted, with the type t
  pub first-known : {s : List ℕ} → IsEvent batch x 0 s → KnownEvent table s t
  first-known {s} is =
      let g = w.agreed in
      let one : 1 ≤ length w.events = omega (arith, g.is_batch.one, g.is_batch.count) in
      nth-known limits permitted table w.types g.is_table w.events (known w.types w.events g.agreed) 1 s t ps (omega arith) one
      (is w.events g.is_batch (omega arith)) w.typed

  -- the table and the batch have one reading, so that under any the type is that of the first event
  first-typed : (ts : Table) (ss : List (List ℕ)) → Agreed table batch x ts ss → FirstTyped table ts ss t ps
  first-typed ts ss g =
      let here = w.agreed.is_batch in
      let there = g.is_batch in
      let types : ts ≡ w.types = some_same (sym g.is_table ∙ w.agreed.is_table) in
      let first : get_or ss 0 [] ≡ get_or w.events 0 [] =
      sym (there.each 0 (omega (arith, there.one, there.count))).bytes ∙ (here.each 0 (omega (arith, here.one, here.count))).bytes in
      record {
        first = w.typed.first;
        taken = ap₂ (λ (u : Table) (s : List ℕ). event_asked narrow u s) types first ∙ w.typed.taken;
        typed = w.typed.typed;
      }

  -- one event, checked
  module _
      {s after old : List ℕ} {r : Result ℕ Refusal} (some : 1 ≤ n) (few : n ≤ 1) (room : HasRoom old) (is : IsEvent batch x 0 s)
      (e : replies r after ≡ check_call table s old) where
    pub one-checked : AnswersFirst limits table batch x n r after old
    one-checked = record {
      is = λ ts ss g l.
          check-one limits permitted table ts g.is_table ss (known ts ss g.agreed) n s old after r (omega arith) (omega arith) room
          (is ss g.is_batch (omega arith)) e;
    }

    pub one-combined :
        {m : List ℕ} → ((k : KnownEvent table s t) → Measured (event_dossier k.event).snapshots m) →
        CombinedFirst limits table batch x n r m after old
    one-combined {m} f =
        let one : 1 ≡ n = omega arith in
        record {
          within = check-within r after table s old e;
          first = λ ts ss g l. ap (λ (o : Outcome). returned o) (one-checked.is ts ss g l);
          measured = λ ts ss g l.
              subst (λ (i : ℕ). MeasuredFirst limits ts (take i ss) r m) one
              (one-measured limits permitted table ts g.is_table ss (known ts ss g.agreed) s t ps r m (omega arith) (is ss g.is_batch (omega arith))
              (first-typed ts ss g) f);
        }

  -- those before the n-th, combined: a refusal of these is one of all
  module _ {q : Refusal} {m after old : List ℕ} (two : 2 ≤ n) (others : CombinedFirst limits table batch x (n - 1) (Err q) m after old) where
    pub all-refused : {r : Result ℕ Refusal} → r ≡ Err q → {out : List ℕ} → AnswersFirst limits table batch x n r out out
    all-refused e {out} = rw e (record {
      is = λ ts ss g l.
          stopped limits permitted table ts g.is_table ss (known ts ss g.agreed) (n - 1) (omega arith) (omega arith) (Err q) after old
          (others.first ts ss g (omega arith)) n q out (omega arith) l refl;
    })

    pub refused-combined : {r : Result ℕ Refusal} → r ≡ Err q → {out old' : List ℕ} → CombinedFirst limits table batch x n r m out old'
    refused-combined e {out} {old'} = rw e (record {
      within = tt;
      first = λ ts ss g l.
          ap (λ (o : Outcome). returned o) ((all-refused refl).is ts ss g l) ∙ any-buffer (combined_answer limits ts (take n ss)) out old';
      measured = λ ts ss g l. tt;
    })

  -- to their dossier the n-th, s, is added
  module _
      {size : ℕ} {m after old s : List ℕ} (two : 2 ≤ n) (others : CombinedFirst limits table batch x (n - 1) (Ok size) m after old)
      (is : IsEvent batch x (n - 1) s) where
    last-adds :
        (ts : Table) (ss : List (List ℕ)) → Agreed table batch x ts ss → n ≤ length ss → Adds limits table (take size after) m s t ps ts (take n ss)
    last-adds ts ss g l =
        let these = known ts ss g.agreed in
        let given =
        first_done limits permitted table ts g.is_table ss these (n - 1) (omega arith) (omega arith) (Ok size) after old
        (others.first ts ss g (omega arith)) size refl in
        nth-adds limits permitted table ts g.is_table ss these n size s (take size after) m t ps two l (is ss g.is_batch (omega arith)) given
        (others.measured ts ss g (omega arith)) (first-typed ts ss g)

    pub last-addable : AddableUnder limits table (take size after) m s t ps
    last-addable = (last-adds w.types w.events w.agreed w.within).addable

    -- what that answered
    module _
        {r' : Result ℕ Refusal} {after' : List ℕ} (out : List ℕ) (room : HasRoom out)
        (e : (h : AddableUnder limits table (take size after) m s t ps) →
        replies r' after' ≡ combine_call limits table (take size after) h.added.lone out) where
      pub last-added : AnswersFirst limits table batch x n r' after' out
      last-added = record { is = λ ts ss g l. let a = last-adds ts ss g l in e a.addable ∙ a.joined out room }

      pub last-combined :
          {m' old' : List ℕ} →
          ((h : AddableUnder limits table (take size after) m s t ps) (z : ℕ) → r' ≡ Ok z →
          Measured (combined h.added.both.left h.added.both.right).snapshots m') →
          CombinedFirst limits table batch x n r' m' after' old'
      last-combined {m'} {old'} f = record {
        within = combine-within limits r' after' table (take size after) last-addable.added.lone out (e last-addable);
        first = λ ts ss g l.
            ap (λ (o : Outcome). returned o) (last-added.is ts ss g l) ∙ any-buffer (combined_answer limits ts (take n ss)) out old';
        measured = λ ts ss g l. let a = last-adds ts ss g l in a.measured r' m' (f a.addable);
      }

-- as many events as the index has are all
pub all-taken :
    {limits : Limits} {table batch : List ℕ} {x : BatchIndex} (r : Result ℕ Refusal) {after old : List ℕ} →
    AnswersFirst limits table batch x x.count r after old →
    (ts : Table) (ss : List (List ℕ)) → Agreed table batch x ts ss → replies r after ≡ outcome (combined_answer limits ts ss) old
all-taken {limits} {x = x} r {old = old} e ts ss g =
    let n = g.is_batch.count in
    e.is ts ss g (omega (arith, n)) ∙ ap (λ (xs : List (List ℕ)). outcome (combined_answer limits ts xs) old) (take_all x.count ss (omega (arith, n)))

-- ---- the whole batch

-- a refusal of the whole batch has the position 0
unfoldable pub placed : Answer → Answer
placed (gives x) = gives x
placed (Answer.finds f) = Answer.finds f
placed (refuses n) = refuses_at n 0
placed (refuses_at n i) = refuses_at n i

abbrev pub placed_reply : answers.Reply → answers.Reply
placed_reply (answers.Reply.done n) = answers.Reply.done n
placed_reply (answers.Reply.found f) = answers.Reply.found f
placed_reply (answers.Reply.refused n) = answers.Reply.refused_at n 0
placed_reply (answers.Reply.refused_at n i) = answers.Reply.refused_at n i

placed-reply : (a : Answer) → placed_reply (reply_of a) ≡ reply_of (placed a)
unfolding placed
placed-reply (gives x) = refl
placed-reply (Answer.finds f) = refl
placed-reply (refuses n) = refl
placed-reply (refuses_at n i) = refl

placed-laid : (a : Answer) (old : List ℕ) → laid a old ≡ laid (placed a) old
unfolding placed
placed-laid (gives x) old = refl
placed-laid (Answer.finds f) old = refl
placed-laid (refuses n) old = refl
placed-laid (refuses_at n i) old = refl

placed-replies :
    (b : Result ℕ BatchRefusal) (r : Result ℕ Refusal) (after out : List ℕ) (a : Answer) → batch_replied b ≡ placed_reply (replied r) →
    replies r after ≡ outcome a out →
    batch_replies b after ≡ outcome (placed a) out
placed-replies b r after out a p e =
    let q : batch_replied b ≡ reply_of (placed a) = p ∙ (ap (λ (o : Outcome). placed_reply o.reply) e ∙ placed-reply a) in
    let d : after ≡ laid (placed a) out = ap (λ (o : Outcome). o.bytes) e ∙ placed-laid a out in
    λ i. record { reply = q i; bytes = d i }

placed-limited : (b : Bool) (x : List ℕ) → placed (answer_for (cond b (wrote x) (said 8))) ≡ cond b (gives x) (refuses_at 8 0)
unfolding placed answer_for
placed-limited true x = refl
placed-limited false x = refl

-- question 8 is the last
abbrev all-given : Limits → Table → List (List ℕ) → AskedAt TypedDossier
all-given limits ts ss = events_asked ts 0 ss >>= together limits

given-placed : (limits : Limits) (ts : Table) (ss : List (List ℕ)) → events_together ts ss ≡ accepted tt →
    batch_given (all-given limits ts ss) ≡ placed (combined_answer limits ts ss)
unfolding events_together events_agreed combined_answer together batch_given combined_given placed
given-placed limits ts ss e = go (events_asked ts 0 ss) e
  where
    eight : (b : Bool) (d : TypedDossier) → batch_given (at 0 (ensure 8 b) >> accepted d) ≡ placed (combined_given (at 0 (ensure 8 b) >> accepted d))
    eight true d = refl
    eight false d = refl

    seven :
        (q : AskedAt (Unit {0})) (k : AskedAt TypedDossier) → q ≡ accepted tt → batch_given k ≡ placed (combined_given k) →
        batch_given (q >> k) ≡ placed (combined_given (q >> k))
    seven (refused_at n i) k e w = never (cc)
    seven (accepted u) k e w = w

    go :
        (q : AskedAt (List Typed)) → (q >>= events_agreed) ≡ accepted tt →
        batch_given (q >>= together limits) ≡ placed (combined_given (q >>= together limits))
    go (refused_at n i) e = never (cc)
    go (accepted []) e = never (cc)
    go (accepted (a ∷ bs)) e =
        let d : TypedDossier = record { type = a.type; headed = batch_dossier a bs } in
        let inside = fits limits (type_view a.type) (model_of (batch_dossier a bs)) in
        seven (agree_with a 1 bs) (at 0 (ensure 8 inside) >> accepted d) e (eight inside d)

given-refused : (limits : Limits) (ts : Table) (ss : List (List ℕ)) (n i : ℕ) → events_together ts ss ≡ refused_at n i →
    batch_given (all-given limits ts ss) ≡ refuses_at n i
unfolding events_together events_agreed together batch_given
given-refused limits ts ss n i e = go (events_asked ts 0 ss) e
  where
    seven : (q : AskedAt (Unit {0})) (k : AskedAt TypedDossier) → q ≡ refused_at n i → batch_given (q >> k) ≡ refuses_at n i
    seven q k e = rw e

    go : (q : AskedAt (List Typed)) → (q >>= events_agreed) ≡ refused_at n i → batch_given (q >>= together limits) ≡ refuses_at n i
    go (refused_at m j) e = cc
    go (accepted []) e = cc
    go (accepted (a ∷ bs)) e = seven (agree_with a 1 bs) _ e

-- the frame was read, or not
pub framed :
    (batch : List ℕ) {r : std.Option BatchIndex} → BatchReads (batch_of batch) batch r → {x : BatchIndex} → r ≡ Some x →
    BatchStands (batch_of batch) batch x
framed batch w e = subst (BatchReads (batch_of batch) batch) e w

pub unframed : (batch : List ℕ) {r : std.Option BatchIndex} → BatchReads (batch_of batch) batch r → r ≡ None → batch_of batch ≡ none
unframed batch w e = subst (BatchReads (batch_of batch) batch) e w

-- a question of the whole batch is answered no where nothing was found
pub none-first :
    {A B : Type 0} {o : std.Option A} {q e : Refusal} {r : Result B BatchRefusal} → Err e ≡ ok_or o q → o ≡ None →
    IsErrAnd r (λ y. y ≡ at_first e) → r ≡ Err (at_first q)
none-first {A} {B} {o} {q} {e} {r} told n h =
    let s : ◌≡◌ {A = Result A Refusal} (Err e) (Err q) = told ∙ ap (λ (x : std.Option A). ok_or x q) n in
    passed-on h ∙ let i : e ≡ q = cc in ap (λ (y : Refusal). Err (at_first y)) i

pub rooms-are :
    (r : Rooms) → true ≡ have_room r →
    (dossier_capacity ≤ r.output) × (dossier_capacity ≤ r.first) × (dossier_capacity ≤ r.second) × (dossier_capacity ≤ r.third)
unfolding have_room
rooms-are r h =
    let (x, d) = (and-eq-true_iff (leb dossier_capacity r.output && leb dossier_capacity r.first && leb dossier_capacity r.second)
    (leb dossier_capacity r.third)).0 (sym h) in
    let (y, c) = (and-eq-true_iff (leb dossier_capacity r.output && leb dossier_capacity r.first) (leb dossier_capacity r.second)).0 x in
    let (a, b) = (and-eq-true_iff (leb dossier_capacity r.output) (leb dossier_capacity r.first)).0 y in (
      leb-true dossier_capacity r.output a,
      leb-true dossier_capacity r.first b,
      leb-true dossier_capacity r.second c,
      leb-true dossier_capacity r.third d,
    )

-- the name that the first event, s, begins with
pub first-name :
    {batch s name : List ℕ} {x : BatchIndex} → IsEvent batch x 0 s →
    ((counts : Counts) (e : Event) → event_of counts s ≡ some e → name ≡ e.head.type) → FirstName batch x name
first-name is names ss b e h = names narrow e (ap (event_of narrow) (is ss b (omega (arith, b.one, b.count))) ∙ h)

-- the table and the frame were read
module _
    (table batch : List ℕ) (name : Text) (ps : List ℕ) {read : std.Option (std.Option TypeIndex)} {found : std.Option TypeIndex}
    (says : TableSays (table_of table) table name ps read) (table-read : read ≡ Some found)
    {r : std.Option BatchIndex} {x : BatchIndex} (reads : BatchReads (batch_of batch) batch r) (frame-read : r ≡ Some x) where
  table-said : TableSaid (table_of table) table name ps found
  table-said = table_got table name ps read says table-read

  frame-stands : BatchStands (batch_of batch) batch x
  frame-stands = framed batch reads frame-read

  -- the table was read for the name of the first event's type
  pub first-named : FirstName batch x name → FirstNamed table batch x name (Some found) ps
  first-named n = record {
    events = frame-stands.what;
    stands = frame-stands.stands;
    named = n frame-stands.what frame-stands.stands;
    says = table-said;
  }

  pub frame-few : x.count ≤ 16
  frame-few = frame-stands.stands.few

  -- no event was refused
  pub agreed-first : {t : TypeIndex} → AnswersEvents table batch x ps (Ok t) → FirstOf table batch x t ps x.count
  agreed-first answers =
      let w = answers table-said.what frame-stands.what table-said.is frame-stands.stands in
      record {
        types = table-said.what;
        events = frame-stands.what;
        agreed = record { is_table = table-said.is; is_batch = frame-stands.stands; agreed = w.is };
        typed = w.typed;
        within = omega (arith, frame-stands.stands.count);
      }

-- the questions in their order, up to those of the events
all-asked-is :
    {limits : Limits} → Permitted limits → (rooms : Rooms) (table batch : List ℕ) → have_room rooms ≡ true → (ts : Table) →
    table_of table ≡ some ts → (ss : List (List ℕ)) →
    batch_of batch ≡ some ss → batch_answer limits rooms table batch ≡ batch_given (all-given limits ts ss)
unfolding batch_answer batch_asked
all-asked-is {limits} permitted rooms table batch room ts t ss f = rw (in-range limits permitted, room, t, f)

call-is :
    (limits : Limits) (rooms : Rooms) (table batch out : List ℕ) (a : Answer) → batch_answer limits rooms table batch ≡ a →
    batch_call limits rooms table batch out ≡ outcome a out
unfolding batch_call
call-is limits rooms table batch out a e = ap (λ (b : Answer). outcome b out) e

pub no-limits :
    (limits : Limits) (rooms : Rooms) (table batch out : List ℕ) → false ≡ is_permitted limits →
    outcome (refuses_at 18 0) out ≡ batch_call limits rooms table batch out
unfolding batch_answer batch_given
no-limits limits rooms table batch out h = sym (call-is limits rooms table batch out (refuses_at 18 0) (rw (out_of_range limits (sym h))))

module _ (limits : Limits) (allowed : true ≡ is_permitted limits) (rooms : Rooms) (table batch out : List ℕ) where
  is-allowed : Permitted limits
  is-allowed = permitted limits (sym allowed)

  pub no_room : false ≡ have_room rooms → outcome (refuses_at 1 0) out ≡ batch_call limits rooms table batch out
  unfolding batch_answer batch_given
  no_room h = sym (call-is limits rooms table batch out (refuses_at 1 0) (rw (in-range limits is-allowed, sym h)))

  module _ (room : true ≡ have_room rooms) where
    module _ (name : Text) (ps : List ℕ) {read : std.Option (std.Option TypeIndex)} (says : TableSays (table_of table) table name ps read) where
      pub no_table : read ≡ None → outcome (refuses_at 2 0) out ≡ batch_call limits rooms table batch out
      unfolding batch_answer batch_asked batch_given
      no_table h =
          sym (call-is limits rooms table batch out (refuses_at 2 0)
          (rw (in-range limits is-allowed, sym room, table-refused table name ps read says h)))

      module _ {found : std.Option TypeIndex} (table-read : read ≡ Some found) {r : std.Option BatchIndex} (reads : BatchReads (batch_of batch) batch r) where
        pub no-frame : r ≡ None → outcome (refuses_at 9 0) out ≡ batch_call limits rooms table batch out
        unfolding batch_answer batch_asked batch_given
        no-frame h =
            sym (call-is limits rooms table batch out (refuses_at 9 0)
            (rw (in-range limits is-allowed, sym room, (table_got table name ps read says table-read).is, unframed batch reads h)))

        module _ {x : BatchIndex} (frame-read : r ≡ Some x) where
          abbrev the-table : TableSaid (table_of table) table name ps found
          the-table = table-said table batch name ps says table-read reads frame-read

          abbrev the-frame : BatchStands (batch_of batch) batch x
          the-frame = frame-stands table batch name ps says table-read reads frame-read

          asked_is : (a : Answer) → batch_given (all-given limits the-table.what the-frame.what) ≡ a →
              batch_call limits rooms table batch out ≡ outcome a out
          asked_is a e =
              call-is limits rooms table batch out a
              (all-asked-is is-allowed rooms table batch (sym room) the-table.what the-table.is the-frame.what the-frame.is ∙ e)

          pub refused-events :
              {n i : ℕ} →
              ((ts : Table) (ss : List (List ℕ)) → table_of table ≡ some ts → BatchIs batch ss x → events_together ts ss ≡ refused_at n i) →
              outcome (refuses_at n i) out ≡ batch_call limits rooms table batch out
          refused-events {n} {i} answers =
              let e = answers the-table.what the-frame.what the-table.is the-frame.stands in
              sym (asked_is (refuses_at n i) (given-refused limits the-table.what the-frame.what n i e))

          pub combined-events :
              {t : TypeIndex} → AnswersEvents table batch x ps (Ok t) → (b : Result ℕ BatchRefusal) (r : Result ℕ Refusal) {after : List ℕ} →
              batch_replied b ≡ placed_reply (replied r) →
              ((ts : Table) (ss : List (List ℕ)) → Agreed table batch x ts ss → replies r after ≡ outcome (combined_answer limits ts ss) out) →
              batch_replies b after ≡ batch_call limits rooms table batch out
          combined-events answers b r e all =
              let agreed = (answers the-table.what the-frame.what the-table.is the-frame.stands).is in
              let told = all the-table.what the-frame.what (record { is_table = the-table.is; is_batch = the-frame.stands; agreed = agreed }) in
              placed-replies b r _ out _ e told ∙ sym
              (asked_is (placed (combined_answer limits the-table.what the-frame.what)) (given-placed limits the-table.what the-frame.what agreed))

-- ---- the batch gives the rule over its events

-- A batch whose questions 18, 1, 2, 9 and 3 to 7 are answered yes
module _ (limits : Limits) (permitted : Permitted limits) (rooms : Rooms) (table batch out : List ℕ) (ts : Table) (ss : List (List ℕ))
    (room : have_room rooms ≡ true) (is_table : table_of table ≡ some ts) (is_batch : batch_of batch ≡ some ss)
    (agreed : events_together ts ss ≡ accepted tt) where
  abbrev these : Known ts ss
  these = known ts ss agreed

  -- the type and the source of its events, and the rule over them
  abbrev pub batch_type : EventType
  batch_type = these.type

  abbrev pub batch_source : Text
  batch_source = these.source

  abbrev pub batch_rule : Dossier
  batch_rule = rule (byte_view batch_type) ss

  all-combined : batch_answer limits rooms table batch
      ≡ placed (answer_for (limited limits (type_view batch_type) (λ d. dossier_bytes (headed batch_type.name batch_source d)) batch_rule))
  all-combined =
      all-asked-is permitted rooms table batch room ts is_table ss is_batch
      ∙ (given-placed limits ts ss agreed
      ∙ ap placed (combined-is limits permitted table ts is_table ss these ss (known-has ts ss agreed) these.each))

  -- "Is the rule .. (of a batch: over all its events) inside the limits? 8": it gives the bytes of the rule over all its events, or is refused with 8
  -- and the position 0
  pub batch-rule :
      batch_call limits rooms table batch out
      ≡ outcome
      (cond (fits limits (type_view batch_type) batch_rule) (gives (dossier_bytes (headed batch_type.name batch_source batch_rule))) (refuses_at 8 0)) out
  unfolding limited
  batch-rule =
      let bytes = dossier_bytes (headed batch_type.name batch_source batch_rule) in
      call-is limits rooms table batch out _ (all-combined ∙ placed-limited (fits limits (type_view batch_type) batch_rule) bytes)

  -- "A batch gives one dossier: all its events but the last are combined first, then the last is added." It answers what that way answers, on any
  -- buffers with room
  pub batch-way : (checked combined : ℕ → List ℕ) → ((i : ℕ) → HasRoom (checked i)) → ((i : ℕ) → HasRoom (combined i)) →
      batch_call limits rooms table batch out
      ≡ outcome (placed (answer_for (way_answer limits table (ways.batch (λ i. get_or ss i []) checked combined (length ss - 1))))) out
  unfolding way_answer byte-calls
  batch-way checked combined f g =
      let n = length ss - 1 in
      let long : length ss ≡ suc n = omega (arith, has-length ss (known-has ts ss agreed)) in
      let all : first_events (λ i. get_or ss i []) n ≡ ss = upto-list ss [] n long in
      let c = byte-calls limits permitted table ts is_table batch_type batch_source these.first these.model in
      let way = batch-answer limits (byte_view batch_type) c (λ i. get_or ss i []) checked combined n (rw all these.each) f g in
      call-is limits rooms table batch out _
      (all-combined
      ∙ ap (λ (w : ways.Reply (List ℕ)). placed (answer_for w))
      (sym (way ∙ ap (λ (es : List (List ℕ)).
      limited limits (type_view batch_type) (λ d. dossier_bytes (headed batch_type.name batch_source d)) (rule (byte_view batch_type) es)) all)))
