-- The laws of the calls hash text and hash: what they ask, and what they reply.
use mathlib.Core.Path.{◌≡◌, refl, sym, ap, ap₂, ◌∙◌}
use mathlib.Core.Option.{Option, none, some}
use mathlib.Core.List.{List, [], ◌∷◌, ◌++◌}
use Prim.Native.Nat.{ℕ, suc, ◌+◌, ◌≤◌, ◌<◌}
use native.Mathlib.Omega.{arith}
use lib.ListN.{length, take, drop, get_elem?, length-append}
use lib.Seq.{sets, sets-eq, take_at}
use Rattle.model.proofs.Cases.{never}
use Rattle.packed.specs.code.Written.{Wrote}
use Rattle.packed.proofs.LayoutLaws.{All}
use Rattle.packed.proofs.WriteLaws.{wrote-between}
use Rattle.replies.specs.Answers as answers
use Rattle.replies.specs.Questions.{Asked, refused, accepted, ◌>>=◌, ask}
use Rattle.replies.specs.Answers.{answer, Outcome, outcome}
use Rattle.replies.specs.Capacities.{hash_text_capacity, hash_capacity}
use Rattle.replies.proofs.CapacityLaws.{has_room_lem, too_small}
use Rattle.replies.specs.Replies.{refusal_number, replies}
use Rattle.replies.specs.declared.reply.Refusal.{Refusal}
use Rattle.replies.specs.declared.reply.Refusal.TheVariants.{SmallBuffer}
use Rattle.ontology.specs.Table.{Property, EventType, Table}
use Rattle.ontology.specs.TableLayout.{table_of}
use Rattle.ontology.specs.declared.types.TypeIndex.{TypeIndex}
use Rattle.ontology.proofs.TableLaws.{table-type}
use Rattle.ontology.proofs.TypeIndexLaws.{name-length, properties-rules}
use Rattle.event.specs.Event.{Event}
use Rattle.event.specs.EventLayout.{wide}
use Rattle.event.specs.EventQuestions.{Typed, match_count, event_asked}
use Rattle.event.specs.code.EventIndex.{event_questions, EventAccepted}
use Rattle.event.specs.declared.read.EventIndex.{EventIndex}
use Rattle.event.proofs.EventLayoutLaws.{event-was}
use Rattle.event.proofs.EventSizeLaws.{event-match}
use Rattle.event.proofs.EventQuestionLaws.{event-accepted}
use Rattle.fips180.specs.Fips.{sha1_of}
use Rattle.fips180.proofs.Laws.{length-sha1_of}
use Rattle.hashing.specs.HashText.{event_text}
use Rattle.hashing.specs.HashCalls.{hash_text_asked, hash_text_answer, hash_answer, hash_text_call, hash_call}
use Rattle.hashing.specs.code.HashIndex.{Hashable}
use Rattle.hashing.proofs.HashSizeLaws.{hash-fits}
use Rattle.std.specs.Prelude.{Result, Ok, Err}

-- ---- an accepted event has a hash text

pub all-elements : {A : Type 0} (P : A → Type 0) (xs : List A) → ((i : ℕ) (a : A) → get_elem? xs i ≡ some a → P a) → All P xs
all-elements P [] h = tt
all-elements P (x ∷ xs) h = (h 0 x refl, all-elements P xs (λ i a k. h (suc i) a k))

-- the table that the questions were asked of
record OfTable (table event : List ℕ) (a : Typed) : Type 0 where
  what : Table
  is : table_of table ≡ some what
  asked : event_asked wide what event ≡ accepted a

of-table : (table event : List ℕ) (a : Typed) → event_questions wide table event ≡ accepted a → OfTable table event a
of-table table event a e = go (table_of table) refl e
  where
    go : (m : Option Table) → table_of table ≡ m → (ask 2 m >>= λ ts. event_asked wide ts event) ≡ accepted a → OfTable table event a
    go none q e = never (cc)
    go (some ts) q e = record { what = ts; is = q; asked = e }

-- it has room in the output that document 01 asks for
pub hash-short :
    (table event : List ℕ) (ts : Table) (a : Typed) → table_of table ≡ some ts → event_asked wide ts event ≡ accepted a →
    length (event_text a.type a.event) ≤ hash_text_capacity
hash-short table event ts a t h =
    let w = event-accepted wide ts event a.type a.event h in
    let n = (table-type table ts t a.event.head.type a.type w.typed).short in
    let p : All (λ (q : Property). length q.name ≤ 32) a.type.properties =
    all-elements (λ (q : Property). length q.name ≤ 32) a.type.properties
    (λ i q k. (name-length 32 q.name (properties-rules table a.event.head.type ts a.type t w.typed i q k).name).1) in
    hash-fits a.type a.event (event-was wide event a.event w.read).1 w.shape w.values n p

-- an event that hash text and hash accept
abbrev pub TextAccepted : List ℕ → List ℕ → List ℕ → List ℕ → TypeIndex → EventIndex → Type 0
TextAccepted table event ps ats t e = EventAccepted (event_questions wide table event) table event ps ats t e

pub text-short :
    {table event ps ats : List ℕ} {t : TypeIndex} {e : EventIndex} (a : TextAccepted table event ps ats t e) →
    (match_count a.what.type.properties a.what.event.sets ≤ 32) × (length (event_text a.what.type a.what.event) ≤ hash_text_capacity)
text-short {table} {event} a =
    let o = of-table table event a.what a.is in
    let w = event-accepted wide o.what event a.what.type a.what.event o.asked in
    (event-match a.what.type a.what.event w.shape, hash-short table event o.what a.what o.is o.asked)

abbrev pub hashable :
    {table event ps ats : List ℕ} {t : TypeIndex} {e : EventIndex} → TextAccepted table event ps ats t e → Hashable table event t ps e ats
hashable a =
    let (few, short) = text-short a in
    record { type = a.what.type; event = a.what.event; typed = a.typed; read = a.read; few = few; short = short }

-- ---- the questions

module _ (table event : List ℕ) (least room : ℕ) where
  asked-small : room < least → hash_text_asked least room table event ≡ refused 1
  unfolding hash_text_asked
  asked-small h = rw (too_small least room h)

  asked_is : least ≤ room → hash_text_asked least room table event ≡ (event_questions wide table event >>= λ a. accepted (event_text a.type a.event))
  unfolding hash_text_asked
  asked_is h = rw (has_room_lem least room h) (go (table_of table))
    where
      go :
          (m : Option Table) →
          (ask 2 m >>= λ ts. (event_asked wide ts event >>= λ a. accepted (event_text a.type a.event)))
          ≡ ((ask 2 m >>= λ ts. event_asked wide ts event) >>= λ a. accepted (event_text a.type a.event))
      go none = refl
      go (some ts) = refl

  asked-refused : (n : ℕ) → least ≤ room → event_questions wide table event ≡ refused n → hash_text_asked least room table event ≡ refused n
  asked-refused n h e = asked_is h ∙ ap (λ (q : Asked Typed). q >>= λ a. accepted (event_text a.type a.event)) e

  asked-accepted :
      (t : EventType) (e : Event) → least ≤ room → event_questions wide table event ≡ accepted (record { type = t; event = e }) →
      hash_text_asked least room table event ≡ accepted (event_text t e)
  asked-accepted t e h q = asked_is h ∙ ap (λ (q : Asked Typed). q >>= λ a. accepted (event_text a.type a.event)) q

-- ---- the replies

module _ (table event out : List ℕ) where
  pub text-small : length out < hash_text_capacity → replies (Err SmallBuffer) out ≡ hash_text_call table event out
  unfolding hash_text_call hash_text_answer
  text-small h = rw (asked-small table event hash_text_capacity (length out) h)

  pub text-refused :
      {q : Refusal} {r : Result ℕ Refusal} → hash_text_capacity ≤ length out → event_questions wide table event ≡ refused (refusal_number q) →
      r ≡ Err q → replies r out ≡ hash_text_call table event out
  unfolding hash_text_call hash_text_answer
  text-refused {q} h e k = rw (k, asked-refused table event hash_text_capacity (length out) (refusal_number q) h e)

pub text-done :
    {table event ps ats : List ℕ} {t : TypeIndex} {e : EventIndex} (out : List ℕ) (a : TextAccepted table event ps ats t e) {new : List ℕ} {n : ℕ} →
    hash_text_capacity ≤ length out → Wrote out 0 (event_text a.what.type a.what.event) new n → replies (Ok n) new ≡ hash_text_call table event out
unfolding hash_text_call hash_text_answer
text-done {table} {event} out a {n} h w =
    let x = event_text a.what.type a.what.event in
    let s : 0 + length x ≤ length out = omega (arith, (text-short a).1) in
    let m : n ≡ length x = omega (arith, w.after) in
    rw (asked-accepted table event hash_text_capacity (length out) a.what.type a.what.event h a.is)
    (ap₂ (λ (k : ℕ) (l : List ℕ). replies (Ok k) l) m (wrote-between s w ∙ ap (λ (k : ℕ). x ++ drop k out) m))

-- ---- the replies of hash, which hashes what hash text wrote in an output of its own

pub hash-small : (table event out : List ℕ) → length out < hash_capacity → replies (Err SmallBuffer) out ≡ hash_call table event out
unfolding hash_call hash_answer
hash-small table event out h = rw (asked-small table event hash_capacity (length out) h)

module _ (table event text written : List ℕ) (r : Result ℕ Refusal) (told : replies r written ≡ hash_text_call table event text) where
  pub text-within : {n : ℕ} → r ≡ Ok n → n ≤ length written
  unfolding hash_text_call hash_text_answer
  text-within {n} e = go (hash_text_asked hash_text_capacity (length text) table event) (ap (λ (x : Result ℕ Refusal). replies x written) (sym e) ∙ told)
    where
      go : (q : Asked (List ℕ)) → replies (Ok n) written ≡ outcome (answer q) text → n ≤ length written
      go (refused m) h = let z = ap (λ (x : Outcome). x.reply) h in never (cc)
      go (accepted m) h =
          let z : answers.Reply.done n ≡ answers.Reply.done (length m) = ap (λ (x : Outcome). x.reply) h in
          let k : n ≡ length m = cc in
          omega (arith, ap (λ (x : Outcome). length x.bytes) h, length-append m (drop (length m) text))

  module _ (out : List ℕ) (room : hash_capacity ≤ length out) (text-room : hash_text_capacity ≤ length text) where
    abbrev asked : Asked (List ℕ)
    asked = hash_text_asked hash_capacity (length out) table event

    -- both calls ask the same after question 1
    text-told : {x : Result ℕ Refusal} → r ≡ x → replies x written ≡ outcome (answer asked) text
    unfolding hash_text_call hash_text_answer
    text-told e =
        ap (λ (x : Result ℕ Refusal). replies x written) (sym e)
        ∙ told
        ∙ ap (λ (q : Asked (List ℕ)). outcome (answer q) text)
        (asked_is table event hash_text_capacity (length text) text-room ∙ sym (asked_is table event hash_capacity (length out) room))

    pub hash-refused : {q : Refusal} {x : Result ℕ Refusal} → r ≡ Err q → x ≡ Err q → replies x out ≡ hash_call table event out
    unfolding hash_call hash_answer
    hash-refused {q} e k = rw (k, go asked (text-told e))
      where
        go : (p : Asked (List ℕ)) → replies (Err q) written ≡ outcome (answer p) text → p ≡ refused (refusal_number q)
        go (refused m) h = let z : answers.Reply.refused (refusal_number q) ≡ answers.Reply.refused m = ap (λ (x : Outcome). x.reply) h in cc
        go (accepted m) h = let z = ap (λ (x : Outcome). x.reply) h in never (cc)

    text-front : {n : ℕ} → r ≡ Ok n → asked ≡ accepted (take n written)
    text-front {n} e = go asked (text-told e)
      where
        go : (q : Asked (List ℕ)) → replies (Ok n) written ≡ outcome (answer q) text → q ≡ accepted (take n written)
        go (refused m) h = let z = ap (λ (x : Outcome). x.reply) h in never (cc)
        go (accepted m) h =
            let z : answers.Reply.done n ≡ answers.Reply.done (length m) = ap (λ (x : Outcome). x.reply) h in
            let k : n ≡ length m = cc in
            ap accepted (sym (ap (λ (x : Outcome). take n x.bytes) h ∙ take_at m (drop (length m) text) n (sym k)))

    pub hash-done :
        {n : ℕ} {new : List ℕ} → r ≡ Ok n → new ≡ sets out 0 (sha1_of (take n written)) →
        replies (Ok hash_capacity) new ≡ hash_call table event out
    unfolding hash_call hash_answer
    hash-done {n} e w =
        let x = sha1_of (take n written) in
        let l : length x ≡ 20 = length-sha1_of (take n written) in
        let z : 0 + length x ≡ length x = omega arith in
        rw (text-front e)
        (ap₂ (λ (k : ℕ) (b : List ℕ). replies (Ok k) b) (sym l) (w ∙ sets-eq x out 0 (omega arith) ∙ ap (λ (k : ℕ). x ++ drop k out) z))
