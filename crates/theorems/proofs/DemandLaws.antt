-- Demand 3 of every whole way, and demand 2's last line: a dossier of one event opens as that event.
use mathlib.Core.Path.{◌≡◌, refl, sym, ap, ◌∙◌}
use mathlib.Core.Logic.{◌↔◌}
use mathlib.Core.Option.{some}
use mathlib.Core.List.Memᴰ
use mathlib.Core.List.{List, [], ◌∷◌, Memᴰ}
use Prim.Native.Nat.{ℕ, ◌≤◌}
use lib.ListN.{length, take, drop}
use lib.Dec.{leb}
use lib.Seq.{take-append_seam}
use borrow.Author.Tests.{leb-true}
use Rattle.model.specs.Order.{Text, texts}
use Rattle.model.specs.Keyed.{put}
use Rattle.model.specs.Sets.{canon}
use Rattle.model.specs.Rule.{places, Dossier, rule}
use Rattle.model.specs.Limits.{Limits, Permitted}
use Rattle.model.specs.Opening.{Opened, finds, conflict_at, merged, opening}
use Rattle.model.specs.Ways.{Way, leaf, wrote, events, buffers, event_set, calls, limited}
use Rattle.model.proofs.Cases.{never}
use Rattle.model.proofs.SetLaws.{rising-ups}
use Rattle.model.proofs.PartLaws.{map-get_d}
use Rattle.model.proofs.DossierLaws.{rule-one}
use Rattle.model.proofs.OpeningLaws.{opening-one}
use Rattle.model.proofs.WayClaims.{WholeDemand3}
use Rattle.model.proofs.WayLaws as model
use Rattle.model.proofs.WayLaws.{has-event}
use Rattle.replies.specs.Answers as answers
use Rattle.replies.specs.Questions.{Asked, refused, accepted, ask}
use Rattle.replies.specs.Capacities.{dossier_capacity, hash_text_capacity}
use Rattle.replies.specs.Answers.{Answer, gives, refuses, refuses_at, answer, reply_of, laid, outcome}
use Rattle.replies.proofs.QuestionLaws.{asked-then, ask-some, ensured}
use Rattle.ontology.specs.Table.{EventType, Table}
use Rattle.ontology.specs.TableLayout.{table_of}
use Rattle.ontology.proofs.TableLaws.{TypeKept, table-type}
use Rattle.event.specs.Event.{Event, type_view, event_view, view}
use Rattle.event.specs.EventLayout.{narrow, event_bytes}
use Rattle.event.specs.EventQuestions.{Typed, event_asked}
use Rattle.event.proofs.EventLayoutLaws.{event-was}
use Rattle.event.proofs.EventQuestionLaws.{EventAccepted, event-accepted, EventFits, event-fits, set-rises, least-few, single-few}
use Rattle.dossier.specs.DossierLayout.{Headed, headed}
use Rattle.hashing.specs.HashText.{event_text}
use Rattle.hashing.specs.HashCalls.{hash_text_answer, hash_text_call}
use Rattle.combining.specs.CheckCall.{check_asked, check_answer, check_call}
use Rattle.opening.specs.OpenCall.{merged_event, opened_answer, open_answer, open_call}
use Rattle.ways.specs.ByteWays.{event_or, event_at, byte_view, returned, way_answer, HasRoom}
use Rattle.ways.proofs.CallLaws.{rule-bytes, Colliding, byte-calls, byte-texts}
use Rattle.theorems.specs.Demand3.{Given, way_rule, way_dossier, Demand3, OpensAsItself}

-- a reply tells its answer
reply-conflict : (a : Answer) (v p : ℕ) → (reply_of a ≡ answers.Reply.found (conflict_at v p)) ↔ (a ≡ Answer.finds (conflict_at v p))
reply-conflict (gives x) v p = (λ e. never (cc), λ e. never (cc))
reply-conflict (Answer.finds f) v p = (λ e. cc, λ e. cc)
reply-conflict (refuses n) v p = (λ e. never (cc), λ e. never (cc))
reply-conflict (refuses_at n i) v p = (λ e. never (cc), λ e. never (cc))

-- a call that is done gave bytes, which are the first of its output
done-gives : (a : Answer) (n : ℕ) (out : List ℕ) → reply_of a ≡ answers.Reply.done n →
    (x : List ℕ) × (a ≡ gives x) × (take n (laid a out) ≡ x)
done-gives (gives x) n out e = let q : n ≡ length x = cc in (x, refl, rw q (take-append_seam x (drop (length x) out)))
done-gives (Answer.finds f) n out e = never (cc)
done-gives (refuses m) n out e = never (cc)
done-gives (refuses_at m i) n out e = never (cc)

-- opening gives bytes only for a merged event
gives-merged : (h : Headed) (o : Opened) (x : List ℕ) → opened_answer h o ≡ gives x → (ss : List (List Text)) × (o ≡ merged ss)
unfolding opened_answer
gives-merged h (finds f) x e = never (cc)
gives-merged h (merged ss) x e = (ss, refl)

module _ (limits : Limits) (permitted : Permitted limits) (table : List ℕ) (w : Way (List ℕ) (List ℕ)) (g : Given table w) where
  abbrev t : EventType
  t = g.type

  -- an event of the way, whose match values all have
  abbrev first : List ℕ
  first = (has-event w).0

  colliding : (s : List ℕ) → Memᴰ s (events w) → Colliding g.types t g.source first s
  colliding s m = record { taken = g.is_accepted s m; source = g.same_source s m; alike = g.same_match s first m (has-event w).1 }

  -- the model's theorem, of these calls
  whole : WholeDemand3 _ (byte-texts limits permitted table g.types g.is_table t g.source first (colliding first (has-event w).1)) texts w
  whole = model.whole-demand3 limits (byte_view t) _ texts w colliding g.have_room _

  opens-to : (d out : List ℕ) → way_answer limits table w ≡ wrote d → HasRoom out →
      open_answer limits (length out) table d ≡ opened_answer (way_dossier table w g) (opening (type_view t) (way_rule table w g))
  unfolding way_answer byte-calls
  opens-to d out e r = whole.dossier.opened out d r e

  texts-of :
      (d out : List ℕ) (n : ℕ) → way_answer limits table w ≡ wrote d → HasRoom out →
      reply_of (open_answer limits (length out) table d) ≡ answers.Reply.done n →
      (text : List ℕ) → hash_text_capacity ≤ length text → (s : List ℕ) → Memᴰ s (events w) →
      (hash_text_call table s text ≡ outcome (gives (event_text t (event_at s))) text)
      × (hash_text_call table (take n (laid (open_answer limits (length out) table d) out)) text ≡ hash_text_call table s text)
  unfolding way_answer byte-calls byte-texts hash_text_call
  texts-of d out n e r o text l s m =
      let (x, a, b) = done-gives (open_answer limits (length out) table d) n out o in
      let (ss, q) = gives-merged (way_dossier table w g) (opening (type_view t) (way_rule table w g)) x (sym (opens-to d out e r) ∙ a) in
      let (of_merged, of_event) = whole.hashes out text d ss s r l e q m in
      let y : hash_text_answer (length text) table x ≡ gives (event_text t (event_at s)) = rw a at of_merged in
      (ap (λ (z : Answer). outcome z text) of_event, rw b (ap (λ (z : Answer). outcome z text) (y ∙ sym of_event)))

  pub demand3 : Demand3 table w g limits
  unfolding way_answer byte-calls limited open_call opened_answer
  demand3 = record {
    result = whole.dossier.result;
    refused_exactly = whole.dossier.refused;
    refused_only = whole.dossier.only_eight;
    however = whole.dossier.however;
    opened = λ d out e r. ap (λ (a : Answer). outcome a out) (opens-to d out e r);
    conflicts = λ d out e r v p.
        let told = reply-conflict (open_answer limits (length out) table d) v p in
        let k = whole.dossier.conflicts out d r e v p in
        (λ h. k.0 (told.0 h), λ h. told.1 (k.1 h));
    agrees = λ d out e r.
        let told = reply-conflict (open_answer limits (length out) table d) in
        let k = whole.dossier.agrees out d r e in
        (λ h. k.0 (λ v p q. h v p ((told v p).1 q)), λ h v p q. k.1 h v p ((told v p).0 q));
    hashed = texts-of;
  }

module _
    (limits : Limits) (permitted : Permitted limits) (table event : List ℕ) (types : Table) (a : Typed) (is_table : table_of table ≡ some types)
    (taken : event_asked narrow types event ≡ accepted a) where
  abbrev kind : EventType
  kind = a.type

  abbrev it : Event
  it = a.event

  facts : EventAccepted narrow types event kind it
  facts = event-accepted narrow types event kind it taken

  itself : event_at event ≡ it
  unfolding event_or
  itself = rw facts.read

  fitting : EventFits kind it
  fitting = event-fits types event kind it facts

  kept : TypeKept kind
  kept = table-type table types is_table it.head.type kind facts.typed

  -- the way of one call
  alone : (out : List ℕ) → HasRoom out → Given table (leaf out event)
  unfolding events buffers
  alone out r = record {
    types = types;
    type = kind;
    source = it.head.source;
    is_table = is_table;
    is_accepted = λ s m. rw (Memᴰ.eq_of_singleton m, itself) taken;
    same_source = λ s m. rw (Memᴰ.eq_of_singleton m, itself);
    same_match = λ s x m n p q at y. rw (Memᴰ.eq_of_singleton m, Memᴰ.eq_of_singleton n);
    have_room = λ o m. rw (Memᴰ.eq_of_singleton m) r;
  }

  -- the rule over the event is that event's dossier, and opens as its sets
  alone-rule : rule (byte_view kind) (event ∷ []) ≡ rule (view kind) (it ∷ [])
  alone-rule = rule-bytes kind (event ∷ []) ∙ ap (λ (e : Event). rule (view kind) (e ∷ [])) itself

  alone-parents : (rule (byte_view kind) (event ∷ [])).parents ≡ it.head.parents
  unfolding type_view event_view
  alone-parents = ap (λ (x : Dossier). x.parents)
      (alone-rule ∙ rule-one (view kind) it (λ p l. set-rises kind it fitting p) (λ p l. least-few kind it kept fitting p)
      ((rising-ups texts it.head.parents).0 fitting.written.head.parents.rises))

  alone-opens : opening (type_view kind) (rule (byte_view kind) (event ∷ [])) ≡ merged it.sets
  unfolding type_view event_view places
  alone-opens =
      ap (opening (type_view kind)) alone-rule
      ∙ (opening-one (view kind) it (λ p l. set-rises kind it fitting p) (λ p l. least-few kind it kept fitting p) (λ p l. single-few kind it fitting p)
      ∙ ap merged (map-get_d it.sets [] 32 fitting.written.sets.long))

  alone-gives :
      opened_answer (headed kind.name it.head.source (rule (byte_view kind) (event ∷ [])))
      (opening (type_view kind) (rule (byte_view kind) (event ∷ []))) ≡ gives event
  unfolding opened_answer merged_event
  alone-gives =
      ap (opened_answer (headed kind.name it.head.source (rule (byte_view kind) (event ∷ [])))) alone-opens
      ∙ ap gives (ap event_bytes (λ i. record {
        head = record { type = sym fitting.named i; source = it.head.source; parents = alone-parents i };
        sets = it.sets;
      })
      ∙ sym (event-was narrow event it facts.read).0)

  opens-alone :
      (d out old : List ℕ) → HasRoom out → HasRoom old → returned (check_call table event out) ≡ wrote d →
      open_call limits table d old ≡ outcome (gives event) old
  unfolding way_answer calls events event_set canon put alone
  opens-alone d out old r o e =
      (demand3 limits permitted table (leaf out event) (alone out r)).opened d old e o ∙ ap (λ (x : Answer). outcome x old) alone-gives

-- a call that returned a dossier was answered yes to its questions
returned-accepted : (q : Asked (List ℕ)) (out d : List ℕ) → returned (outcome (answer q) out) ≡ wrote d → (x : List ℕ) × (q ≡ accepted x)
returned-accepted (refused n) out d e = never (cc)
returned-accepted (accepted x) out d e = (x, refl)

-- checking returns a dossier only where the output has room, and of an event that is accepted under a table
pub check-accepted :
    (table event out d : List ℕ) → returned (check_call table event out) ≡ wrote d →
    HasRoom out × (types : Table) × (a : Typed) × (table_of table ≡ some types) × (event_asked narrow types event ≡ accepted a)
unfolding check_call check_answer check_asked
check-accepted table event out d e =
    let (x, q) = returned-accepted _ out d e in
    let (room, q) = ensured 1 (leb dossier_capacity (length out)) _ x q in
    let (types, is_table, q) = asked-then (ask 2 (table_of table)) _ x q in
    let (a, taken, given) = asked-then (event_asked narrow types event) _ x q in
    (leb-true dossier_capacity (length out) room, types, a, ask-some 2 (table_of table) types is_table, taken)

-- "A dossier of one event opens as that event, byte for byte."
pub opens-as-itself : (limits : Limits) → Permitted limits → (table event : List ℕ) → OpensAsItself limits table event
opens-as-itself limits permitted table event = record {
  opens = λ d out old r o e.
      let (room, types, a, is_table, taken) = check-accepted table event out d e in
      opens-alone limits permitted table event types a is_table taken d out old r o e;
}
