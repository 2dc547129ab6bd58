-- The laws of the call check an event.
use mathlib.Core.Path.{◌≡◌, refl, sym, ap, ap₂, ◌∙◌, subst}
use mathlib.Core.Option.{Option, none, some}
use Rattle.std.specs.Prelude.{Some, Ok, Err}
use Rattle.std.specs.Prelude as std
use Rattle.std.specs.Option.{IsSome}
use mathlib.Core.List.{List, [], ◌∷◌, ◌++◌, map, flatten, append-nil}
use Prim.Native.Nat.{ℕ, ◌+◌, ◌-◌, ◌≤◌, ◌<◌}
use native.Mathlib.Omega.{arith}
use lib.ListN.{length, drop, length-append}
use Rattle.model.specs.Order.{Text, texts}
use Rattle.model.specs.Sets.{up_to}
use Rattle.model.specs.Rule.{holds, places, Snapshot, Dossier, rule}
use Rattle.model.specs.Opening.{held}
use Rattle.model.proofs.Cases.{never}
use Rattle.model.proofs.SetLaws.{rising-ups}
use Rattle.model.proofs.PartLaws.{map-get_d}
use Rattle.model.proofs.DossierLaws.{rule-one}
use Rattle.packed.specs.Packed.{number}
use Rattle.packed.specs.code.Written.{Wrote}
use Rattle.packed.proofs.LayoutLaws.{number-bounds, number-length-1, number-length-5}
use Rattle.packed.proofs.WriteLaws.{wrote-between}
use Rattle.replies.specs.Questions.{Asked, refused, accepted, ◌>>=◌, ask}
use Rattle.replies.specs.Capacities.{dossier_capacity}
use Rattle.replies.proofs.CapacityLaws.{has_room_lem, too_small}
use Rattle.replies.specs.Replies.{refusal_number, replies}
use Rattle.replies.specs.declared.reply.Refusal.{Refusal}
use Rattle.replies.specs.declared.reply.Refusal.TheVariants.{SmallBuffer}
use Rattle.ontology.specs.Table.{EventType, Table}
use Rattle.ontology.specs.TableLayout.{table_of}
use Rattle.ontology.specs.declared.types.TypeIndex.{TypeIndex}
use Rattle.ontology.proofs.TableLaws.{TypeKept, table-type, place_in}
use Rattle.event.specs.Event.{Event, set_at, type_view, event_view, view, version_of, object_count}
use Rattle.event.specs.EventLayout.{narrow, wide, event_of, presence_bit, bit_number, sets_bytes}
use Rattle.event.specs.EventQuestions.{Typed, event_asked}
use Rattle.event.specs.code.EventIndex.{event_questions, EventIs, EventReads}
use Rattle.event.specs.code.EventIndex as index
use Rattle.event.specs.declared.read.EventIndex.{EventIndex}
use Rattle.event.proofs.EventLayoutLaws.{EventWritten, written-larger, presence-below}
use Rattle.event.proofs.EventSizeLaws.{sets-size, each_within, event-short}
use Rattle.event.proofs.EventQuestionLaws.{EventAccepted, event-accepted, EventFits, event-fits, set-rises, least-few, version-set, version_below}
use Rattle.event.proofs.EventReadLaws.{event-there}
use Rattle.dossier.specs.DossierBody.{differ_bit, snapshot_bytes, body_bytes}
use Rattle.dossier.specs.DossierLayout.{dossier_bytes, headed}
use Rattle.dossier.specs.DossierHead.{dossier_head_bytes}
use Rattle.dossier.proofs.DossierHeadLaws.{dossier-head-size}
use Rattle.combining.specs.CheckCall.{event_dossier, check_asked, check_answer, check_call}
use Rattle.combining.specs.code.CheckIndex.{alone_bytes, lone_bytes, Checkable, LoneRoom, KnownEvent}
use Rattle.combining.specs.code.AddIndex.{bytes_of, Measured, alone}

-- ---- the bytes of one event's dossier

-- cells that hold sets have those sets and no mark
pub sets-held : (f : ℕ → List Text) (ps : List ℕ) → map held (map (λ p. holds (f p)) ps) ≡ map f ps
unfolding held
sets-held f [] = refl
sets-held f (p ∷ ps) = ap (λ (ss : List (List Text)). f p ∷ ss) (sets-held f ps)

pub none_differ : (f : ℕ → List Text) (ps : List ℕ) → bit_number (map differ_bit (map (λ p. holds (f p)) ps)) ≡ 0
unfolding differ_bit bit_number
none_differ f [] = refl
none_differ f (p ∷ ps) = omega (arith, none_differ f ps)

module _ (t : EventType) (e : Event) (k : TypeKept t) (a : EventFits t e) where
  abbrev lone : Dossier
  lone = record { parents = e.head.parents; snapshots = alone (record { type = t; event = e }) ∷ [] }

  lone-rule : rule (view t) (e ∷ []) ≡ lone
  unfolding type_view event_view places
  lone-rule =
      rule-one (view t) e (λ p l. set-rises t e a p) (λ p l O c. least-few t e k a p O c)
      ((rising-ups texts e.head.parents).0 a.written.head.parents.rises)

  pub lone-snapshots : (event_dossier (record { type = t; event = e })).snapshots ≡ alone (record { type = t; event = e }) ∷ []
  unfolding event_dossier
  lone-snapshots = ap (λ (d : Dossier). d.snapshots) lone-rule

  pub lone-head : (event_dossier (record { type = t; event = e })).head ≡ e.head
  unfolding event_dossier
  lone-head = ap (λ (d : Dossier). record { type = e.head.type; source = e.head.source; parents = d.parents }) lone-rule

  pub lone-sets : map held (map (λ p. holds (set_at e p)) (up_to 32)) ≡ e.sets
  lone-sets = sets-held (set_at e) (up_to 32) ∙ map-get_d e.sets [] 32 a.written.sets.long

  pub alone-bytes : snapshot_bytes (alone (record { type = t; event = e })) ≡ alone_bytes e (version_of t e)
  unfolding snapshot_bytes
  alone-bytes =
      ap₂ (λ (ss : List (List Text)) (n : ℕ). number (version_of t e) ++ number (bit_number (map presence_bit ss)) ++ number n ++ sets_bytes ss)
      lone-sets (none_differ (set_at e) (up_to 32))

  one-snapshot : bytes_of (alone (record { type = t; event = e }) ∷ []) ≡ alone_bytes e (version_of t e)
  unfolding flatten
  one-snapshot = append-nil (snapshot_bytes (alone (record { type = t; event = e }))) ∙ alone-bytes

  pub lone-bytes : dossier_bytes (event_dossier (record { type = t; event = e })) ≡ lone_bytes e (version_of t e)
  unfolding event_dossier dossier_bytes body_bytes lone_bytes
  lone-bytes =
      ap (λ (d : Dossier). dossier_bytes (headed e.head.type e.head.source d)) lone-rule
      ∙ ap (λ (l : List ℕ). dossier_head_bytes e.head ++ (number 1 ++ l)) one-snapshot

-- ---- an accepted event

record OfTable (table event : List ℕ) (a : Typed) : Type 0 where
  what : Table
  is : table_of table ≡ some what
  asked : event_asked narrow what event ≡ accepted a

of-table : (table event : List ℕ) (a : Typed) → event_questions narrow table event ≡ accepted a → OfTable table event a
of-table table event a e = go (table_of table) refl e
  where
    go : (m : Option Table) → table_of table ≡ m → (ask 2 m >>= λ ts. event_asked narrow ts event) ≡ accepted a → OfTable table event a
    go none q e = never (cc)
    go (some ts) q e = record { what = ts; is = q; asked = e }

-- it stands as its index and the numbers of its sets say, and t has the mark of its type
pub record Checked (table event : List ℕ) (t : TypeIndex) (x : EventIndex) (ats : List ℕ) : Type 0 where
  pub type : EventType
  pub e : Event
  pub is : event_questions narrow table event ≡ accepted (record { type = type; event = e })
  pub mark : t.mark ≡ type.mark
  pub read : EventIs event e x ats

-- so where it was asked
abbrev pub asked-checked :
    {table event ps ats : List ℕ} {t : TypeIndex} {x : EventIndex} →
    index.EventAccepted (event_questions narrow table event) table event ps ats t x → Checked table event t x ats
asked-checked a = record { type = a.what.type; e = a.what.event; is = a.is; mark = a.typed.mark; read = a.read }

-- and where it is known to be accepted, once it is read
abbrev pub taken-event :
    {table event : List ℕ} {t : TypeIndex} (k : KnownEvent table event t) {x : EventIndex} {ats : List ℕ} →
    EventIs event k.event.event x ats → Checked table event t x ats
taken-event {table} {event} k w = record {
  type = k.event.type;
  e = k.event.event;
  is = ap (λ (m : Option Table). ask 2 m >>= λ ts. event_asked narrow ts event) k.is ∙ k.asked;
  mark = k.mark;
  read = w;
}

-- r is what the reader of its bytes answers
module _
    {table event : List ℕ} {t : TypeIndex} (k : KnownEvent table event t)
    (ats : List ℕ) (r : std.Option EventIndex) (w : EventReads (event_of narrow event) event ats r) where
  there : (x : EventIndex) × (r ≡ Some x) × EventIs event k.event.event x ats
  there =
      event-there _ event ats r k.event.event (event-accepted narrow k.types event k.event.type k.event.event k.asked).read w

  pub known-some : IsSome r
  known-some = rw there.1 refl

  module _ {x : EventIndex} (h : r ≡ Some x) where
    pub known_read : EventIs event k.event.event x ats
    known_read =
        let same : there.0 ≡ x = cc (there.1, h) in
        subst (λ (y : EventIndex). EventIs event k.event.event y ats) same there.2

    abbrev pub known-checked : Checked table event t x ats
    known-checked = taken-event k known_read

module _ {table event : List ℕ} {t : TypeIndex} {x : EventIndex} {ats : List ℕ} (a : Checked table event t x ats) where
  abbrev from : OfTable table event (record { type = a.type; event = a.e })
  from = of-table table event (record { type = a.type; event = a.e }) a.is

  taken : EventAccepted narrow from.what event a.type a.e
  taken = event-accepted narrow from.what event a.type a.e from.asked

  pub fit : EventFits a.type a.e
  fit = event-fits from.what event a.type a.e taken

  pub kept : TypeKept a.type
  kept = table-type table from.what from.is a.e.head.type a.type taken.typed

  abbrev pub checkable : Checkable event t ats
  checkable = record {
    type = a.type;
    event = a.e;
    mark = a.mark;
    sets = a.read.sets;
    marked =
        λ u. (
          let m = kept.marked u in omega (arith, place_in a.type kept (a.type.mark - 1) m.property m.at),
          version-set a.type a.e kept fit u,
        );
    below = version_below a.type a.e kept fit;
  }

  -- 827 + 1 + 10 + 5 + 1 + 32 * 2 + 32 * 121 = 4,780
  pub lone-short : length (lone_bytes a.e (version_of a.type a.e)) ≤ dossier_capacity
  unfolding lone_bytes narrow wide
  lone-short =
      let e = a.e in
      let w : EventWritten narrow e = fit.written in
      let n : length e.sets ≡ 32 = w.sets.long in
      let o : object_count e.sets ≤ 32 = w.objects in
      let m : length e.head.type ≤ 64 = subst (λ (v : Text). length v ≤ 64) (sym fit.named) kept.short in
      let z : EventWritten wide e = written-larger narrow wide e (omega arith) (omega arith) w in
      let o' : object_count e.sets ≤ 256 = omega arith in
      simp length-append
      (omega (
        arith,
        dossier-head-size e.head z.head m,
        number-length-1 1 (omega arith),
        number-length-1 0 (omega arith),
        number-bounds (version_of a.type e),
        number-length-5 (bit_number (map presence_bit e.sets)) (presence-below e.sets n),
        sets-size e.sets (event-short a.type e taken.shape taken.values) (each_within 256 e.sets o'),
      ))

  pub lone_is : dossier_bytes (event_dossier (record { type = a.type; event = a.e })) ≡ lone_bytes a.e (version_of a.type a.e)
  lone_is = lone-bytes a.type a.e kept fit

  pub lone_room : (version room : ℕ) → version ≡ version_of a.type a.e → dossier_capacity ≤ room → LoneRoom event x ats version room
  lone_room version room q h = record {
    event = a.e;
    read = a.read;
    room = subst (λ (v : ℕ). length (lone_bytes a.e v) ≤ room) (sym q) (omega (arith, lone-short));
  }

  -- the measures of its snapshot are those of its dossier
  pub lone-measured :
      {m : List ℕ} (version : ℕ) {size : ℕ} → version ≡ version_of a.type a.e → length (alone_bytes a.e version) ≡ size →
      ((s : Snapshot) → s.version ≡ version → length (snapshot_bytes s) ≡ size → Measured (s ∷ []) m) →
      Measured (event_dossier (record { type = a.type; event = a.e })).snapshots m
  lone-measured {m} version {size} q long of =
      let s : Snapshot = alone (record { type = a.type; event = a.e }) in
      let n : length (snapshot_bytes s) ≡ size =
      ap length (alone-bytes a.type a.e kept fit) ∙ ap (λ (v : ℕ). length (alone_bytes a.e v)) (sym q) ∙ long in
      subst (λ (ss : List Snapshot). Measured ss m) (sym (lone-snapshots a.type a.e kept fit)) (of s (sym q) n)

-- ---- the questions

module _ (table event : List ℕ) (room : ℕ) where
  asked-small : room < dossier_capacity → check_asked room table event ≡ refused 1
  unfolding check_asked
  asked-small h = rw (too_small dossier_capacity room h)

  asked_is : dossier_capacity ≤ room →
      check_asked room table event ≡ (event_questions narrow table event >>= λ a. accepted (dossier_bytes (event_dossier a)))
  unfolding check_asked
  asked_is h = rw (has_room_lem dossier_capacity room h) (go (table_of table))
    where
      go :
          (m : Option Table) →
          (ask 2 m >>= λ ts. (event_asked narrow ts event >>= λ a. accepted (dossier_bytes (event_dossier a))))
          ≡ ((ask 2 m >>= λ ts. event_asked narrow ts event) >>= λ a. accepted (dossier_bytes (event_dossier a)))
      go none = refl
      go (some ts) = refl

  asked_of :
      (q : Asked Typed) → dossier_capacity ≤ room → event_questions narrow table event ≡ q →
      check_asked room table event ≡ (q >>= λ a. accepted (dossier_bytes (event_dossier a)))
  asked_of q h e = asked_is h ∙ ap (λ (q : Asked Typed). q >>= λ a. accepted (dossier_bytes (event_dossier a))) e

-- ---- the replies

module _ (table event out : List ℕ) where
  pub check-small : length out < dossier_capacity → replies (Err SmallBuffer) out ≡ check_call table event out
  unfolding check_call check_answer
  check-small h = rw (asked-small table event (length out) h)

  pub check-refused :
      (q : Refusal) → dossier_capacity ≤ length out → event_questions narrow table event ≡ refused (refusal_number q) →
      replies (Err q) out ≡ check_call table event out
  unfolding check_call check_answer
  check-refused q h e = rw (asked_of table event (length out) (refused (refusal_number q)) h e)

  pub check_done :
      {t : TypeIndex} {x : EventIndex} {ats : List ℕ} (a : Checked table event t x ats) (new : List ℕ) (n version : ℕ) →
      dossier_capacity ≤ length out →
      version ≡ version_of a.type a.e → Wrote out 0 (lone_bytes a.e version) new n → replies (Ok n) new ≡ check_call table event out
  unfolding check_call check_answer
  check_done a new n version h q w₀ =
      let x = dossier_bytes (event_dossier (record { type = a.type; event = a.e })) in
      let alone = lone_is a in
      let w : Wrote out 0 x new n = subst (λ (z : List ℕ). Wrote out 0 z new n) (ap (lone_bytes a.e) q ∙ sym alone) w₀ in
      let s : 0 + length x ≤ length out = omega (arith, lone-short a, ap length alone) in
      let m : n ≡ length x = omega (arith, w.after) in
      rw (asked_of table event (length out) (accepted (record { type = a.type; event = a.e })) h a.is)
      (ap₂ (λ (k : ℕ) (l : List ℕ). replies (Ok k) l) m (wrote-between s w ∙ ap (λ (k : ℕ). x ++ drop k out) m))
