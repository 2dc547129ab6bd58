-- The laws of reading a whole event: its head, its presence number and its sets.
use mathlib.Core.Path.{◌≡◌, refl, sym, ap, ◌∙◌, subst}
use mathlib.Core.Bool.{Bool, true, false}
use mathlib.Core.Option.{Option, none, some}
use mathlib.Core.List.{List, [], ◌∷◌, ◌++◌, append_assoc, append-nil}
use Prim.Native.Nat.{ℕ, ◌-◌, ◌^◌, ◌≤◌, ◌<◌}
use native.Mathlib.Omega.{arith}
use lib.Dec.{leb}
use lib.ListN.{length, take, drop, drop_of_length-le}
use borrow.Author.Tests.{le-leb, lt-leb, lt-ltb, le-ltb}
use Rattle.model.specs.Order.{Text}
use Rattle.model.proofs.Cases.{never}
use Rattle.packed.specs.Parse.{Parse, fail, got, and_then, found_if, whole}
use Rattle.packed.specs.Packed.{number, read_number}
use Rattle.packed.specs.code.Located.{number_at}
use Rattle.packed.proofs.LayoutLaws.{number-was}
use Rattle.packed.proofs.ReadLaws.{drop-next, NumberStops, stretch}
use Rattle.event.specs.Event.{Event, object_count}
use Rattle.event.specs.Head.{Head, read_head, head_bytes}
use Rattle.event.specs.EventLayout.{read_bits, read_sets, Counts, read_event, event_of, sets_bytes}
use Rattle.event.specs.code.EventIndex.{SetsStop, SetsReads, HeadStops, HeadReads, EventIs, EventStands, EventReads}
use Rattle.event.proofs.AnswerLaws.{number-got}
use Rattle.event.proofs.HeadLaws.{head-reads, head-refused}
use Rattle.event.proofs.SetLaws.{sets-read}
use Rattle.event.proofs.HeadLayoutLaws.{head-was}
use Rattle.event.proofs.EventLayoutLaws.{read_body, sets-was}
use Rattle.event.specs.declared.head.HeadAt.{HeadAt}
use Rattle.event.specs.declared.read.EventIndex.{EventIndex}
use Rattle.std.specs.Prelude.{Some, None}
use Rattle.std.specs.Prelude as std
use Rattle.event.specs.declared.sets.SetsRead.{SetsRead}

-- ---- the head, and what follows it

-- the bytes of a head
pub head_bytes_lem : (most : ℕ) (s : List ℕ) (h : HeadAt) (w : HeadStops (read_head most s) s h) → s ≡ head_bytes w.what ++ drop h.parents.end s
head_bytes_lem most s h w = (head-was most s w.what (drop h.parents.end s) w.is).0

-- ---- the event

event-then : (counts : Counts) (s : List ℕ) → read_event counts s ≡ and_then (read_head counts.parents s) (read_body counts)
unfolding read_event
event-then counts s = refl

-- the event of a head and of these sets, where they are not too many
abbrev event-of : Counts → Head → List (List Text) → List ℕ → Parse Event
event-of counts h xs = found_if (leb (object_count xs) counts.objects) (record { head = h; sets = xs })

-- the head and its presence number are read, and the sets are left
pub record BodyAt (counts : Counts) (s : List ℕ) (h : HeadAt) (n next : ℕ) : Type 0 where
  head : HeadStops (read_head counts.parents s) s h
  number : NumberStops s h.parents.end n next
  small : n < 2 ^ 32
  after : read_event counts s ≡ and_then (read_sets 32 n (drop next s)) (event-of counts head.what)

module _
    (counts : Counts) (s : List ℕ) {most : ℕ} (few : most ≡ counts.parents) (r : std.Option HeadAt)
    (most-told : HeadReads (read_head most s) s r) where
  told : HeadReads (read_head counts.parents s) s r
  told = subst (λ (n : ℕ). HeadReads (read_head n s) s r) few most-told

  pub no-head : r ≡ None → event_of counts s ≡ none
  unfolding event_of
  no-head is = rw (event-then counts s, head-refused s is told)

  module _ {h : HeadAt} (is : r ≡ Some h) where
    w : HeadStops (read_head counts.parents s) s h
    w = head-reads is told

    after-head : read_event counts s ≡ read_body counts w.what (drop h.parents.end s)
    after-head = event-then counts s ∙ ap (λ (p : Parse Head). and_then p (read_body counts)) w.is

    pub no-presence : read_number (drop h.parents.end s) ≡ fail → event_of counts s ≡ none
    unfolding event_of read_bits
    no-presence e = rw (after-head, e)

    module _ {n next : ℕ} {a : std.Option (ℕ × ℕ)} (number-told : a ≡ number_at s h.parents.end) (number_is : a ≡ Some (n, next)) where
      m : NumberStops s h.parents.end n next
      m = number-got number-told number_is

      pub presence-large : 2 ^ 32 ≤ n → event_of counts s ≡ none
      unfolding event_of read_bits
      presence-large k = rw (after-head, m.is, le-ltb n (2 ^ 32) k)

      pub body_at : n < 2 ^ 32 → BodyAt counts s h n next
      unfolding read_bits
      body_at small = record { head = w; number = m; small = small; after = rw (after-head, m.is, lt-ltb n (2 ^ 32) small) }

module _ {counts : Counts} {s : List ℕ} {h : HeadAt} {n next : ℕ} (b : BodyAt counts s h n next) where
  pub no-sets : read_sets 32 n (drop next s) ≡ fail → event_of counts s ≡ none
  unfolding event_of
  no-sets e = rw (b.after, e)

  module _
      (ats : List ℕ) {read : SetsRead} {x : std.Option SetsRead}
      (sets-told : SetsReads (read_sets 32 n (drop next s)) s ats x) (sets-is : x ≡ Some read) where
    t : SetsStop (read_sets 32 n (drop next s)) s ats read.next read.objects
    t = sets-read sets-is sets-told

    after-sets : (l : List ℕ) → drop read.next s ≡ l → read_event counts s ≡ event-of counts b.head.what t.what l
    after-sets l e = b.after ∙ ap (λ (p : Parse (List (List Text))). and_then p (event-of counts b.head.what)) (t.is ∙ ap (got t.what) e)

    pub early : (read.next ≡ length s → ⊥) → event_of counts s ≡ none
    unfolding event_of
    early ne =
        let k : read.next < length s = omega (arith, t.within, ne) in
        ap whole (after-sets _ (drop-next s read.next k)) ∙ go (leb (object_count t.what) counts.objects) _ _ _
      where
        go : (b : Bool) (e : Event) (y : ℕ) (l : List ℕ) → whole (found_if b e (y ∷ l)) ≡ none
        go true e y l = refl
        go false e y l = refl

    module _ (whole-read : read.next ≡ length s) {most : ℕ} (limit : most ≡ counts.objects) where
      at-end : drop read.next s ≡ []
      at-end = let l : length s ≤ read.next = omega arith in drop_of_length-le s l

      pub many : most < read.objects → event_of counts s ≡ none
      unfolding event_of
      many k =
          let l : counts.objects < object_count t.what = omega (arith, t.summed) in
          rw (after-sets [] at-end, lt-leb _ _ l)

      pub event-found :
          read.objects ≤ most →
          EventStands (event_of counts s) s ats (record { head = h; presence = n; after_presence = next; objects = read.objects })
      unfolding event_of
      event-found k =
          let w = b.head in
          let m = b.number in
          let l : object_count t.what ≤ counts.objects = omega (arith, t.summed) in
          let x = sets-was 32 n (drop next s) t.what (drop read.next s) b.small t.is in
          let front : drop 0 s ≡ (head_bytes w.what ++ number n) ++ drop next s =
          head_bytes_lem counts.parents s h w
          ∙ ap (λ (l : List ℕ). head_bytes w.what ++ l) (number-was (drop h.parents.end s) n (drop next s) m.is).0
          ∙ sym (append_assoc (head_bytes w.what) (number n) (drop next s)) in
          let zero : next ≡ next - 0 = omega arith in
          record {
            what = record { head = w.what; sets = t.what };
            is = rw (after-sets [] at-end, le-leb _ _ l);
            stands = record {
              head = w.stands;
              presence = sym x.present;
              front = ap (λ (i : ℕ). take i s) zero ∙ (stretch s (head_bytes w.what ++ number n) 0 next (omega arith) m.within front).0;
              rest = x.bytes ∙ ap (λ (l : List ℕ). sets_bytes t.what ++ l) at-end ∙ append-nil (sets_bytes t.what);
              within = m.within;
              objects = t.summed;
              sets = t.stands;
            };
          }

-- ---- what a caller of `read_event` has, where the bytes are known to be the event e

pub event-there :
    (o : Option Event) (s ats : List ℕ) (r : std.Option EventIndex) (e : Event) →
    o ≡ some e → EventReads o s ats r → (x : EventIndex) × (r ≡ Some x) × EventIs s e x ats
event-there o s ats (Some x) e h w = let k : w.what ≡ e = cc (w.is) in (x, refl, subst (λ (u : Event). EventIs s u x ats) k w.stands)
event-there o s ats None e h w = never (cc)
