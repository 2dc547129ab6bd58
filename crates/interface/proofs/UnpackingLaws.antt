-- What the macros of include/merger.h give back: of the value call its whole answer, of every other call its reply.
use mathlib.Core.Path.{◌≡◌, refl, sym, ap, ap₂, ◌∙◌}
use mathlib.Core.Logic.{⊎_elim}
use mathlib.Core.List.{List}
use Prim.Native.Nat.{ℕ, zero, suc, ◌+◌, ◌/◌, ◌%◌, ◌^◌, ◌≤◌, ◌<◌}
use native.Mathlib.Omega.{arith}
use lib.ListN.{length}
use Rattle.model.specs.Opening.{Finding, conflict_at, overfull_at, place_of}
use Rattle.packed.specs.Packed.{part}
use Rattle.replies.specs.Answers.{Reply}
use Rattle.replies.specs.Capacities.{dossier_capacity}
use Rattle.event.specs.Value.{Part, StandsIn, value_call}
use Rattle.event.proofs.ValueLaws.{value-stands-in, value-ends}
use Rattle.batch.specs.Taken.{IsNumber, IsNumberOr18, Bounded}
use Rattle.report.proofs.ReportDemandLaws.{report-bounded}
use Rattle.theorems.proofs.ReplyBoundLaws.{replies-bounded}
use Rattle.interface.specs.Packing.{kinded, packed_refusal, packed_finding, packed_as, version_or, version_after, packed_part}
use Rattle.interface.specs.Unpacking.{kind_of, low_of, number_of, position_of, value_length_of, value_start_of}
use Rattle.interface.specs.Unpacking.{TellsFinding, Tells, in_number, CallTold, PartTold, Told}

-- ---- replies

refusal-tells : (n i : ℕ) → n < 2 ^ 8 → i < 2 ^ 24 → Tells 0 (Reply.refused_at n i) (packed_refusal n i)
unfolding packed_refusal kinded
refusal-tells n i h k = (omega arith, omega arith, omega arith)

finding-tells : (f : Finding) → place_of f < 2 ^ 32 → TellsFinding f (packed_finding f)
unfolding place_of packed_finding kinded
finding-tells (conflict_at v p) h = (omega arith, omega arith)
finding-tells (overfull_at p) h = (omega arith, omega arith)

-- numbers that have eight bits
abbrev Small : (ℕ → Type 0) → Type 0
Small Number = (n : ℕ) → Number n → n < 2 ^ 8

small : Small IsNumber
small n h = omega (arith, h.1)

small-or-18 : Small IsNumberOr18
small-or-18 n h = ⊎_elim (small n) (λ (e : n ≡ 18). omega (arith, e)) h

-- A reply whose numbers are bounded is told in full.
reply-tells :
    {Number : ℕ → Type 0} → Small Number → (kind size : ℕ) → size < 2 ^ 32 → (r : Reply) → Bounded Number size r →
    Tells kind r (packed_as kind r)
unfolding Bounded packed_as kinded
reply-tells few kind size l (Reply.done n) h = (omega arith, omega arith)
reply-tells few kind size l (Reply.found f) h = finding-tells f (omega (arith, h))
reply-tells few kind size l (Reply.refused n) h = refusal-tells n 0 (few n h) (omega arith)
reply-tells few kind size l (Reply.refused_at n i) h = refusal-tells n i (few n h.0) (omega (arith, h.1))

-- what a program reads from a number of this kind by the macros; the event version of a conflict is not in the number
unfoldable read_as : ℕ → ℕ → Reply
read_as zero reply = Reply.done (low_of reply)
read_as (suc zero) reply = Reply.done (low_of reply)
read_as (suc (suc zero)) reply = Reply.found (conflict_at 0 (low_of reply))
read_as (suc (suc (suc zero))) reply = Reply.found (overfull_at (low_of reply))
read_as (suc (suc (suc (suc kind)))) reply = Reply.refused_at (number_of reply) (position_of reply)

read_done : (kind reply : ℕ) → kind < 2 → read_as kind reply ≡ Reply.done (low_of reply)
unfolding read_as
read_done zero reply k = refl
read_done (suc zero) reply k = refl
read_done (suc (suc kind)) reply k = absurd (omega arith)

read-refusal : (n i reply : ℕ) → Tells 0 (Reply.refused_at n i) reply → read_as (kind_of reply) reply ≡ Reply.refused_at n i
unfolding read_as
read-refusal n i reply t = ap (λ (k : ℕ). read_as k reply) t.0 ∙ ap₂ Reply.refused_at t.1 t.2

reply-read : (kind : ℕ) → kind < 2 → (r : Reply) (reply : ℕ) → Tells kind r reply → read_as (kind_of reply) reply ≡ in_number r
unfolding read_as
reply-read kind k (Reply.done n) reply t = ap (λ (k : ℕ). read_as k reply) t.0 ∙ read_done kind reply k ∙ ap Reply.done t.1
reply-read kind k (Reply.found (conflict_at v p)) reply t =
    ap (λ (k : ℕ). read_as k reply) t.0 ∙ ap (λ (q : ℕ). Reply.found (conflict_at 0 q)) t.1
reply-read kind k (Reply.found (overfull_at p)) reply t =
    ap (λ (k : ℕ). read_as k reply) t.0 ∙ ap (λ (q : ℕ). Reply.found (overfull_at q)) t.1
reply-read kind k (Reply.refused n) reply t = read-refusal n 0 reply t
reply-read kind k (Reply.refused_at n i) reply t = read-refusal n i reply t

call-told :
    {Number : ℕ → Type 0} → Small Number → {A : Type 0} (kind : ℕ) → kind < 2 → {size : ℕ} {reply : A → Reply} →
    ((a : A) → Bounded Number size (reply a)) → size < 2 ^ 32 → CallTold kind reply
call-told few {A} kind k {size} {reply} h l = record { tells = told; same = λ a b e. sym (read a) ∙ ap (λ (n : ℕ). read_as (kind_of n) n) e ∙ read b }
  where
    told : (a : A) → Tells kind (reply a) (packed_as kind (reply a))
    told a = reply-tells few kind size l (reply a) (h a)

    read : (a : A) → read_as (kind_of (packed_as kind (reply a))) (packed_as kind (reply a)) ≡ in_number (reply a)
    read a = reply-read kind k (reply a) (packed_as kind (reply a)) (told a)

done-told : {A : Type 0} {size : ℕ} {reply : A → Reply} → ((a : A) → Bounded IsNumber size (reply a)) → size < 2 ^ 32 → CallTold 0 reply
done-told h l = call-told small 0 (omega arith) h l

-- ---- the part of an event that has a value

part-told : (event : List ℕ) (x : Part) → StandsIn event x → x.start + length x.bytes ≤ dossier_capacity → PartTold event x (packed_part x)
unfolding packed_part
part-told event x s h =
    let m : x.start % 2 ^ 28 ≡ x.start = omega arith in
    let d : packed_part x / 2 ^ 28 ≡ x.start = omega arith in
    let b : value_start_of (packed_part x) ≡ x.start = ap (λ (n : ℕ). n % 2 ^ 28) d ∙ m in
    let l : value_length_of (packed_part x) ≡ length x.bytes = omega arith in
    record {
      kind = omega arith;
      long = l;
      start = b;
      within = omega (arith, b, l, s.within);
      bytes = ap₂ (λ (a n : ℕ). part event a (a + n)) b l ∙ s.bytes;
    }

-- What C is told of a value is what the value call answers: for every table, event, place and index its length and start are told in full, and the value's
-- bytes stand there in the event.
value-told :
    (table event : List ℕ) (place index : ℕ) → PartTold event (value_call table event place index) (packed_part (value_call table event place index))
value-told table event place index =
    part-told event (value_call table event place index) (value-stands-in table event place index) (value-ends table event place index)

-- The macros give back every call's reply.
pub replies-told : Told
unfolding version_after version_or
replies-told =
    let b = replies-bounded in record {
      table = done-told b.table (omega arith);
      check = done-told (λ (table, event, old). b.check table event old) (omega arith);
      combine =
          call-told small-or-18 0 (omega arith) (λ (limits, table, left, right, old). b.combine limits table left right old) (omega arith);
      opens = call-told small-or-18 1 (omega arith) (λ (limits, table, dossier, old). b.opens limits table dossier old) (omega arith);
      version = λ limits table dossier old v p before e. ap (λ (r : Reply). version_after r before) e;
      hash_text = done-told (λ (table, event, old). b.hash_text table event old) (omega arith);
      hash = done-told (λ (table, event, old). b.hash table event old) (omega arith);
      value = value-told;
      batch = call-told small-or-18 0 (omega arith) (λ (limits, rooms, table, batch, old). b.batch limits rooms table batch old) (omega arith);
      report = done-told (λ (input, old). report-bounded.report input old) (omega arith);
    }
