-- The laws of the call open.
use mathlib.Core.Path.{◌≡◌, sym, ap, ap₂, ◌∙◌}
use mathlib.Core.Bool.{Bool, false, true}
use mathlib.Core.Option.{Option}
use mathlib.Core.List.{List, ◌++◌}
use Prim.Native.Nat.{ℕ, ◌+◌, ◌≤◌, ◌<◌}
use native.Mathlib.Omega.{arith}
use lib.ListN.{length, drop}
use Rattle.model.specs.Sets.{up_to}
use Rattle.model.specs.Rule.{places, Dossier}
use Rattle.model.specs.Limits.{Limits, is_permitted, Permitted}
use Rattle.model.proofs.LimitLaws.{permitted}
use Rattle.model.specs.Opening as model
use Rattle.model.specs.Opening.{merged_sets, overfull, conflict, no_conflict, first_of, opening}
use Rattle.model.proofs.ClashLaws.{opening-free}
use Rattle.packed.specs.code.Written.{Wrote}
use Rattle.packed.proofs.WriteLaws.{wrote-between}
use Rattle.values.specs.declared.versions.EventVersion.{EventVersion}
use Rattle.replies.specs.Answers.{outcome}
use Rattle.replies.specs.Capacities.{dossier_capacity}
use Rattle.replies.proofs.CapacityLaws.{has_room_lem, too_small}
use Rattle.replies.proofs.RangeLaws.{in-range, out_of_range}
use Rattle.replies.specs.Questions.{refused}
use Rattle.replies.specs.Replies.{refusal_number, open_replies}
use Rattle.replies.specs.declared.reply.Refusal.{Refusal}
use Rattle.replies.specs.declared.reply.Refusal.TheVariants.{SmallBuffer, BadLimits}
use Rattle.replies.specs.declared.reply.Opened.{Opened}
use Rattle.replies.specs.declared.reply.Opened.TheVariants.{Merged, Found}
use Rattle.replies.specs.declared.reply.Finding.TheVariants.{Conflict, Overfull}
use Rattle.ontology.specs.Table.{EventType}
use Rattle.ontology.specs.code.TypeIndex.{PropertiesAre}
use Rattle.ontology.specs.declared.types.TypeIndex.{TypeIndex}
use Rattle.event.specs.Event.{type_view, event_view}
use Rattle.event.specs.EventLayout.{event_bytes}
use Rattle.dossier.specs.DossierLayout.{Headed, model_of}
use Rattle.dossier.specs.code.DossierIndex.{DossierIs, dossier_questions, DossierAccepted}
use Rattle.dossier.specs.declared.dossiers.DossierIndex.{DossierIndex}
use Rattle.dossier.proofs.AcceptedLaws.{questions-taken}
use Rattle.opening.specs.OpenCall.{merged_event, opened_answer, asked_opening, open_answer, open_call}
use Rattle.opening.specs.code.OpenIndex.{lowest_of, conflict_of, Mergeable, Openable}
use Rattle.opening.specs.code.PlanIndex.{PlanIs, Writable}
use Rattle.opening.proofs.StandLaws.{cells-stand}
use Rattle.opening.proofs.MergeLaws.{merged-vacant}
use Rattle.opening.proofs.AcceptedLaws.{mergeable}
use Rattle.opening.proofs.SizeLaws.{merged-size}
use Rattle.std.specs.Prelude as std
use Rattle.std.specs.Prelude.{Some, None, Result, Ok, Err}

-- ---- a dossier that was asked its questions

module _ {s : List ℕ} {d : DossierIndex} {rows : List ℕ} {t : TypeIndex} {ps : List ℕ} (o : Openable s d rows t ps) where
  abbrev dossier : Dossier
  dossier = model_of o.headed

  -- ---- what is answered

  abbrev opens : model.Opened
  opens = opening (type_view o.type) dossier

  abbrev bytes : List ℕ
  bytes = event_bytes (merged_event o.headed (merged_sets (type_view o.type) dossier))

  -- r is the conflict that was found
  abbrev pub ConflictIs : std.Option (EventVersion × ℕ) → Type 0
  ConflictIs r = (u : List ℕ) (h : Headed) → DossierIs u h d → conflict_of r ≡ conflict (up_to 32) h.snapshots

  pub replies-conflict :
      {x : EventVersion × ℕ} → ConflictIs (Some x) → (out : List ℕ) →
      open_replies (Ok (Found (Conflict x.0 x.1))) out ≡ outcome (opened_answer o.headed opens) out
  unfolding opened_answer opening first_of places type_view event_view
  replies-conflict finds out =
      ap (λ (c : model.Conflict).
      outcome (opened_answer o.headed (first_of c (overfull (type_view o.type) dossier) (merged_sets (type_view o.type) dossier))) out)
      (finds s o.headed o.is)

  pub without-conflict : ConflictIs None → conflict (up_to 32) dossier.snapshots ≡ no_conflict
  without-conflict finds = sym (finds s o.headed o.is)

  -- the sets are planned
  module _
      {plan : List ℕ}
      (plans : (u : List ℕ) (ty : EventType) (x : Dossier) → PropertiesAre u ty.properties t.count ps → t.mark ≡ ty.mark →
      Mergeable s rows d.count ty x → PlanIs s plan ty x) where
    pub planned : PlanIs s plan o.type dossier
    planned = plans o.table o.type dossier o.typed.are o.typed.mark (mergeable s d rows t ps o)

    -- what the writer of the merged event needs
    abbrev pub writable : {size : ℕ} → dossier_capacity ≤ size → Writable s d rows t.count plan size
    writable h = record {
      type = o.type;
      headed = o.headed;
      is = o.is;
      stand = cells-stand s o.headed d rows o.is o.stand;
      planned = planned;
      vacant = λ p l. merged-vacant s rows o.table d.count o.type t.count ps dossier p o.typed.are (mergeable s d rows t ps o) l;
      room = omega (arith, merged-size s d rows t ps o);
    }

    -- without a conflict, r is the overfull place that was found
    module _
        {r : std.Option ℕ}
        (finds : (u v : List ℕ) (ty : EventType) (x : Dossier) → PropertiesAre u ty.properties t.count ps → PlanIs v plan ty x →
        lowest_of r ≡ overfull (type_view ty) x)
        (free : conflict (up_to 32) dossier.snapshots ≡ no_conflict) where
      opens_as : {q : std.Option ℕ} → r ≡ q → opens ≡ first_of no_conflict (lowest_of q) (merged_sets (type_view o.type) dossier)
      unfolding places type_view event_view
      opens_as e =
          opening-free (type_view o.type) dossier free
          ∙ ap (λ (m : Option ℕ). first_of no_conflict m (merged_sets (type_view o.type) dossier))
          (sym (finds o.table s o.type dossier o.typed.are planned) ∙ ap lowest_of e)

      answered-as :
          {q : std.Option ℕ} → r ≡ q → (out : List ℕ) →
          outcome (opened_answer o.headed (first_of no_conflict (lowest_of q) (merged_sets (type_view o.type) dossier))) out
          ≡ outcome (opened_answer o.headed opens) out
      answered-as e out = sym (ap (λ (x : model.Opened). outcome (opened_answer o.headed x) out) (opens_as e))

      pub replies-overfull :
          {p : ℕ} → r ≡ Some p → (out : List ℕ) → open_replies (Ok (Found (Overfull p))) out ≡ outcome (opened_answer o.headed opens) out
      unfolding opened_answer first_of
      replies-overfull e out = answered-as e out

      pub replies-merged :
          {out new : List ℕ} {n : ℕ} → r ≡ None → dossier_capacity ≤ length out →
          ((w : Writable s d rows t.count plan (length out)) →
          Wrote out 0 (event_bytes (merged_event w.headed (merged_sets (type_view w.type) (model_of w.headed)))) new n) →
          open_replies (Ok (Merged n)) new ≡ outcome (opened_answer o.headed opens) out
      unfolding opened_answer first_of
      replies-merged {out} {new} {n} e h writes =
          let w = writes (writable h) in
          let a : 0 + length bytes ≤ length out = omega (arith, merged-size s d rows t ps o) in
          let m : n ≡ length bytes = omega (arith, w.after) in
          ap₂ (λ (k : ℕ) (l : List ℕ). open_replies (Ok (Merged k)) l) m (wrote-between a w ∙ ap (λ (k : ℕ). bytes ++ drop k out) m)
          ∙ answered-as e out

-- ---- the call

-- `told` is what question 18 was answered
pub allowed : {limits : Limits} {told : Bool} → told ≡ is_permitted limits → told ≡ true → Permitted limits
allowed {limits} h e = permitted limits (sym h ∙ e)

pub open-unpermitted :
    (limits : Limits) (table s out : List ℕ) {told : Bool} → told ≡ is_permitted limits → told ≡ false →
    open_replies (Err BadLimits) out ≡ open_call limits table s out
unfolding open_call open_answer asked_opening
open-unpermitted limits table s out h e = rw (out_of_range limits (sym h ∙ e))

module _ {limits : Limits} (permitted : Permitted limits) (table s out : List ℕ) where
  pub open-small : length out < dossier_capacity → open_replies (Err SmallBuffer) out ≡ open_call limits table s out
  unfolding open_call open_answer asked_opening
  open-small h = rw (in-range limits permitted, too_small dossier_capacity (length out) h)

  pub open-refused :
      {q : Refusal} {r : Result Opened Refusal} → dossier_capacity ≤ length out → dossier_questions limits table s ≡ refused (refusal_number q) →
      r ≡ Err q → open_replies r out ≡ open_call limits table s out
  unfolding open_call open_answer asked_opening
  open-refused h e k = rw (k, in-range limits permitted, has_room_lem dossier_capacity (length out) h, e)

-- a dossier that is accepted
module _
    {limits : Limits} (permitted : Permitted limits) {table s ps rows : List ℕ} {t : TypeIndex} {d : DossierIndex}
    (a : DossierAccepted (dossier_questions limits table s) table s ps rows t d) where
  abbrev pub openable : Openable s d rows t ps
  openable =
      let q = questions-taken limits table s a.what a.is in
      record {
        limits = limits;
        permitted = permitted;
        table = table;
        types = q.types;
        type = a.what.type;
        headed = a.what.headed;
        read = q.is;
        asked = q.asked;
        typed = a.typed;
        is = a.read;
        stand = a.in_rows;
      }

  pub open-done :
      (out : List ℕ) → dossier_capacity ≤ length out →
      outcome (opened_answer a.what.headed (opening (type_view a.what.type) (model_of a.what.headed))) out ≡ open_call limits table s out
  unfolding open_call open_answer asked_opening
  open-done out h = rw (in-range limits permitted, has_room_lem dossier_capacity (length out) h, a.is)
