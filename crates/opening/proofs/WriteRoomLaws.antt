-- The laws of writing a merged event: the union of a place, the sets of all places, and the whole.
use mathlib.Core.Path.{◌≡◌, refl, sym, ap, ◌∙◌, subst}
use mathlib.Core.List.{List, [], ◌++◌, map, flatten}
use Prim.Native.Nat.{ℕ, zero, suc, ◌+◌, ◌-◌, ◌*◌, ◌≤◌, ◌<◌}
use native.Mathlib.Omega.{arith}
use native.Mathlib.Numerals.{add-one}
use lib.ListN.{length, get_or, length-append}
use Rattle.model.specs.Order.{Text, texts}
use Rattle.model.specs.Sets.{canon, up_from, up_to}
use Rattle.model.specs.Rule.{places, Snapshot, Dossier}
use Rattle.model.specs.Opening.{column, merged_at, merged_sets}
use Rattle.packed.specs.Packed.{number, text}
use Rattle.packed.specs.code.Written.{Wrote, ToGo}
use Rattle.packed.proofs.LayoutLaws.{number-bounds}
use Rattle.packed.proofs.WriteLaws.{wrote-length, wrote_as, wrote_then, to-go, gone, all-gone}
use Rattle.ontology.specs.Table.{EventType}
use Rattle.event.specs.Event.{type_view, event_view}
use Rattle.event.specs.Head.{Head, head_bytes}
use Rattle.event.specs.EventLayout.{set_bytes, sets_bytes, presence_bit, bit_number, event_bytes}
use Rattle.event.specs.code.EventIndex.{HeadIs, HeadParts, SetIs}
use Rattle.event.specs.code.SetWriting.{SetRoom}
use Rattle.event.specs.declared.sets.SetAt.{SetAt}
use Rattle.event.proofs.SetWriteLaws.{set-some}
use Rattle.unions.specs.code.Merging.{SetRuns, MergedRoom}
use Rattle.dossier.specs.declared.dossiers.DossierIndex.{DossierIndex}
use Rattle.dossier.specs.DossierLayout.{model_of}
use Rattle.opening.specs.OpenCall.{merged_event}
use Rattle.opening.specs.code.CellIndex.{set_from}
use Rattle.opening.specs.code.OpenIndex.{CellsStand}
use Rattle.opening.specs.code.PlanIndex.{Joined, PlanIs, JoinedRoom, SetsRoom, Writable}

-- ---- the union of a place

module _ {s rows : List ℕ} {place n at size : ℕ} (p : JoinedRoom s rows place n at size) where
  abbrev sets-here : List (List Text)
  sets-here = column p.snapshots place

  abbrev values : List Text
  values = canon texts (flatten sets-here)

  abbrev texts-here : List ℕ
  texts-here = flatten (map text values)

  union-bytes : set_bytes values ≡ number (length values) ++ texts-here
  union-bytes = set-some (length values) values refl (λ e. omega (arith, p.some))

  union-size : at + length (number (length values)) + length texts-here ≤ size
  union-size = omega (arith, p.room, ap length union-bytes, length-append (number (length values)) texts-here)

  -- the runs of the sets, from the rows
  module _
      {starts ends : List ℕ}
      (runs : (u : List ℕ) (ss : List Snapshot) → CellsStand u ss rows → length ss ≡ n → SetRuns u starts ends (length ss) (column ss place)) where
    union-runs : SetRuns s starts ends n sets-here
    union-runs = subst (λ (k : ℕ). SetRuns s starts ends k sets-here) p.count (runs s p.snapshots p.stand p.count)

    -- the values have their room after the first byte of the count
    pub values-room : MergedRoom s starts ends n (at + 1) size
    values-room = record { xss = sets-here; runs = union-runs; room = omega (arith, union-size, number-bounds (length values)) }

    -- the values are written, and counted
    module _
        {l l₁ : List ℕ} {next count : ℕ}
        (writes : (xss : List (List Text)) → SetRuns s starts ends n xss → Wrote l (at + 1) (flatten (map text (canon texts (flatten xss)))) l₁ next)
        (counts : (xss : List (List Text)) → SetRuns s starts ends n xss → count ≡ length (canon texts (flatten xss))) where
      written : Wrote l (at + 1) texts-here l₁ next
      written = writes sets-here union-runs

      counted : count ≡ length values
      counted = counts sets-here union-runs

      pub count_room : length l ≡ size → (at + 1 ≤ next) × (next + (length (number count) - 1) ≤ length l₁)
      count_room h = (
        omega (arith, written.after),
        omega (arith, written.after, wrote-length written, h, union-size, ap (λ (k : ℕ). length (number k)) counted, number-bounds (length values)),
      )

      pub wrote-union :
          {l₂ : List ℕ} {end : ℕ} → ((m bytes : List ℕ) → Wrote m (at + 1) bytes l₁ next → Wrote m at (number count ++ bytes) l₂ end) →
          Wrote l at (set_bytes values) l₂ end
      wrote-union before = wrote_as (ap (λ (k : ℕ). number k ++ texts-here) counted ∙ sym union-bytes) (before l texts-here written)

-- ---- the sets of all places

-- the sets from a place on
abbrev sets_from : EventType → Dossier → ℕ → List ℕ
sets_from ty d p = sets_bytes (map (merged_at (type_view ty) d) (up_from p (32 - p)))

module _ (ty : EventType) (d : Dossier) where
  sets-start : (l : List ℕ) (at : ℕ) → ToGo l at (sets_bytes (merged_sets (type_view ty) d)) l at (sets_from ty d 0)
  unfolding merged_sets places type_view event_view up_to
  sets-start l at = to-go

  sets-next : (p : ℕ) → p < 32 → sets_from ty d p ≡ set_bytes (merged_at (type_view ty) d p) ++ sets_from ty d (p + 1)
  unfolding sets_bytes flatten up_from
  sets-next p h = let e : 32 - p ≡ suc (32 - (p + 1)) = omega arith in rw (e, add-one)

  -- the places from p on have no objects
  sets_end : (p : ℕ) → ((i : ℕ) → p ≤ i → merged_at (type_view ty) d i ≡ []) → sets_from ty d p ≡ []
  unfolding sets_bytes set_bytes flatten up_from
  sets_end p v = go (32 - p) p v
    where
      go : (n p : ℕ) → ((i : ℕ) → p ≤ i → merged_at (type_view ty) d i ≡ []) →
          sets_bytes (map (merged_at (type_view ty) d) (up_from p n)) ≡ []
      go zero p v = refl
      go (suc n) p v = rw (v p (omega arith)) (go n (suc p) (λ i l. v i (omega arith)))

-- the sets of the places before `place` are written, up to `next`
pub record SetsGone (s rows : List ℕ) (n count : ℕ) (plan l₀ : List ℕ) (at : ℕ) (l : List ℕ) (next place : ℕ) : Type 0 where
  pub few : count ≤ 32
  pub is :
      (q : SetsRoom s rows n count plan at (length l₀)) →
      ToGo l₀ at (sets_bytes (merged_sets (type_view q.type) q.dossier)) l next (sets_from q.type q.dossier place)

pub sets-begin : {s rows : List ℕ} {n count : ℕ} {plan l : List ℕ} {at : ℕ} → count ≤ 32 → SetsGone s rows n count plan l at l at 0
sets-begin h = record { few = h; is = λ q. sets-start q.type q.dossier _ _ }

module _
    {s rows : List ℕ} {n count : ℕ} {plan l₀ : List ℕ} {at : ℕ} {l : List ℕ} {next place : ℕ}
    (g : SetsGone s rows n count plan l₀ at l next place) where
  pub sets-done :
      count ≤ place → (q : SetsRoom s rows n count plan at (length l₀)) →
      Wrote l₀ at (sets_bytes (merged_sets (type_view q.type) q.dossier)) l next
  sets-done h q = all-gone (g.is q) (sets_end q.type q.dossier place (λ i k. q.vacant i (omega arith)))

  module _ (h : place < count) where
    module _ (q : SetsRoom s rows n count plan at (length l₀)) where
      abbrev this : List Text
      this = merged_at (type_view q.type) q.dossier place

      abbrev after : List ℕ
      after = sets_from q.type q.dossier (place + 1)

      inside : place < 32
      inside = omega (arith, g.few)

      this-first : sets_from q.type q.dossier place ≡ set_bytes this ++ after
      this-first = sets-next q.type q.dossier place inside

      pub this-room : next + length (set_bytes this) ≤ length l
      this-room =
          let left = g.is q in
          omega (arith, q.room, left.after, left.long, ap length this-first, length-append (set_bytes this) after)

      -- a set that stands already
      module _ {x : SetAt} (f : x ≡ set_from plan (4 * place)) (e : get_or plan (4 * place + 3) 0 ≡ 1 → ⊥) where
        standing-is : SetIs s this x
        standing-is = rw f ((q.planned.each place inside).stands e)

        pub standing-room : SetRoom s x next (length l)
        standing-room = record { values = this; is = standing-is; room = this-room }

      -- a union
      module _ (e : get_or plan (4 * place + 3) 0 ≡ 1) where
        pub joined : Joined this (column q.dossier.snapshots place)
        joined = (q.planned.each place inside).joins e

        abbrev pub joined-room : JoinedRoom s rows place n next (length l)
        joined-room = record {
          snapshots = q.dossier.snapshots;
          stand = q.stand;
          count = q.count;
          some = omega (arith, joined.several, ap length joined.union);
          room = omega (arith, this-room, ap (λ (vs : List Text). length (set_bytes vs)) joined.union);
        }

    -- a set is written
    module _ {l₁ l₂ : List ℕ} {next₁ next₂ : ℕ} (i : l₂ ≡ l₁) (k : next₂ ≡ next₁) where
      set-gone :
          ((q : SetsRoom s rows n count plan at (length l₀)) → Wrote l next (set_bytes (this q)) l₁ next₁) →
          SetsGone s rows n count plan l₀ at l₂ next₂ (place + 1)
      set-gone w = rw (i, k) (record { few = g.few; is = λ q. gone (set_bytes (this q)) (after q) (g.is q) (this-first q) (w q) })

      pub standing-gone :
          {x : SetAt} → x ≡ set_from plan (4 * place) → (get_or plan (4 * place + 3) 0 ≡ 1 → ⊥) →
          ((vs : List Text) → SetIs s vs x → Wrote l next (set_bytes vs) l₁ next₁) → SetsGone s rows n count plan l₀ at l₂ next₂ (place + 1)
      standing-gone f e w = set-gone (λ q. w (this q) (standing-is q f e))

      pub joined-gone :
          get_or plan (4 * place + 3) 0 ≡ 1 →
          ((p : JoinedRoom s rows place n next (length l)) → Wrote l next (set_bytes (canon texts (flatten (column p.snapshots place)))) l₁ next₁) →
          SetsGone s rows n count plan l₀ at l₂ next₂ (place + 1)
      joined-gone e w = set-gone (λ q. wrote_as (ap set_bytes (sym (joined q e).union)) (w (joined-room q e)))

-- ---- the whole event

module _ {s : List ℕ} {d : DossierIndex} {rows : List ℕ} {count : ℕ} {plan : List ℕ} {size : ℕ} (w : Writable s d rows count plan size) where
  abbrev sets : List (List Text)
  sets = merged_sets (type_view w.type) (model_of w.headed)

  abbrev head : List ℕ
  head = head_bytes w.headed.head

  abbrev bits : ℕ
  bits = bit_number (map presence_bit sets)

  event-parts : event_bytes (merged_event w.headed sets) ≡ head ++ number bits ++ sets_bytes sets
  unfolding event_bytes merged_event
  event-parts = refl

  pub event-length : length head + length (number bits) + length (sets_bytes sets) ≤ size
  event-length = omega (arith, w.room, ap length event-parts, length-append (head ++ number bits) (sets_bytes sets), length-append head (number bits))

  -- the head is written, and the presence number is made
  module _
      {name source hashes l l₁ : List ℕ} {at presence : ℕ} (e : length l ≡ size)
      (parts : (h : Head) → HeadIs s h d.head → HeadParts name source hashes h)
      (writes : (h : Head) → HeadParts name source hashes h → Wrote l 0 (head_bytes h) l₁ at)
      (present : (u : List ℕ) (ty : EventType) (x : Dossier) → PlanIs u plan ty x →
      presence ≡ bit_number (map presence_bit (merged_sets (type_view ty) x))) where
    pub head-written : Wrote l 0 head l₁ at
    head-written = writes w.headed.head (parts w.headed.head w.is.head)

    pub is-bits : presence ≡ bits
    is-bits = present s w.type (model_of w.headed) w.planned

    pub presence-room : at + length (number presence) ≤ length l₁
    presence-room = omega (arith, event-length, head-written.after, wrote-length head-written, e, ap (λ (k : ℕ). length (number k)) is-bits)

    module _ {l₂ : List ℕ} {after-presence : ℕ} (u : Wrote l₁ at (number presence) l₂ after-presence) where
      abbrev pub sets-room : SetsRoom s rows d.count count plan after-presence (length l₂)
      sets-room = record {
        type = w.type;
        dossier = model_of w.headed;
        stand = w.stand;
        count = sym w.is.count;
        planned = w.planned;
        vacant = w.vacant;
        room =
            omega (
              arith,
              presence-room,
              event-length,
              head-written.after,
              wrote-length head-written,
              e,
              u.after,
              wrote-length u,
              ap (λ (k : ℕ). length (number k)) is-bits,
            );
      }

      pub wrote-event :
          {l₃ : List ℕ} {next : ℕ} →
          ((p : SetsRoom s rows d.count count plan after-presence (length l₂)) →
          Wrote l₂ after-presence (sets_bytes (merged_sets (type_view p.type) p.dossier)) l₃ next) →
          Wrote l 0 (event_bytes (merged_event w.headed sets)) l₃ next
      wrote-event {l₃} {next} z =
          let u' = subst (λ (k : ℕ). Wrote l₁ at (number k) l₂ after-presence) is-bits u in
          subst (λ (y : List ℕ). Wrote l 0 y l₃ next) (sym event-parts) (wrote_then (wrote_then head-written u') (z sets-room))
