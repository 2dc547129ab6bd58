-- The laws of the plan of the merged sets: how it is filled, which place is overfull, and the presence number.
use mathlib.Core.Path.{◌≡◌, refl, sym, ap, ap₂, ◌∙◌}
use mathlib.Core.Logic.{⊎_elim}
use mathlib.Core.Bool.{Bool, true, false, not, ◌&&◌}
use mathlib.Core.Option.{Option, none, some}
use mathlib.Core.List.{List, [], ◌∷◌, map}
use Prim.Native.Nat.{ℕ, ◌+◌, ◌-◌, ◌*◌, ◌≤◌, ◌<◌}
use native.Mathlib.Omega.{arith}
use lib.Dec.{ltb, leb, eqb}
use lib.ListN.{length, get_or, get_elem?, set, length-set}
use lib.Seq.{get_or-set_same, get_or-set_other}
use borrow.Author.Count.{below_more}
use borrow.Author.Tests.{lt-ltb, le-leb, eqb-true}
use Rattle.model.specs.Order.{Text}
use Rattle.model.specs.Sets.{up_from, up_to}
use Rattle.model.specs.Rule.{places, Dossier}
use Rattle.model.specs.Opening.{column, lowest, merged_at, merged_sets, overfull}
use Rattle.packed.proofs.LayoutLaws.{lt-or-ge}
use Rattle.ontology.specs.Table.{Property, EventType, is_single, at_place}
use Rattle.ontology.specs.code.TypeIndex.{PropertyIs, property_in, PropertiesAre}
use Rattle.ontology.specs.declared.properties.PropertyAt.{PropertyAt}
use Rattle.ontology.proofs.RunLaws.{no-element}
use Rattle.event.specs.Event.{type_view, event_view}
use Rattle.event.specs.EventLayout.{presence_bit, bit_number}
use Rattle.event.specs.code.EventIndex.{bit_of, no_set}
use Rattle.event.specs.declared.sets.SetAt.{SetAt}
use Rattle.event.proofs.BitLaws.{FilledTo, presence-bits}
use Rattle.event.proofs.MatchLaws.{this, this-is}
use Rattle.opening.specs.code.CellIndex.{set_from, with_set}
use Rattle.opening.specs.code.OpenIndex.{RuleOf, RuleIs, Mergeable}
use Rattle.opening.specs.code.PlanIndex.{PlaceIs, with_place, TellsCount, PlanAt, PlanIs}
use Rattle.opening.specs.declared.merge.PlaceMerged.{PlaceMerged}
use Rattle.opening.specs.declared.merge.PlaceMerged.TheVariants.{Stands, Joins}
use Rattle.opening.specs.declared.strategies.PlaceRule.{PlaceRule}
use Rattle.opening.proofs.StandLaws.{set-put, put_other, put-length, set-kept}
use Rattle.opening.proofs.MergeLaws.{no-set, merged-vacant}
use Rattle.opening.proofs.StrategyLaws.{rule-at}
use Rattle.opening.proofs.ConflictLaws.{lowest-here, lowest-next, lowest-none}

-- ---- the plan of a place

place-length : (plan : List ℕ) (p : ℕ) (x : PlaceMerged) {new : List ℕ} → new ≡ with_place plan p x → length new ≡ length plan
unfolding with_place
place-length plan p (Stands x) e = ap length e ∙ length-set (with_set plan (4 * p) x) (4 * p + 3) 0 ∙ put-length plan (4 * p) x
place-length plan p Joins e = ap length e ∙ length-set (set plan (4 * p + 2) 2) (4 * p + 3) 1 ∙ length-set plan (4 * p + 2) 2

-- the four numbers, as they are stored
module _ (plan : List ℕ) (p : ℕ) {x : PlaceMerged} where
  pub place-stands : {l : List ℕ} {y : SetAt} → x ≡ Stands y → l ≡ with_set plan (4 * p) y → set l (4 * p + 3) 0 ≡ with_place plan p x
  unfolding with_place
  place-stands e f = ap (λ (l : List ℕ). set l (4 * p + 3) 0) f ∙ sym (ap (with_place plan p) e)

  pub place-joins : x ≡ Joins → set (set plan (4 * p + 2) 2) (4 * p + 3) 1 ≡ with_place plan p x
  unfolding with_place
  place-joins e = sym (ap (with_place plan p) e)

-- the numbers of other places
place_other :
    (plan : List ℕ) (p : ℕ) (x : PlaceMerged) (i : ℕ) → (4 * p ≤ i → i < 4 * p + 4 → ⊥) → get_or (with_place plan p x) i 0 ≡ get_or plan i 0
unfolding with_place
place_other plan p (Stands x) i ne =
    get_or-set_other (with_set plan (4 * p) x) (4 * p + 3) i 0 0 (λ e. ne (omega arith) (omega arith))
    ∙ put_other plan (4 * p) x i
    (λ e. ne (omega arith) (omega arith))
    (λ e. ne (omega arith) (omega arith))
    (λ e. ne (omega arith) (omega arith))
place_other plan p Joins i ne =
    get_or-set_other (set plan (4 * p + 2) 2) (4 * p + 3) i 1 0 (λ e. ne (omega arith) (omega arith))
    ∙ get_or-set_other plan (4 * p + 2) i 2 0 (λ e. ne (omega arith) (omega arith))

plan-kept :
    (s plan : List ℕ) (p q : ℕ) (x : PlaceMerged) (vs : List Text) (xss : List (List Text)) → (q ≡ p → ⊥) → PlanAt s plan q vs xss →
    PlanAt s (with_place plan p x) q vs xss
plan-kept s plan p q x vs xss ne w =
    let flag = place_other plan p x (4 * q + 3) (λ a b. ne (omega arith)) in
    let count = place_other plan p x (4 * q + 2) (λ a b. ne (omega arith)) in
    let stands = set-kept plan (with_place plan p x) (4 * q) (λ i f l. place_other plan p x i (λ a b. ne (omega arith))) in
    record { joins = λ e. w.joins (sym flag ∙ e); stands = λ n. rw stands (w.stands (λ e. n (flag ∙ e))); counts = rw count w.counts }

-- a set that stands has its count, and one that is to be made has two values at least
tells-same : {n m : ℕ} → n ≡ m → TellsCount n m
tells-same e = record { any = ap (ltb 0) e; several = ap (leb 2) e }

tells-several : {m : ℕ} → 2 ≤ m → TellsCount 2 m
tells-several {m} h = record { any = sym (lt-ltb 0 m (omega arith)); several = sym (le-leb 2 m h) }

count_of : (l : List ℕ) (at : ℕ) {x : SetAt} → set_from l at ≡ x → get_or l (at + 2) 0 ≡ x.count
unfolding set_from
count_of l at e = ap (λ (y : SetAt). y.count) e

plan-put :
    (s plan : List ℕ) (p : ℕ) (x : PlaceMerged) (vs : List Text) (xss : List (List Text)) → length plan ≡ 128 → p < 32 → PlaceIs s vs xss x →
    PlanAt s (with_place plan p x) p vs xss
unfolding with_place
plan-put s plan p (Stands x) vs xss l h w =
    let l₁ = with_set plan (4 * p) x in
    let long : length l₁ ≡ 128 = put-length plan (4 * p) x ∙ l in
    let flag : get_or (set l₁ (4 * p + 3) 0) (4 * p + 3) 0 ≡ 0 = get_or-set_same l₁ (4 * p + 3) 0 0 (omega arith) in
    let is : set_from (set l₁ (4 * p + 3) 0) (4 * p) ≡ x =
    set-kept l₁ (set l₁ (4 * p + 3) 0) (4 * p) (λ i a b. get_or-set_other l₁ (4 * p + 3) i 0 0 (λ e. omega arith))
    ∙ set-put plan (4 * p) x (omega arith) in
    record {
      joins = λ e. absurd (omega (arith, flag, e));
      stands = λ n. rw is w;
      counts = tells-same (count_of (set l₁ (4 * p + 3) 0) (4 * p) is ∙ w.count);
    }
plan-put s plan p Joins vs xss l h w =
    let l₁ = set plan (4 * p + 2) 2 in
    let long : length l₁ ≡ 128 = length-set plan (4 * p + 2) 2 ∙ l in
    let flag : get_or (set l₁ (4 * p + 3) 1) (4 * p + 3) 0 ≡ 1 = get_or-set_same l₁ (4 * p + 3) 1 0 (omega arith) in
    let count : get_or (set l₁ (4 * p + 3) 1) (4 * p + 2) 0 ≡ 2 =
    get_or-set_other l₁ (4 * p + 3) (4 * p + 2) 1 0 (λ e. omega arith) ∙ get_or-set_same plan (4 * p + 2) 2 0 (omega arith) in
    record { joins = λ e. w; stands = λ n. absurd (n flag); counts = rw count (tells-several w.several) }

-- numbers that are 0 are an empty set, and the plan of a place that has no objects
set-clear : (plan : List ℕ) (at : ℕ) → ((i : ℕ) → at ≤ i → i < at + 3 → get_or plan i 0 ≡ 0) → set_from plan at ≡ no_set
unfolding set_from
set-clear plan at z = rw (z at (omega arith) (omega arith), z (at + 1) (omega arith) (omega arith), z (at + 2) (omega arith) (omega arith))

plan-clear :
    (s plan : List ℕ) (p : ℕ) (vs : List Text) (xss : List (List Text)) → vs ≡ [] →
    ((i : ℕ) → 4 * p ≤ i → i < 4 * p + 4 → get_or plan i 0 ≡ 0) → PlanAt s plan p vs xss
plan-clear s plan p vs xss e z = record {
  joins = λ f. absurd (omega (arith, f, z (4 * p + 3) (omega arith) (omega arith)));
  stands = λ n. rw (set-clear plan (4 * p) (λ i a b. z i a (omega arith)), e) (no-set s);
  counts = tells-same (z (4 * p + 2) (omega arith) (omega arith) ∙ sym (ap length e));
}

-- ---- the plan of all places

-- the first p places are planned, and the numbers of the places from p on are 0
pub record PlannedTo (s plan : List ℕ) (t : EventType) (d : Dossier) (p : ℕ) : Type 0 where
  pub each : (i : ℕ) → i < p → PlanAt s plan i (merged_at (type_view t) d i) (column d.snapshots i)
  pub clear : (i : ℕ) → 4 * p ≤ i → i < 128 → get_or plan i 0 ≡ 0

module _ (s plan : List ℕ) (t : EventType) (d : Dossier) where
  planned-none : ((i : ℕ) → i < 128 → get_or plan i 0 ≡ 0) → PlannedTo s plan t d 0
  planned-none z = record { each = λ i h. absurd (omega arith); clear = λ i h l. z i l }

  planned-more :
      (p : ℕ) (x : PlaceMerged) {new : List ℕ} → length plan ≡ 128 → p < 32 → PlannedTo s plan t d p →
      PlaceIs s (merged_at (type_view t) d p) (column d.snapshots p) x → new ≡ with_place plan p x → PlannedTo s new t d (p + 1)
  planned-more p x l h w here e = rw e (record {
    each =
        below_more (λ (i : ℕ). PlanAt s (with_place plan p x) i (merged_at (type_view t) d i) (column d.snapshots i)) p
        (λ i k. plan-kept s plan p i x (merged_at (type_view t) d i) (column d.snapshots i) (λ e. omega arith) (w.each i k))
        (plan-put s plan p x (merged_at (type_view t) d p) (column d.snapshots p) l h here);
    clear = λ i a b. place_other plan p x i (λ f g. omega arith) ∙ w.clear i (omega arith) b;
  })

  -- the places from p on have no objects
  planned-all : (p : ℕ) → ((i : ℕ) → p ≤ i → merged_at (type_view t) d i ≡ []) → PlannedTo s plan t d p → PlanIs s plan t d
  planned-all p v w = record {
    each = λ i l.
        ⊎_elim (λ h. w.each i h)
        (λ h. plan-clear s plan i (merged_at (type_view t) d i) (column d.snapshots i) (v i h) (λ j a b. w.clear j (omega arith) (omega arith)))
        (lt-or-ge i p);
  }

-- so of any dossier and type whose properties the code has
pub record PlansTo (s rows : List ℕ) (n count mark : ℕ) (ps plan : List ℕ) (p : ℕ) : Type 0 where
  pub long : length plan ≡ 128
  pub is :
      (u : List ℕ) (ty : EventType) (d : Dossier) → PropertiesAre u ty.properties count ps → mark ≡ ty.mark → Mergeable s rows n ty d →
      PlannedTo s plan ty d p

pub plans-none :
    {s rows ps plan : List ℕ} {n count mark : ℕ} → length plan ≡ 128 → ((i : ℕ) → i < 128 → get_or plan i 0 ≡ 0) →
    PlansTo s rows n count mark ps plan 0
plans-none l z = record { long = l; is = λ u ty d w k m. planned-none _ _ ty d z }

module _ {s rows ps plan : List ℕ} {n count mark p : ℕ} (g : PlansTo s rows n count mark ps plan p) where
  pub plans-next :
      {q : PropertyAt} {r : PlaceRule} (x : PlaceMerged) {new : List ℕ} → p < count → q ≡ property_in ps p →
      ((u : List ℕ) (v : Property) → PropertyIs u v q → RuleOf v r) →
      ((t : EventType) (d : Dossier) → Mergeable s rows n t d → RuleIs (get_elem? t.properties p) r →
      (eqb (p + 1) mark ≡ true → p + 1 ≡ t.mark) →
      PlaceIs s (merged_at (type_view t) d p) (column d.snapshots p) x) →
      new ≡ with_place plan p x → PlansTo s rows n count mark ps new (p + 1)
  plans-next x h same rule merged e = record {
    long = place-length plan p x e ∙ g.long;
    is = λ u ty d w k m.
        let here = merged ty d m (rule-at u ty count ps w p h same rule) (λ b. eqb-true (p + 1) mark b ∙ k) in
        planned-more s plan ty d p x g.long (omega (arith, w.few)) (g.is u ty d w k m) here e;
  }

  pub plans-all :
      count ≤ p → (u : List ℕ) (ty : EventType) (d : Dossier) → PropertiesAre u ty.properties count ps → mark ≡ ty.mark →
      Mergeable s rows n ty d →
      PlanIs s plan ty d
  plans-all h u ty d w k m = planned-all s plan ty d p (λ i l. merged-vacant s rows u n ty count ps d i w m (omega arith)) (g.is u ty d w k m)

-- ---- which place is overfull

pub single-overfull : (b : Bool) (n : ℕ) → b ≡ true → leb 2 n ≡ (b && leb 2 n)
single-overfull b n e = sym (ap (λ (a : Bool). a && leb 2 n) e)

abbrev is_overfull : EventType → Dossier → ℕ → Bool
is_overfull ty d p = (type_view ty).single p && leb 2 (length (merged_at (type_view ty) d p))

module _
    (u : List ℕ) (ty : EventType) (count : ℕ) (ps : List ℕ) (w : PropertiesAre u ty.properties count ps) (d : Dossier) (p : ℕ) where
  single-at : (o : Option Property) → get_elem? ty.properties p ≡ o → (type_view ty).single p ≡ at_place false is_single o
  unfolding type_view event_view
  single-at o e = ap (at_place false is_single) e

  place-overfull :
      (s plan : List ℕ) {q : PropertyAt} {b : Bool} → q ≡ property_in ps p → PlanIs s plan ty d → p < count →
      b ≡ (not q.multivalued && leb 2 (get_or plan (4 * p + 2) 0)) → b ≡ is_overfull ty d p
  unfolding at_place
  place-overfull s plan same v h e =
      let o = this u ty _ _ w p h in
      e
      ∙ ap₂ ◌&&◌
      (ap not (ap (λ (x : PropertyAt). x.multivalued) same ∙ (this-is u ty _ _ w p h).multivalued) ∙ sym (single-at (some o.what) o.is))
      (v.each p (omega (arith, w.few))).counts.several

  -- there is no property
  no-overfull : count ≤ p → is_overfull ty d p ≡ false
  unfolding at_place
  no-overfull h =
      ap (λ (b : Bool). b && leb 2 (length (merged_at (type_view ty) d p))) (single-at _ (no-element ty.properties p (omega (arith, w.count))))

-- the lowest such place is that of the places from p on
pub record OverfullFrom (count : ℕ) (ps plan : List ℕ) (p : ℕ) : Type 0 where
  pub is :
      (u s : List ℕ) (ty : EventType) (d : Dossier) → PropertiesAre u ty.properties count ps → PlanIs s plan ty d →
      overfull (type_view ty) d ≡ lowest (is_overfull ty d) (up_from p (32 - p))

pub overfull-start : {count : ℕ} {ps plan : List ℕ} → OverfullFrom count ps plan 0
unfolding overfull places up_to type_view event_view
overfull-start = record { is = λ u s ty d w v. refl }

abbrev LowestOverfull : ℕ → List ℕ → List ℕ → Option ℕ → Type 0
LowestOverfull count ps plan o =
    (u s : List ℕ) (ty : EventType) (d : Dossier) → PropertiesAre u ty.properties count ps → PlanIs s plan ty d → o ≡ overfull (type_view ty) d

module _ {count : ℕ} {ps plan : List ℕ} {p : ℕ} (o : OverfullFrom count ps plan p) where
  -- b is what the code asks of place p
  module _
      {q : PropertyAt} {b : Bool} (h : p < count) (same : q ≡ property_in ps p) (e : b ≡ (not q.multivalued && leb 2 (get_or plan (4 * p + 2) 0))) where
    pub overfull-found : b ≡ true → LowestOverfull count ps plan (some p)
    overfull-found t u s ty d w v =
        let here = sym (place-overfull u ty count ps w d p s plan same v h e) ∙ t in
        sym (o.is u s ty d w v ∙ lowest-here (is_overfull ty d) p (omega (arith, w.few)) here)

    pub overfull-next : b ≡ false → OverfullFrom count ps plan (p + 1)
    overfull-next f = record {
      is = λ u s ty d w v.
          let not-here = sym (place-overfull u ty count ps w d p s plan same v h e) ∙ f in
          o.is u s ty d w v ∙ lowest-next (is_overfull ty d) p (omega (arith, w.few)) not-here;
    }

  pub none-overfull : count ≤ p → LowestOverfull count ps plan none
  none-overfull l u s ty d w v =
      sym (o.is u s ty d w v ∙ lowest-none (is_overfull ty d) p (λ i h. no-overfull u ty count ps w d i (omega arith)))

-- ---- the presence number

-- the bit of a set, by what is told of its count
bit-of : (vs : List Text) (n : ℕ) → ltb 0 n ≡ ltb 0 (length vs) → presence_bit vs ≡ bit_of (ltb 0 n)
unfolding presence_bit bit_of
bit-of [] n e = sym (ap bit_of e)
bit-of (v ∷ vs) n e = sym (ap bit_of (e ∙ lt-ltb 0 (length (v ∷ vs)) (omega arith)))

pub presence-is :
    {s plan : List ℕ} {ty : EventType} {d : Dossier} {present : List Bool} {p n : ℕ} → PlanIs s plan ty d →
    FilledTo (λ i. ltb 0 (get_or plan (4 * i + 2) 0)) present p → 32 ≤ p → n ≡ bit_number (map bit_of present) →
    n ≡ bit_number (map presence_bit (merged_sets (type_view ty) d))
unfolding merged_sets places type_view event_view
presence-is {s} {plan} {ty} {d} {present} w b h e =
    e
    ∙ ap bit_number (sym (presence-bits (merged_at (type_view ty) d) present b.long
    (λ i l. bit-of (merged_at (type_view ty) d i) (get_or plan (4 * i + 2) 0) (w.each i l).counts.any ∙ ap bit_of (sym (b.each i (omega arith))))))
