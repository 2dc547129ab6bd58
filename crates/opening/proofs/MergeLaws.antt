-- The laws of merged sets: the value that is chosen, the set of each strategy, and the union of sets that are the same.
use mathlib.Core.Path.{◌≡◌, refl, sym, ap, ap₂, ◌∙◌, subst}
use mathlib.Core.Logic.{⊎_elim}
use mathlib.Core.Bool.{Bool, true, false, cond, not, ◌||◌}
use mathlib.Core.Option.{Option, none, some}
use mathlib.Core.List.{List, [], ◌∷◌, ◌++◌, map, flatten, append-nil}
use mathlib.Core.List.Memᴰ
use mathlib.Core.List.{Memᴰ}
use Prim.Native.Nat.{ℕ, zero, suc, ◌+◌, ◌-◌, ◌^◌, ◌≤◌, ◌<◌, Ordering}
use native.Mathlib.Omega.{arith}
use native.Mathlib.Numerals.{add-one}
use lib.Dec.{eqb}
use lib.ListN.{length, take, drop, get_or, get_elem?}
use lib.Seq.{take-suc, take_all, drop-cons}
use borrow.Author.Tests.{eqb-true}
use Rattle.model.specs.Order.{Order, Text, texts, sets, equal, rising, pick}
use Rattle.model.specs.Keyed.{put, merge}
use Rattle.model.specs.Sets.{Ups, Within, canon, union, smallest}
use Rattle.model.specs.Rule.{Choice, every, least, Snapshot, Dossier}
use Rattle.model.specs.Opening.{column, last_of, merged_set, merged_at}
use Rattle.model.proofs.PartLaws.{flatten-append}
use Rattle.model.proofs.OrderLaws.{equal-true, equal-false}
use Rattle.model.proofs.StepLaws.{union-left-nil, union-right-nil, smallest-snoc}
use Rattle.model.proofs.SetLaws.{rising-ups, ups-canon, canon-ups, canon-of, canon-in, canon-same, by_members, union-canon}
use Rattle.packed.specs.Packed.{text}
use Rattle.values.specs.Spaces.{Kind, kind_number, in_space}
use Rattle.values.specs.ValueOrder.{value_order, extreme_order, is_ordered}
use Rattle.values.proofs.SpaceLaws.{chosen}
use Rattle.ontology.specs.Table.{Property, EventType, strategy_number, is_max, is_replace, at_place}
use Rattle.ontology.specs.code.TypeIndex.{PropertiesAre}
use Rattle.ontology.proofs.RunLaws.{no-element}
use Rattle.event.specs.Event.{choice_of, type_view, event_view}
use Rattle.event.specs.EventLayout.{set_bytes}
use Rattle.event.specs.EventQuestions.{are_in_space}
use Rattle.event.specs.code.EventIndex.{SetIs, no_set, count_size}
use Rattle.event.specs.declared.sets.SetAt.{SetAt}
use Rattle.event.proofs.EventQuestionLaws.{choice-every, choice-least, no_value, one_value, one-in-space}
use Rattle.event.proofs.MatchLaws.{flat-equal, set-short}
use Rattle.opening.specs.code.CellIndex.{cell_in}
use Rattle.opening.specs.code.OpenIndex.{CellsStand, RuleIs, Lone, Chooses, Mergeable}
use Rattle.opening.specs.code.PlanIndex.{Joined, PlaceIs}
use Rattle.opening.specs.declared.merge.PlaceMerged.{PlaceMerged}
use Rattle.opening.specs.declared.strategies.PlaceRule.{PlaceRule}
use Rattle.opening.proofs.StandLaws.{column-long, column-stands, column-rises}

-- ---- the chosen value

lone-one : (k : Kind) (v : Text) → in_space k v ≡ true → Lone k (v ∷ [])
unfolding are_in_space
lone-one k v h = record { one = omega arith; in-space = rw h }

-- the value of a set of one
module _ (k : Kind) (vs : List Text) (w : Lone k vs) (h : length vs ≡ 0 → ⊥) where
  lone_is : vs ≡ get_or vs 0 [] ∷ []
  lone_is = one_value vs h w.one

  lone-in : in_space k (get_or vs 0 []) ≡ true
  lone-in = one-in-space k vs h w.one w.in-space

module _ (k : Kind) (largest : Bool) where
  union-lone-none : (vs : List Text) → Lone k vs → take 1 (union (extreme_order largest k) [] vs) ≡ vs
  unfolding union merge
  union-lone-none vs w = take_all 1 vs w.one

  union-none-lone : (vs : List Text) → Lone k vs → take 1 (union (extreme_order largest k) vs []) ≡ vs
  unfolding union merge put
  union-none-lone [] w = refl
  union-none-lone (v ∷ []) w = refl
  union-none-lone (v ∷ u ∷ r) w = absurd (omega (arith, w.one))

  cond-in : (b : Bool) (v w : Text) → in_space k v ≡ true → in_space k w ≡ true → in_space k (cond b v w) ≡ true
  cond-in true v w p q = p
  cond-in false v w p q = q

  pub lone-union : (vs ws : List Text) → Lone k vs → Lone k ws → Lone k (take 1 (union (extreme_order largest k) vs ws))
  lone-union [] ws p q = subst (Lone k) (sym (union-lone-none ws q)) q
  lone-union (v ∷ vs) [] p q = subst (Lone k) (sym (union-none-lone (v ∷ vs) p)) p
  lone-union (v ∷ []) (w ∷ []) p q =
      let o = (value_order k).cmp v w in
      subst (Lone k) (chosen largest k v w o refl)
      (lone-one k (cond (pick o (not largest) true largest) v w)
      (cond-in (pick o (not largest) true largest) v w (lone-in k (v ∷ []) p (λ z. omega arith)) (lone-in k (w ∷ []) q (λ z. omega arith))))
  lone-union (v ∷ []) (w ∷ u ∷ r) p q = absurd (omega (arith, q.one))
  lone-union (v ∷ u ∷ r) (w ∷ ws) p q = absurd (omega (arith, p.one))

  pub lone-smallest : (vs : List Text) → Lone k vs → smallest (extreme_order largest k) vs ≡ vs
  unfolding smallest canon put
  lone-smallest [] w = refl
  lone-smallest (v ∷ []) w = refl
  lone-smallest (v ∷ u ∷ r) w = absurd (omega (arith, w.one))

-- r is where the chosen value of two sets of at most one stands, which stand at a and b
abbrev pub Better : List ℕ → ℕ → Bool → SetAt → SetAt → SetAt → Type 0
Better s kind largest a b r =
    (k : Kind) (vs ws : List Text) → Chooses k kind → SetIs s vs a → SetIs s ws b → Lone k vs → Lone k ws →
    SetIs s (take 1 (union (extreme_order largest k) vs ws)) r

module _ {s : List ℕ} {kind : ℕ} (largest : Bool) {a b : SetAt} where
  pub better-none : a.count ≡ 0 → Better s kind largest a b b
  better-none e k vs ws ch p q v w =
      let z : vs ≡ [] = no_value vs (omega (arith, p.count)) in
      subst (λ (l : List Text). SetIs s l b) (sym (ap (λ (l : List Text). take 1 (union (extreme_order largest k) l ws)) z
      ∙ union-lone-none k largest ws w)) q

  pub better-only : b.count ≡ 0 → Better s kind largest a b a
  better-only e k vs ws ch p q v w =
      let z : ws ≡ [] = no_value ws (omega (arith, q.count)) in
      subst (λ (l : List Text). SetIs s l a) (sym (ap (λ (l : List Text). take 1 (union (extreme_order largest k) vs l)) z
      ∙ union-none-lone k largest vs v)) p

-- the first is chosen, or the second
abbrev pub BetterBy : List ℕ → ℕ → Bool → SetAt → SetAt → Bool → Type 0
BetterBy s kind largest a b first = (first ≡ true → Better s kind largest a b a) × (first ≡ false → Better s kind largest a b b)

-- the values as they were read, x and y, are compared
module _
    (largest : Bool) {s : List ℕ} {kind : ℕ} {a b : SetAt} {first-bytes second-bytes x y : List ℕ} {o : Ordering} {first : Bool}
    (m : a.count ≡ 0 → ⊥) (n : b.count ≡ 0 → ⊥)
    (first_part : (vs : List Text) → SetIs s vs a → first-bytes ≡ flatten (map text vs))
    (x-is : (vs : List Text) → first-bytes ≡ flatten (map text vs) → x ≡ get_or vs 0 [])
    (second-part : (ws : List Text) → SetIs s ws b → second-bytes ≡ flatten (map text ws))
    (y-is : (ws : List Text) → second-bytes ≡ flatten (map text ws) → y ≡ get_or ws 0 [])
    (compared : (k : Kind) → kind_number k ≡ kind → is_ordered k ≡ true → in_space k x ≡ true → in_space k y ≡ true →
    o ≡ (value_order k).cmp x y)
    (takes : first ≡ pick o (not largest) true largest) where
  module _ (k : Kind) (vs ws : List Text) (ch : Chooses k kind) (p : SetIs s vs a) (q : SetIs s ws b) (v : Lone k vs) (w : Lone k ws) where
    one-first : vs ≡ get_or vs 0 [] ∷ []
    one-first = lone_is k vs v (λ e. m (p.count ∙ e))

    one-second : ws ≡ get_or ws 0 [] ∷ []
    one-second = lone_is k ws w (λ e. n (q.count ∙ e))

    order : (value_order k).cmp (get_or vs 0 []) (get_or ws 0 []) ≡ o
    order =
        let e = x-is vs (first_part vs p) in
        let f = y-is ws (second-part ws q) in
        let x-in = ap (in_space k) e ∙ lone-in k vs v (λ z. m (p.count ∙ z)) in
        let y-in = ap (in_space k) f ∙ lone-in k ws w (λ z. n (q.count ∙ z)) in
        sym (compared k ch.number ch.ordered x-in y-in ∙ ap₂ (λ (x y : Text). (value_order k).cmp x y) e f)

    union-is : (t : Bool) → first ≡ t → take 1 (union (extreme_order largest k) vs ws) ≡ cond t (get_or vs 0 []) (get_or ws 0 []) ∷ []
    union-is t h =
        ap₂ (λ (x y : List Text). take 1 (union (extreme_order largest k) x y)) one-first one-second
        ∙ sym (chosen largest k (get_or vs 0 []) (get_or ws 0 []) o order)
        ∙ ap (λ (t : Bool). cond t (get_or vs 0 []) (get_or ws 0 []) ∷ []) (sym takes ∙ h)

  pub better-chosen : BetterBy s kind largest a b first
  better-chosen = (
    λ h k vs ws ch p q v w.
        subst (λ (l : List Text). SetIs s l a) (one-first k vs ws ch p q v w ∙ sym (union-is k vs ws ch p q v w true h)) p,
    λ h k vs ws ch p q v w.
        subst (λ (l : List Text). SetIs s l b) (one-second k vs ws ch p q v w ∙ sym (union-is k vs ws ch p q v w false h)) q,
  )

-- the least value of the first j snapshots, where it stands
pub record Chosen (s : List ℕ) (k : Kind) (largest : Bool) (xss : List (List Text)) (best : SetAt) (j : ℕ) : Type 0 where
  pub is : SetIs s (smallest (extreme_order largest k) (flatten (take j xss))) best
  pub lone : Lone k (smallest (extreme_order largest k) (flatten (take j xss)))

module _ (s : List ℕ) (k : Kind) (largest : Bool) (xss : List (List Text)) where
  chosen-start : (xs : List Text) (yss : List (List Text)) (x : SetAt) → Lone k xs → SetIs s xs x → Chosen s k largest (xs ∷ yss) x 1
  unfolding flatten
  chosen-start xs yss x l w =
      let e : smallest (extreme_order largest k) (flatten (take 1 (xs ∷ yss))) ≡ xs = ap (smallest (extreme_order largest k)) (append-nil xs)
      ∙ lone-smallest k largest xs l in
      record { is = rw e w; lone = rw e l }

  chosen-first : (x : SetAt) → 1 ≤ length xss → Lone k (get_or xss 0 []) → SetIs s (get_or xss 0 []) x → Chosen s k largest xss x 1
  chosen-first x h l w =
      subst (λ (yss : List (List Text)). Chosen s k largest yss x 1) (sym (drop-cons xss 0 [] h)) (chosen-start (get_or xss 0 []) (drop 1 xss) x l w)

  chosen_more : (j : ℕ) (best r : SetAt) → j < length xss → Chosen s k largest xss best j → Lone k (get_or xss j []) →
      SetIs s (take 1 (union (extreme_order largest k) (smallest (extreme_order largest k) (flatten (take j xss))) (get_or xss j []))) r →
      Chosen s k largest xss r (j + 1)
  chosen_more j best r h c l w =
      let O = extreme_order largest k in
      let e : smallest O (flatten (take (j + 1) xss)) ≡ take 1 (union O (smallest O (flatten (take j xss))) (get_or xss j [])) =
      ap (λ (n : ℕ). smallest O (flatten (take n xss))) (add-one j)
      ∙ ap (λ (yss : List (List Text)). smallest O (flatten yss)) (take-suc xss j [] h)
      ∙ smallest-snoc O (take j xss) (get_or xss j [])
      ∙ ap (λ (vs : List Text). take 1 (union O (smallest O (flatten (take j xss))) vs)) (lone-smallest k largest (get_or xss j []) l) in
      record { is = rw e w; lone = rw e (lone-union k largest (smallest O (flatten (take j xss))) (get_or xss j []) c.lone l) }

  chosen-all :
      (j : ℕ) (best : SetAt) → length xss ≤ j → Chosen s k largest xss best j → SetIs s (smallest (extreme_order largest k) (flatten xss)) best
  chosen-all j best h c = let e = take_all j xss h in rw e at c.is

-- so of any n snapshots whose cells the code has
pub record ChosenTo (s rows : List ℕ) (place n kind : ℕ) (largest : Bool) (best : SetAt) (j : ℕ) : Type 0 where
  pub inside : place < 32
  pub is :
      (ss : List Snapshot) (k : Kind) → CellsStand s ss rows → length ss ≡ n → Chooses k kind →
      ((i : ℕ) → i < n → Lone k (get_or (column ss place) i [])) →
      Chosen s k largest (column ss place) best j

pub chosen-one :
    {s rows : List ℕ} {place n kind : ℕ} {largest : Bool} {x : SetAt} → place < 32 → 1 ≤ n → x ≡ cell_in rows place 0 →
    ChosenTo s rows place n kind largest x 1
chosen-one {place = place} p h e = record {
  inside = p;
  is = λ ss k w c ch l.
      let first = column-stands _ ss _ place 0 p w (omega (arith, c)) e in
      chosen-first _ k _ (column ss place) _ (omega (arith, c, column-long ss place)) (l 0 h) first;
}

module _ {s rows : List ℕ} {place n kind : ℕ} {largest : Bool} {best : SetAt} {j : ℕ} (g : ChosenTo s rows place n kind largest best j) where
  pub chosen-next :
      {x r : SetAt} → j < n → x ≡ cell_in rows place j → Better s kind largest best x r → ChosenTo s rows place n kind largest r (j + 1)
  chosen-next h e better = record {
    inside = g.inside;
    is = λ ss k w c ch l.
        let so_far = g.is ss k w c ch l in
        let here = column-stands s ss rows place j g.inside w (omega (arith, c)) e in
        chosen_more s k largest (column ss place) j best _ (omega (arith, c, column-long ss place)) so_far (l j h)
        (better k _ _ ch so_far.is here so_far.lone (l j h));
  }

  pub chosen_last :
      n ≤ j → (ss : List Snapshot) (k : Kind) → CellsStand s ss rows → length ss ≡ n → Chooses k kind →
      ((i : ℕ) → i < n → Lone k (get_or (column ss place) i [])) → SetIs s (smallest (extreme_order largest k) (flatten (column ss place))) best
  chosen_last h ss k w c ch l = chosen-all s k largest (column ss place) j best (omega (arith, c, column-long ss place)) (g.is ss k w c ch l)

-- ---- the merged set of each strategy

abbrev choice_at : Option Property → Choice
choice_at o = at_place every choice_of o

module _ (t : EventType) (d : Dossier) (p : ℕ) where
  abbrev property : Option Property
  property = get_elem? t.properties p

  merged_by :
      (o : Option Property) (b : Bool) (c : Choice) → property ≡ o → at_place false is_replace o ≡ b → choice_at o ≡ c →
      merged_at (type_view t) d p ≡ merged_set b c (column d.snapshots p)
  unfolding merged_at type_view event_view
  merged_by o b c g e f =
      ap₂ (λ (b : Bool) (c : Choice). merged_set b c (column d.snapshots p)) (ap (at_place false is_replace) g ∙ e) (ap choice_at g ∙ f)

  -- there is no property
  merged-none : property ≡ none → merged_at (type_view t) d p ≡ canon texts (flatten (column d.snapshots p))
  unfolding merged_set at_place
  merged-none e = merged_by none false every e refl refl

  -- strategy max
  pub merged-largest :
      (q : Property) → property ≡ some q → is_max q ≡ true →
      merged_at (type_view t) d p ≡ smallest (extreme_order true q.kind) (flatten (column d.snapshots p))
  unfolding merged_set at_place
  merged-largest q e m =
      let number : strategy_number q.strategy ≡ 2 = eqb-true (strategy_number q.strategy) 2 m in
      merged_by (some q) false (least (extreme_order true q.kind)) e (ap (λ (n : ℕ). eqb n 4) number)
      (choice-least q (ap (λ (n : ℕ). eqb n 1 || eqb n 2) number) ∙ ap (λ (b : Bool). least (extreme_order b q.kind)) m)

  module _ (r : PlaceRule) (w : RuleIs property r) where
    merged-last : r.replaces ≡ true → merged_at (type_view t) d p ≡ last_of (column d.snapshots p)
    unfolding merged_set at_place
    merged-last e = merged_by (some w.what) true (choice_of w.what) w.is (sym w.rule.replaces ∙ e) refl

    merged-every : r.replaces ≡ false → r.extreme ≡ false → merged_at (type_view t) d p ≡ canon texts (flatten (column d.snapshots p))
    unfolding merged_set at_place
    merged-every e f =
        merged_by (some w.what) false every w.is (sym w.rule.replaces ∙ e) (choice-every w.what (sym w.rule.extreme ∙ f))

    abbrev chosen-order : Order Text
    chosen-order = extreme_order r.largest w.what.kind

    merged-least : r.replaces ≡ false → r.extreme ≡ true → merged_at (type_view t) d p ≡ smallest chosen-order (flatten (column d.snapshots p))
    unfolding merged_set at_place
    merged-least e f =
        merged_by (some w.what) false (least chosen-order) w.is (sym w.rule.replaces ∙ e)
        (choice-least w.what (sym w.rule.extreme ∙ f) ∙ ap (λ (b : Bool). least (extreme_order b w.what.kind)) (sym w.rule.largest))

last-at : (xss : List (List Text)) (j : ℕ) → length xss ≡ suc j → last_of xss ≡ get_or xss j []
unfolding last_of
last-at [] j e = absurd (omega arith)
last-at (xs ∷ []) zero e = refl
last-at (xs ∷ []) (suc j) e = absurd (omega arith)
last-at (xs ∷ ys ∷ zss) zero e = absurd (omega arith)
last-at (xs ∷ ys ∷ zss) (suc j) e = last-at (ys ∷ zss) j (omega arith)

-- the only set of one snapshot
only_set : (xss : List (List Text)) → length xss ≡ 1 → flatten xss ≡ get_or xss 0 []
unfolding flatten
only_set [] e = absurd (omega arith)
only_set (xs ∷ []) e = append-nil xs
only_set (xs ∷ ys ∷ zss) e = absurd (omega arith)

-- ---- the union, where all sets that are not empty are the same

-- the union of one set more
union_more : (xss : List (List Text)) (j : ℕ) → j < length xss → Ups texts (get_or xss j []) →
    canon texts (flatten (take (j + 1) xss)) ≡ union texts (canon texts (flatten (take j xss))) (get_or xss j [])
unfolding flatten
union_more xss j h u =
    ap (λ (n : ℕ). canon texts (flatten (take n xss))) (add-one j)
    ∙ ap (λ (yss : List (List Text)). canon texts (flatten yss)) (take-suc xss j [] h)
    ∙ ap (canon texts) (flatten-append (take j xss) (get_or xss j [] ∷ [])
    ∙ ap (λ (l : List Text). flatten (take j xss) ++ l) (append-nil (get_or xss j [])))
    ∙ sym (union-canon texts (flatten (take j xss)) (get_or xss j []))
    ∙ ap (union texts (canon texts (flatten (take j xss)))) (canon-ups texts (get_or xss j []) u)

union_self : (vs : List Text) → Ups texts vs → union texts vs vs ≡ vs
union_self vs u =
    let e = canon-ups texts vs u in
    ap₂ (union texts) (sym e) (sym e)
    ∙ union-canon texts vs vs
    ∙ canon-same texts (vs ++ vs) vs (λ a n. ⊎_elim (λ k. k) (λ k. k) (Memᴰ.append_cases vs n), λ a n. Memᴰ.append_left vs n)
    ∙ e

-- a set that is not empty, within a set of one value
lone-within : (m : Text) (vs : List Text) → Ups texts vs → (vs ≡ [] → ⊥) → Within vs (m ∷ []) → vs ≡ m ∷ []
lone-within m [] u any h = absurd (any refl)
lone-within m (v ∷ vs) u any h =
    by_members texts (v ∷ vs) (m ∷ []) u (tt, tt) (
      h,
      λ a n. ⊎_elim
          (λ q. Memᴰ.head (q ∙ sym (is_one (h v (Memᴰ.head refl)))))
          (λ k. absurd (Memᴰ.not-nil k))
          (Memᴰ.cases_cons n),
    )
  where
    is_one : {a : Text} → Memᴰ a (m ∷ []) → a ≡ m
    is_one n = ⊎_elim (λ q. q) (λ k. absurd (Memᴰ.not-nil k)) (Memᴰ.cases_cons n)

-- two sets that are not empty and differ have two values at least
differ-several :
    (vs ws us : List Text) → Ups texts vs → Ups texts ws → (vs ≡ [] → ⊥) → (ws ≡ [] → ⊥) → Within vs us → Within ws us →
    (vs ≡ ws → ⊥) →
    2 ≤ length us
differ-several vs ws [] a b c d h k ne = absurd (none vs c h)
  where
    none : (vs : List Text) → (vs ≡ [] → ⊥) → Within vs [] → ⊥
    none [] c h = c refl
    none (v ∷ vs) c h = Memᴰ.not-nil (h v (Memᴰ.head refl))
differ-several vs ws (m ∷ []) a b c d h k ne = absurd (ne (lone-within m vs a c h ∙ sym (lone-within m ws b d k)))
differ-several vs ws (m ∷ u ∷ us) a b c d h k ne = omega arith

-- the values of set j are in the union of all, and so are those of the union before it
within_all : (xss : List (List Text)) (j : ℕ) → Within (get_or xss j []) (flatten xss) × Within (flatten (take j xss)) (flatten xss)
unfolding flatten
within_all [] zero = (λ a n. n, λ a n. n)
within_all [] (suc j) = (λ a n. n, λ a n. n)
within_all (xs ∷ xss) zero = (λ a n. Memᴰ.append_left (flatten xss) n, λ a n. absurd (Memᴰ.not-nil n))
within_all (xs ∷ xss) (suc j) = (
  λ a n. Memᴰ.append_right xs ((within_all xss j).0 a n),
  λ a n. ⊎_elim (λ k. Memᴰ.append_left (flatten xss) k) (λ k. Memᴰ.append_right xs ((within_all xss j).1 a k)) (Memᴰ.append_cases xs n),
)

-- the union of the first j sets
abbrev union_to : List (List Text) → ℕ → List Text
union_to xss j = canon texts (flatten (take j xss))

-- it stands at `only`, and the set that follows at x
record OneMore (s : List ℕ) (xss : List (List Text)) (j : ℕ) (only x : SetAt) : Type 0 where
  within : j < length xss
  rises : rising texts (get_or xss j []) ≡ true
  before : SetIs s (union_to xss j) only
  here : SetIs s (get_or xss j []) x

module _ (s : List ℕ) (xss : List (List Text)) where
  only-first : (x : SetAt) → 1 ≤ length xss → rising texts (get_or xss 0 []) ≡ true → SetIs s (get_or xss 0 []) x → SetIs s (union_to xss 1) x
  unfolding flatten canon
  only-first x h u w =
      subst (λ (vs : List Text). SetIs s vs x) (sym (union_more xss 0 h ((rising-ups texts (get_or xss 0 [])).0 u) ∙ union-left-nil texts (get_or xss 0 [])))
      w

  only-all : (j : ℕ) (x : SetAt) → length xss ≤ j → SetIs s (union_to xss j) x → SetIs s (canon texts (flatten xss)) x
  only-all j x h w = let e = take_all j xss h in rw e at w

module _ {s : List ℕ} {xss : List (List Text)} {j : ℕ} {only x : SetAt} (g : OneMore s xss j only x) where
  abbrev before : List Text
  before = union_to xss j

  abbrev here : List Text
  here = get_or xss j []

  before-ups : Ups texts before
  before-ups = ups-canon texts (flatten (take j xss))

  here-ups : Ups texts here
  here-ups = (rising-ups texts here).0 g.rises

  union-next : union_to xss (j + 1) ≡ union texts before here
  union-next = union_more xss j g.within here-ups

  -- an empty set more
  only_kept : x.count ≡ 0 → SetIs s (union_to xss (j + 1)) only
  only_kept e =
      let z : here ≡ [] = no_value here (omega (arith, g.here.count)) in
      subst (λ (vs : List Text). SetIs s vs only) (sym (union-next ∙ ap (union texts before) z ∙ union-right-nil texts before before-ups)) g.before

  -- a set after empty ones
  only-taken : only.count ≡ 0 → SetIs s (union_to xss (j + 1)) x
  only-taken e =
      let z : before ≡ [] = no_value before (omega (arith, g.before.count)) in
      subst (λ (vs : List Text). SetIs s vs x) (sym (union-next ∙ ap (λ (vs : List Text). union texts vs here) z ∙ union-left-nil texts here)) g.here

  -- the bytes of both are compared
  module _
      (l : length s < 2 ^ 64) {a b : List ℕ} (p : a ≡ flatten (map text before)) (q : b ≡ flatten (map text here))
      {r : Bool} (e : r ≡ equal texts a b) where
    alike : r ≡ equal sets before here
    alike = e ∙ ap₂ (equal texts) p q ∙ flat-equal before here (set-short s before only g.before l)

    only_same : r ≡ true → SetIs s (union_to xss (j + 1)) only
    only_same t =
        let q : before ≡ here = (equal-true sets before here).0 (sym alike ∙ t) in
        subst (λ (vs : List Text). SetIs s vs only) (sym (union-next ∙ ap (union texts before) (sym q) ∙ union_self before before-ups)) g.before

    only-differs : (only.count ≡ 0 → ⊥) → (x.count ≡ 0 → ⊥) → r ≡ false → Joined (canon texts (flatten xss)) xss
    only-differs m n f = record {
      union = refl;
      several =
          differ-several before here (canon texts (flatten xss)) before-ups here-ups
          (λ z. m (g.before.count ∙ ap length z))
          (λ z. n (g.here.count ∙ ap length z))
          (λ a k. canon-in texts (flatten xss) a ((within_all xss j).1 a (canon-of texts (flatten (take j xss)) a k)))
          (λ a k. canon-in texts (flatten xss) a ((within_all xss j).0 a k))
          ((equal-false sets before here).0 (sym alike ∙ f));
    }

-- the union of the first j sets of a place stands at `only`, whatever the n snapshots whose cells the code has
pub record UnionTo (s rows : List ℕ) (place n : ℕ) (only : SetAt) (j : ℕ) : Type 0 where
  pub below : j ≤ n
  pub inside : place < 32
  pub short : length s < 2 ^ 64
  pub is : (ss : List Snapshot) → CellsStand s ss rows → length ss ≡ n → SetIs s (union_to (column ss place) j) only

pub union-one :
    {s rows : List ℕ} {place n : ℕ} {x : SetAt} → 1 ≤ n → place < 32 → length s < 2 ^ 64 → x ≡ cell_in rows place 0 →
    UnionTo s rows place n x 1
union-one {place = place} h p l e = record {
  below = h;
  inside = p;
  short = l;
  is = λ ss w c.
      let k : 0 < length ss = omega (arith, c) in
      only-first _ (column ss place) _ (omega (arith, column-long ss place)) (column-rises _ ss _ place 0 p w k) (column-stands _ ss _ place 0 p w k e);
}

module _ {s rows : List ℕ} {place n : ℕ} {only : SetAt} {j : ℕ} (g : UnionTo s rows place n only j) where
  pub union-all :
      n ≤ j → (ss : List Snapshot) → CellsStand s ss rows → length ss ≡ n → SetIs s (canon texts (flatten (column ss place))) only
  union-all h ss w c = only-all s (column ss place) j only (omega (arith, c, column-long ss place)) (g.is ss w c)

  -- the set of snapshot j stands at x
  module _ {x : SetAt} (h : j < n) (e : x ≡ cell_in rows place j) where
    one_more : (ss : List Snapshot) → CellsStand s ss rows → length ss ≡ n → OneMore s (column ss place) j only x
    one_more ss w c =
        let k : j < length ss = omega (arith, c) in
        record {
          within = omega (arith, column-long ss place);
          rises = column-rises s ss rows place j g.inside w k;
          before = g.is ss w c;
          here = column-stands s ss rows place j g.inside w k e;
        }

    union-with :
        {now y : SetAt} → now ≡ y →
        ((ss : List Snapshot) → CellsStand s ss rows → length ss ≡ n → SetIs s (union_to (column ss place) (j + 1)) y) →
        UnionTo s rows place n now (j + 1)
    union-with f is = rw f (record { below = omega arith; inside = g.inside; short = g.short; is = is })

    pub union-taken : only.count ≡ 0 → {now : SetAt} → now ≡ x → UnionTo s rows place n now (j + 1)
    union-taken z f = union-with f (λ ss w c. only-taken (one_more ss w c) z)

    pub union-kept : x.count ≡ 0 → {now : SetAt} → now ≡ only → UnionTo s rows place n now (j + 1)
    union-kept z f = union-with f (λ ss w c. only_kept (one_more ss w c) z)

    -- the bytes of both sets, a and b, are compared
    module _
        {a b : List ℕ} {r : Bool} (p : (vs : List Text) → SetIs s vs only → a ≡ flatten (map text vs))
        (q : (vs : List Text) → SetIs s vs x → b ≡ flatten (map text vs)) (f : r ≡ equal texts a b) where
      pub union-same : r ≡ true → {now : SetAt} → now ≡ only → UnionTo s rows place n now (j + 1)
      union-same t i =
          union-with i (λ ss w c. let m = one_more ss w c in only_same m g.short (p _ m.before) (q _ m.here) f t)

      pub union-differs :
          (only.count ≡ 0 → ⊥) → (x.count ≡ 0 → ⊥) → r ≡ false → (ss : List Snapshot) → CellsStand s ss rows → length ss ≡ n →
          Joined (canon texts (flatten (column ss place))) (column ss place)
      union-differs k l t ss w c =
          let m = one_more ss w c in
          only-differs m g.short (p _ m.before) (q _ m.here) f k l t

-- ---- the merged set of a place

module _
    {s rows : List ℕ} {n : ℕ} {t : EventType} {d : Dossier} {r : PlaceRule} (p : ℕ) (h : p < 32) (m : Mergeable s rows n t d)
    (w : RuleIs (get_elem? t.properties p) r) where
  abbrev sets-here : List (List Text)
  sets-here = column d.snapshots p

  abbrev merged-here : List Text
  merged-here = merged_at (type_view t) d p

  here-stands : (j : ℕ) → j < n → SetIs s (get_or sets-here j []) (cell_in rows p j)
  here-stands j l = column-stands s d.snapshots rows p j h m.stand (omega (arith, m.count)) refl

  last-cell : 1 ≤ n → {x : SetAt} → x ≡ cell_in rows p (n - 1) → merged-here ≡ get_or sets-here (n - 1) [] → SetIs s merged-here x
  last-cell k c e = rw (c, e) (here-stands (n - 1) (omega arith))

  pub stands-last : 1 ≤ n → {x : SetAt} → x ≡ cell_in rows p (n - 1) → r.replaces ≡ true → SetIs s merged-here x
  stands-last k c e =
      let l : length sets-here ≡ suc (n - 1) = column-long d.snapshots p ∙ m.count ∙ omega arith in
      last-cell k c (merged-last t d p r w e ∙ last-at sets-here (n - 1) l)

  pub stands-marked : 1 ≤ n → {x : SetAt} → x ≡ cell_in rows p (n - 1) → p + 1 ≡ t.mark → SetIs s merged-here x
  stands-marked k c e = last-cell k c (m.marked p e)

  module _ (k : n ≡ 1) where
    only-flat : flatten sets-here ≡ get_or sets-here 0 []
    only-flat = only_set sets-here (column-long d.snapshots p ∙ m.count ∙ k)

    only-rises : rising texts (get_or sets-here 0 []) ≡ true
    only-rises = column-rises s d.snapshots rows p 0 h m.stand (omega (arith, m.count))

    only-union : r.replaces ≡ false → r.extreme ≡ false → merged-here ≡ get_or sets-here 0 []
    only-union e f =
        merged-every t d p r w e f ∙ ap (canon texts) only-flat
        ∙ canon-ups texts (get_or sets-here 0 []) ((rising-ups texts (get_or sets-here 0 [])).0 only-rises)

    only-least : r.replaces ≡ false → r.extreme ≡ true → merged-here ≡ get_or sets-here 0 []
    only-least e f =
        let o = sym w.rule.extreme ∙ f in
        merged-least t d p r w e f ∙ ap (smallest (chosen-order t d p r w)) only-flat
        ∙ lone-smallest w.what.kind r.largest (get_or sets-here 0 []) (m.lone p w.what w.is o 0 (omega arith))

    pub stands-only : {x : SetAt} → x ≡ cell_in rows p (n - 1) → SetIs s merged-here x
    stands-only {x} c = by r.replaces r.extreme refl refl
      where
        first : n - 1 ≡ 0
        first = omega arith

        only : get_or sets-here 0 [] ≡ get_or sets-here (n - 1) []
        only = ap (λ (i : ℕ). get_or sets-here i []) (sym first)

        by : (a b : Bool) → r.replaces ≡ a → r.extreme ≡ b → SetIs s merged-here x
        by true b e f = stands-last (omega arith) c e
        by false true e f = last-cell (omega arith) c (only-least e f ∙ only)
        by false false e f = last-cell (omega arith) c (only-union e f ∙ only)

  pub stands-chosen : {x : SetAt} → r.replaces ≡ false → r.extreme ≡ true →
      ((ss : List Snapshot) (k : Kind) → CellsStand s ss rows → length ss ≡ n → Chooses k r.kind →
      ((j : ℕ) → j < n → Lone k (get_or (column ss p) j [])) →
      SetIs s (smallest (extreme_order r.largest k) (flatten (column ss p))) x) →
      SetIs s merged-here x
  stands-chosen {x} e g h =
      let k = w.what.kind in
      let o = sym w.rule.extreme ∙ g in
      let chooses = subst (Chooses k) (sym w.rule.kind) (m.chosen p w.what w.is o) in
      subst (λ (vs : List Text). SetIs s vs x) (sym (merged-least t d p r w e g))
      (h d.snapshots k m.stand m.count chooses (m.lone p w.what w.is o))

  pub place-every : (x : PlaceMerged) → r.replaces ≡ false → r.extreme ≡ false →
      ((ss : List Snapshot) → CellsStand s ss rows → length ss ≡ n → PlaceIs s (canon texts (flatten (column ss p))) (column ss p) x) →
      PlaceIs s merged-here sets-here x
  place-every x e f h = subst (λ (vs : List Text). PlaceIs s vs sets-here x) (sym (merged-every t d p r w e f)) (h d.snapshots m.stand m.count)

-- ---- a place without a property

pub no-set : (s : List ℕ) → SetIs s [] no_set
unfolding flatten count_size set_bytes
no-set s = record { bytes = refl; count = refl; order = omega arith; within = omega arith; counted = omega arith; whole = refl }

pub merged-vacant :
    (s rows u : List ℕ) (n : ℕ) (ty : EventType) (count : ℕ) (ps : List ℕ) (d : Dossier) (p : ℕ) →
    PropertiesAre u ty.properties count ps → Mergeable s rows n ty d → count ≤ p →
    merged_at (type_view ty) d p ≡ []
unfolding canon
merged-vacant s rows u n ty count ps d p w m h =
    let e : get_elem? ty.properties p ≡ none = no-element ty.properties p (omega (arith, w.count)) in
    merged-none ty d p e ∙ ap (canon texts) (m.vacant p e)
