-- The laws of a property's fields, one after the other.
use mathlib.Core.Path.{◌≡◌, refl, sym, ap, ◌∙◌}
use mathlib.Core.Bool.{Bool, true, false, cond}
use mathlib.Core.List.{List}
use Prim.Native.Nat.{ℕ, zero, suc, ◌≤◌}
use native.Mathlib.Omega.{arith}
use lib.ListN.{length, drop}
use lib.Dec.{leb}
use borrow.Author.Tests.{ne_eqb}
use Rattle.model.specs.Order.{Text}
use Rattle.model.proofs.Cases.{and_parts}
use Rattle.packed.specs.Parse.{Parse, fail, got, Layout, and_then, found, found_if, such_that}
use Rattle.packed.specs.Packed.{read_number, read_text, part, is_within}
use Rattle.packed.specs.code.Located.{Got, NameStops}
use Rattle.packed.proofs.LayoutLaws.{and_then-got, such_that-got}
use Rattle.packed.proofs.FieldLaws.{then-none, such-was, within-bounds, is_within_lem}
use Rattle.values.specs.Spaces.{Kind}
use Rattle.ontology.specs.Table.{Strategy, min, max, add, replace, match, set, any, strategy_number, Property, is_name, is_name_within}
use Rattle.ontology.specs.TableLayout.{read_flag, read_kind, read_strategy, read_property}
use Rattle.ontology.specs.code.TypeIndex.{KindIs, KindStops, PropertyStops}
use Rattle.ontology.proofs.OnwardLaws.{Onward, on-first, on-got, on-found}

-- ---- the strategy

-- a number of a strategy
abbrev pub is_numbered : ℕ → Bool
is_numbered n = is_within (strategy_number min) (strategy_number any) n

record StrategyOf (n : ℕ) : Type 0 where
  what : Strategy
  number : n ≡ strategy_number what
  layout : (t r : List ℕ) → read_number t ≡ got n r → read_strategy t ≡ got what r

strategy-of : (n : ℕ) → strategy_number min ≤ n → n ≤ strategy_number any → StrategyOf n
unfolding read_strategy
strategy-of zero h k = absurd (omega arith)
strategy-of (suc zero) h k = record { what = min; number = refl; layout = λ t r e. rw e }
strategy-of (suc (suc zero)) h k = record { what = max; number = refl; layout = λ t r e. rw e }
strategy-of (suc (suc (suc zero))) h k = record { what = add; number = refl; layout = λ t r e. rw e }
strategy-of (suc (suc (suc (suc zero)))) h k = record { what = replace; number = refl; layout = λ t r e. rw e }
strategy-of (suc (suc (suc (suc (suc zero))))) h k = record { what = match; number = refl; layout = λ t r e. rw e }
strategy-of (suc (suc (suc (suc (suc (suc zero)))))) h k = record { what = set; number = refl; layout = λ t r e. rw e }
strategy-of (suc (suc (suc (suc (suc (suc (suc zero))))))) h k = record { what = any; number = refl; layout = λ t r e. rw e }
strategy-of (suc (suc (suc (suc (suc (suc (suc (suc n)))))))) h k = absurd (omega arith)

strategy-outside : (n : ℕ) (t r : List ℕ) → is_numbered n ≡ false → read_number t ≡ got n r → read_strategy t ≡ fail
unfolding read_strategy
strategy-outside n t r h e =
    let none : strategy_number min ≤ n → n ≤ strategy_number any → ⊥ = λ a b.
    let z : false ≡ true = sym h ∙ is_within_lem (strategy_number min) (strategy_number any) n a b in
    let y : ◌≡◌ {A = ℕ} 0 1 = cc in
    omega arith
    in
    rw (
      e,
      ne_eqb n (strategy_number min) (λ q. none (omega arith) (omega arith)),
      ne_eqb n (strategy_number max) (λ q. none (omega arith) (omega arith)),
      ne_eqb n (strategy_number add) (λ q. none (omega arith) (omega arith)),
      ne_eqb n (strategy_number replace) (λ q. none (omega arith) (omega arith)),
      ne_eqb n (strategy_number match) (λ q. none (omega arith) (omega arith)),
      ne_eqb n (strategy_number set) (λ q. none (omega arith) (omega arith)),
      ne_eqb n (strategy_number any) (λ q. none (omega arith) (omega arith)),
    )

-- the strategy of a number, by the number's position
pub record StrategyStops (s : List ℕ) (at n next : ℕ) : Type 0 where
  pub what : Strategy
  pub stops : Got (read_strategy (drop at s)) s at what next
  pub number : n ≡ strategy_number what
  pub small : n ≤ strategy_number any

pub strategy-got : {s : List ℕ} {at n e : ℕ} → Got (such_that is_numbered read_number (drop at s)) s at n e → StrategyStops s at n e
strategy-got {s} {at} {n} {e} g =
    let w = such-was is_numbered read_number s at g in
    let b = within-bounds (strategy_number min) (strategy_number any) n w.1 in
    let x = strategy-of n b.0 b.1 in
    record {
      what = x.what;
      stops = record { is = x.layout (drop at s) (drop e s) w.0.is; after = g.after; within = g.within };
      number = x.number;
      small = b.1;
    }

pub strategy-none : (t : List ℕ) → such_that is_numbered read_number t ≡ fail → read_strategy t ≡ fail
unfolding read_strategy
strategy-none t e = go (read_number t) refl e
  where
    go : (p : Parse ℕ) → read_number t ≡ p → and_then p (λ n. found_if (is_numbered n) n) ≡ fail → read_strategy t ≡ fail
    go fail q e = rw q
    go (got n r) q e = test (is_numbered n) refl e
      where
        test : (b : Bool) → is_numbered n ≡ b → cond b (got n r) fail ≡ fail → read_strategy t ≡ fail
        test true h e = let z : ◌≡◌ {A = ℕ} 0 1 = cc in absurd (omega arith)
        test false h e = strategy-outside n t r h q

-- ---- the property

abbrev property : Text → Kind → Bool → Bool → Strategy → Property
property name kind optional multivalued strategy =
    record { name = name; kind = kind; optional = optional; multivalued = multivalued; strategy = strategy }

-- what follows each field
abbrev after-multivalued : Text → Kind → Bool → Bool → Layout Property
after-multivalued n k o m t = and_then (read_strategy t) (λ y. found (property n k o m y))

abbrev after-optional : Text → Kind → Bool → Layout Property
after-optional n k o t = and_then (read_flag t) (after-multivalued n k o)

abbrev after-kind : Text → Kind → Layout Property
after-kind n k t = and_then (read_flag t) (after-optional n k)

abbrev after-name : Text → Layout Property
after-name n t = and_then (read_kind t) (after-kind n)

property-layout : (t : List ℕ) → read_property t ≡ and_then (such_that (is_name_within 32) read_text t) after-name
unfolding read_property
property-layout t = refl

pub property-unnamed : (t : List ℕ) → such_that (is_name_within 32) read_text t ≡ fail → read_property t ≡ fail
property-unnamed t e = property-layout t ∙ then-none after-name e

-- the name is read, from start up to end
pub record NameLeft (s : List ℕ) (at start end : ℕ) : Type 0 where
  pub order : start ≤ end
  pub left : Onward read_property s at (after-name (part s start end)) end

-- the kind is read too
pub record KindLeft (s : List ℕ) (at start end kind size after sign e : ℕ) : Type 0 where
  pub name : NameLeft s at start end
  pub what : Kind
  pub are : KindIs what kind size after sign
  pub left : Onward read_property s at (after-kind (part s start end) what) e

pub name-left : {s : List ℕ} {at start end : ℕ} → NameStops (such_that (is_name_within 32) read_text (drop at s)) s at start end →
    NameLeft s at start end
name-left g = record { order = g.order; left = on-first (such_that (is_name_within 32) read_text) after-name property-layout g.stops }

pub kind-left :
    {s : List ℕ} {at start end kind size after sign e : ℕ} → NameLeft s at start end →
    KindStops (read_kind (drop end s)) s end kind size after sign e →
    KindLeft s at start end kind size after sign e
kind-left {s} {at} {start} {end} g k = record {
  name = g;
  what = k.what;
  are = k.are;
  left = on-got read_kind (after-kind (part s start end)) g.left k.stops;
}

module _ {s : List ℕ} {at start end kind size after sign e : ℕ} (k : KindLeft s at start end kind size after sign e) where
  -- the first flag is read, and both
  abbrev pub OptionalLeft : Bool → ℕ → Type 0
  OptionalLeft o f = Onward read_property s at (after-optional (part s start end) k.what o) f

  abbrev pub FlagsLeft : Bool → Bool → ℕ → Type 0
  FlagsLeft o m f = Onward read_property s at (after-multivalued (part s start end) k.what o m) f

  -- the property that was read, as the index has it
  pub property-is :
      (o m : Bool) {f strategy z : ℕ} → FlagsLeft o m f → StrategyStops s f strategy z →
      PropertyStops (read_property (drop at s)) s at
      (record { start = start; end = end; kind = kind; size = size; after = after; sign = sign; optional = o; multivalued = m; strategy = strategy }) z
  property-is o m w y =
      let made = property (part s start end) k.what o m in
      record {
        what = made y.what;
        stops = on-found (on-got read_strategy (λ y. found (made y)) w y.stops);
        is = record {
          name = refl;
          order = k.name.order;
          within = k.name.left.within;
          kind = k.are;
          optional = refl;
          multivalued = refl;
          strategy = y.number;
        };
      }

-- a property that was read has a name
pub property-named : (s : List ℕ) (q : Property) (r : List ℕ) → read_property s ≡ got q r → is_name q.name ≡ true
unfolding read_property is_name_within
property-named s q r e =
    let a = and_then-got (such_that (is_name_within 32) read_text s) _ q r e in
    let b = and_then-got (read_kind a.left) _ q r a.second in
    let c = and_then-got (read_flag b.left) _ q r b.second in
    let d = and_then-got (read_flag c.left) _ q r c.second in
    let f = and_then-got (read_strategy d.left) _ q r d.second in
    let x : property a.value b.value c.value d.value f.value ≡ q = cc f.second in
    let n = such_that-got (is_name_within 32) read_text s a.value a.left a.first in
    ap (λ (y : Property). is_name y.name) (sym x) ∙ (and_parts (is_name a.value) (leb (length a.value) 32) n.test).0
