-- The laws of kinds and their parameters.
use mathlib.Core.Path.{◌≡◌, refl, sym, ap, ◌∙◌, subst}
use mathlib.Core.Logic.{◌⊎◌, inl, inr}
use mathlib.Core.Bool.{Bool, true, false, cond, ◌&&◌, ◌||◌}
use mathlib.Core.List.{List}
use Prim.Native.Nat.{ℕ, zero, suc, ◌-◌, ◌≤◌, ◌<◌}
use native.Mathlib.Omega.{arith}
use lib.ListN.{drop}
use lib.Dec.{leb, eqb}
use mir.Val.{bool_byte}
use borrow.Author.Tests.{ne_eqb, eqb-true}
use Rattle.packed.specs.Parse.{Parse, fail, got, Layout, and_then, found, found_if, such_that}
use Rattle.packed.specs.Packed.{read_number, is_within}
use Rattle.packed.specs.code.Located.{Got}
use Rattle.packed.proofs.FieldLaws.{then-none, within-bounds}
use Rattle.values.specs.Spaces.{Kind, unsigned, signed, decimal, currency, sequence, datetime, boolean, string, hex, is_width, is_kind}
use Rattle.values.specs.Spaces.{kind_number, unsigned_number, signed_number, decimal_number, string_number, hex_number}
use Rattle.values.specs.code.KindNumbers.{size_parameter, after_parameter, sign_parameter}
use Rattle.ontology.specs.TableLayout.{read_flag, read_decimal, read_parameters, read_kind}
use Rattle.ontology.specs.code.TypeIndex.{HasOne, parameter_fits, KindIs, KindStops, KindReads}
use Rattle.ontology.proofs.OnwardLaws.{Onward, on-first, on-got, on-not, on-passed, on-found}
use Rattle.std.specs.Prelude.{Option, Some, None}
use Rattle.ontology.specs.declared.kinds.KindAt.{KindAt}

-- ---- ranges

width_small : (n : ℕ) → is_width n ≡ true → n ≤ 120
unfolding is_width
width_small n e = go (is_within 1 4 n) refl e
  where
    go : (t : Bool) → is_within 1 4 n ≡ t → (t || eqb n 8) ≡ true → n ≤ 120
    go true h e = omega (arith, within-bounds 1 4 n h)
    go false h e = omega (arith, eqb-true n 8 e)

pub fits-small : (kind n : ℕ) → parameter_fits kind n ≡ true → n ≤ 120
unfolding parameter_fits
fits-small kind n e = go (leb kind signed_number) (eqb kind string_number) e
  where
    go : (t u : Bool) → cond t (is_width n) (is_within 1 (cond u 120 60) n) ≡ true → n ≤ 120
    go true u e = width_small n e
    go false true e = (within-bounds 1 120 n e).1
    go false false e = omega (arith, (within-bounds 1 60 n e).1)

-- the digits of a decimal are in their ranges
abbrev pub digits_fit : ℕ → ℕ → Bool
digits_fit total after = is_within 2 38 total && is_within 1 (total - 1) after

pub digits-small : (total after : ℕ) → digits_fit total after ≡ true → (total ≤ 38) × (after ≤ 38)
digits-small total after e = go (is_within 2 38 total) refl e
  where
    go : (t : Bool) → is_within 2 38 total ≡ t → (t && is_within 1 (total - 1) after) ≡ true → (total ≤ 38) × (after ≤ 38)
    go true h e =
        let a = (within-bounds 2 38 total h).1 in
        let b = (within-bounds 1 (total - 1) after e).1 in
        (a, omega arith)
    go false h e = let z : ◌≡◌ {A = ℕ} 0 1 = cc in absurd (omega arith)

-- ---- a kind of one parameter

kind-is :
    {k : Kind} {n a b c : ℕ} → n ≡ kind_number k → a ≡ size_parameter k → b ≡ after_parameter k → c ≡ sign_parameter k → KindIs k n a b c
kind-is n a b c = record { number = n; size_is = a; after_is = b; sign-is = c }

record OneParameter (kind : ℕ) : Type 0 where
  make : ℕ → Kind
  layout : (t : List ℕ) → read_parameters kind t ≡ and_then (read_number t) (λ n. found (make n))
  fits : (n : ℕ) → is_kind (make n) ≡ parameter_fits kind n
  are : (n : ℕ) → KindIs (make n) kind n 0 0

one-unsigned : OneParameter unsigned_number
unfolding read_parameters is_kind parameter_fits
one-unsigned = record {
  make = unsigned;
  layout = λ t. refl;
  fits = λ n. refl;
  are = λ n. kind-is refl refl refl refl;
}

one-signed : OneParameter signed_number
unfolding read_parameters is_kind parameter_fits
one-signed = record {
  make = signed;
  layout = λ t. refl;
  fits = λ n. refl;
  are = λ n. kind-is refl refl refl refl;
}

one-string : OneParameter string_number
unfolding read_parameters is_kind parameter_fits
one-string = record {
  make = string;
  layout = λ t. refl;
  fits = λ n. refl;
  are = λ n. kind-is refl refl refl refl;
}

one-hex : OneParameter hex_number
unfolding read_parameters is_kind parameter_fits
one-hex = record {
  make = hex;
  layout = λ t. refl;
  fits = λ n. refl;
  are = λ n. kind-is refl refl refl refl;
}

one-parameter : (kind : ℕ) → HasOne kind → OneParameter kind
one-parameter kind (inl e) = subst OneParameter (sym e) one-unsigned
one-parameter kind (inr (inl e)) = subst OneParameter (sym e) one-signed
one-parameter kind (inr (inr (inl e))) = subst OneParameter (sym e) one-string
one-parameter kind (inr (inr (inr e))) = subst OneParameter (sym e) one-hex

-- kinds of the parameters at a position, those in their ranges
abbrev pub kind_after : ℕ → List ℕ → Parse Kind
kind_after kind t = such_that is_kind (read_parameters kind) t

module _ {kind : ℕ} (h : HasOne kind) where
  abbrev made : ℕ → Kind
  made = (one-parameter kind h).make

  -- what follows the parameter
  abbrev after_one : ℕ → Layout Kind
  after_one n t = cond (parameter_fits kind n) (got (made n) t) fail

  one-layout : (t : List ℕ) → kind_after kind t ≡ and_then (read_number t) after_one
  one-layout t = rw ((one-parameter kind h).layout t) (go (read_number t))
    where
      go : (p : Parse ℕ) → and_then (and_then p (λ n. found (made n))) (λ k. found_if (is_kind k) k) ≡ and_then p after_one
      go fail = refl
      go (got n r) = rw ((one-parameter kind h).fits n)

  pub one_none : (t : List ℕ) → read_number t ≡ fail → kind_after kind t ≡ fail
  one_none t e = one-layout t ∙ then-none after_one e

  -- the parameter is read, and is in its range or not
  module _ {s : List ℕ} {at n e : ℕ} (g : Got (read_number (drop at s)) s at n e) where
    one-left : Onward (kind_after kind) s at (after_one n) e
    one-left = on-first read_number after_one one-layout g

    pub one-stops : true ≡ parameter_fits kind n → KindStops (kind_after kind (drop at s)) s at kind n 0 0 e
    one-stops f = record { what = made n; stops = on-found (on-passed (got (made n)) one-left (sym f)); are = (one-parameter kind h).are n }

    pub one-not : false ≡ parameter_fits kind n → kind_after kind (drop at s) ≡ fail
    one-not f = on-not (got (made n)) one-left (sym f)

-- ---- a decimal

-- what follows each number and the flag
abbrev after-sign : ℕ → ℕ → Bool → Layout Kind
after-sign total after sign t = cond (digits_fit total after) (got (decimal total after sign) t) fail

abbrev after-point : ℕ → ℕ → Layout Kind
after-point total after t = and_then (read_flag t) (after-sign total after)

abbrev after-total : ℕ → Layout Kind
after-total total t = and_then (read_number t) (after-point total)

decimal-layout : (t : List ℕ) → kind_after decimal_number t ≡ and_then (read_number t) after-total
unfolding read_parameters read_decimal is_kind
decimal-layout t = go (read_number t)
  where
    tested : Parse Kind → Parse Kind
    tested p = and_then p (λ k. found_if (is_kind k) k)

    of-sign :
        (total after : ℕ) (p : Parse Bool) → tested (and_then p (λ sign. found (decimal total after sign))) ≡ and_then p (after-sign total after)
    of-sign total after fail = refl
    of-sign total after (got sign v) = refl

    of-after :
        (total : ℕ) (p : Parse ℕ) →
        tested (and_then p (λ after u. and_then (read_flag u) (λ sign. found (decimal total after sign)))) ≡ and_then p (after-point total)
    of-after total fail = refl
    of-after total (got after u) = of-sign total after (read_flag u)

    go :
        (p : Parse ℕ) →
        tested (and_then p (λ total r. and_then (read_number r) (λ after u. and_then (read_flag u) (λ sign. found (decimal total after sign)))))
        ≡ and_then p after-total
    go fail = refl
    go (got total r) = of-after total (read_number r)

sign-byte : (b : Bool) → bool_byte b ≡ cond b 1 0
sign-byte true = refl
sign-byte false = refl

pub decimal-none : (t : List ℕ) → read_number t ≡ fail → kind_after decimal_number t ≡ fail
decimal-none t e = decimal-layout t ∙ then-none after-total e

-- the total is read, and the digits after the point
abbrev pub TotalLeft : List ℕ → ℕ → ℕ → ℕ → Type 0
TotalLeft s at total e = Onward (kind_after decimal_number) s at (after-total total) e

abbrev pub PointLeft : List ℕ → ℕ → ℕ → ℕ → ℕ → Type 0
PointLeft s at total after e = Onward (kind_after decimal_number) s at (after-point total after) e

module _ {s : List ℕ} {at : ℕ} where
  pub total_left : {total e : ℕ} → Got (read_number (drop at s)) s at total e → TotalLeft s at total e
  total_left g = on-first read_number after-total decimal-layout g

  -- and the flag is, and the digits are in their ranges or not
  module _ (total after : ℕ) {e f : ℕ} {sign : Bool} (w : PointLeft s at total after e) (g : Got (read_flag (drop e s)) s e sign f) where
    sign-left : Onward (kind_after decimal_number) s at (after-sign total after sign) f
    sign-left = on-got read_flag (after-sign total after) w g

    pub decimal-stops : true ≡ digits_fit total after → KindStops (kind_after decimal_number (drop at s)) s at decimal_number total after (bool_byte sign) f
    decimal-stops q = record {
      what = decimal total after sign;
      stops = on-found (on-passed (got (decimal total after sign)) sign-left (sym q));
      are = kind-is refl refl refl (sign-byte sign);
    }

    pub decimal-not : false ≡ digits_fit total after → kind_after decimal_number (drop at s) ≡ fail
    decimal-not q = on-not (got (decimal total after sign)) sign-left (sym q)

-- ---- a kind

record Plain (n : ℕ) : Type 0 where
  what : Kind
  layout : (t : List ℕ) → kind_after n t ≡ got what t
  are : KindIs what n 0 0 0

-- the kinds without parameters have numbers that follow each other
plain : (n : ℕ) → kind_number currency ≤ n → n ≤ kind_number boolean → Plain n
unfolding read_parameters is_kind
plain zero h k = absurd (omega arith)
plain (suc zero) h k = absurd (omega arith)
plain (suc (suc zero)) h k = absurd (omega arith)
plain (suc (suc (suc zero))) h k = absurd (omega arith)
plain (suc (suc (suc (suc zero)))) h k = record { what = currency; layout = λ t. refl; are = kind-is refl refl refl refl }
plain (suc (suc (suc (suc (suc zero))))) h k = record { what = sequence; layout = λ t. refl; are = kind-is refl refl refl refl }
plain (suc (suc (suc (suc (suc (suc zero)))))) h k = record { what = datetime; layout = λ t. refl; are = kind-is refl refl refl refl }
plain (suc (suc (suc (suc (suc (suc (suc zero))))))) h k = record { what = boolean; layout = λ t. refl; are = kind-is refl refl refl refl }
plain (suc (suc (suc (suc (suc (suc (suc (suc n)))))))) h k = absurd (omega arith)

-- a number of no kind
abbrev IsOutside : ℕ → Type 0
IsOutside n = (n < unsigned_number) ⊎ (hex_number < n)

kind-outside : (n : ℕ) (t : List ℕ) → IsOutside n → kind_after n t ≡ fail
unfolding read_parameters
kind-outside n t (inl h) = let e : n ≡ 0 = omega arith in rw e
kind-outside n t (inr h) =
    rw (
      ne_eqb n unsigned_number (λ e. omega arith),
      ne_eqb n signed_number (λ e. omega arith),
      ne_eqb n decimal_number (λ e. omega arith),
      ne_eqb n (kind_number currency) (λ e. omega arith),
      ne_eqb n (kind_number sequence) (λ e. omega arith),
      ne_eqb n (kind_number datetime) (λ e. omega arith),
      ne_eqb n (kind_number boolean) (λ e. omega arith),
      ne_eqb n string_number (λ e. omega arith),
      ne_eqb n hex_number (λ e. omega arith),
    )

pub kind-none : (t : List ℕ) → read_number t ≡ fail → read_kind t ≡ fail
unfolding read_kind
kind-none t e = rw e

module _ {s : List ℕ} {at n e : ℕ} (g : Got (read_number (drop at s)) s at n e) where
  kind-next : read_kind (drop at s) ≡ kind_after n (drop e s)
  unfolding read_kind
  kind-next = rw g.is

  -- what a reader of the parameters answers is the answer for the kind
  pub kind-after : (r : Option (KindAt × ℕ)) {k : ℕ} → n ≡ k → KindReads (kind_after k (drop e s)) s e r → KindReads (read_kind (drop at s)) s at r
  kind-after (Some (found, f)) {k} q w = record {
    what = w.what;
    stops = record {
      is = kind-next ∙ ap (λ (i : ℕ). kind_after i (drop e s)) q ∙ w.stops.is;
      after = omega (arith, g.after, w.stops.after);
      within = w.stops.within;
    };
    are = w.are;
  }
  kind-after None {k} q w = kind-next ∙ ap (λ (i : ℕ). kind_after i (drop e s)) q ∙ w

  pub kind-plain : kind_number currency ≤ n → n ≤ kind_number boolean → KindStops (read_kind (drop at s)) s at n 0 0 0 e
  kind-plain h k =
      let x = plain n h k in
      record {
        what = x.what;
        stops = record { is = kind-next ∙ x.layout (drop e s); after = g.after; within = g.within };
        are = x.are;
      }

  pub kind-below : n < unsigned_number → read_kind (drop at s) ≡ fail
  kind-below h = kind-next ∙ kind-outside n (drop e s) (inl h)

  pub kind-above : hex_number < n → read_kind (drop at s) ≡ fail
  kind-above h = kind-next ∙ kind-outside n (drop e s) (inr h)
