-- The laws of layouts one after the other, by positions, and of numbers in a range.
use mathlib.Core.Path.{◌≡◌, sym, ap, ◌∙◌, subst}
use mathlib.Core.Bool.{Bool, true, false, cond}
use mathlib.Core.List.{List}
use Prim.Native.Nat.{ℕ, ◌≤◌, ◌<◌}
use lib.ListN.{drop}
use lib.Dec.{leb}
use borrow.Author.Tests.{le-leb, lt-leb, leb-true}
use Rattle.model.proofs.Cases.{and_parts}
use Rattle.std.specs.Prelude.{Option, Some, None}
use Rattle.packed.specs.declared.read.TextAt.{TextAt}
use Rattle.packed.specs.Parse.{Parse, fail, got, Layout, and_then, found_if, such_that}
use Rattle.packed.specs.Packed.{read_number, is_within}
use Rattle.packed.specs.code.Located.{number_at, Got, NumberReads, NameStops, NameReads}
use Rattle.packed.proofs.LayoutLaws.{such_that-got}
use Rattle.packed.proofs.ReadLaws.{number-stops, number-none}

-- ---- what is known of a call's answer in the arm of a `match`

pub number-got :
    {p : Parse ℕ} {s : List ℕ} {at : ℕ} {r : Option (ℕ × ℕ)} {n e : ℕ} → r ≡ Some (n, e) → NumberReads p s at r → Got p s at n e
number-got {p} {s} {at} h w = subst (NumberReads p s at) h w

pub number-fail : {p : Parse ℕ} (s : List ℕ) (at : ℕ) {r : Option (ℕ × ℕ)} → r ≡ None → NumberReads p s at r → p ≡ fail
number-fail {p} s at h w = subst (NumberReads p s at) h w

pub name-got :
    {p : Parse (List ℕ)} {s : List ℕ} {at : ℕ} {r : Option TextAt} {x : TextAt} → r ≡ Some x → NameReads p s at r →
    NameStops p s at x.start x.end
name-got {p} {s} {at} h w = subst (NameReads p s at) h w

pub name-fail : {p : Parse (List ℕ)} (s : List ℕ) (at : ℕ) {r : Option TextAt} → r ≡ None → NameReads p s at r → p ≡ fail
name-fail {p} s at h w = subst (NameReads p s at) h w

pub number-here : (s : List ℕ) (at n next : ℕ) → number_at s at ≡ Some (n, next) → Got (read_number (drop at s)) s at n next
number-here s at n next e = let w = number-stops s at n next e in record { is = w.is; after = w.after; within = w.within }

-- ---- one layout after the other

module _ {A B : Type 0} (k : A → Layout B) where
  pub then-none : {p : Parse A} → p ≡ fail → and_then p k ≡ fail
  then-none e = ap (λ (q : Parse A). and_then q k) e

  pub then-fail : {p : Parse A} {s : List ℕ} {at : ℕ} {a : A} {e : ℕ} → Got p s at a e → k a (drop e s) ≡ fail → and_then p k ≡ fail
  then-fail {p} {s} {at} {a} {e} g h = ap (λ (q : Parse A). and_then q k) g.is ∙ h

  -- the last layout reads nothing more
  pub then_found :
      {p : Parse A} {s : List ℕ} {at : ℕ} {a : A} {e : ℕ} {b : B} → Got p s at a e → k a (drop e s) ≡ got b (drop e s) →
      Got (and_then p k) s at b e
  then_found {p} {s} {at} {a} {e} {b} g h = record {
    is = ap (λ (q : Parse A). and_then q k) g.is ∙ h;
    after = g.after;
    within = g.within;
  }

-- a value that passes or fails its test
module _ {A : Type 0} (t : A → Bool) (p : Layout A) (s : List ℕ) (at : ℕ) where
  tested : (a : A) (r : List ℕ) {x : Bool} → t a ≡ x → found_if (t a) a r ≡ cond x (got a r) fail
  tested a r h = ap (λ (x : Bool). cond x (got a r) fail) h

  pub such_got : {a : A} {e : ℕ} → Got (p (drop at s)) s at a e → t a ≡ true → Got (such_that t p (drop at s)) s at a e
  such_got {a} {e} g h = then_found (λ b. found_if (t b) b) g (tested a (drop e s) h)

  pub such-fail : {a : A} {e : ℕ} → Got (p (drop at s)) s at a e → t a ≡ false → such_that t p (drop at s) ≡ fail
  such-fail {a} {e} g h = then-fail (λ b. found_if (t b) b) g (tested a (drop e s) h)

  pub such-none : p (drop at s) ≡ fail → such_that t p (drop at s) ≡ fail
  such-none e = then-none (λ b. found_if (t b) b) e

  -- a layout that fails its test has no value that passes it
  pub such-never : {a : A} {r : List ℕ} → such_that t p (drop at s) ≡ fail → p (drop at s) ≡ got a r → t a ≡ true → ◌≡◌ {A = ℕ} 0 1
  such-never {a} {r} e q h =
      let z : fail ≡ got a r = sym e ∙ ap (λ (x : Parse A). and_then x (λ b. found_if (t b) b)) q ∙ tested a r h in
      cc

  pub such-was : {a : A} {e : ℕ} → Got (such_that t p (drop at s)) s at a e → Got (p (drop at s)) s at a e × (t a ≡ true)
  such-was {a} {e} g =
      let w = such_that-got t p (drop at s) a (drop e s) g.is in
      (record { is = w.was; after = g.after; within = g.within }, w.test)

-- ---- numbers in a range

pub is_within_lem : (least most n : ℕ) → least ≤ n → n ≤ most → is_within least most n ≡ true
is_within_lem least most n h k = rw (le-leb least n h, le-leb n most k)

pub is_below : (least most n : ℕ) → n < least → is_within least most n ≡ false
is_below least most n h = rw (lt-leb least n h)

pub is-above : (least most n : ℕ) → least ≤ n → most < n → is_within least most n ≡ false
is-above least most n h k = rw (le-leb least n h, lt-leb n most k)

pub size_is : (most n : ℕ) → 0 < n → is_within 1 most n ≡ leb n most
size_is most n h = rw (le-leb 1 n h)

pub within-bounds : (least most n : ℕ) → is_within least most n ≡ true → (least ≤ n) × (n ≤ most)
within-bounds least most n e = let b = and_parts (leb least n) (leb n most) e in (leb-true least n b.0, leb-true n most b.1)

pub got-bounds :
    {s : List ℕ} {at n next : ℕ} (least most : ℕ) → Got (such_that (is_within least most) read_number (drop at s)) s at n next →
    (least ≤ n) × (n ≤ most)
got-bounds {s} {at} {n} {next} least most g = within-bounds least most n (such-was (is_within least most) read_number s at g).1

-- the steps of reading one, each for a return of `read_within`: r is the answer for the number
module _ (s : List ℕ) (at least most : ℕ) {r : Option (ℕ × ℕ)} (read : r ≡ number_at s at) where
  pub within_none : r ≡ None → such_that (is_within least most) read_number (drop at s) ≡ fail
  within_none e = such-none (is_within least most) read_number s at (number-none s at (sym read ∙ e))

  module _ {n next : ℕ} (e : r ≡ Some (n, next)) where
    pub within-below : n < least → such_that (is_within least most) read_number (drop at s) ≡ fail
    within-below h = such-fail (is_within least most) read_number s at (number-here s at n next (sym read ∙ e)) (is_below least most n h)

    pub within-above : least ≤ n → most < n → such_that (is_within least most) read_number (drop at s) ≡ fail
    within-above h k = such-fail (is_within least most) read_number s at (number-here s at n next (sym read ∙ e)) (is-above least most n h k)

    pub within-got : least ≤ n → n ≤ most → Got (such_that (is_within least most) read_number (drop at s)) s at n next
    within-got h k = such_got (is_within least most) read_number s at (number-here s at n next (sym read ∙ e)) (is_within_lem least most n h k)
