-- The laws of a row of readings of which each may fail: after each of them the whole answer is the answer of going on from there.
use mathlib.Core.Path.{◌≡◌, sym, ap, ◌∙◌}
use mathlib.Core.Bool.{Bool, true, false, cond}
use mathlib.Core.List.{List}
use Prim.Native.Nat.{ℕ, ◌≤◌, ◌<◌}
use native.Mathlib.Omega.{arith}
use lib.ListN.{length, drop}
use Rattle.packed.specs.Parse.{Parse, fail, got, Layout, and_then}
use Rattle.packed.specs.Packed.{read_number}
use Rattle.packed.specs.code.Located.{number_at, Got}
use Rattle.packed.proofs.FieldLaws.{number-here, then-none}
use Rattle.packed.proofs.ReadLaws.{number-none}
use Rattle.std.specs.Prelude.{Some, None}

-- what `read_number`, which takes a number of any size, promises of each of its answers
pub any-got : {s : List ℕ} {at n e : ℕ} → Some (n, e) ≡ number_at s at → Got (read_number (drop at s)) s at n e
any-got {s} {at} {n} {e} h = number-here s at n e (sym h)

pub any-fail : (s : List ℕ) (at : ℕ) → None ≡ number_at s at → read_number (drop at s) ≡ fail
any-fail s at h = number-none s at (sym h)

-- Something was read, up to e: the layout at `at` reads what `rest` reads there.
pub record Onward {A : Type 0} (layout : Layout A) (s : List ℕ) (at : ℕ) (rest : Layout A) (e : ℕ) : Type 0 where
  pub is : layout (drop at s) ≡ rest (drop e s)
  pub after : at < e
  pub within : e ≤ length s

module _ {B : Type 0} {l : Layout B} {s : List ℕ} {at : ℕ} where
  module _ {A : Type 0} (p : Layout A) (k : A → Layout B) where
    -- the first reading succeeds
    pub on-first : ((t : List ℕ) → l t ≡ and_then (p t) k) → {a : A} {e : ℕ} → Got (p (drop at s)) s at a e → Onward l s at (k a) e
    on-first q {a} {e} g = record {
      is = q (drop at s) ∙ ap (λ (x : Parse A). and_then x k) g.is;
      after = g.after;
      within = g.within;
    }

    -- a further reading fails or succeeds
    module _ {e : ℕ} (w : Onward l s at (λ t. and_then (p t) k) e) where
      pub on-fail : p (drop e s) ≡ fail → l (drop at s) ≡ fail
      on-fail h = w.is ∙ then-none k h

      pub on-got : {a : A} {f : ℕ} → Got (p (drop e s)) s e a f → Onward l s at (k a) f
      on-got {a} {f} g = record {
        is = w.is ∙ ap (λ (x : Parse A). and_then x k) g.is;
        after = omega (arith, w.after, g.after);
        within = g.within;
      }

  -- a test of what was read fails or is passed
  module _ (rest : Layout B) {b : Bool} {e : ℕ} (w : Onward l s at (λ t. cond b (rest t) fail) e) where
    pub on-not : b ≡ false → l (drop at s) ≡ fail
    on-not h = w.is ∙ ap (λ (x : Bool). cond x (rest (drop e s)) fail) h

    pub on-passed : b ≡ true → Onward l s at rest e
    on-passed h = record { is = w.is ∙ ap (λ (x : Bool). cond x (rest (drop e s)) fail) h; after = w.after; within = w.within }

  -- nothing more is read
  pub on-found : {b : B} {e : ℕ} → Onward l s at (got b) e → Got (l (drop at s)) s at b e
  on-found w = record { is = w.is; after = w.after; within = w.within }
