-- The laws of flags.
use mathlib.Core.Path.{refl, ◌≡◌, ◌∙◌}
use mathlib.Core.List.{List}
use Prim.Native.Nat.{ℕ}
use native.Mathlib.Omega.{arith}
use lib.ListN.{drop}
use lib.Dec.{leb, eqb}
use borrow.Author.Tests.{le-leb}
use Rattle.packed.specs.Parse.{Parse, fail, got, and_then, found_if, such_that}
use Rattle.packed.specs.Packed.{read_number, is_within}
use Rattle.packed.specs.code.Located.{Got}
use Rattle.packed.proofs.FieldLaws.{then_found, then-none}
use Rattle.ontology.specs.TableLayout.{read_flag}

flag_same : (t : List ℕ) → read_flag t ≡ and_then (such_that (is_within 0 1) read_number t) (λ n. got (eqb n 1))
unfolding read_flag
flag_same t = go (read_number t)
  where
    go :
        (p : Parse ℕ) →
        and_then (and_then p (λ n. found_if (leb n 1) n)) (λ n. got (eqb n 1)) ≡ and_then (and_then p (λ n. found_if (is_within 0 1 n) n))
        (λ n. got (eqb n 1))
    go fail = refl
    go (got n r) = rw (le-leb 0 n (omega arith))

pub flag_is : {s : List ℕ} {at n e : ℕ} → Got (such_that (is_within 0 1) read_number (drop at s)) s at n e →
    Got (read_flag (drop at s)) s at (eqb n 1) e
flag_is {s} {at} g = rw (flag_same (drop at s)) (then_found (λ n. got (eqb n 1)) g refl)

pub flag-none : (t : List ℕ) → such_that (is_within 0 1) read_number t ≡ fail → read_flag t ≡ fail
flag-none t e = flag_same t ∙ then-none (λ n. got (eqb n 1)) e
