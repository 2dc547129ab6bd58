-- What is known of a reader's answer in the arm of a `match`, and of a question's answer after `if !`.
use mathlib.Core.Path.{◌≡◌, sym, ◌∙◌}
use mathlib.Core.Bool.{Bool, true, false, not}
use mathlib.Core.List.{List}
use Prim.Native.Nat.{ℕ, ◌-◌, ◌≤◌, ◌<◌}
use native.Mathlib.Omega.{arith}
use lib.ListN.{length, drop}
use borrow.Author.Tests.{not-true, not-false}
use Rattle.packed.specs.Parse.{fail}
use Rattle.packed.specs.Packed.{read_number, read_text}
use Rattle.packed.specs.code.Located.{number_at, text_at}
use Rattle.packed.proofs.ReadLaws.{NumberStops, number-stops, number-none, TextStops, text-stops, text-none}
use Rattle.std.specs.Prelude.{Option, Some, None}
use Rattle.packed.specs.declared.read.TextAt.{TextAt}

-- ---- readers

pub number-got : {s : List ℕ} {at n next : ℕ} {r : Option (ℕ × ℕ)} → r ≡ number_at s at → r ≡ Some (n, next) → NumberStops s at n next
number-got {s} {at} {n} {next} h e = number-stops s at n next (sym h ∙ e)

pub number-within : (s : List ℕ) (at : ℕ) {n next : ℕ} {r : Option (ℕ × ℕ)} → r ≡ number_at s at → r ≡ Some (n, next) → next ≤ length s
number-within s at h e = (number-got h e).within

pub number-not : (s : List ℕ) (at : ℕ) {r : Option (ℕ × ℕ)} → r ≡ number_at s at → r ≡ None → read_number (drop at s) ≡ fail
number-not s at h e = number-none s at (sym h ∙ e)

pub text-got : {s : List ℕ} {at : ℕ} {x : TextAt} {r : Option TextAt} → r ≡ text_at s at → r ≡ Some x → TextStops s at x.start x.end
text-got {s} {at} {x} h k = text-stops s at x (sym h ∙ k)

pub text-order : (s : List ℕ) (at : ℕ) {x : TextAt} {r : Option TextAt} → r ≡ text_at s at → r ≡ Some x → x.start ≤ x.end
text-order s at h k = (text-got h k).order

pub text-within : (s : List ℕ) (at : ℕ) {x : TextAt} {r : Option TextAt} → r ≡ text_at s at → r ≡ Some x → x.end ≤ length s
text-within s at h k = (text-got h k).within

pub text-less : (s : List ℕ) (at : ℕ) {x : TextAt} {r : Option TextAt} → r ≡ text_at s at → r ≡ Some x → at < length s →
    length s - x.end < length s - at
text-less s at h k l = let t = text-got h k in omega (arith, t.after, t.order, t.within)

pub text-not : (s : List ℕ) (at : ℕ) {r : Option TextAt} → r ≡ text_at s at → r ≡ None → read_text (drop at s) ≡ fail
text-not s at h e = text-none s at (sym h ∙ e)

-- ---- questions

pub told-no : {b x : Bool} → b ≡ x → not b ≡ true → x ≡ false
told-no {b} h e = sym h ∙ not-true b e

pub told-yes : {b x : Bool} → b ≡ x → not b ≡ false → x ≡ true
told-yes {b} h e = sym h ∙ not-false b e
