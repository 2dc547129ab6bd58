-- The laws of arrays of numbers that have three for each place: a property of a type, or a set of an event.
use mathlib.Core.Path.{◌≡◌, sym, ◌∙◌}
use mathlib.Core.List.{List}
use Prim.Native.Nat.{ℕ, ◌+◌, ◌*◌, ◌<◌}
use native.Mathlib.Omega.{arith}
use native.Mathlib.Nat.{add-zero}
use lib.ListN.{length, get_or, set, length-set}
use lib.Seq.{get_or-set_same, get_or-set_other}

-- the numbers with a, b and c at place k
abbrev pub put_three : List ℕ → ℕ → ℕ → ℕ → ℕ → List ℕ
put_three xs k a b c = set (set (set xs (3 * k) a) (3 * k + 1) b) (3 * k + 2) c

module _ (xs : List ℕ) (k a b c : ℕ) where
  abbrev one : List ℕ
  one = set xs (3 * k) a

  abbrev two : List ℕ
  two = set one (3 * k + 1) b

  one-long : length one ≡ length xs
  one-long = length-set xs (3 * k) a

  two-long : length two ≡ length xs
  two-long = length-set one (3 * k + 1) b ∙ one-long

  pub three-long : length (put_three xs k a b c) ≡ length xs
  three-long = length-set two (3 * k + 2) c ∙ two-long

  pub three-first : 3 * k + 2 < length xs → get_or (put_three xs k a b c) (3 * k) 0 ≡ a
  three-first h =
      get_or-set_other two (3 * k + 2) (3 * k) c 0 (λ e. omega arith)
      ∙ get_or-set_other one (3 * k + 1) (3 * k) b 0 (λ e. omega arith)
      ∙ get_or-set_same xs (3 * k) a 0 (omega arith)

  pub three-second : 3 * k + 2 < length xs → get_or (put_three xs k a b c) (3 * k + 1) 0 ≡ b
  three-second h =
      get_or-set_other two (3 * k + 2) (3 * k + 1) c 0 (λ e. omega arith)
      ∙ get_or-set_same one (3 * k + 1) b 0 (omega (arith, one-long))

  pub three_third : 3 * k + 2 < length xs → get_or (put_three xs k a b c) (3 * k + 2) 0 ≡ c
  three_third h = get_or-set_same two (3 * k + 2) c 0 (omega (arith, two-long))

  -- what stands at another place stays
  pub three-other : (j i : ℕ) → i < 3 → (j ≡ k → ⊥) → get_or (put_three xs k a b c) (3 * j + i) 0 ≡ get_or xs (3 * j + i) 0
  three-other j i h n =
      get_or-set_other two (3 * k + 2) (3 * j + i) c 0 (λ e. n (omega (arith, e, h)))
      ∙ get_or-set_other one (3 * k + 1) (3 * j + i) b 0 (λ e. n (omega (arith, e, h)))
      ∙ get_or-set_other xs (3 * k) (3 * j + i) a 0 (λ e. n (omega (arith, e, h)))

  pub three-zero : (j : ℕ) → (j ≡ k → ⊥) → get_or (put_three xs k a b c) (3 * j) 0 ≡ get_or xs (3 * j) 0
  three-zero j n = rw (sym (add-zero (3 * j))) (three-other j 0 (omega arith) n)
