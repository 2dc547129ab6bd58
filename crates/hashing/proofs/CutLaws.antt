-- Cutting a hash text at a byte: what stands before the first of a byte that a text does not have is that text. So a string tells its name and its value, and
-- strings without FF come back from between their separators.
use mathlib.Core.Path.{◌≡◌, refl, ap}
use mathlib.Core.List.{List, [], ◌∷◌, ◌++◌, append_assoc}
use Prim.Native.Nat.{ℕ, zero, suc, ◌≤◌}
use native.Mathlib.Omega.{arith}
use lib.ListN.{length, length-append}
use borrow.Author.Tests.{eq-eqb, ne_eqb}
use Rattle.model.specs.Order.{Text}
use Rattle.model.proofs.Cases.{never}
use Rattle.packed.proofs.LayoutLaws.{All}
use Rattle.hashing.specs.HashText.{object_string, separator, separated}
use Rattle.hashing.specs.ReadHashText.{before, after, strings}

-- a text does not have a byte
abbrev pub Without : ℕ → Text → Type 0
Without c v = All (λ (b : ℕ). b ≡ c → ⊥) v

-- ---- cutting at a byte that a text does not have

module _ (c : ℕ) where
  pub before-first : (v s : Text) → Without c v → before c (v ++ c ∷ s) ≡ v
  unfolding before
  before-first [] s h = rw (eq-eqb c c refl)
  before-first (b ∷ v) s h = rw (ne_eqb b c h.0) (ap (λ (r : Text). b ∷ r) (before-first v s h.1))

  pub after_first : (v s : Text) → Without c v → after c (v ++ c ∷ s) ≡ s
  unfolding after
  after_first [] s h = rw (eq-eqb c c refl)
  after_first (b ∷ v) s h = rw (ne_eqb b c h.0) (after_first v s h.1)

  before-none : (v : Text) → Without c v → before c v ≡ v
  unfolding before
  before-none [] h = refl
  before-none (b ∷ v) h = rw (ne_eqb b c h.0) (ap (λ (r : Text). b ∷ r) (before-none v h.1))

  after_none : (v : Text) → Without c v → after c v ≡ []
  unfolding after
  after_none [] h = refl
  after_none (b ∷ v) h = rw (ne_eqb b c h.0) (after_none v h.1)

-- a string is cut at its first colon, since its name has none
pub string-cut : (name v : Text) → Without 58 name → (before 58 (object_string name v) ≡ name) × (after 58 (object_string name v) ≡ v)
string-cut name v h = (before-first 58 name v h, after_first 58 name v h)

-- ---- the strings between the separators

-- a string: it has no FF, and a colon after its name
pub record IsString (x : Text) : Type 0 where
  pub whole : Without 0xff x
  pub parts : x ≡ object_string (before 58 x) (after 58 x)

no-string : IsString [] → ⊥
unfolding before
no-string h = let z : [] ≡ 58 ∷ after 58 [] = h.parts in never (cc)

strings-none : (n : ℕ) → strings n [] ≡ []
unfolding strings
strings-none zero = refl
strings-none (suc n) = refl

pub strings-back : (n : ℕ) (xs : List Text) → length xs ≤ n → All IsString xs → strings n (separated xs) ≡ xs
unfolding strings separated
strings-back n [] l h = strings-none n
strings-back zero (x ∷ xs) l h = absurd (omega arith)
strings-back (suc n) ([] ∷ xs) l h = absurd (no-string h.0)
strings-back (suc n) ((c ∷ x) ∷ []) l h =
    rw (before-none 0xff (c ∷ x) h.0.whole, after_none 0xff (c ∷ x) h.0.whole) (ap (λ (r : List Text). (c ∷ x) ∷ r) (strings-none n))
strings-back (suc n) ((c ∷ x) ∷ y ∷ xs) l h =
    let rest = separated (y ∷ xs) in
    let cut : List ℕ = 0xff ∷ 0xff ∷ 0xff ∷ rest in
    rw (append_assoc (c ∷ x) separator rest, before-first 0xff (c ∷ x) cut h.0.whole, after_first 0xff (c ∷ x) cut h.0.whole)
    (ap (λ (r : List Text). (c ∷ x) ∷ r) (strings-back n (y ∷ xs) (omega arith) h.1))

-- there are no more strings than bytes
pub strings-few : (xs : List Text) → All IsString xs → length xs ≤ length (separated xs)
unfolding separated
strings-few [] h = omega arith
strings-few ([] ∷ xs) h = absurd (no-string h.0)
strings-few ((c ∷ x) ∷ []) h = omega arith
strings-few ((c ∷ x) ∷ y ∷ xs) h = simp length-append (omega (arith, strings-few (y ∷ xs) h.1))
