-- The laws of a property as three numbers.
use mathlib.Core.Path.{◌≡◌, refl}
use mathlib.Core.Bool.{Bool, true, false}
use mathlib.Core.List.{List}
use Prim.Native.Nat.{ℕ, ◌+◌, ◌*◌, ◌/◌, ◌%◌, ◌≤◌, ◌<◌}
use native.Mathlib.Omega.{arith}
use lib.Dec.{eqb}
use lib.ListN.{length}
use mir.Val.{bool_byte}
use Rattle.ontology.specs.declared.properties.PropertyAt.{PropertyAt}
use Rattle.ontology.specs.code.TypeIndex.{bit_of, code_of, decoded, property_in}
use Rattle.ontology.proofs.TripleLaws.{put_three, three-first, three-second, three_third, three-zero, three-other}

bit-small : (b : Bool) → bit_of b ≤ 1
unfolding bit_of
bit-small true = omega arith
bit-small false = omega arith

pub bool-small : (b : Bool) → bool_byte b ≤ 1
bool-small true = omega arith
bool-small false = omega arith

bit-back : (b : Bool) (n : ℕ) → n ≡ bit_of b → eqb n 1 ≡ b
unfolding bit_of
bit-back true n e = rw e refl
bit-back false n e = rw e refl

-- each of its numbers is a byte
pub record IsSmall (p : PropertyAt) : Type 0 where
  pub kind : p.kind < 256
  pub size : p.size < 256
  pub after : p.after < 256
  pub sign : p.sign < 256
  pub strategy : p.strategy < 256

module _ (p : PropertyAt) (w : IsSmall p) where
  kind-back : code_of p % 256 ≡ p.kind
  kind-back = omega (arith, w.kind)

  size_back : code_of p / 256 % 256 ≡ p.size
  size_back = omega (arith, w.kind, w.size)

  after-back : code_of p / 65536 % 256 ≡ p.after
  after-back = omega (arith, w.kind, w.size, w.after)

  sign-back : code_of p / 16777216 % 256 ≡ p.sign
  sign-back = omega (arith, w.kind, w.size, w.after, w.sign)

  strategy-back : code_of p / 4294967296 % 256 ≡ p.strategy
  strategy-back = omega (arith, w.kind, w.size, w.after, w.sign, w.strategy)

  optional-back : code_of p / 1099511627776 % 2 ≡ bit_of p.optional
  optional-back = omega (arith, w.kind, w.size, w.after, w.sign, w.strategy, bit-small p.optional)

  multivalued-back : code_of p / 2199023255552 % 2 ≡ bit_of p.multivalued
  multivalued-back = omega (arith, w.kind, w.size, w.after, w.sign, w.strategy, bit-small p.optional, bit-small p.multivalued)

  pub decoded-code : decoded p.start p.end (code_of p) ≡ p
  decoded-code = rw (
    kind-back,
    size_back,
    after-back,
    sign-back,
    strategy-back,
    bit-back p.optional (code_of p / 1099511627776 % 2) optional-back,
    bit-back p.multivalued (code_of p / 2199023255552 % 2) multivalued-back,
  ) refl

-- a property that is put among those of a type
module _ (xs : List ℕ) (k : ℕ) (p : PropertyAt) (c : ℕ) where
  pub put-here : 3 * k + 2 < length xs → IsSmall p → c ≡ code_of p → property_in (put_three xs k p.start p.end c) k ≡ p
  put-here h w e =
      rw (three-first xs k p.start p.end c h, three-second xs k p.start p.end c h, three_third xs k p.start p.end c h, e) (decoded-code p w)

  pub put_other : (j : ℕ) → (j ≡ k → ⊥) → property_in (put_three xs k p.start p.end c) j ≡ property_in xs j
  put_other j n =
      rw (
        three-zero xs k p.start p.end c j n,
        three-other xs k p.start p.end c j 1 (omega arith) n,
        three-other xs k p.start p.end c j 2 (omega arith) n,
      ) refl
