-- The laws of presence and differ numbers that are made from arrays of bits.
use mathlib.Core.Path.{◌≡◌, refl, sym, ap, ap₂, ◌∙◌}
use mathlib.Core.Bool.{Bool, true, false}
use mathlib.Core.List.{List, [], ◌∷◌, map, Memᴰ}
use Prim.Native.Nat.{ℕ, zero, suc, ◌+◌, ◌-◌, ◌*◌, ◌^◌, ◌≤◌, ◌<◌}
use native.Mathlib.Omega.{arith}
use lib.ListN.{length, drop, get_or, set, length-set, drop_of_length-le}
use lib.Seq.{drop-cons, get_or-set_same, get_or-set_other}
use Rattle.std.specs.Int.{from_bool}
use borrow.Author.Count.{below_none, below_more}
use Rattle.model.specs.Order.{Text}
use Rattle.model.specs.Sets.{up_to}
use Rattle.model.proofs.PartLaws.{map-get_d, in-up_to}
use Rattle.event.specs.EventLayout.{presence_bit, bit_number}
use Rattle.event.specs.code.EventIndex.{bit_of}
use Rattle.event.proofs.EventLayoutLaws.{bits_small}

-- ---- the number of some bits

bit-small : (b : Bool) → bit_of b < 2
unfolding bit_of
bit-small true = omega arith
bit-small false = omega arith

from_bit : (b : Bool) → from_bool b ≡ bit_of b
unfolding bit_of
from_bit true = refl
from_bit false = refl

pub bit-least : {d : ℕ} (b : Bool) → d ≡ from_bool b → d < 2
bit-least {d} b e = omega (arith, e ∙ from_bit b, bit-small b)

-- the bits from k on are no more than all of them
bits-least : (bits : List Bool) (k : ℕ) → bit_number (map bit_of (drop k bits)) ≤ bit_number (map bit_of bits)
unfolding bit_number
bits-least [] zero = omega arith
bits-least [] (suc k) = omega arith
bits-least (b ∷ bits) zero = omega arith
bits-least (b ∷ bits) (suc k) = omega (arith, bits-least bits k)

bits_below : (bits : List Bool) → length bits ≡ 32 → bit_number (map bit_of bits) < 4294967296
bits_below bits h = omega (arith, bits_small bit_of bits bit-small, ap (λ (n : ℕ). 2 ^ n) h)

-- n is the number of the bits from k on
pub record BitsFrom (bits : List Bool) (n k : ℕ) : Type 0 where
  pub long : length bits ≡ 32
  pub is : n ≡ bit_number (map bit_of (drop k bits))
  pub within : k ≤ 32

pub bits_none : {bits : List Bool} → length bits ≡ 32 → BitsFrom bits 0 32
unfolding bit_number
bits_none {bits} long = record {
  long = long;
  is = sym (ap (λ (l : List Bool). bit_number (map bit_of l)) (drop_of_length-le bits {i = 32} (omega arith)));
  within = omega arith;
}

module _ {bits : List Bool} {n k : ℕ} (w : BitsFrom bits n k) where
  pub bits-all : k ≤ 0 → n ≡ bit_number (map bit_of bits)
  bits-all h = let z : k ≡ 0 = omega arith in w.is ∙ ap (λ (m : ℕ). bit_number (map bit_of (drop m bits))) z

  module _ (l : 0 < k) where
    bits-step : bit_of (get_or bits (k - 1) false) + 2 * n ≡ bit_number (map bit_of (drop (k - 1) bits))
    unfolding bit_number
    bits-step =
        let e : suc (k - 1) ≡ k = omega arith in
        sym (ap (λ (l : List Bool). bit_number (map bit_of l)) (drop-cons bits (k - 1) false (omega (arith, w.within, w.long)))
        ∙ ap (λ (m : ℕ). bit_of (get_or bits (k - 1) false) + 2 * bit_number (map bit_of (drop m bits))) e
        ∙ ap (λ (m : ℕ). bit_of (get_or bits (k - 1) false) + 2 * m) (sym w.is))

    pub bits-room : 2 * n + 1 < 8589934592
    bits-room = omega (arith, w.is, bits-least bits k, bits_below bits w.long)

    pub bits_more : {d : ℕ} → d ≡ from_bool (get_or bits (k - 1) false) → BitsFrom bits (2 * n + d) (k - 1)
    bits_more e = record {
      long = w.long;
      is = omega (arith, e ∙ from_bit (get_or bits (k - 1) false)) ∙ bits-step;
      within = omega (arith, w.within);
    }

-- ---- an array of bits, filled place by place

-- the first k places have what f says of them
pub record FilledTo (f : ℕ → Bool) (bits : List Bool) (k : ℕ) : Type 0 where
  pub long : length bits ≡ 32
  pub each : (p : ℕ) → p < k → get_or bits p false ≡ f p

pub filled_none : {f : ℕ → Bool} {bits : List Bool} → length bits ≡ 32 → FilledTo f bits 0
filled_none {f} {bits} h = record { long = h; each = below_none (λ (p : ℕ). get_or bits p false ≡ f p) }

pub filled_more :
    {f : ℕ → Bool} {bits : List Bool} {k : ℕ} {b : Bool} → FilledTo f bits k → k < 32 → b ≡ f k → FilledTo f (set bits k b) (k + 1)
filled_more {f} {bits} {k} {b} w h e = record {
  long = length-set bits k b ∙ w.long;
  each =
      let o : k < length bits = omega (arith, w.long) in
      below_more (λ (p : ℕ). get_or (set bits k b) p false ≡ f p) k
      (λ p l. let d : p ≡ k → ⊥ = λ q. omega arith in get_or-set_other bits k p b false d ∙ w.each p l)
      (get_or-set_same bits k b false o ∙ e);
}

-- the bits of the sets of the 32 places
pub presence-bits :
    (sets : ℕ → List Text) (bits : List Bool) → length bits ≡ 32 →
    ((p : ℕ) → p < 32 → presence_bit (sets p) ≡ bit_of (get_or bits p false)) →
    map presence_bit (map sets (up_to 32)) ≡ map bit_of bits
presence-bits sets bits long h =
    go (up_to 32) (λ p m. (in-up_to 32 p).1 m) ∙ ap (map bit_of) (map-get_d bits false 32 long)
  where
    go : (ps : List ℕ) → ((p : ℕ) → Memᴰ p ps → p < 32) → map presence_bit (map sets ps) ≡ map bit_of (map (λ p. get_or bits p false) ps)
    go [] l = refl
    go (p ∷ ps) l = ap₂ (λ (n : ℕ) (ns : List ℕ). n ∷ ns) (h p (l p (Memᴰ.head refl))) (go ps (λ q m. l q (Memᴰ.tail m)))
