-- The laws of writing a number before bytes that stand already: stores at different places can change their order, and what is stored last covers.
use mathlib.Core.Path.{◌≡◌, refl, sym, ap, ap₂, ◌∙◌, subst}
use mathlib.Core.List.{List, [], ◌∷◌, ◌++◌, append_assoc}
use Prim.Native.Nat.{ℕ, suc, ◌+◌, ◌-◌, ◌≤◌, ◌<◌}
use native.Mathlib.Omega.{arith}
use lib.ListN.{length, take, drop, set, get_or, length-append, take-append-drop}
use lib.Seq.{sets, sets-eq, length-sets, set_comm, get_or-set_other, length-take-le, take_at, drop_at}
use Rattle.packed.specs.Packed.{part}
use Rattle.packed.specs.code.Written.{Wrote}
use Rattle.packed.proofs.ReadLaws.{part_length, drop-next}
use Rattle.packed.proofs.WriteLaws.{stores-under, wrote_then, wrote-between}
use Rattle.unions.proofs.RunLaws.{part_then}

-- ---- a store before a run of stores

load-before : (l : List ℕ) (i : ℕ) (vs : List ℕ) (k : ℕ) → k < i → get_or (sets l i vs) k 0 ≡ get_or l k 0
load-before l i [] k h = refl
load-before l i (v ∷ vs) k h = load-before (set l i v) (suc i) vs k (omega arith) ∙ get_or-set_other l i k v 0 (λ e. omega (arith, e))

store-before : (l : List ℕ) (i : ℕ) (vs : List ℕ) (k a : ℕ) → k < i → set (sets l i vs) k a ≡ sets (set l k a) i vs
store-before l i [] k a h = refl
store-before l i (v ∷ vs) k a h =
    store-before (set l i v) (suc i) vs k a (omega arith) ∙ ap (λ (m : List ℕ). sets m (suc i) vs) (set_comm l i k v a (λ e. omega (arith, e)))

-- two runs of stores, the later one before the earlier one
stores-before :
    (l : List ℕ) (i : ℕ) (xs : List ℕ) (j : ℕ) (ys : List ℕ) → i + length xs ≤ j → sets (sets l j ys) i xs ≡ sets (sets l i xs) j ys
stores-before l i [] j ys h = refl
stores-before l i (x ∷ xs) j ys h =
    ap (λ (m : List ℕ). sets m (suc i) xs) (store-before l j ys i x (omega (arith, h))) ∙ stores-before (set l i x) (suc i) xs j ys (omega (arith, h))

-- ---- bytes that move up, the last one first

part-next : (l : List ℕ) (k to : ℕ) → k < to → to ≤ length l → part l k to ≡ get_or l k 0 ∷ part l (k + 1) to
part-next l k to h b =
    let e : to - k ≡ suc (to - (k + 1)) = omega arith in
    ap (λ (r : List ℕ). take (to - k) r) (drop-next l k (omega arith)) ∙ ap (λ (n : ℕ). take n (get_or l k 0 ∷ drop (k + 1) l)) e

-- those from i up to `to` have moved
pub record MovedFrom (l : List ℕ) (to by i : ℕ) (l' : List ℕ) : Type 0 where
  pub long : length l' ≡ length l
  pub bytes : l' ≡ sets l (i + by) (part l i to)

pub moved_by : {l l' : List ℕ} {to by i : ℕ} → l' ≡ sets l (i + by) (part l i to) → MovedFrom l to by i l'
moved_by {l} {l'} {to} {by} {i} e = record { long = ap length e ∙ length-sets l (i + by) (part l i to); bytes = e }

module _ {l : List ℕ} {to by : ℕ} where
  pub moved_none : MovedFrom l to by to l
  moved_none = let e : to - to ≡ 0 = omega arith in moved_by (ap (λ (n : ℕ). sets l (to + by) (take n (drop to l))) (sym e))

  one_more :
      (k : ℕ) (l' : List ℕ) → k < to → to ≤ length l → MovedFrom l to by (k + 1) l' → MovedFrom l to by k (set l' (k + by) (get_or l' k 0))
  one_more k l' h b m =
      let after = part l (k + 1) to in
      let a = get_or l k 0 in
      let e : k + 1 + by ≡ suc (k + by) = omega arith in
      moved_by (
      ap (λ (x : List ℕ). set x (k + by) (get_or x k 0)) m.bytes
      ∙ ap (set (sets l (k + 1 + by) after) (k + by)) (load-before l (k + 1 + by) after k (omega arith))
      ∙ store-before l (k + 1 + by) after (k + by) a (omega arith)
      ∙ ap (λ (i : ℕ). sets (set l (k + by) a) i after) e
      ∙ ap (sets l (k + by)) (sym (part-next l k to h b))
      )

  module _ {i : ℕ} {l' : List ℕ} (m : MovedFrom l to by i l') where
    pub moved_more : 0 < i → i ≤ to → to ≤ length l → MovedFrom l to by (i - 1) (set l' (i - 1 + by) (get_or l' (i - 1) 0))
    moved_more z h b =
        let e : i ≡ i - 1 + 1 = omega arith in
        one_more (i - 1) l' (omega arith) b (subst (λ (k : ℕ). MovedFrom l to by k l') e m)

    pub moved_all : (from : ℕ) → i ≡ from → l' ≡ sets l (from + by) (part l from to)
    moved_all from e = (subst (λ (k : ℕ). MovedFrom l to by k l') e m).bytes

-- by no place
pub moved-not : (l : List ℕ) (from to by : ℕ) → by ≡ 0 → from ≤ to → to ≤ length l → MovedFrom l to by from l
moved-not l from to by z h b =
    let bytes = part l from to in
    let n = part_length l from to h b in
    let e : from + length bytes ≡ to = omega (arith, n) in
    let f : from + by ≡ from = omega arith in
    moved_by (sym (
    ap (λ (i : ℕ). sets l i bytes) f
    ∙ sets-eq bytes l from (omega (arith, e))
    ∙ ap (λ (i : ℕ). take from l ++ bytes ++ drop i l) e
    ∙ append_assoc (take from l) bytes (drop to l)
    ∙ ap (λ (r : List ℕ). take from l ++ r) (sym (part_then l from to h b))
    ∙ take-append-drop from l
    ))

-- ---- a number before bytes that stand already

part-wrote : {l bytes l' : List ℕ} {at end : ℕ} → end ≤ length l → Wrote l at bytes l' end → part l' at end ≡ bytes
part-wrote {l} {bytes} {l'} {at} {end} h w =
    let e : end - at ≡ length bytes = omega (arith, w.after) in
    let room : at + length bytes ≤ length l = omega (arith, w.after) in
    ap (λ (x : List ℕ). part x at end) (wrote-between room w ∙ append_assoc (take at l) bytes (drop end l))
    ∙ ap (take (end - at)) (drop_at (take at l) (bytes ++ drop end l) at (length-take-le at l (omega arith)))
    ∙ take_at bytes (drop end l) (end - at) (sym e)

-- the bytes have moved up by `more`, the head is written over where they began, and nothing is left of where they stood
pub wrote-before :
    {l bytes l₁ l₂ head l₃ : List ℕ} {at end more next : ℕ} →
    length head ≡ more + 1 → end ≤ length l → Wrote l (at + 1) bytes l₁ end → MovedFrom l₁ end more (at + 1) l₂ →
    Wrote l₂ at head l₃ next →
    Wrote l at (head ++ bytes) l₃ (end + more)
wrote-before {l} {bytes} {l₁} {l₂} {head} {l₃} {at} {end} {more} k h w m v =
    let e : at + 1 + more ≡ at + length head = omega arith in
    let moved : l₂ ≡ sets l₁ (at + length head) bytes = m.bytes ∙ ap₂ (λ (i : ℕ) (x : List ℕ). sets l₁ i x) e (part-wrote h w) in
    let last : l₃ ≡ sets (sets l₁ at head) (at + length head) bytes =
    v.bytes ∙ ap (λ (x : List ℕ). sets x at head) moved ∙ stores-before l₁ at head (at + length head) bytes (omega arith) in
    let both : Wrote l₁ at (head ++ bytes) l₃ (end + more) =
    wrote_then {xs = head} {ys = bytes} (record { bytes = refl; after = refl }) (record { bytes = last; after = omega (arith, w.after) }) in
    record {
      bytes =
          both.bytes
          ∙ ap (λ (x : List ℕ). sets x at (head ++ bytes)) w.bytes
          ∙ stores-under l at (head ++ bytes) (at + 1) bytes (omega arith) (omega (arith, length-append head bytes));
      after = both.after;
    }
