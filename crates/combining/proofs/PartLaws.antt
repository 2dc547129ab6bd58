-- The laws of writing a snapshot and a dossier part by part: where the whole has its room, each part has.
use mathlib.Core.Path.{◌≡◌, ap}
use mathlib.Core.List.{List, ◌++◌}
use Prim.Native.Nat.{ℕ, ◌+◌, ◌≤◌}
use native.Mathlib.Omega.{arith}
use lib.ListN.{length, length-append}
use Rattle.packed.specs.Packed.{number}
use Rattle.packed.specs.code.Written.{Wrote}
use Rattle.packed.proofs.WriteLaws.{wrote-length}

-- the version of a snapshot, its presence and differ numbers and its sets have their room in l from `at` on
pub record PartsRoom (l : List ℕ) (at version presence differ : ℕ) (sets : List ℕ) : Type 0 where
  pub room : at + length (number version ++ number presence ++ number differ ++ sets) ≤ length l

module _ {l : List ℕ} {at version presence differ : ℕ} {sets : List ℕ} (r : PartsRoom l at version presence differ sets) where
  parts : at + length (number version) + length (number presence) + length (number differ) + length sets ≤ length l
  parts = omega (arith, simp length-append at r.room)

  pub version-room : at + length (number version) ≤ length l
  version-room = omega (arith, parts)

  module _ {l₁ : List ℕ} {p : ℕ} (u : Wrote l at (number version) l₁ p) {n : ℕ} (e : n ≡ presence) where
    pub presence-room : p + length (number n) ≤ length l₁
    presence-room = omega (arith, parts, u.after, wrote-length u, ap (λ (i : ℕ). length (number i)) e)

    module _ {l₂ : List ℕ} {q : ℕ} (v : Wrote l₁ p (number n) l₂ q) {m : ℕ} (f : m ≡ differ) where
      differ-end : q + length (number m) + length sets ≤ length l₂
      differ-end =
          let sizes = ap (λ (i : ℕ). length (number i)) e in
          omega (arith, parts, u.after, wrote-length u, v.after, wrote-length v, sizes, ap (λ (i : ℕ). length (number i)) f)

      pub differ-room : q + length (number m) ≤ length l₂
      differ-room = omega (arith, differ-end)

      pub sets-room : {l₃ : List ℕ} {s : ℕ} → Wrote l₂ q (number m) l₃ s → {rest : List ℕ} → rest ≡ sets → s + length rest ≤ length l₃
      sets-room w g = omega (arith, differ-end, w.after, wrote-length w, ap length g)

-- the head of a dossier, how many snapshots it has, and these have their room at the front of l
pub record WholeRoom (l head : List ℕ) (count : ℕ) (body : List ℕ) : Type 0 where
  pub room : length head + length (number count) + length body ≤ length l

module _ {l head : List ℕ} {count : ℕ} {body : List ℕ} (r : WholeRoom l head count body) where
  module _ {l₁ : List ℕ} {p : ℕ} (u : Wrote l 0 head l₁ p) {n : ℕ} (e : n ≡ count) where
    head-end : p + length (number n) + length body ≤ length l₁
    head-end = omega (arith, r.room, u.after, wrote-length u, ap (λ (i : ℕ). length (number i)) e)

    pub count_room : p + length (number n) ≤ length l₁
    count_room = omega (arith, head-end)

    pub body-room : {l₂ : List ℕ} {q : ℕ} → Wrote l₁ p (number n) l₂ q → q + length body ≤ length l₂
    body-room v = omega (arith, head-end, v.after, wrote-length v)
