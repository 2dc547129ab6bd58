-- The laws of the dossier's body: what is written is read (`-read`), and what is read was written so (`-was`).
use mathlib.Core.Path.{◌≡◌, refl, sym, ap, ap₂, ◌∙◌, subst}
use mathlib.Core.Bool.{Bool, true, false, cond, not, ◌&&◌}
use mathlib.Core.List.{List, [], ◌∷◌, ◌++◌, append_assoc, map, flatten}
use Prim.Native.Nat.{ℕ, ◌/◌, ◌%◌, ◌^◌, ◌≤◌, ◌<◌}
use native.Mathlib.Omega.{arith}
use lib.Dec.{leb, eqb}
use lib.ListN.{length, length-map}
use borrow.Author.Tests.{le-leb, leb-true, eqb-true, eqb-false}
use Rattle.model.specs.Order.{Text, numbers, rising}
use Rattle.model.specs.Rule.{Cell, holds, differs, Snapshot}
use Rattle.model.specs.Limits.{Limits}
use Rattle.model.specs.Opening.{held}
use Rattle.model.proofs.Cases.{and_parts}
use Rattle.packed.specs.Parse.{got, such_that, times}
use Rattle.packed.specs.Packed.{number, read_number, is_within}
use Rattle.packed.proofs.LayoutLaws.{All, and_then-got, found_if-got, such_that-got, number_read, number-was, times-read, times-was}
use Rattle.event.specs.EventLayout.{read_bits, read_sets, presence_bit, bit_number, sets_bytes}
use Rattle.event.proofs.EventLayoutLaws.{SetsWritten, presence-small, bits_small, low_bit, high_bits, half-small, SetsWas, sets-was, bits-read, bits-was}
use Rattle.event.proofs.EventLayoutLaws.{presence-below, all-sets-read}
use Rattle.dossier.specs.DossierBody.{apart, cells_of, are_small, read_snapshot, differ_bit, snapshot_bytes, read_body, body_bytes}

-- ---- what can be written

pub record SnapshotWritten (s : Snapshot) : Type 0 where
  pub version : s.version < 2 ^ 64
  pub sets : SetsWritten (map held s.cells)
  pub small : All (λ (x : List Text). length x ≤ 256) (map held s.cells)

pub snapshot-cells : (s : Snapshot) → SnapshotWritten s → length s.cells ≡ 32
snapshot-cells s w = sym (length-map s.cells held) ∙ w.sets.long

-- ---- the cells, for any number of places

pub differ-small : (c : Cell) → differ_bit c < 2
unfolding differ_bit
differ-small (holds s) = omega arith
differ-small differs = omega arith

-- a cell that differs holds no set
cell_apart : (c : Cell) → not (eqb (presence_bit (held c)) 1 && eqb (differ_bit c) 1) ≡ true
unfolding presence_bit held differ_bit
cell_apart (holds []) = refl
cell_apart (holds (v ∷ vs)) = refl
cell_apart differs = refl

pub cells-apart : (cs : List Cell) → apart (length cs) (bit_number (map presence_bit (map held cs))) (bit_number (map differ_bit cs)) ≡ true
unfolding apart bit_number
cells-apart [] = refl
cells-apart (c ∷ cs) =
    let p = presence-small (held c) in
    let d = differ-small c in
    let m = bit_number (map presence_bit (map held cs)) in
    let n = bit_number (map differ_bit cs) in
    rw (
      low_bit (presence_bit (held c)) m p,
      low_bit (differ_bit c) n d,
      high_bits (presence_bit (held c)) m p,
      high_bits (differ_bit c) n d,
      cell_apart c,
    ) (cells-apart cs)

cell-of : (c : Cell) → cond (eqb (differ_bit c) 1) differs (holds (held c)) ≡ c
unfolding differ_bit held
cell-of (holds s) = refl
cell-of differs = refl

pub cells-of : (cs : List Cell) → cells_of (bit_number (map differ_bit cs)) (map held cs) ≡ cs
unfolding cells_of bit_number
cells-of [] = refl
cells-of (c ∷ cs) =
    let d = differ-small c in
    let n = bit_number (map differ_bit cs) in
    rw (low_bit (differ_bit c) n d, high_bits (differ_bit c) n d, cell-of c, cells-of cs)

-- the other way: cells from bits and sets that are apart have just those
pub record CellsWas (differ : ℕ) (xs : List (List Text)) : Type 0 where
  pub sets : map held (cells_of differ xs) ≡ xs
  pub bits : bit_number (map differ_bit (cells_of differ xs)) ≡ differ

-- the cell that is marked or has the set x
abbrev CellWas : Bool → ℕ → List Text → Type 0
CellWas marked b x = (held (cond marked differs (holds x)) ≡ x) × (differ_bit (cond marked differs (holds x)) ≡ b)

cell-was : (b : ℕ) (x : List Text) → b < 2 → not (eqb (presence_bit x) 1 && eqb b 1) ≡ true → CellWas (eqb b 1) b x
unfolding presence_bit held differ_bit
cell-was b x l h = go x (eqb b 1) refl h
  where
    go : (x : List Text) (t : Bool) → eqb b 1 ≡ t → not (eqb (presence_bit x) 1 && t) ≡ true → CellWas t b x
    go [] true e h = (refl, sym (eqb-true b 1 e))
    go (v ∷ vs) true e h = let z : ◌≡◌ {A = ℕ} 0 1 = cc in absurd (omega arith)
    go [] false e h = let ne : b ≡ 1 → ⊥ = eqb-false b 1 e in (refl, omega (arith, ne))
    go (v ∷ vs) false e h = let ne : b ≡ 1 → ⊥ = eqb-false b 1 e in (refl, omega (arith, ne))

cells-more :
    (differ : ℕ) (x : List Text) (xs : List (List Text)) → CellWas (eqb (differ % 2) 1) (differ % 2) x → CellsWas (differ / 2) xs →
    CellsWas differ (x ∷ xs)
unfolding cells_of bit_number
cells-more differ x xs a b = record {
  sets = ap₂ {C = List (List Text)} (λ y ys. y ∷ ys) a.0 b.sets;
  bits = omega arith;
}

pub cells-was :
    (differ : ℕ) (xs : List (List Text)) → differ < 2 ^ length xs → apart (length xs) (bit_number (map presence_bit xs)) differ ≡ true →
    CellsWas differ xs
unfolding cells_of bit_number apart
cells-was differ [] l h = record { sets = refl; bits = omega arith }
cells-was differ (x ∷ xs) l h =
    let p = presence-small x in
    let m = bit_number (map presence_bit xs) in
    let a = and_parts _ _ (rw (low_bit (presence_bit x) m p, high_bits (presence_bit x) m p) at h) in
    cells-more differ x xs (cell-was (differ % 2) x (omega arith) a.0) (cells-was (differ / 2) xs (half-small (length xs) differ l) a.1)

-- ---- a snapshot

pub all_small : (xs : List (List Text)) → All (λ (x : List Text). length x ≤ 256) xs → are_small xs ≡ true
unfolding are_small
all_small [] h = refl
all_small (x ∷ xs) h = rw (le-leb (length x) 256 h.0) (all_small xs h.1)

small_all : (xs : List (List Text)) → are_small xs ≡ true → All (λ (x : List Text). length x ≤ 256) xs
unfolding are_small
small_all [] h = tt
small_all (x ∷ xs) h = let a = and_parts (leb (length x) 256) (are_small xs) h in (leb-true (length x) 256 a.0, small_all xs a.1)

-- the presence and the differ number of a snapshot
abbrev pub presence_of : Snapshot → ℕ
presence_of s = bit_number (map presence_bit (map held s.cells))

abbrev pub differ_of : Snapshot → ℕ
differ_of s = bit_number (map differ_bit s.cells)

pub differ-below : (s : Snapshot) → SnapshotWritten s → bit_number (map differ_bit s.cells) < 2 ^ 32
differ-below s w = subst (λ (n : ℕ). differ_of s < 2 ^ n) (snapshot-cells s w) (bits_small differ_bit s.cells differ-small)

pub snapshot-parts :
    (s : Snapshot) (r : List ℕ) →
    snapshot_bytes s ++ r ≡ number s.version ++ (number (presence_of s) ++ (number (differ_of s) ++ (sets_bytes (map held s.cells) ++ r)))
unfolding snapshot_bytes
snapshot-parts s r = simp append_assoc

pub snapshot-read : (s : Snapshot) (r : List ℕ) → SnapshotWritten s → read_snapshot (snapshot_bytes s ++ r) ≡ got s r
unfolding read_snapshot
snapshot-read s r w =
    let sets = map held s.cells in
    let a : apart 32 (presence_of s) (differ_of s) ≡ true =
    subst (λ (n : ℕ). apart n (presence_of s) (differ_of s) ≡ true) (snapshot-cells s w) (cells-apart s.cells) in
    ap read_snapshot (snapshot-parts s r)
    ∙ rw (
      number_read s.version (number (presence_of s) ++ (number (differ_of s) ++ (sets_bytes sets ++ r))) w.version,
      bits-read (presence_of s) (number (differ_of s) ++ (sets_bytes sets ++ r)) (presence-below sets w.sets.long),
      bits-read (differ_of s) (sets_bytes sets ++ r) (differ-below s w),
      a,
      all-sets-read sets r w.sets,
      all_small sets w.small,
      cells-of s.cells,
    )

snapshot-is :
    (version presence differ : ℕ) (s t u v q r : List ℕ) (sets : List (List Text)) (x : Snapshot) → (s ≡ number version ++ t) × (version < 2 ^ 64) →
    t ≡ number presence ++ u → u ≡ number differ ++ v → SetsWas 32 presence v sets q → CellsWas differ sets →
    All (λ (x : List Text). length x ≤ 256) sets → record { version = version; cells = cells_of differ sets } ≡ x → q ≡ r →
    (s ≡ snapshot_bytes x ++ r) × SnapshotWritten x
snapshot-is version presence differ s t u v q r sets x a b c d e small p f =
    rw (← p, ← f) (
      a.0 ∙ rw (b, c, d.bytes) (sym (snapshot-parts (record { version = version; cells = cells_of differ sets }) q ∙ rw (e.sets, e.bits, d.present))),
      record { version = a.1; sets = rw e.sets (record { long = d.long; each = d.each }); small = rw e.sets small },
    )

pub snapshot-was : (s : List ℕ) (x : Snapshot) (r : List ℕ) → read_snapshot s ≡ got x r → (s ≡ snapshot_bytes x ++ r) × SnapshotWritten x
unfolding read_snapshot
snapshot-was s x r e =
    let a = and_then-got (read_number s) _ x r e in
    let b = and_then-got (read_bits a.left) _ x r a.second in
    let c = and_then-got (such_that (apart 32 b.value) read_bits b.left) _ x r b.second in
    let d = and_then-got (read_sets 32 b.value c.left) _ x r c.second in
    let f = found_if-got (are_small d.value) _ d.left x r d.second in
    let n = such_that-got (apart 32 b.value) read_bits b.left c.value c.left c.first in
    let y = bits-was a.left b.value b.left b.first in
    let z = bits-was b.left c.value c.left n.was in
    let w = sets-was 32 b.value c.left d.value d.left y.1 d.first in
    snapshot-is a.value b.value c.value s a.left b.left c.left d.left r d.value x
    (number-was s a.value a.left a.first)
    y.0 z.0 w
    (cells_are b.value c.value d.value w.long w.present z.1 n.test)
    (small_all d.value f.test) f.value f.rest
  where
    cells_are :
        (presence differ : ℕ) (sets : List (List Text)) → length sets ≡ 32 → bit_number (map presence_bit sets) ≡ presence → differ < 2 ^ 32 →
        apart 32 presence differ ≡ true → CellsWas differ sets
    cells_are presence differ sets l p d h = cells-was differ sets (rw l d) (rw (l, p) h)

-- ---- the body

-- `few` says nothing new where the limit of versions is below 2^64
pub record BodyWritten (limits : Limits) (ss : List Snapshot) : Type 0 where
  pub one : 1 ≤ length ss
  pub within : length ss ≤ limits.versions
  pub few : length ss < 2 ^ 64
  pub snapshots : All SnapshotWritten ss
  pub rises : rising numbers (map (λ (s : Snapshot). s.version) ss) ≡ true

pub body-read : (limits : Limits) (ss : List Snapshot) (r : List ℕ) → BodyWritten limits ss → read_body limits (body_bytes ss ++ r) ≡ got ss r
unfolding read_body body_bytes
body-read limits ss r w =
    rw (
      append_assoc (number (length ss)) (flatten (map snapshot_bytes ss)) r,
      number_read (length ss) (flatten (map snapshot_bytes ss) ++ r) w.few,
      le-leb 1 (length ss) w.one,
      le-leb (length ss) limits.versions w.within,
      times-read read_snapshot snapshot_bytes SnapshotWritten snapshot-read ss r w.snapshots,
      w.rises,
    )

body_is :
    (limits : Limits) (n : ℕ) (s t u r : List ℕ) (ss : List Snapshot) →
    (s ≡ number n ++ t) × (n < 2 ^ 64) → (1 ≤ n) × (n ≤ limits.versions) →
    (t ≡ flatten (map snapshot_bytes ss) ++ u) × (length ss ≡ n) × All SnapshotWritten ss →
    rising numbers (map (λ (s : Snapshot). s.version) ss) ≡ true → u ≡ r →
    (s ≡ body_bytes ss ++ r) × BodyWritten limits ss
unfolding body_bytes
body_is limits n s t u r ss a b c up e = (
  a.0 ∙ rw (c.0, ← c.1, e) (sym (append_assoc (number (length ss)) (flatten (map snapshot_bytes ss)) r)),
  record { one = omega arith; within = omega arith; few = omega arith; snapshots = c.2; rises = up },
)

pub body-was :
    (limits : Limits) (s : List ℕ) (ss : List Snapshot) (r : List ℕ) → read_body limits s ≡ got ss r →
    (s ≡ body_bytes ss ++ r) × BodyWritten limits ss
unfolding read_body
body-was limits s ss r e =
    let within = is_within 1 limits.versions in
    let c = and_then-got (such_that within read_number s) _ ss r e in
    let n = such_that-got within read_number s c.value c.left c.first in
    let d = and_then-got (times read_snapshot c.value c.left) _ ss r c.second in
    let f = found_if-got (rising numbers (map (λ (s : Snapshot). s.version) d.value)) _ d.left ss r d.second in
    let t = and_parts (leb 1 c.value) (leb c.value limits.versions) n.test in
    rw (← f.value) (body_is limits c.value s c.left d.left r d.value
    (number-was s c.value c.left n.was)
    (leb-true 1 c.value t.0, leb-true c.value limits.versions t.1)
    (times-was read_snapshot snapshot_bytes SnapshotWritten snapshot-was c.value c.left d.value d.left d.first)
    f.test f.rest)
