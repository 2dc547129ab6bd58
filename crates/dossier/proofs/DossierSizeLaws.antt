-- How long a dossier's bytes are, and that they have room in an output of 32,768 bytes.
use mathlib.Core.Path.{◌≡◌, refl, ap}
use mathlib.Core.Bool.{Bool, true, false, cond, not, ◌&&◌}
use mathlib.Core.List.{List, [], ◌∷◌, map, flatten}
use Prim.Native.Nat.{ℕ, ◌+◌, ◌*◌, ◌≤◌}
use native.Mathlib.Omega.{arith}
use lib.Dec.{leb, eqb}
use lib.ListN.{length, length-append}
use borrow.Author.Tests.{leb-true, eqb-true}
use Rattle.model.specs.Rule.{Cell, holds, differs, Snapshot, size, sizes, objects}
use Rattle.model.specs.Limits.{Limits, Permitted}
use Rattle.model.specs.Opening.{held, is_mark}
use Rattle.model.proofs.Cases.{and_parts}
use Rattle.packed.proofs.LayoutLaws.{All, number-bounds, number-length-1, number-length-5}
use Rattle.replies.specs.Capacities.{dossier_capacity}
use Rattle.ontology.specs.Table.{Property, EventType, is_versioned}
use Rattle.event.specs.Event.{object_count}
use Rattle.event.specs.EventLayout.{presence_bit, bit_number}
use Rattle.event.specs.EventQuestions.{is_empty}
use Rattle.event.proofs.EventLayoutLaws.{presence-below}
use Rattle.event.proofs.EventSizeLaws.{ValuesShort, Beyond, fit-short, sets-size}
use Rattle.dossier.proofs.DossierHeadLaws.{head_more, dossier-head-size}
use Rattle.dossier.specs.DossierLayout.{Headed, dossier_bytes}
use Rattle.dossier.specs.DossierBody.{differ_bit, snapshot_bytes, body_bytes}
use Rattle.dossier.specs.DossierQuestions.{each_cell, each_snapshot, is_vacant, is_present, is_lone_if_extreme, unversioned_snapshot, unversioned_shape}
use Rattle.dossier.specs.DossierQuestions.{versioned_snapshot, match_fits, match_alike, dossier_shape, snapshot_values}
use Rattle.dossier.proofs.DossierBodyLaws.{SnapshotWritten, differ-below}
use Rattle.dossier.proofs.DossierLayoutLaws.{DossierWritten}

-- the objects of a snapshot's cells are those of the sets that they hold
pub held-objects : (cs : List Cell) → object_count (map held cs) ≡ sizes cs
unfolding object_count sizes size held
held-objects [] = refl
held-objects (holds s ∷ cs) = ap (λ (n : ℕ). length s + n) (held-objects cs)
held-objects (differs ∷ cs) = ap (λ (n : ℕ). 0 + n) (held-objects cs)

-- 10 + 5 + 5 bytes for the numbers, 2 for the count of each of 32 sets, and 121 for an object
-- all values of a snapshot are short
abbrev ShortValues : Snapshot → Type 0
ShortValues s = ValuesShort (map held s.cells)

-- every cell of a mandatory property is there, and none without a property
abbrev pub cells_present : EventType → Snapshot → Bool
cells_present t s = each_cell is_present is_vacant t.properties s.cells

pub snapshot-size : (s : Snapshot) → SnapshotWritten s → ShortValues s → length (snapshot_bytes s) ≤ 84 + 121 * sizes s.cells
unfolding snapshot_bytes
snapshot-size s w v =
    let n : length (map held s.cells) ≡ 32 = w.sets.long in
    simp length-append
    (omega (
      arith,
      number-bounds s.version,
      number-length-5 (bit_number (map presence_bit (map held s.cells))) (presence-below (map held s.cells) n),
      number-length-5 (bit_number (map differ_bit s.cells)) (differ-below s w),
      sets-size (map held s.cells) v w.small,
      held-objects s.cells,
    ))

pub snapshots-size :
    (ss : List Snapshot) → All SnapshotWritten ss → All ShortValues ss →
    length (flatten (map snapshot_bytes ss)) ≤ 84 * length ss + 121 * objects ss
unfolding flatten objects
snapshots-size [] w v = omega arith
snapshots-size (s ∷ ss) w v = simp length-append (omega (arith, snapshot-size s w.0 v.0, snapshots-size ss w.1 v.1))

-- 827 + 1 + 8 * 84 + 256 * 121 = 32,476
pub dossier-size :
    {limits : Limits} → Permitted limits → (h : Headed) → DossierWritten limits h → All ShortValues h.snapshots →
    length h.head.type ≤ 64 → objects h.snapshots ≤ 256 → length (dossier_bytes h) ≤ dossier_capacity
unfolding dossier_bytes body_bytes
dossier-size permitted h w v t o =
    let n : length h.snapshots ≤ 8 = omega (arith, w.body.within, permitted.few-versions) in
    simp length-append
    (omega (
      arith,
      dossier-head-size h.head (head_more permitted.few-parents h.head w.head) t,
      number-length-1 (length h.snapshots) (omega arith),
      snapshots-size h.snapshots w.body.snapshots v,
    ))

-- "has each versioned snapshot at most 32 objects": eight of them have at most 256
pub objects-each : (ss : List Snapshot) → All (λ (s : Snapshot). sizes s.cells ≤ 32) ss → objects ss ≤ 32 * length ss
unfolding objects
objects-each [] h = omega arith
objects-each (s ∷ ss) h = omega (arith, h.0, objects-each ss h.1)

pub versioned-objects : (ss : List Snapshot) → All (λ (s : Snapshot). sizes s.cells ≤ 32) ss → length ss ≤ 8 → objects ss ≤ 256
versioned-objects ss h n = omega (arith, objects-each ss h)

-- ---- what the questions of document 01 say of these sizes

pub cells-beyond : (f : Property → Cell → Bool) (ps : List Property) (cs : List Cell) → each_cell f is_vacant ps cs ≡ true → Beyond ps (map held cs)
unfolding each_cell is_vacant
cells-beyond f [] [] h = tt
cells-beyond f [] (c ∷ cs) h =
    let a = and_parts (is_vacant c) (each_cell f is_vacant [] cs) h in
    (eqb-true (length (held c)) 0 (and_parts (not (is_mark c)) (is_empty (held c)) a.0).1, cells-beyond f [] cs a.1)
cells-beyond f (p ∷ ps) [] h = tt
cells-beyond f (p ∷ ps) (c ∷ cs) h = cells-beyond f ps cs (and_parts (f p c) (each_cell f is_vacant ps cs) h).1

pub snapshots-short :
    (t : EventType) (ss : List Snapshot) → each_snapshot (cells_present t) ss ≡ true →
    each_snapshot (snapshot_values t) ss ≡ true → All ShortValues ss
unfolding each_snapshot snapshot_values
snapshots-short t [] h v = tt
snapshots-short t (s ∷ ss) h v =
    let a = and_parts (cells_present t s) _ h in
    let b = and_parts (snapshot_values t s) (each_snapshot (snapshot_values t) ss) v in
    (fit-short t (map held s.cells) (cells-beyond is_present t.properties s.cells a.0) b.0, snapshots-short t ss a.1 b.1)

pub versioned-sizes :
    (t : EventType) (ss : List Snapshot) → each_snapshot (versioned_snapshot t) ss ≡ true → All (λ (s : Snapshot). sizes s.cells ≤ 32) ss
unfolding each_snapshot versioned_snapshot
versioned-sizes t [] h = tt
versioned-sizes t (s ∷ ss) h =
    let a = and_parts (versioned_snapshot t s) (each_snapshot (versioned_snapshot t) ss) h in
    let b = and_parts (leb (sizes s.cells) 32 && _) _ a.0 in
    (leb-true (sizes s.cells) 32 (and_parts (leb (sizes s.cells) 32) _ b.0).0, versioned-sizes t ss a.1)

unversioned-objects :
    (limits : Limits) (t : EventType) (ss : List Snapshot) → unversioned_shape limits t ss ≡ true → objects ss ≤ limits.objects
unfolding unversioned_shape unversioned_snapshot each_snapshot objects
unversioned-objects limits t [] h = omega arith
unversioned-objects limits t (s ∷ []) h =
    let a = and_parts (unversioned_snapshot limits t s) true h in
    let cells = each_cell (λ p c. not (is_mark c) && is_lone_if_extreme p c) (λ c. true) t.properties s.cells in
    let b = and_parts (eqb s.version 0 && cells) (leb (sizes s.cells) limits.objects) a.0 in
    omega (arith, leb-true (sizes s.cells) limits.objects b.1)
unversioned-objects limits t (s ∷ r ∷ ss) h =
    let a = and_parts (eqb (length (s ∷ r ∷ ss)) 1) _ h in
    absurd (omega (arith, eqb-true (length (s ∷ r ∷ ss)) 1 a.0))

-- the parts of question 5
pub shape-parts :
    (limits : Limits) (t : EventType) (ss : List Snapshot) → dossier_shape limits t ss ≡ true →
    (each_snapshot (cells_present t) ss ≡ true)
    × (cond (is_versioned t) (each_snapshot (versioned_snapshot t) ss) (unversioned_shape limits t ss) ≡ true)
unfolding dossier_shape
shape-parts limits t ss h = and_parts _ _ (and_parts _ (each_snapshot (match_fits t) ss) (and_parts _ (match_alike t ss) h).0).0

pub shape-objects :
    {limits : Limits} → Permitted limits → (t : EventType) (ss : List Snapshot) → dossier_shape limits t ss ≡ true →
    length ss ≤ limits.versions → objects ss ≤ 256
shape-objects {limits} permitted t ss h n = go (is_versioned t) (shape-parts limits t ss h).1
  where
    go : (b : Bool) → cond b (each_snapshot (versioned_snapshot t) ss) (unversioned_shape limits t ss) ≡ true → objects ss ≤ 256
    go true h = versioned-objects ss (versioned-sizes t ss h) (omega (arith, permitted.few-versions))
    go false h = omega (arith, unversioned-objects limits t ss h, permitted.few-objects)

-- a dossier of which questions 3, 5 and 6 are answered yes
pub dossier-fits :
    {limits : Limits} → Permitted limits → (t : EventType) (h : Headed) → DossierWritten limits h → dossier_shape limits t h.snapshots ≡ true →
    each_snapshot (snapshot_values t) h.snapshots ≡ true → length h.head.type ≤ 64 → length (dossier_bytes h) ≤ dossier_capacity
dossier-fits {limits} permitted t h w q v n =
    let ss = h.snapshots in
    dossier-size permitted h w (snapshots-short t ss (shape-parts limits t ss q).0 v) n (shape-objects permitted t ss q w.body.within)
