-- The laws of cells: sets among numbers, the sets that stand in the rows of the snapshots, and the runs of a place.
use mathlib.Core.Path.{◌≡◌, refl, sym, ap, ◌∙◌}
use mathlib.Core.Bool.{true}
use mathlib.Core.List.{List, [], ◌∷◌, map}
use Prim.Native.Nat.{ℕ, zero, suc, ◌+◌, ◌-◌, ◌*◌, ◌≤◌, ◌<◌}
use native.Mathlib.Omega.{arith}
use lib.ListN.{length, drop, get_or, set, length-set}
use lib.Seq.{get_or-take, get_or-drop, get_or-set_same, get_or-set_other}
use borrow.Author.Count.{below_more}
use Rattle.model.specs.Order.{Text, texts, rising}
use Rattle.model.specs.Rule.{Snapshot}
use Rattle.model.specs.Opening.{held, cell_at, column}
use Rattle.event.specs.code.EventIndex.{SetIs, set_in}
use Rattle.event.proofs.SetLaws.{set-read}
use Rattle.event.specs.declared.sets.SetAt.{SetAt}
use Rattle.event.proofs.EventLayoutLaws.{SetWritten}
use Rattle.event.proofs.EventQuestionLaws.{all-at, empty-written}
use Rattle.unions.specs.code.Merging.{SetRun, SetRuns}
use Rattle.dossier.specs.DossierLayout.{Headed}
use Rattle.dossier.specs.code.DossierIndex.{no_snapshot, row_of, RowsAre, DossierIs}
use Rattle.dossier.specs.declared.dossiers.DossierIndex.{DossierIndex}
use Rattle.dossier.proofs.CellLaws.{held_at}
use Rattle.dossier.proofs.DossierBodyLaws.{snapshot-was}
use Rattle.opening.specs.code.OpenIndex.{CellStands, CellsStand}
use Rattle.opening.specs.code.CellIndex.{set_from, with_set, cell_in}
use Rattle.opening.specs.declared.cells.Runs.{Runs}

-- ---- the column of a place

pub column-long : (ss : List Snapshot) (p : ℕ) → length (column ss p) ≡ length ss
unfolding column
column-long [] p = refl
column-long (x ∷ ss) p = ap suc (column-long ss p)

pub column-at : (ss : List Snapshot) (p j : ℕ) → get_or (column ss p) j [] ≡ held (cell_at (get_or ss j no_snapshot) p)
unfolding column cell_at held
column-at [] p j = refl
column-at (x ∷ ss) p zero = refl
column-at (x ∷ ss) p (suc j) = column-at ss p j

-- ---- sets among numbers

module _ (l : List ℕ) (at : ℕ) (x : SetAt) where
  pub set-put : at + 2 < length l → set_from (with_set l at x) at ≡ x
  unfolding set_from with_set
  set-put h =
      let l₁ = set l at x.start in
      let l₂ = set l₁ (at + 1) x.end in
      let start : at ≡ at + 1 → ⊥ = λ e. omega arith in
      let start₂ : at ≡ at + 2 → ⊥ = λ e. omega arith in
      let end₂ : at + 1 ≡ at + 2 → ⊥ = λ e. omega arith in
      let long₁ = length-set l at x.start in
      rw (
        get_or-set_other l₂ (at + 2) at x.count 0 start₂,
        get_or-set_other l₁ (at + 1) at x.end 0 start,
        get_or-set_same l at x.start 0 (omega arith),
        get_or-set_other l₂ (at + 2) (at + 1) x.count 0 end₂,
        get_or-set_same l₁ (at + 1) x.end 0 (omega (arith, long₁)),
        get_or-set_same l₂ (at + 2) x.count 0 (omega (arith, length-set l₁ (at + 1) x.end, long₁)),
      )

  -- a number elsewhere
  pub put_other : (i : ℕ) → (i ≡ at → ⊥) → (i ≡ at + 1 → ⊥) → (i ≡ at + 2 → ⊥) → get_or (with_set l at x) i 0 ≡ get_or l i 0
  unfolding with_set
  put_other i a b c =
      let l₁ = set l at x.start in
      let l₂ = set l₁ (at + 1) x.end in
      get_or-set_other l₂ (at + 2) i x.count 0 c ∙ get_or-set_other l₁ (at + 1) i x.end 0 b ∙ get_or-set_other l at i x.start 0 a

  pub put-length : length (with_set l at x) ≡ length l
  unfolding with_set
  put-length = simp length-set refl

-- a set whose numbers are kept
pub set-kept : (l l' : List ℕ) (at : ℕ) → ((i : ℕ) → at ≤ i → i < at + 3 → get_or l' i 0 ≡ get_or l i 0) → set_from l' at ≡ set_from l at
unfolding set_from
set-kept l l' at h = rw (h at (omega arith) (omega arith), h (at + 1) (omega arith) (omega arith), h (at + 2) (omega arith) (omega arith))

-- ---- the runs of a place

-- the first j runs are those of the cells of n snapshots
pub record RunsTo (rows : List ℕ) (place n : ℕ) (r : Runs) (j : ℕ) : Type 0 where
  pub starts-long : length r.starts ≡ 8
  pub ends-long : length r.ends ≡ 8
  pub start : (i : ℕ) → i < j → i < n → get_or r.starts i 0 ≡ (cell_in rows place i).start
  pub end : (i : ℕ) → i < j → i < n → get_or r.ends i 0 ≡ (cell_in rows place i).end

pub runs_none : {rows : List ℕ} {place n : ℕ} {r : Runs} → length r.starts ≡ 8 → length r.ends ≡ 8 → RunsTo rows place n r 0
runs_none a b =
    record { starts-long = a; ends-long = b; start = λ i h k. absurd (omega arith); end = λ i h k. absurd (omega arith) }

put-more :
    (f : ℕ → ℕ) (l : List ℕ) (j n x : ℕ) → j < length l → x ≡ f j → ((i : ℕ) → i < j → i < n → get_or l i 0 ≡ f i) →
    (i : ℕ) → i < j + 1 → i < n → get_or (set l j x) i 0 ≡ f i
put-more f l j n x h e old =
    below_more (λ (i : ℕ). i < n → get_or (set l j x) i 0 ≡ f i) j
    (λ i k m. let ne : i ≡ j → ⊥ = λ e. omega arith in get_or-set_other l j i x 0 ne ∙ old i k m)
    (λ m. get_or-set_same l j x 0 h ∙ e)

module _ {rows : List ℕ} {place n : ℕ} {r : Runs} {j : ℕ} (w : RunsTo rows place n r j) where
  pub runs-more :
      {x : SetAt} {now : Runs} → j < 8 → x ≡ cell_in rows place j →
      now ≡ record { starts = set r.starts j x.start; ends = set r.ends j x.end } → RunsTo rows place n now (j + 1)
  runs-more {x} h e f = rw f (record {
    starts-long = length-set r.starts j x.start ∙ w.starts-long;
    ends-long = length-set r.ends j x.end ∙ w.ends-long;
    start =
        put-more (λ (i : ℕ). (cell_in rows place i).start) r.starts j n x.start (omega (arith, w.starts-long))
        (ap (λ (y : SetAt). y.start) e) w.start;
    end =
        put-more (λ (i : ℕ). (cell_in rows place i).end) r.ends j n x.end (omega (arith, w.ends-long))
        (ap (λ (y : SetAt). y.end) e) w.end;
  })

  -- past the last snapshot nothing is put
  pub runs_past : {now : Runs} → n ≤ j → now ≡ r → RunsTo rows place n now (j + 1)
  runs_past h f = rw f (record {
    starts-long = w.starts-long;
    ends-long = w.ends-long;
    start = λ i k l. w.start i (omega arith) l;
    end = λ i k l. w.end i (omega arith) l;
  })

cell-run : (s : List ℕ) (vs : List Text) (x : SetAt) → CellStands s vs x → SetRun s x.start x.end vs
cell-run s vs x w = record { bytes = w.is.bytes; order = w.is.order; within = w.is.within; rises = w.rises }

pub runs-all :
    {rows : List ℕ} {place n : ℕ} {runs : Runs} {j : ℕ} → RunsTo rows place n runs j → 8 ≤ j → place < 32 →
    (s : List ℕ) (ss : List Snapshot) → CellsStand s ss rows → length ss ≡ n → SetRuns s runs.starts runs.ends (length ss) (column ss place)
runs-all {rows} {place} {n} {j = j} r full p s ss w e = record {
  long = column-long ss place;
  each = λ i l.
      let k : i < j = omega (arith, w.few) in
      let m : i < n = omega (arith, e) in
      let vs = held (cell_at (get_or ss i no_snapshot) place) in
      rw (column-at ss place i, r.start i k m, r.end i k m) (cell-run s vs (cell_in rows place i) (w.each place i p l));
}

-- ---- the cells of all snapshots

-- a number of a row, among those of all rows
row_number : (rows : List ℕ) (j k : ℕ) → k < 96 → get_or (row_of rows j) k 0 ≡ get_or rows (96 * j + k) 0
row_number rows j k h =
    let l : k < 96 * j + 96 - 96 * j = omega arith in
    get_or-take (96 * j + 96 - 96 * j) (drop (96 * j) rows) k 0 l ∙ get_or-drop (96 * j) rows k 0

-- a set of a row is a cell
row-set : (rows : List ℕ) (p j : ℕ) → p < 32 → set_in (row_of rows j) p ≡ cell_in rows p j
unfolding set_from
row-set rows p j h =
    let end : 96 * j + (3 * p + 1) ≡ 96 * j + 3 * p + 1 = omega arith in
    let count : 96 * j + (3 * p + 2) ≡ 96 * j + 3 * p + 2 = omega arith in
    rw (
      row_number rows j (3 * p) (omega arith),
      row_number rows j (3 * p + 1) (omega arith),
      row_number rows j (3 * p + 2) (omega arith),
      end,
      count,
    )

module _ (s : List ℕ) (h : Headed) (d : DossierIndex) (rows : List ℕ) (w : DossierIs s h d) (v : RowsAre s h.snapshots rows) where
  -- the values of a set rise, since the snapshot was read
  cell-stands : (p j : ℕ) → p < 32 → j < length h.snapshots → CellStands s (held (cell_at (get_or h.snapshots j no_snapshot) p)) (cell_in rows p j)
  unfolding cell_at
  cell-stands p j k l =
      let x = get_or h.snapshots j no_snapshot in
      let read = (w.snapshots.each j l).is in
      let written = (snapshot-was (drop (get_or d.starts j 0) s) x (drop (get_or d.ends j 0) s) read).1 in
      let here = held_at x.cells p in
      record {
        is = set-read (sym (row-set rows p j k)) (rw (← here) ((v.each j l).each p k));
        rises = rw (← here) (all-at SetWritten [] empty-written (map held x.cells) written.sets.each p).rises;
      }

  -- the rows of a dossier that was read are its cells
  pub cells-stand : CellsStand s h.snapshots rows
  cells-stand = record { few = omega (arith, w.count, w.few); each = cell-stands }

-- a set of the column, where its cell says
module _ (s : List ℕ) (ss : List Snapshot) (rows : List ℕ) (p j : ℕ) (h : p < 32) (w : CellsStand s ss rows) (k : j < length ss) where
  pub column-stands : {x : SetAt} → x ≡ cell_in rows p j → SetIs s (get_or (column ss p) j []) x
  column-stands e = rw (e, column-at ss p j) (w.each p j h k).is

  pub column-rises : rising texts (get_or (column ss p) j []) ≡ true
  column-rises = ap (rising texts) (column-at ss p j) ∙ (w.each p j h k).rises
