-- The laws of one snapshot among those of a dossier: where it goes, which bytes all have then, and where the others stand.
use mathlib.Core.Path.{◌≡◌, refl, sym, ap, ◌∙◌}
use mathlib.Core.Bool.{Bool, true, false, cond}
use mathlib.Core.List.{List, [], ◌∷◌, ◌++◌, append_assoc, flatten}
use Prim.Native.Nat.{ℕ, zero, suc, ◌+◌, ◌-◌, ◌≤◌, ◌<◌}
use native.Mathlib.Omega.{arith}
use lib.ListN.{length, take, drop, get_or, length-append, length-drop, take-append-drop}
use lib.Seq.{drop-cons, length-take-le}
use Rattle.model.specs.Order.{numbers}
use Rattle.model.specs.Keyed.{Above, Rising, merge}
use Rattle.model.specs.Rule.{Snapshot, join_snapshots}
use Rattle.model.proofs.OrderLaws.{less-cmp}
use Rattle.model.proofs.KeyedLaws.{above-trans, merge-left, merge-right, merge-meet, merge-nil}
use Rattle.packed.specs.Parse.{All}
use Rattle.packed.specs.Packed.{part}
use Rattle.packed.proofs.ReadLaws.{drop-on, stretch}
use Rattle.ontology.specs.Table.{EventType}
use Rattle.event.specs.Event.{type_view}
use Rattle.dossier.specs.DossierBody.{snapshot_bytes}
use Rattle.dossier.specs.code.DossierIndex.{no_snapshot}
use Rattle.dossier.proofs.DossierBodyLaws.{SnapshotWritten}
use Rattle.combining.specs.code.AddIndex.{bytes_of, Splits, lower_or_same, with_snapshot, met_with}
use Rattle.combining.specs.declared.measures.Place.{Place}
use Rattle.combining.proofs.MeetLaws.{version_in}

-- ---- one snapshot, merged with those of a dossier

abbrev Rises : List Snapshot → Type 0
Rises = Rising numbers version_in

module _ (ty : EventType) where
  abbrev merged_with : List Snapshot → Snapshot → List Snapshot
  merged_with ss y = merge numbers version_in (join_snapshots (type_view ty)) ss (y ∷ [])

  pub join-keeps : (x y : Snapshot) → (join_snapshots (type_view ty) x y).version ≡ x.version
  unfolding join_snapshots
  join-keeps x y = refl

  keeps : (x y : Snapshot) → x.version ≡ y.version → (join_snapshots (type_view ty) x y).version ≡ x.version
  keeps x y e = join-keeps x y

  rest-stays : (ss : List Snapshot) → Rises ss → merge numbers version_in (join_snapshots (type_view ty)) ss [] ≡ ss
  rest-stays = merge-nil numbers version_in (join_snapshots (type_view ty)) keeps

  -- one of a lower version stays first
  lower-first :
      (s : Snapshot) (ss : List Snapshot) (y : Snapshot) → Above numbers version_in s.version ss → s.version < y.version →
      merged_with (s ∷ ss) y ≡ s ∷ merged_with ss y
  lower-first s ss y r h = merge-left numbers version_in (join_snapshots (type_view ty)) keeps s ss (y ∷ []) r (less-cmp s.version y.version h, tt)

  -- it comes before those of higher versions
  unmet-merged :
      (ss : List Snapshot) (i : ℕ) (y : Snapshot) → Rises ss → i ≤ length ss →
      ((j : ℕ) → j < i → (get_or ss j no_snapshot).version < y.version) →
      (i < length ss → y.version < (get_or ss i no_snapshot).version) → merged_with ss y ≡ take i ss ++ (y ∷ drop i ss)
  unfolding merge
  unmet-merged [] zero y r l lower higher = refl
  unmet-merged [] (suc i) y r l lower higher = absurd (omega arith)
  unmet-merged (s ∷ ss) zero y r l lower higher =
      let less = less-cmp y.version s.version (higher (omega arith)) in
      let above = above-trans numbers version_in y.version s.version ss less r.0 in
      merge-right numbers version_in (join_snapshots (type_view ty)) keeps (s ∷ ss) y [] (less, above)
      ∙ ap (λ (zs : List Snapshot). y ∷ zs) (rest-stays (s ∷ ss) r)
  unmet-merged (s ∷ ss) (suc i) y r l lower higher =
      lower-first s ss y r.0 (lower 0 (omega arith))
      ∙ ap (λ (zs : List Snapshot). s ∷ zs)
      (unmet-merged ss i y r.1 (omega arith) (λ j k. lower (suc j) (omega arith)) (λ k. higher (omega arith)))

  -- the one of its version is joined with it
  met-merged :
      (ss : List Snapshot) (i : ℕ) (y : Snapshot) → Rises ss → i < length ss →
      ((j : ℕ) → j < i → (get_or ss j no_snapshot).version < y.version) →
      (get_or ss i no_snapshot).version ≡ y.version →
      merged_with ss y ≡ take i ss ++ (join_snapshots (type_view ty) (get_or ss i no_snapshot) y ∷ drop (suc i) ss)
  met-merged [] i y r l lower e = absurd (omega arith)
  met-merged (s ∷ ss) zero y r l lower e =
      merge-meet numbers version_in (join_snapshots (type_view ty)) keeps s ss y [] r.0 e
      ∙ ap (λ (zs : List Snapshot). join_snapshots (type_view ty) s y ∷ zs) (rest-stays ss r.1)
  met-merged (s ∷ ss) (suc i) y r l lower e =
      lower-first s ss y r.0 (lower 0 (omega arith))
      ∙ ap (λ (zs : List Snapshot). s ∷ zs) (met-merged ss i y r.1 (omega arith) (λ j k. lower (suc j) (omega arith)) e)

  pub merged-with :
      (ss : List Snapshot) (y : Snapshot) (p : Place) → Rises ss → Splits ss y.version p → merged_with ss y ≡ with_snapshot ss p (met_with ty ss p y)
  merged-with ss y p r w = go p.meets refl
    where
      -- by whether one of its version stands there
      with-one : Bool → List Snapshot
      with-one b =
          take p.index ss
          ++ (cond b (join_snapshots (type_view ty) (get_or ss p.index no_snapshot) y) y ∷ drop (cond b (suc p.index) p.index) ss)

      go : (b : Bool) → p.meets ≡ b → merged_with ss y ≡ with-one p.meets
      go true e = let m = w.met e in met-merged ss p.index y r m.0 w.lower m.1 ∙ ap with-one (sym e)
      go false e = unmet-merged ss p.index y r w.within w.lower (w.unmet e).1 ∙ ap with-one (sym e)

-- ---- the bytes of some snapshots

bytes-append : (xs ys : List Snapshot) → bytes_of (xs ++ ys) ≡ bytes_of xs ++ bytes_of ys
unfolding flatten
bytes-append [] ys = refl
bytes-append (x ∷ xs) ys =
    ap (λ (l : List ℕ). snapshot_bytes x ++ l) (bytes-append xs ys) ∙ sym (append_assoc (snapshot_bytes x) (bytes_of xs) (bytes_of ys))

pub bytes-split : (i : ℕ) (ss : List Snapshot) → bytes_of ss ≡ bytes_of (take i ss) ++ bytes_of (drop i ss)
bytes-split i ss = ap bytes_of (sym (take-append-drop i ss)) ∙ bytes-append (take i ss) (drop i ss)

pub bytes_next : (ss : List Snapshot) (i : ℕ) → i < length ss →
    bytes_of (drop i ss) ≡ snapshot_bytes (get_or ss i no_snapshot) ++ bytes_of (drop (suc i) ss)
unfolding flatten
bytes_next ss i l = ap bytes_of (drop-cons ss i no_snapshot l)

pub bytes-with :
    (ss : List Snapshot) (p : Place) (x : Snapshot) →
    bytes_of (with_snapshot ss p x) ≡ bytes_of (take p.index ss) ++ (snapshot_bytes x ++ bytes_of (drop (lower_or_same p) ss))
unfolding flatten
bytes-with ss p x = bytes-append (take p.index ss) (x ∷ drop (lower_or_same p) ss)

pub length-with :
    (ss : List Snapshot) (i j : ℕ) (x : Snapshot) → i ≤ length ss → j ≤ length ss →
    length (take i ss ++ (x ∷ drop j ss)) ≡ i + suc (length ss - j)
length-with ss i j x l m = length-append (take i ss) (x ∷ drop j ss) ∙ omega (arith, length-take-le i ss l, length-drop j ss)

pub written_at : (zs : List Snapshot) → All SnapshotWritten zs → (i : ℕ) → i < length zs → SnapshotWritten (get_or zs i no_snapshot)
written_at [] w i l = absurd (omega arith)
written_at (z ∷ zs) w zero l = w.0
written_at (z ∷ zs) w (suc i) l = written_at zs w.1 i (omega arith)

-- ---- where they stand

-- the bytes xs stand in s from `at` on, and r follows them
pub record Stands (s : List ℕ) (at : ℕ) (xs r : List ℕ) : Type 0 where
  pub within : at + length xs ≤ length s
  pub here : part s at (at + length xs) ≡ xs
  pub then : drop (at + length xs) s ≡ r

pub stands : (s : List ℕ) (at : ℕ) (xs r : List ℕ) → at ≤ length s → drop at s ≡ xs ++ r → Stands s at xs r
stands s at xs r l e =
    let n = ap length e ∙ length-append xs r in
    let w : at + length xs ≤ length s = omega (arith, n, length-drop at s) in
    let t = drop-on s at xs r e in
    record { within = w; here = (stretch s xs at (at + length xs) l w (e ∙ ap (λ (l : List ℕ). xs ++ l) (sym t))).0; then = t }
