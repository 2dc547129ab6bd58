-- A snapshot of which question 5 is answered yes, together with itself, is itself; and two that have the same bytes are one.
use mathlib.Core.Path.{◌≡◌, refl, sym, ap, ◌∙◌}
use mathlib.Core.Bool.{Bool, true, false, cond}
use mathlib.Core.List.{List, [], ◌∷◌, ◌++◌}
use Prim.Native.Nat.{ℕ, ◌≤◌}
use native.Mathlib.Omega.{arith}
use lib.ListN.{length, take, get_or}
use Rattle.model.specs.Order.{Order, Text, texts, sets}
use Rattle.model.specs.Keyed.{merge}
use Rattle.model.specs.Sets.{itself, first, Ups, union, up_to}
use Rattle.model.specs.Rule.{Choice, Cell, holds, differs, join_cell, places, Snapshot, join_snapshots}
use Rattle.model.specs.Limits.{Limits}
use Rattle.model.specs.Opening.{held, cell_at}
use Rattle.model.proofs.Cases.{truth}
use Rattle.model.proofs.OrderLaws.{equal-true}
use Rattle.model.proofs.KeyedLaws.{merge-meet}
use Rattle.model.proofs.SetLaws.{rising-ups}
use Rattle.model.proofs.PartLaws.{map_same, map-get_d}
use Rattle.model.proofs.StepLaws.{join-map}
use Rattle.packed.specs.Parse.{got}
use Rattle.ontology.specs.Table.{EventType, is_versioned}
use Rattle.event.specs.Event.{type_view, event_view}
use Rattle.dossier.specs.DossierBody.{read_snapshot, snapshot_bytes}
use Rattle.dossier.specs.code.DossierIndex.{snapshot_fits}
use Rattle.dossier.proofs.DossierBodyLaws.{SnapshotWritten, snapshot-cells, snapshot-read, snapshot-was}
use Rattle.combining.specs.code.CombineIndex.{is_extreme_at, Meet}
use Rattle.combining.proofs.ObjectLaws.{keeps-least, keeps-every, PlainCell, plain_cell}

-- ---- a set

union_self : (O : Order Text) (xs : List Text) → Ups O xs → union O xs xs ≡ xs
unfolding union merge
union_self O [] h = refl
union_self O (x ∷ xs) h =
    merge-meet O itself first (λ a b e. refl) x xs x xs h.0 refl ∙ ap (λ (l : List Text). x ∷ l) (union_self O xs h.1)

-- the first of a set of one value at most
least_self : (O : Order Text) (xs : List Text) → length xs ≤ 1 → take 1 (union O xs xs) ≡ xs
least_self O [] h = ap (take 1) (union_self O [] tt)
least_self O (x ∷ []) h = ap (take 1) (union_self O (x ∷ []) (tt, tt))
least_self O (x ∷ y ∷ xs) h = absurd (omega arith)

-- ---- a cell

-- of a versioned snapshot
agreed-self : (ch : Choice) (c : Cell) → join_cell true ch c c ≡ c
unfolding join_cell
agreed-self ch (holds s) = ap (λ (b : Bool). cond b (holds s) differs) ((equal-true sets s s).1 refl)
agreed-self ch differs = refl

-- of an unversioned one
module _ (ty : EventType) (k : ℕ) where
  joined-self : (c : Cell) → PlainCell ty k c → join_cell false ((type_view ty).choice k) c c ≡ c
  unfolding join_cell
  joined-self c p = ap (λ (c : Cell). join_cell false ((type_view ty).choice k) c c) p.holds-it ∙ together ∙ sym p.holds-it
    where
      together : join_cell false ((type_view ty).choice k) (holds (held c)) (holds (held c)) ≡ holds (held c)
      together =
          truth (is_extreme_at ty k)
          (λ e.
          let least-here = keeps-least ty k e in
          ap (λ (ch : Choice). join_cell false ch (holds (held c)) (holds (held c))) least-here.is
          ∙ ap holds (least_self least-here.order (held c) (p.lone e)))
          (λ n.
          ap (λ (ch : Choice). join_cell false ch (holds (held c)) (holds (held c))) (keeps-every ty k n)
          ∙ ap holds (union_self texts (held c) ((rising-ups texts (held c)).0 p.rises)))

-- ---- a snapshot

module _ (limits : Limits) (ty : EventType) (x : Snapshot) (w : SnapshotWritten x) (fits : snapshot_fits limits ty x ≡ true) where
  cell_self : (k : ℕ) → join_cell (is_versioned ty) ((type_view ty).choice k) (cell_at x k) (cell_at x k) ≡ cell_at x k
  unfolding cell_at
  cell_self k =
      let c = get_or x.cells k (holds []) in
      truth (is_versioned ty)
      (λ v. ap (λ (b : Bool). join_cell b ((type_view ty).choice k) c c) v ∙ agreed-self ((type_view ty).choice k) c)
      (λ u. ap (λ (b : Bool). join_cell b ((type_view ty).choice k) c c) u ∙ joined-self ty k c (plain_cell limits ty x w u fits k))

  cells_self : (join_snapshots (type_view ty) x x).cells ≡ x.cells
  unfolding type_view event_view places cell_at
  cells_self =
      let long = snapshot-cells x w in
      join-map (type_view ty) x x long long
      ∙ map_same _ (cell_at x) (up_to 32) (λ k m. cell_self k)
      ∙ map-get_d x.cells (holds []) 32 long

  snapshot-self : join_snapshots (type_view ty) x x ≡ x
  unfolding join_snapshots
  snapshot-self = ap (λ (cs : List Cell). record { version = x.version; cells = cs }) cells_self

-- ---- two snapshots of the same bytes

module _ {ty : EventType} {x y : Snapshot} (m : Meet ty x y) where
  left-written : SnapshotWritten x
  left-written = (snapshot-was m.left-bytes x m.left-rest m.left-read).1

  right-written : SnapshotWritten y
  right-written = (snapshot-was m.right-bytes y m.right-rest m.right-read).1

  one-snapshot : snapshot_bytes x ≡ snapshot_bytes y → x ≡ y
  one-snapshot e =
      let reads : got x [] ≡ got y [] =
      sym (snapshot-read x [] left-written) ∙ ap (λ (l : List ℕ). read_snapshot (l ++ [])) e ∙ snapshot-read y [] right-written in
      cc

  pub same-joined : snapshot_bytes x ≡ snapshot_bytes y → join_snapshots (type_view ty) x y ≡ x
  same-joined e = ap (join_snapshots (type_view ty) x) (sym (one-snapshot e)) ∙ snapshot-self m.fitting.limits ty x left-written m.fitting.left-fits
