-- The laws of writing the snapshots of both sides by rising version: what is still to be written when the sides have come so far, and how each way of going
-- on leads to the next turn.
use mathlib.Core.Path.{◌≡◌, refl, sym, ap, ◌∙◌, subst}
use mathlib.Core.List.{List, [], append-nil}
use Prim.Native.Nat.{ℕ, ◌+◌, ◌≤◌, ◌<◌}
use native.Mathlib.Omega.{arith}
use native.Mathlib.Nat.{add-zero}
use lib.ListN.{length, get_or, length-append}
use Rattle.model.specs.Rule.{Snapshot, join_snapshots}
use Rattle.packed.specs.Packed.{part}
use Rattle.packed.specs.code.Written.{Wrote, ToGo}
use Rattle.packed.proofs.WriteLaws.{wrote-length, wrote_as, gone, all-gone}
use Rattle.ontology.specs.Table.{EventType}
use Rattle.ontology.specs.code.TypeIndex.{TypeIs}
use Rattle.ontology.specs.declared.types.TypeIndex.{TypeIndex}
use Rattle.event.specs.Event.{type_view}
use Rattle.dossier.specs.DossierLayout.{Headed}
use Rattle.dossier.specs.DossierBody.{snapshot_bytes}
use Rattle.dossier.specs.code.DossierIndex.{no_snapshot, no_version, row_of, DossierIs}
use Rattle.dossier.specs.declared.dossiers.DossierIndex.{DossierIndex}
use Rattle.combining.specs.code.CombineIndex.{Combinable, Shared}
use Rattle.combining.specs.code.WriteIndex.{SharedRoom, bytes_from, RestRoom, SnapshotsRoom}
use Rattle.combining.proofs.CountLaws.{version_at}
use Rattle.combining.proofs.MergedLaws.{StandsIn, step_by, step-on, step-none, snapshots_part, merged_bytes, next_bytes, merged-to-go}
use Rattle.combining.proofs.MergedLaws.{merged-left, merged-right, merged-next, next-left, next-right, next_both, next-shared, left-bytes, right-bytes}

-- the sides have come to their i-th and their j-th snapshots, and what is left of them goes into `out` from `next` on
pub record Merging
    (a left b right : List ℕ) (t : TypeIndex) (ps out₀ : List ℕ) (at : ℕ) (d e : DossierIndex) (out : List ℕ) (i j next : ℕ) : Type 0 where
  pub left-within : i ≤ d.count
  pub right-within : j ≤ e.count
  pub long : length out ≡ length out₀
  pub to-go : (table : List ℕ) (h : Combinable table a d left b e right t ps) → ToGo out₀ at (snapshots_part h) out next (merged_bytes h i j)

pub merging-none :
    {a left b right : List ℕ} {t : TypeIndex} {ps out : List ℕ} {at : ℕ} {d e : DossierIndex} → Merging a left b right t ps out at d e out 0 0 at
merging-none = record { left-within = omega arith; right-within = omega arith; long = refl; to-go = λ table h. merged-to-go h }

-- one side is at its end, and the rest of the other is written
module _
    {a left b right : List ℕ} {t : TypeIndex} {ps out₀ : List ℕ} {at : ℕ} {d e : DossierIndex} {out : List ℕ} {i j next : ℕ}
    (m : Merging a left b right t ps out₀ at d e out i j next) where
  module _ (room : SnapshotsRoom a d left b e right t ps at (length out₀)) where
    pub left-rest : e.count ≤ j → RestRoom a d i next (length out)
    left-rest l =
        let h = room.both in
        let g = m.to-go _ h in
        record { what = h.known.left.headed; is = h.left-read; room = omega (arith, g.after, room.room, m.long, ap length (merged-left h i j l)) }

    pub right-rest : d.count ≤ i → RestRoom b e j next (length out)
    right-rest l =
        let h = room.both in
        let g = m.to-go _ h in
        record { what = h.known.right.headed; is = h.right-read; room = omega (arith, g.after, room.room, m.long, ap length (merged-right h i j l)) }

  module _ {out₁ : List ℕ} {to : ℕ} where
    last-wrote :
        {table xs : List ℕ} (h : Combinable table a d left b e right t ps) → merged_bytes h i j ≡ xs → Wrote out next xs out₁ to →
        Wrote out₀ at (snapshots_part h) out₁ to
    last-wrote {xs = xs} h is w = all-gone (gone xs [] (m.to-go _ h) (is ∙ sym (append-nil xs)) w) refl

    pub left_end :
        e.count ≤ j → ((h : Headed) → DossierIs a h d → Wrote out next (bytes_from h.snapshots i) out₁ to) →
        (table : List ℕ) (h : Combinable table a d left b e right t ps) → Wrote out₀ at (snapshots_part h) out₁ to
    left_end l w table h = last-wrote h (merged-left h i j l) (w h.known.left.headed h.left-read)

    pub right_end :
        d.count ≤ i → ((h : Headed) → DossierIs b h e → Wrote out next (bytes_from h.snapshots j) out₁ to) →
        (table : List ℕ) (h : Combinable table a d left b e right t ps) → Wrote out₀ at (snapshots_part h) out₁ to
    right_end l w table h = last-wrote h (merged-right h i j l) (w h.known.right.headed h.right-read)

-- ---- a snapshot of each side is left

pub record Turn
    (a left b right : List ℕ) (t : TypeIndex) (ps out₀ : List ℕ) (at : ℕ) (d e : DossierIndex) (out : List ℕ) (i j next : ℕ) : Type 0 where
  pub so : Merging a left b right t ps out₀ at d e out i j next
  pub room : SnapshotsRoom a d left b e right t ps at (length out₀)
  pub left_in : i < d.count
  pub right-in : j < e.count
  -- a dossier has 8 snapshots at most
  pub left-low : i < 8
  pub right-low : j < 8

module _
    {a left b right : List ℕ} {t : TypeIndex} {ps out₀ : List ℕ} {at : ℕ} {d e : DossierIndex} {out : List ℕ} {i j next : ℕ} where
  pub turn_at :
      Merging a left b right t ps out₀ at d e out i j next → SnapshotsRoom a d left b e right t ps at (length out₀) → i < d.count → j < e.count →
      Turn a left b right t ps out₀ at d e out i j next
  turn_at m room p q = record {
    so = m;
    room = room;
    left_in = p;
    right-in = q;
    left-low = omega (arith, room.both.left-read.few);
    right-low = omega (arith, room.both.right-read.few);
  }

  module _ (u : Turn a left b right t ps out₀ at d e out i j next) where
    abbrev both : Combinable u.room.table a d left b e right t ps
    both = u.room.both

    abbrev v : ℕ
    v = version_at d.versions i

    abbrev w : ℕ
    w = version_at e.versions j

    abbrev left_part : List ℕ
    left_part = part a (get_or d.starts i 0) (get_or d.ends i 0)

    abbrev right_part : List ℕ
    right_part = part b (get_or e.starts j 0) (get_or e.ends j 0)

    next_fits : next + length (next_bytes both i j) ≤ length out
    next_fits =
        let x = step_by v w in
        let y = step_by w v in
        let g = u.so.to-go _ both in
        let parts = merged-next both i j u.left_in u.right-in x y refl refl in
        omega (arith, g.after, g.long, u.room.room, ap length parts, length-append (next_bytes both i j) (merged_bytes both (i + x) (j + y)))

    -- the one of the lower version is copied
    pub left-copied : v < w → (get_or d.starts i 0 ≤ get_or d.ends i 0) × (get_or d.ends i 0 ≤ length a) × (next + length left_part ≤ length out)
    left-copied l =
        let s = both.left-read.snapshots.each i (omega (arith, both.left-read.count, u.left_in)) in
        (s.order, s.within, omega (arith, next_fits, ap length (next-left both i j u.left_in u.right-in l)))

    pub right-copied : w < v → (get_or e.starts j 0 ≤ get_or e.ends j 0) × (get_or e.ends j 0 ≤ length b) × (next + length right_part ≤ length out)
    right-copied l =
        let s = both.right-read.snapshots.each j (omega (arith, both.right-read.count, u.right-in)) in
        (s.order, s.within, omega (arith, next_fits, ap length (next-right both i j u.left_in u.right-in l)))

    module _ {out₁ : List ℕ} {to : ℕ} where
      -- the next one is written, and the sides go on by x and y
      goes_on :
          (x y : ℕ) → x ≡ step_by v w → y ≡ step_by w v → {table : List ℕ} (h : Combinable table a d left b e right t ps) →
          Wrote out next (next_bytes h i j) out₁ to → ToGo out₀ at (snapshots_part h) out₁ to (merged_bytes h (i + x) (j + y))
      goes_on x y p q h o =
          gone (next_bytes h i j) (merged_bytes h (i + x) (j + y)) (u.so.to-go _ h) (merged-next h i j u.left_in u.right-in x y p q) o

      pub turn-left : v < w → Wrote out next left_part out₁ to → Merging a left b right t ps out₀ at d e out₁ (i + 1) j to
      turn-left l o = record {
        left-within = omega (arith, u.left_in);
        right-within = u.so.right-within;
        long = wrote-length o ∙ u.so.long;
        to-go = λ table h.
            subst (λ (n : ℕ). ToGo out₀ at (snapshots_part h) out₁ to (merged_bytes h (i + 1) n)) (add-zero j)
            (goes_on 1 0 (sym (step-on v w (omega arith))) (sym (step-none w v l)) h (wrote_as (next-left h i j u.left_in u.right-in l) o));
      }

      pub turn-right : w < v → Wrote out next right_part out₁ to → Merging a left b right t ps out₀ at d e out₁ i (j + 1) to
      turn-right l o = record {
        left-within = u.so.left-within;
        right-within = omega (arith, u.right-in);
        long = wrote-length o ∙ u.so.long;
        to-go = λ table h.
            subst (λ (n : ℕ). ToGo out₀ at (snapshots_part h) out₁ to (merged_bytes h n (j + 1))) (add-zero i)
            (goes_on 0 1 (sym (step-none v w l)) (sym (step-on w v (omega arith))) h (wrote_as (next-right h i j u.left_in u.right-in l) o));
      }

    -- two of one version are written together, from the parts p and q that `part_of` lends
    module _
        (above : w ≤ v) (below : v ≤ w) {p q : List ℕ}
        (left-lent : StandsIn a (get_or d.starts i 0) (get_or d.ends i 0) p) (right-lent : StandsIn b (get_or e.starts j 0) (get_or e.ends j 0) q) where
      pub shared-there :
          SharedRoom (get_or d.versions i no_version) a (row_of left i) (get_or d.differs i 0) b (row_of right j) (get_or e.differs j 0) p q t ps
          next (length out)
      shared-there = record {
        table = u.room.table;
        type = both.known.left.type;
        left = get_or both.known.left.headed.snapshots i no_snapshot;
        right = get_or both.known.right.headed.snapshots j no_snapshot;
        typed = both.known.typed;
        shared = next-shared both i j u.left_in u.right-in above below;
        left-bytes = left-bytes both i j u.left_in u.right-in left-lent;
        right-bytes = right-bytes both i j u.left_in u.right-in right-lent;
        room = omega (arith, next_fits, ap length (next_both both i j u.left_in u.right-in above below));
      }

      module _
          {out₁ : List ℕ} {to : ℕ}
          (says : (z : List ℕ) (ty : EventType) (x y : Snapshot) → TypeIs z ty t ps →
          Shared (get_or d.versions i no_version) a (row_of left i) (get_or d.differs i 0) b (row_of right j) (get_or e.differs j 0) ty x y →
          p ≡ snapshot_bytes x → q ≡ snapshot_bytes y → Wrote out next (snapshot_bytes (join_snapshots (type_view ty) x y)) out₁ to) where
        both-wrote : {table : List ℕ} (h : Combinable table a d left b e right t ps) → Wrote out next (next_bytes h i j) out₁ to
        both-wrote {table} h =
            wrote_as (next_both h i j u.left_in u.right-in above below)
            (says table h.known.left.type _ _ h.known.typed (next-shared h i j u.left_in u.right-in above below)
            (left-bytes h i j u.left_in u.right-in left-lent) (right-bytes h i j u.left_in u.right-in right-lent))

        pub turn-both : Merging a left b right t ps out₀ at d e out₁ (i + 1) (j + 1) to
        turn-both = record {
          left-within = omega (arith, u.left_in);
          right-within = omega (arith, u.right-in);
          long = wrote-length (both-wrote both) ∙ u.so.long;
          to-go = λ table h. goes_on 1 1 (sym (step-on v w below)) (sym (step-on w v above)) h (both-wrote h);
        }
