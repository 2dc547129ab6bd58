-- The laws of what two versioned snapshots of one version are together: place by place, and written.
use mathlib.Core.Path.{◌≡◌, refl, sym, ap, ap₂, ◌∙◌, subst}
use mathlib.Core.Bool.{Bool, true, false, cond, not, ◌&&◌}
use mathlib.Core.List.{List, [], ◌∷◌, ◌++◌, map}
use Prim.Native.Nat.{ℕ, suc, ◌+◌, ◌/◌, ◌%◌, ◌≤◌, ◌<◌}
use native.Mathlib.Omega.{arith}
use lib.Dec.{ltb}
use lib.ListN.{length, drop, set, get_or, replicate, length-map, get_or-map}
use borrow.Author.Tests.{lt-ltb}
use Rattle.model.specs.Order.{Text, sets, equal}
use Rattle.model.proofs.OrderLaws.{equal-true, equal-false}
use Rattle.model.specs.Rule.{Cell, holds, differs, Choice, TypeView, Snapshot, places, join_cell, join_cells, join_snapshots}
use Rattle.model.specs.Opening.{held, is_mark, cell_at}
use Rattle.model.proofs.StepLaws.{join-at}
use Rattle.packed.specs.Packed.{number}
use Rattle.packed.specs.code.Written.{Wrote}
use Rattle.packed.proofs.WriteLaws.{wrote_then, wrote_as}
use Rattle.values.specs.declared.versions.EventVersion.{EventVersion}
use Rattle.ontology.specs.Table.{EventType, is_versioned}
use Rattle.event.specs.Event.{type_view, event_view}
use Rattle.event.specs.EventLayout.{presence_bit, bit_number, set_bytes, sets_bytes}
use Rattle.event.specs.code.EventIndex.{SetIs, bit_of, set_in}
use Rattle.event.specs.declared.sets.SetAt.{SetAt}
use Rattle.event.proofs.SetLaws.{set-read}
use Rattle.event.specs.code.SetWriting.{place_bytes, present_bytes}
use Rattle.event.proofs.SetWriteLaws.{present-nil, present-cons}
use Rattle.dossier.specs.DossierBody.{differ_bit, snapshot_bytes}
use Rattle.dossier.specs.code.DossierIndex.{CellsAre}
use Rattle.dossier.proofs.CellLaws.{held_at, bit-here, bits-next}
use Rattle.combining.specs.code.CombineIndex.{VacantFrom, Shared}
use Rattle.combining.specs.code.AgreedIndex.{is_agreed, is_filled, PlacesAre}
use Rattle.combining.specs.declared.agreed.Places.{Places}
use Rattle.combining.proofs.PartLaws.{PartsRoom}
use Rattle.combining.proofs.PlaceLaws.{left-vacant, right-vacant, join-long, join-vacant, FilledOnly, only_none, only-more, only-list}

-- ---- a place

-- a mark on either side, and two sets
pub agreed-marked : (c d : Cell) (marks : ℕ) → marks ≡ differ_bit c + differ_bit d → (marks ≡ 0 → ⊥) → false ≡ is_agreed c d
unfolding is_agreed differ_bit
agreed-marked differs d marks e h = refl
agreed-marked (holds s) differs marks e h = refl
agreed-marked (holds s) (holds t) marks e h = absurd (h e)

pub agreed-sets : (c d : Cell) (marks : ℕ) → marks ≡ differ_bit c + differ_bit d → marks ≡ 0 → equal sets (held c) (held d) ≡ is_agreed c d
unfolding is_agreed differ_bit held
agreed-sets differs d marks e h = absurd (omega arith)
agreed-sets (holds s) differs marks e h = absurd (omega arith)
agreed-sets (holds s) (holds t) marks e h = refl

module _ (c d : Cell) (marks : ℕ) (e : marks ≡ differ_bit c + differ_bit d) (clear : marks ≡ 0) where
  -- sets of unequal counts are not the same, and two empty ones are
  pub agreed-counts : (length (held c) ≡ length (held d) → ⊥) → false ≡ is_agreed c d
  agreed-counts n = sym ((equal-false sets (held c) (held d)).1 (λ q. n (ap length q))) ∙ agreed-sets c d marks e clear

  pub agreed-empty : length (held c) ≡ 0 → length (held d) ≡ 0 → true ≡ is_agreed c d
  agreed-empty l r = sym ((equal-true sets (held c) (held d)).1 (empty (held c) l ∙ sym (empty (held d) r))) ∙ agreed-sets c d marks e clear
    where
      empty : (vs : List Text) → length vs ≡ 0 → vs ≡ []
      empty [] h = refl
      empty (v ∷ vs) h = absurd (omega arith)

-- what is joined is marked where the two do not agree, and has the objects of the first where they do
join-mark : (ch : Choice) (c d : Cell) → is_mark (join_cell true ch c d) ≡ not (is_agreed c d)
unfolding join_cell is_mark is_agreed
join-mark ch differs d = refl
join-mark ch (holds s) differs = refl
join-mark ch (holds s) (holds t) = go (equal sets s t)
  where
    go : (b : Bool) → is_mark (cond b (holds s) differs) ≡ not b
    go true = refl
    go false = refl

join-filled : (ch : Choice) (c d : Cell) → is_filled (join_cell true ch c d) ≡ (is_agreed c d && ltb 0 (length (held c)))
unfolding join_cell is_filled is_agreed held
join-filled ch differs d = refl
join-filled ch (holds s) differs = refl
join-filled ch (holds s) (holds t) = go (equal sets s t) s
  where
    go : (b : Bool) (s : List Text) → is_filled (cond b (holds s) differs) ≡ (b && ltb 0 (length s))
    go true [] = refl
    go true (v ∷ vs) = sym (lt-ltb 0 (suc (length vs)) (omega arith))
    go false s = refl

join-bytes :
    (f : Bool) → f ≡ true → (ch : Choice) (c d : Cell) → let joined = held (join_cell f ch c d) in
    place_bytes (presence_bit joined) (held c) ≡ set_bytes joined
unfolding join_cell held set_bytes place_bytes presence_bit
join-bytes false e ch c d = let z : ◌≡◌ {A = ℕ} 0 1 = cc in absurd (omega arith)
join-bytes true e ch differs d = refl
join-bytes true e ch (holds s) differs = refl
join-bytes true e ch (holds s) (holds t) = go (equal sets s t) s
  where
    go : (b : Bool) (s : List Text) → place_bytes (presence_bit (held (cond b (holds s) differs))) s ≡ set_bytes (held (cond b (holds s) differs))
    go true [] = refl
    go true (v ∷ vs) = refl
    go false s = refl

-- ---- all places

joins-bytes :
    (t : TypeView) → t.versioned ≡ true → (ps : List ℕ) (cs ds : List Cell) → let joined = map held (join_cells t ps cs ds) in
    present_bytes (bit_number (map presence_bit joined)) (map held cs) ≡ sets_bytes joined
unfolding join_cells
joins-bytes t e [] cs ds = present-nil (map held cs)
joins-bytes t e (p ∷ ps) [] ds = present-nil []
joins-bytes t e (p ∷ ps) (c ∷ cs) [] = present-nil (map held (c ∷ cs))
joins-bytes t e (p ∷ ps) (c ∷ cs) (d ∷ ds) =
    let joined = join_cell t.versioned (t.choice p) c d in
    present-cons (held c) (held joined) (map held cs) (map held (join_cells t ps cs ds))
    (join-bytes t.versioned e (t.choice p) c d) (joins-bytes t e ps cs ds)

filled-bits : (cs : List Cell) → map bit_of (map is_filled cs) ≡ map presence_bit (map held cs)
unfolding bit_of is_filled presence_bit held
filled-bits [] = refl
filled-bits (differs ∷ cs) = rw (filled-bits cs)
filled-bits (holds [] ∷ cs) = rw (filled-bits cs)
filled-bits (holds (v ∷ vs) ∷ cs) = rw (filled-bits cs)

mark-bits : (cs : List Cell) → map bit_of (map is_mark cs) ≡ map differ_bit cs
unfolding bit_of is_mark differ_bit
mark-bits [] = refl
mark-bits (differs ∷ cs) = ap (λ (l : List ℕ). 1 ∷ l) (mark-bits cs)
mark-bits (holds s ∷ cs) = ap (λ (l : List ℕ). 0 ∷ l) (mark-bits cs)

-- what some cells have at a place
filled_at : (cs : List Cell) (k : ℕ) → get_or (map is_filled cs) k false ≡ is_filled (get_or cs k (holds []))
unfolding is_filled
filled_at cs k = get_or-map is_filled cs k (holds [])

mark-at : (cs : List Cell) (k : ℕ) → get_or (map is_mark cs) k false ≡ is_mark (get_or cs k (holds []))
unfolding is_mark
mark-at cs k = get_or-map is_mark cs k (holds [])

-- The first k places are found, and the others are still false; m and n have the differ bits of these
pub record PlacesSofar (ty : EventType) (left right : Snapshot) (present marked : List Bool) (m n k : ℕ) : Type 0 where
  pub filled : FilledOnly (λ p. get_or (map is_filled (join_snapshots (type_view ty) left right).cells) p false) present k
  pub differing : FilledOnly (λ p. get_or (map is_mark (join_snapshots (type_view ty) left right).cells) p false) marked k
  pub left-bits : m ≡ bit_number (map differ_bit (drop k left.cells))
  pub right-bits : n ≡ bit_number (map differ_bit (drop k right.cells))

module _
    (a b : List ℕ) (e f : ℕ) (ats bts : List ℕ) (ty : EventType) (left right : Snapshot) (v : is_versioned ty ≡ true)
    (x : CellsAre a left.cells e ats) (y : CellsAre b right.cells f bts) where
  left-long : length left.cells ≡ 32
  left-long = sym (length-map left.cells held) ∙ x.sets.long

  right-long : length right.cells ≡ 32
  right-long = sym (length-map right.cells held) ∙ y.sets.long

  abbrev joined : List Cell
  joined = (join_snapshots (type_view ty) left right).cells

  abbrev left_at : ℕ → Cell
  left_at k = get_or left.cells k (holds [])

  abbrev right_at : ℕ → Cell
  right_at k = get_or right.cells k (holds [])

  joined_at : (k : ℕ) → k < 32 → get_or joined k (holds []) ≡ join_cell true ((type_view ty).choice k) (left_at k) (right_at k)
  unfolding type_view event_view cell_at
  joined_at k h =
      join-at (type_view ty) left right left-long right-long k h
      ∙ ap (λ (f : Bool). join_cell f ((type_view ty).choice k) (left_at k) (right_at k)) v

  pub places-none : PlacesSofar ty left right (replicate 32 false) (replicate 32 false) e f 0
  places-none = record { filled = only_none; differing = only_none; left-bits = x.bits; right-bits = y.bits }

  module _ (present marked : List Bool) (m n k : ℕ) (h : k < 32) (t : PlacesSofar ty left right present marked m n k) where
    places-marks : m % 2 + n % 2 ≡ differ_bit (left_at k) + differ_bit (right_at k)
    places-marks = ap₂ (λ (c d : ℕ). c + d) (bit-here left.cells k m t.left-bits) (bit-here right.cells k n t.right-bits)

    left-set : SetIs a (held (left_at k)) (set_in ats k)
    left-set = subst (λ (s : List Text). SetIs a s (set_in ats k)) (held_at left.cells k) (x.sets.each k h)

    right-set : SetIs b (held (right_at k)) (set_in bts k)
    right-set = subst (λ (s : List Text). SetIs b s (set_in bts k)) (held_at right.cells k) (y.sets.each k h)

    -- whether it has objects, and whether it is marked
    has-objects :
        (kept fill : Bool) → kept ≡ is_agreed (left_at k) (right_at k) → fill ≡ (kept && ltb 0 (set_in ats k).count) →
        fill ≡ get_or (map is_filled joined) k false
    has-objects kept fill g o =
        o ∙ ap₂ (λ (z : Bool) (c : ℕ). z && ltb 0 c) g left-set.count
        ∙ sym (join-filled ((type_view ty).choice k) (left_at k) (right_at k))
        ∙ ap is_filled (sym (joined_at k h))
        ∙ sym (filled_at joined k)

    is-marked : (kept : Bool) → kept ≡ is_agreed (left_at k) (right_at k) → not kept ≡ get_or (map is_mark joined) k false
    is-marked kept g =
        ap not g
        ∙ sym (join-mark ((type_view ty).choice k) (left_at k) (right_at k))
        ∙ ap is_mark (sym (joined_at k h))
        ∙ sym (mark-at joined k)

    places-more :
        (kept fill : Bool) → kept ≡ is_agreed (left_at k) (right_at k) → fill ≡ (kept && ltb 0 (set_in ats k).count) →
        PlacesSofar ty left right (set present k fill) (set marked k (not kept)) (m / 2) (n / 2) (k + 1)
    places-more kept fill g o = record {
      filled = only-more t.filled h (has-objects kept fill g o);
      differing = only-more t.differing h (is-marked kept g);
      left-bits = bits-next left.cells k m t.left-bits;
      right-bits = bits-next right.cells k n t.right-bits;
    }

  -- the places from `count` on have nothing and no mark, as the bits of the loop have there
  pub places-all :
      {count : ℕ} (p : Places) (m n k : ℕ) → VacantFrom count left.cells → VacantFrom count right.cells → count ≤ k →
      PlacesSofar ty left right p.present p.marked m n k → PlacesAre joined p
  unfolding is_filled is_mark
  places-all p m n k v w h t =
      let long = join-long ty left right left-long right-long in
      let past : VacantFrom _ joined = join-vacant ty left right left-long right-long v w in
      record {
        present =
            only-list (length-map joined is_filled ∙ long) t.filled
            (λ q l i. filled_at joined q ∙ ap is_filled (past.each q (omega arith)));
        marked =
            only-list (length-map joined is_mark ∙ long) t.differing
            (λ q l i. mark-at joined q ∙ ap is_mark (past.each q (omega arith)));
      }

  -- ---- written

  -- their presence and differ numbers
  presence-is : (found : Places) → PlacesAre joined found → bit_number (map bit_of found.present) ≡ bit_number (map presence_bit (map held joined))
  presence-is found are = ap (λ (l : List Bool). bit_number (map bit_of l)) are.present ∙ ap bit_number (filled-bits joined)

  differ-is : (found : Places) → PlacesAre joined found → bit_number (map bit_of found.marked) ≡ bit_number (map differ_bit joined)
  differ-is found are = ap (λ (l : List Bool). bit_number (map bit_of l)) are.marked ∙ ap bit_number (mark-bits joined)

-- a turn: `is_kept` says of the place k whether it is kept, and `has_objects` whether it has objects
module _
    {a b : List ℕ} {e f : ℕ} {ats bts : List ℕ} {ty : EventType} {left right : Snapshot} (v : is_versioned ty ≡ true)
    (x : CellsAre a left.cells e ats) (y : CellsAre b right.cells f bts)
    {present marked : List Bool} {m n k : ℕ} (h : k < 32) (t : PlacesSofar ty left right present marked m n k) where
  pub places-next :
      {s r : SetAt} → s ≡ set_in ats k → r ≡ set_in bts k → {kept fill : Bool} →
      ((c d : Cell) → m % 2 + n % 2 ≡ differ_bit c + differ_bit d → SetIs a (held c) s → SetIs b (held d) r → kept ≡ is_agreed c d) →
      fill ≡ (kept && ltb 0 s.count) → PlacesSofar ty left right (set present k fill) (set marked k (not kept)) (m / 2) (n / 2) (k + 1)
  places-next p q {kept} {fill} agrees filled =
      let marks = places-marks a b e f ats bts ty left right v x y present marked m n k h t in
      let lefts = set-read p (left-set a b e f ats bts ty left right v x y present marked m n k h t) in
      let rights = set-read q (right-set a b e f ats bts ty left right v x y present marked m n k h t) in
      places-more a b e f ats bts ty left right v x y present marked m n k h t kept fill (agrees _ _ marks lefts rights)
      (filled ∙ ap (λ (z : SetAt). kept && ltb 0 z.count) p)

-- Two versioned snapshots of one version, with the presence and the differ number of what they are together
pub record Both
    (version : EventVersion) (a x : List ℕ) (m : ℕ) (b y : List ℕ) (n presence differ : ℕ) (ty : EventType) (left right : Snapshot) : Type 0 where
  pub versioned : is_versioned ty ≡ true
  pub shared : Shared version a x m b y n ty left right
  pub present : presence ≡ bit_number (map presence_bit (map held (join_snapshots (type_view ty) left right).cells))
  pub marked : differ ≡ bit_number (map differ_bit (join_snapshots (type_view ty) left right).cells)

-- `agreed_places` answers `found`, of which these are the two numbers
module _
    {a x : List ℕ} {m : ℕ} {b y : List ℕ} {n count : ℕ} {found : Places} {presence differ : ℕ}
    (says : (ty : EventType) (left right : Snapshot) → is_versioned ty ≡ true → CellsAre a left.cells m x → CellsAre b right.cells n y →
    VacantFrom count left.cells → VacantFrom count right.cells → PlacesAre (join_snapshots (type_view ty) left right).cells found)
    (p : presence ≡ bit_number (map bit_of found.present)) (q : differ ≡ bit_number (map bit_of found.marked)) where
  pub both_found :
      {version : EventVersion} {ty : EventType} {left right : Snapshot} → is_versioned ty ≡ true → count ≡ length ty.properties →
      Shared version a x m b y n ty left right → Both version a x m b y n presence differ ty left right
  both_found {ty = ty} {left = left} {right = right} v e w =
      let fits = w.meet.fitting in
      let are = says ty left right v w.left_is w.right_is (left-vacant fits e) (right-vacant fits e) in
      record {
        versioned = v;
        shared = w;
        present = p ∙ presence-is a b m n x y ty left right v w.left_is w.right_is found are;
        marked = q ∙ differ-is a b m n x y ty left right v w.left_is w.right_is found are;
      }

module _
    {version : EventVersion} {a x : List ℕ} {m : ℕ} {b y : List ℕ} {n presence differ : ℕ} {ty : EventType} {left right : Snapshot}
    (w : Both version a x m b y n presence differ ty left right) where
  abbrev cells : List Cell
  cells = (join_snapshots (type_view ty) left right).cells

  abbrev joined_bytes : List ℕ
  joined_bytes = snapshot_bytes (join_snapshots (type_view ty) left right)

  -- the sets that both have are written from the first
  abbrev pub kept : List ℕ
  kept = present_bytes presence (map held left.cells)

  kept-is : kept ≡ sets_bytes (map held cells)
  unfolding join_snapshots type_view event_view
  kept-is =
      ap (λ (n : ℕ). present_bytes n (map held left.cells)) w.present
      ∙ joins-bytes (type_view ty) w.versioned (places (type_view ty)) left.cells right.cells

  parts : number version.0 ++ number presence ++ number differ ++ kept ≡ joined_bytes
  unfolding snapshot_bytes join_snapshots
  parts =
      ap₂ (λ (v p : ℕ). number v ++ number p ++ number differ ++ kept) w.shared.number w.present
      ∙ ap₂ (λ (n : ℕ) (l : List ℕ). number left.version ++ number (bit_number (map presence_bit (map held cells))) ++ number n ++ l)
      w.marked kept-is

  pub both-parts : {l : List ℕ} (at : ℕ) → at + length joined_bytes ≤ length l → PartsRoom l at version.0 presence differ kept
  both-parts {l} at room = record { room = subst (λ (z : List ℕ). at + length z ≤ length l) (sym parts) room }

  pub wrote-both :
      {l l₁ l₂ l₃ l₄ : List ℕ} {at after-version after-presence after-differ next : ℕ} →
      Wrote l at (number version.0) l₁ after-version → Wrote l₁ after-version (number presence) l₂ after-presence →
      Wrote l₂ after-presence (number differ) l₃ after-differ → Wrote l₃ after-differ kept l₄ next →
      Wrote l at joined_bytes l₄ next
  wrote-both o p q r = wrote_as parts (wrote_then (wrote_then (wrote_then o p) q) r)
