-- The laws of the objects that two unversioned snapshots have together, place by place.
use mathlib.Core.Path.{◌≡◌, refl, sym, ap, ap₂, ◌∙◌, subst}
use mathlib.Core.Bool.{Bool, true, false, not, ◌&&◌, ◌||◌}
use mathlib.Core.Option.{Option, none, some}
use mathlib.Core.List.{List, [], ◌∷◌, map}
use Prim.Native.Nat.{ℕ, zero, suc, ◌+◌, ◌-◌, ◌≤◌, ◌<◌}
use native.Mathlib.Omega.{arith}
use native.Mathlib.Numerals.{add-one}
use lib.Dec.{leb}
use lib.ListN.{length, take, drop, get_or, get_elem?, length-take}
use lib.Seq.{drop-cons}
use borrow.Author.Tests.{le-leb, lt-leb, leb-true}
use Rattle.model.specs.Order.{Order, Text, texts, sets, equal, rising}
use Rattle.model.proofs.Cases.{three, truth, never, and_parts}
use Rattle.model.specs.Keyed.{put, merge}
use Rattle.model.specs.Sets.{itself, first, union}
use Rattle.model.specs.Rule.{Cell, holds, differs, Choice, every, least, TypeView, places, Snapshot, join_cell, join_cells, join_snapshots, size, sizes}
use Rattle.model.specs.Limits.{Limits}
use Rattle.model.specs.Opening.{cell_at, is_mark, held}
use Rattle.model.proofs.StepLaws.{join-at}
use Rattle.model.proofs.SizeLaws.{held-size}
use Rattle.ontology.specs.Table.{Property, EventType, is_min, is_max, is_versioned, at_place}
use Rattle.ontology.specs.code.TypeIndex.{property_in, has_extreme, PropertiesAre}
use Rattle.ontology.specs.declared.properties.PropertyAt.{PropertyAt}
use Rattle.ontology.proofs.TypeIndexLaws.{extreme-of}
use Rattle.ontology.proofs.RunLaws.{no-element}
use Rattle.event.specs.Event.{choice_of, type_view, event_view}
use Rattle.event.specs.code.EventIndex.{SetIs, SetsAre, set_in}
use Rattle.event.specs.declared.sets.SetAt.{SetAt}
use Rattle.event.specs.EventQuestions.{is_empty}
use Rattle.event.proofs.SetLaws.{set-read}
use Rattle.event.proofs.EventLayoutLaws.{SetWritten}
use Rattle.event.proofs.EventQuestionLaws.{all-at, empty-written, choice-every, choice-least}
use Rattle.event.proofs.MatchLaws.{elem}
use Rattle.dossier.specs.DossierQuestions.{is_vacant, is_present, is_lone, is_lone_if_extreme, is_unmarked_match}
use Rattle.dossier.specs.code.DossierIndex.{cell_fits, snapshot_fits}
use Rattle.dossier.proofs.CellLaws.{held_at, leb-sub}
use Rattle.dossier.proofs.DossierBodyLaws.{SnapshotWritten, snapshot-cells, snapshot-was}
use Rattle.combining.specs.code.CombineIndex.{is_extreme_at, Meet, JoinedRoom}
use Rattle.combining.proofs.PlaceLaws.{place_fits, place-fits, left-vacant, right-vacant, join-long, join-vacant}

-- ---- strategy min or max

module _ (u : List ℕ) (ty : EventType) (count : ℕ) (ps : List ℕ) (k : ℕ) (w : PropertiesAre u ty.properties count ps) where
  pub extreme-past : count ≤ k → false ≡ is_extreme_at ty k
  unfolding is_extreme_at at_place
  extreme-past h = sym (ap (at_place false (λ (q : Property). is_min q || is_max q)) (no-element ty.properties k (omega (arith, w.count))))

  module _ {p : PropertyAt} (same : p ≡ property_in ps k) (h : k < count) where
    pub extreme-here : is_extreme_at ty k ≡ has_extreme p
    unfolding is_extreme_at at_place
    extreme-here =
        let e = elem ty.properties k (omega (arith, w.count)) in
        ap (at_place false (λ (q : Property). is_min q || is_max q)) e.is ∙ sym (ap has_extreme same ∙ extreme-of (w.each k e.what e.is))

-- ---- which values such a place keeps

pub record KeepsLeast (c : Choice) : Type 0 where
  pub order : Order Text
  pub is : c ≡ least order

module _ (ty : EventType) (k : ℕ) where
  pub keeps-least : is_extreme_at ty k ≡ true → KeepsLeast ((type_view ty).choice k)
  unfolding is_extreme_at at_place type_view event_view
  keeps-least h = go (get_elem? ty.properties k) h
    where
      go : (m : Option Property) → at_place false (λ (q : Property). is_min q || is_max q) m ≡ true → KeepsLeast (at_place every choice_of m)
      go none h = never (cc)
      go (some q) h = record { order = _; is = choice-least q h }

  pub keeps-every : is_extreme_at ty k ≡ false → (type_view ty).choice k ≡ every
  unfolding is_extreme_at at_place type_view event_view
  keeps-every h = go (get_elem? ty.properties k) h
    where
      go : (m : Option Property) → at_place false (λ (q : Property). is_min q || is_max q) m ≡ false → at_place every choice_of m ≡ every
      go none h = refl
      go (some q) h = choice-every q h

-- ---- how many values a place has

module _ (O : Order Text) where
  put_some : (x : Text) (zs : List Text) → length (take 1 (put O itself first x zs)) ≡ 1
  unfolding put
  put_some x [] = refl
  put_some x (z ∷ zs) = three (O.cmp x z) (λ l. rw l) (λ e. rw e) (λ g. rw g)

  put-few : (x : Text) (zs : List Text) → length (put O itself first x zs) ≤ 1 + length zs
  unfolding put
  put-few x [] = omega arith
  put-few x (z ∷ zs) = three (O.cmp x z) (λ l. rw l (omega arith)) (λ e. rw e (omega arith)) (λ g. rw g (omega (arith, put-few x zs)))

  -- a union has no more values than both sets
  pub union-few : (xs ys : List Text) → length (union O xs ys) ≤ length xs + length ys
  unfolding union merge
  union-few [] ys = omega arith
  union-few (x ∷ xs) ys = omega (arith, put-few x (merge O itself first xs ys), union-few xs ys)

  union-some : (xs ys : List Text) → (length xs ≡ 0 → ⊥) → length (take 1 (union O xs ys)) ≡ 1
  unfolding union merge
  union-some [] ys h = absurd (h refl)
  union-some (x ∷ xs) ys h = put_some x (merge O itself first xs ys)

  union-none : (xs ys : List Text) → length xs ≡ 0 → length ys ≤ 1 → length (take 1 (union O xs ys)) ≡ length ys
  unfolding union merge
  union-none [] [] h l = refl
  union-none [] (y ∷ []) h l = refl
  union-none [] (y ∷ z ∷ ys) h l = absurd (omega arith)
  union-none (x ∷ xs) ys h l = absurd (omega arith)

module _ (ty : EventType) (k : ℕ) (xs ys : List Text) where
  abbrev together : ℕ
  together = length (held (join_cell false ((type_view ty).choice k) (holds xs) (holds ys)))

  count-every : is_extreme_at ty k ≡ false → length (union texts xs ys) ≡ together
  unfolding join_cell held
  count-every h = sym (ap (λ (c : Choice). length (held (join_cell false c (holds xs) (holds ys)))) (keeps-every ty k h))

  module _ (h : is_extreme_at ty k ≡ true) where
    count-least : together ≡ length (take 1 (union (keeps-least ty k h).order xs ys))
    unfolding join_cell held
    count-least = ap (λ (c : Choice). length (held (join_cell false c (holds xs) (holds ys)))) (keeps-least ty k h).is

    count-right : (n : ℕ) → length xs ≡ 0 → n ≡ length ys → length ys ≤ 1 → n ≡ together
    count-right n e f l = f ∙ sym (count-least ∙ union-none (keeps-least ty k h).order xs ys e l)

    count-one : (length xs ≡ 0 → ⊥) → 1 ≡ together
    count-one e = sym (count-least ∙ union-some (keeps-least ty k h).order xs ys e)

-- `is_extreme_at` answers r of the place k
module _
    (ty : EventType) (k : ℕ) (xs ys : List Text) {u : List ℕ} {count : ℕ} {ps : List ℕ} {r : Bool}
    (says : (z : List ℕ) (tz : EventType) → PropertiesAre z tz.properties count ps → r ≡ is_extreme_at tz k)
    (w : PropertiesAre u ty.properties count ps) where
  pub place-every : r ≡ false → length (union texts xs ys) ≡ together ty k xs ys
  place-every e = count-every ty k xs ys (sym (says u ty w) ∙ e)

  pub place-right :
      r ≡ true → {n : ℕ} → length xs ≡ 0 → n ≡ length ys → (is_extreme_at ty k ≡ true → (length xs ≤ 1) × (length ys ≤ 1)) →
      n ≡ together ty k xs ys
  place-right e {n} empty f few = let h = sym (says u ty w) ∙ e in count-right ty k xs ys h n empty f (few h).1

  pub place-one : r ≡ true → (length xs ≡ 0 → ⊥) → 1 ≡ together ty k xs ys
  place-one e = count-one ty k xs ys (sym (says u ty w) ∙ e)

-- ---- two snapshots have no more objects when they are joined than both have

cell-few : (b : Bool) (c : Choice) (d e : Cell) → size (join_cell b c d e) ≤ size d + size e
unfolding size join_cell
cell-few b c differs e = omega arith
cell-few b c (holds s) differs = omega arith
cell-few true c (holds s) (holds t) = truth (equal sets s t) (λ y. rw y (omega arith)) (λ n. rw n (omega arith))
cell-few false every (holds s) (holds t) = union-few texts s t
cell-few false (least O) (holds s) (holds t) = omega (arith, length-take 1 (union O s t), union-few O s t)

cells-few : (t : TypeView) (ps : List ℕ) (cs ds : List Cell) → sizes (join_cells t ps cs ds) ≤ sizes cs + sizes ds
unfolding sizes join_cells
cells-few t [] cs ds = omega arith
cells-few t (p ∷ ps) [] ds = omega arith
cells-few t (p ∷ ps) (c ∷ cs) [] = omega arith
cells-few t (p ∷ ps) (c ∷ cs) (d ∷ ds) = omega (arith, cell-few t.versioned (t.choice p) c d, cells-few t ps cs ds)

pub objects-few : (t : TypeView) (x y : Snapshot) (m n most : ℕ) → m ≡ sizes x.cells → n ≡ sizes y.cells → m + n ≤ most →
    true ≡ leb (sizes (join_snapshots t x y).cells) most
unfolding join_snapshots
objects-few t x y m n most p q h =
    sym (le-leb (sizes (join_cells t (places t) x.cells y.cells)) most (omega (arith, cells-few t (places t) x.cells y.cells)))

-- ---- the cells of an unversioned snapshot of which question 5 is answered yes

-- a cell at a place: it is not marked, and where its strategy is min or max it has one value at most
pub record PlainCell (ty : EventType) (k : ℕ) (c : Cell) : Type 0 where
  pub holds-it : c ≡ holds (held c)
  pub lone : is_extreme_at ty k ≡ true → length (held c) ≤ 1
  pub rises : rising texts (held c) ≡ true

not-marked : (c : Cell) → not (is_mark c) ≡ true → c ≡ holds (held c)
unfolding is_mark held
not-marked (holds s) h = refl
not-marked differs h = never (cc)

-- what the tests of a place say of its cell
abbrev PlaceSays : Option Property → Cell → Type 0
PlaceSays m c = (not (is_mark c) ≡ true) × (at_place false (λ (q : Property). is_min q || is_max q) m ≡ true → length (held c) ≤ 1)

lone-so : (a : Bool) (n : ℕ) → (not a || leb n 1) ≡ true → a ≡ true → n ≤ 1
lone-so true n h e = leb-true n 1 h
lone-so false n h e = never (cc)

place-says : (m : Option Property) (c : Cell) → place_fits false m c ≡ true → PlaceSays m c
unfolding place_fits is_vacant cell_fits is_lone_if_extreme is_lone at_place
place-says none c h = ((and_parts (not (is_mark c)) (is_empty (held c)) h).0, λ e. never (cc))
place-says (some q) c h =
    let a = (and_parts (is_present q c && (not (is_mark c) && is_lone_if_extreme q c)) (is_unmarked_match q c) h).0 in
    let b = (and_parts (is_present q c) (not (is_mark c) && is_lone_if_extreme q c) a).1 in
    let d = and_parts (not (is_mark c)) (is_lone_if_extreme q c) b in
    (d.0, lone-so (is_min q || is_max q) (length (held c)) d.1)

module _
    (limits : Limits) (ty : EventType) (x : Snapshot) (w : SnapshotWritten x) (un : is_versioned ty ≡ false) (fits : snapshot_fits limits ty x ≡ true)
    (k : ℕ) where
  abbrev cell : Cell
  cell = get_or x.cells k (holds [])

  fits-here : place_fits false (get_elem? ty.properties k) cell ≡ true
  fits-here = subst (λ (f : Bool). place_fits f (get_elem? ty.properties k) cell ≡ true) un (place-fits limits ty x fits k)

  pub plain_cell : PlainCell ty k cell
  unfolding is_extreme_at
  plain_cell =
      let a = place-says (get_elem? ty.properties k) cell fits-here in
      record {
        holds-it = not-marked cell a.0;
        lone = a.1;
        rises =
            subst (λ (vs : List Text). rising texts vs ≡ true) (held_at x.cells k)
            (all-at SetWritten [] empty-written (map held x.cells) w.sets.each k).rises;
      }

-- ---- the objects of all places

-- cells that are vacant from a place on have none from there on
no-sizes : (cs : List Cell) (k : ℕ) → ((p : ℕ) → k ≤ p → get_or cs p (holds []) ≡ holds []) → sizes (drop k cs) ≡ 0
unfolding sizes size
no-sizes [] zero h = refl
no-sizes [] (suc k) h = refl
no-sizes (c ∷ cs) zero h = ap₂ (λ (d : Cell) (n : ℕ). size d + n) (h 0 (omega arith)) (no-sizes cs 0 (λ p l. h (suc p) (omega arith)))
no-sizes (c ∷ cs) (suc k) h = no-sizes cs k (λ p l. h (suc p) (omega arith))

-- ---- two unversioned snapshots that are joined

-- their sets stand in a and b where the numbers i and j say
pub record Joins (table a b : List ℕ) (count : ℕ) (ps i j : List ℕ) (ty : EventType) (x y : Snapshot) : Type 0 where
  pub typed : PropertiesAre table ty.properties count ps
  pub unversioned : is_versioned ty ≡ false
  pub meet : Meet ty x y
  pub left : SetsAre a (map held x.cells) i
  pub right : SetsAre b (map held y.cells) j

pub joins : {table a b : List ℕ} {count : ℕ} {ps i j : List ℕ} {ty : EventType} {x y : Snapshot} →
    PropertiesAre table ty.properties count ps → is_versioned ty ≡ false → Meet ty x y →
    SetsAre a (map held x.cells) i → SetsAre b (map held y.cells) j → Joins table a b count ps i j ty x y
joins w u m l r = record { typed = w; unversioned = u; meet = m; left = l; right = r }

-- those that a room is asked for
abbrev pub room-joins :
    {a x b y : List ℕ} {count : ℕ} {ps : List ℕ} {at size : ℕ} (q : JoinedRoom a x b y count ps at size) →
    Joins q.table a b count ps x y q.type q.left q.right
room-joins q = record { typed = q.typed; unversioned = q.unversioned; meet = q.meet; left = q.left_is; right = q.right_is }

module _ {table a b : List ℕ} {count : ℕ} {ps i j : List ℕ} {ty : EventType} {x y : Snapshot} (h : Joins table a b count ps i j ty x y) where
  left-written : SnapshotWritten x
  left-written = (snapshot-was h.meet.left-bytes x h.meet.left-rest h.meet.left-read).1

  right-written : SnapshotWritten y
  right-written = (snapshot-was h.meet.right-bytes y h.meet.right-rest h.meet.right-read).1

  pub left-cell : (k : ℕ) → PlainCell ty k (get_or x.cells k (holds []))
  left-cell = plain_cell h.meet.fitting.limits ty x left-written h.unversioned h.meet.fitting.left-fits

  pub right-cell : (k : ℕ) → PlainCell ty k (get_or y.cells k (holds []))
  right-cell = plain_cell h.meet.fitting.limits ty y right-written h.unversioned h.meet.fitting.right-fits

  abbrev joined : List Cell
  joined = (join_snapshots (type_view ty) x y).cells

  joined-long : length joined ≡ 32
  joined-long = join-long ty x y (snapshot-cells x left-written) (snapshot-cells y right-written)

  -- no place past the type's properties has any
  pub counted-all : (k room : ℕ) → count ≤ k → true ≡ leb (sizes (drop k joined)) room
  counted-all k room l =
      let v = left-vacant h.meet.fitting h.typed.count in
      let w = right-vacant h.meet.fitting h.typed.count in
      let past = join-vacant ty x y (snapshot-cells x left-written) (snapshot-cells y right-written) v w in
      sym (le-leb (sizes (drop k joined)) room (omega (arith, no-sizes joined k (λ p q. past.each p (omega arith)))))

  module _ (k room : ℕ) (low : k < 32) where
    abbrev left_cell : Cell
    left_cell = get_or x.cells k (holds [])

    abbrev right_cell : Cell
    right_cell = get_or y.cells k (holds [])

    -- the cell that the two have together
    abbrev together_at : Cell
    together_at = join_cell false ((type_view ty).choice k) (holds (held left_cell)) (holds (held right_cell))

    joined_at : get_or joined k (holds []) ≡ together_at
    unfolding cell_at
    joined_at =
        wide ∙ ap (λ (v : Bool). join_cell v ((type_view ty).choice k) left_cell right_cell) h.unversioned
        ∙ ap₂ (join_cell false ((type_view ty).choice k)) (left-cell k).holds-it (right-cell k).holds-it
      where
        wide : get_or joined k (holds []) ≡ join_cell (is_versioned ty) ((type_view ty).choice k) left_cell right_cell
        wide = unfold type_view event_view in join-at (type_view ty) x y (snapshot-cells x left-written) (snapshot-cells y right-written) k low

    -- `count_place` answers n of the place
    module _
        {v w : SetAt} (left_at : v ≡ set_in i k) (right-at : w ≡ set_in j k) {n : ℕ}
        (says : (u : List ℕ) (tz : EventType) (xs ys : List Text) → PropertiesAre u tz.properties count ps → SetIs a xs v → SetIs b ys w →
        rising texts xs ≡ true → rising texts ys ≡ true → (is_extreme_at tz k ≡ true → (length xs ≤ 1) × (length ys ≤ 1)) →
        n ≡ length (held (join_cell false ((type_view tz).choice k) (holds xs) (holds ys)))) where
      counted-here : n ≡ length (held together_at)
      counted-here =
          let lefts = subst (λ (vs : List Text). SetIs a vs (set_in i k)) (held_at x.cells k) (h.left.each k low) in
          let rights = subst (λ (vs : List Text). SetIs b vs (set_in j k)) (held_at y.cells k) (h.right.each k low) in
          says table ty _ _ h.typed (set-read left_at lefts) (set-read right-at rights) (left-cell k).rises (right-cell k).rises
          (λ e. ((left-cell k).lone e, (right-cell k).lone e))

      objects-step : sizes (drop k joined) ≡ n + sizes (drop (k + 1) joined)
      unfolding sizes
      objects-step =
          let here : length (held (get_or joined k (holds []))) ≡ n = ap (λ (c : Cell). length (held c)) joined_at ∙ sym counted-here in
          ap sizes (drop-cons joined k (holds []) (omega (arith, joined-long)))
          ∙ ap₂ (λ (p q : ℕ). p + sizes (drop q joined)) (sym (held-size (get_or joined k (holds []))) ∙ here) (sym (add-one k))

      pub counted-over : room < n → leb (sizes (drop k joined)) room ≡ false
      counted-over l = lt-leb (sizes (drop k joined)) room (omega (arith, objects-step))

      pub counted_next : n ≤ room → leb (sizes (drop k joined)) room ≡ leb (sizes (drop (k + 1) joined)) (room - n)
      counted_next l = ap (λ (q : ℕ). leb q room) objects-step ∙ leb-sub n (sizes (drop (k + 1) joined)) room l
