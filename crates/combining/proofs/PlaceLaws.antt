-- The cells of a snapshot of which question 5 is answered yes, place by place. A place that has no property is vacant, and so it is in what two such
-- snapshots are together; so an array of bits that is filled for the places of the properties only has the right bits for all places.
use mathlib.Core.Path.{◌≡◌, refl, sym, ap, ap₂, ◌∙◌, subst}
use mathlib.Core.Logic.{⊎_elim}
use mathlib.Core.Bool.{Bool, true, false, cond, ◌&&◌}
use mathlib.Core.Option.{Option, none, some}
use mathlib.Core.List.{List, [], ◌∷◌, map}
use Prim.Native.Nat.{ℕ, zero, suc, ◌+◌, ◌≤◌, ◌<◌}
use native.Mathlib.Omega.{arith}
use lib.Dec.{leb, eqb}
use lib.ListN.{length, get_or, get_elem?, set, replicate, get_or-replicate, length-map, get_or-eq_default}
use lib.Seq.{get_or-set_other}
use borrow.Author.Tests.{eqb-true}
use Rattle.model.specs.Order.{sets}
use Rattle.model.specs.Keyed.{merge}
use Rattle.model.specs.Sets.{union, up_to}
use Rattle.model.specs.Rule.{Choice, every, least, Cell, holds, differs, join_cell, places, Snapshot, join_snapshots}
use Rattle.model.specs.Limits.{Limits}
use Rattle.model.specs.Opening.{held, is_mark, cell_at}
use Rattle.model.proofs.Cases.{never, and_parts}
use Rattle.model.proofs.OrderLaws.{equal-true}
use Rattle.model.proofs.PartLaws.{map_same, map-get_d, in-up_to, length-up_to}
use Rattle.model.proofs.StepLaws.{join-map, join-at}
use Rattle.packed.proofs.LayoutLaws.{lt-or-ge}
use Rattle.ontology.specs.Table.{Property, EventType, is_versioned}
use Rattle.ontology.proofs.RunLaws.{no-element}
use Rattle.event.specs.Event.{type_view, event_view}
use Rattle.event.specs.EventQuestions.{match_count}
use Rattle.event.proofs.BitLaws.{FilledTo, filled_none, filled_more}
use Rattle.dossier.specs.DossierQuestions.{each_cell, is_vacant}
use Rattle.dossier.specs.code.DossierIndex.{cell_fits, version_fits, snapshot_fits}
use Rattle.combining.specs.code.CombineIndex.{VacantFrom, Fitting}

-- what is asked of the cell of a place, which has no property where there is none
unfoldable pub place_fits : Bool → Option Property → Cell → Bool
place_fits versioned none c = is_vacant c
place_fits versioned (some p) c = cell_fits versioned p c

fits-at :
    (f : Bool) (ps : List Property) (cs : List Cell) → each_cell (cell_fits f) is_vacant ps cs ≡ true → (p : ℕ) →
    place_fits f (get_elem? ps p) (get_or cs p (holds [])) ≡ true
unfolding each_cell place_fits is_vacant is_mark held
fits-at f [] [] h p = refl
fits-at f [] (c ∷ cs) h zero = (and_parts (is_vacant c) _ h).0
fits-at f [] (c ∷ cs) h (suc p) = fits-at f [] cs (and_parts (is_vacant c) _ h).1 p
fits-at f (q ∷ ps) [] h zero = (and_parts (cell_fits f q (holds [])) _ h).0
fits-at f (q ∷ ps) [] h (suc p) = fits-at f ps [] (and_parts (cell_fits f q (holds [])) _ h).1 p
fits-at f (q ∷ ps) (c ∷ cs) h zero = (and_parts (cell_fits f q c) _ h).0
fits-at f (q ∷ ps) (c ∷ cs) h (suc p) = fits-at f ps cs (and_parts (cell_fits f q c) _ h).1 p

module _ (limits : Limits) (ty : EventType) (x : Snapshot) (f : snapshot_fits limits ty x ≡ true) where
  fits-parts : (each_cell (cell_fits (is_versioned ty)) is_vacant ty.properties x.cells ≡ true) × (version_fits limits ty x ≡ true)
  unfolding snapshot_fits
  fits-parts =
      let cells = each_cell (cell_fits (is_versioned ty)) is_vacant ty.properties x.cells in
      let (a, b) = and_parts (cells && leb (match_count ty.properties (map held x.cells)) 32) (version_fits limits ty x) f in
      ((and_parts cells _ a).0, b)

  -- an unversioned one has version 0
  pub version-none : is_versioned ty ≡ false → x.version ≡ 0
  unfolding version_fits
  version-none u = eqb-true x.version 0 (and_parts (eqb x.version 0) _ (rw u at fits-parts.1)).0

  pub place-fits : (p : ℕ) → place_fits (is_versioned ty) (get_elem? ty.properties p) (get_or x.cells p (holds [])) ≡ true
  place-fits = fits-at (is_versioned ty) ty.properties x.cells fits-parts.0

-- ---- the places that have no property

vacant-cell : (c : Cell) → is_vacant c ≡ true → c ≡ holds []
unfolding is_vacant is_mark held
vacant-cell (holds []) h = refl
vacant-cell (holds (v ∷ vs)) h = absurd (omega (arith, eqb-true (suc (length vs)) 0 h))
vacant-cell differs h = never (cc)

fits-vacant :
    (limits : Limits) (ty : EventType) (x : Snapshot) → snapshot_fits limits ty x ≡ true → {count : ℕ} → count ≡ length ty.properties →
    VacantFrom count x.cells
unfolding place_fits
fits-vacant limits ty x f e = record {
  each = λ p h.
      let c = get_or x.cells p (holds []) in
      let none_here = no-element ty.properties p (omega (arith, e)) in
      vacant-cell c (subst (λ (o : Option Property). place_fits (is_versioned ty) o c ≡ true) none_here (place-fits limits ty x f p));
}

module _ {ty : EventType} {x y : Snapshot} (f : Fitting ty x y) {count : ℕ} (e : count ≡ length ty.properties) where
  pub left-vacant : VacantFrom count x.cells
  left-vacant = fits-vacant f.limits ty x f.left-fits e

  pub right-vacant : VacantFrom count y.cells
  right-vacant = fits-vacant f.limits ty y f.right-fits e

-- two vacant cells together are vacant
vacant-joined : (v : Bool) (ch : Choice) → join_cell v ch (holds []) (holds []) ≡ holds []
unfolding join_cell union merge
vacant-joined true ch = ap (λ (b : Bool). cond b (holds []) differs) ((equal-true sets [] []).1 refl)
vacant-joined false every = refl
vacant-joined false (least O) = refl

module _ (ty : EventType) (x y : Snapshot) (l : length x.cells ≡ 32) (r : length y.cells ≡ 32) where
  pub join-long : length (join_snapshots (type_view ty) x y).cells ≡ 32
  unfolding type_view event_view places
  join-long = ap length (join-map (type_view ty) x y l r) ∙ simp (length-map, length-up_to)

  pub join-vacant : {count : ℕ} → VacantFrom count x.cells → VacantFrom count y.cells → VacantFrom count (join_snapshots (type_view ty) x y).cells
  unfolding type_view event_view cell_at
  join-vacant v w = record {
    each = λ p h. ⊎_elim
        (λ (k : p < 32).
        join-at (type_view ty) x y l r p k
        ∙ ap₂ (join_cell (type_view ty).versioned ((type_view ty).choice p)) (v.each p h) (w.each p h)
        ∙ vacant-joined (type_view ty).versioned ((type_view ty).choice p))
        (λ (k : 32 ≤ p). get_or-eq_default (join_snapshots (type_view ty) x y).cells (holds []) (omega (arith, join-long)))
        (lt-or-ge p 32);
  }

-- ---- an array of bits that is filled up to a place

-- the first k are as f says, and the others are still false
pub record FilledOnly (f : ℕ → Bool) (bits : List Bool) (k : ℕ) : Type 0 where
  pub filled : FilledTo f bits k
  pub clear : (p : ℕ) → k ≤ p → p < 32 → get_or bits p false ≡ false

pub only_none : {f : ℕ → Bool} → FilledOnly f (replicate 32 false) 0
only_none = record { filled = filled_none refl; clear = λ p l h. get_or-replicate 32 p false false h }

module _ {f : ℕ → Bool} {bits : List Bool} {k : ℕ} (w : FilledOnly f bits k) where
  pub only-more : {b : Bool} → k < 32 → b ≡ f k → FilledOnly f (set bits k b) (k + 1)
  only-more {b} h e = record {
    filled = filled_more w.filled h e;
    clear = λ p l m.
        let other : p ≡ k → ⊥ = λ q. omega arith in
        get_or-set_other bits k p b false other ∙ w.clear p (omega arith) m;
  }

  -- where f is false of the others, all 32 are as f says
  pub only-all : ((p : ℕ) → k ≤ p → p < 32 → f p ≡ false) → (p : ℕ) → p < 32 → get_or bits p false ≡ f p
  only-all n p h = ⊎_elim (λ (l : p < k). w.filled.each p l) (λ (l : k ≤ p). w.clear p l h ∙ sym (n p l h)) (lt-or-ge p k)

pub only-list :
    {bits l : List Bool} {k : ℕ} → length l ≡ 32 → FilledOnly (λ p. get_or l p false) bits k →
    ((p : ℕ) → k ≤ p → p < 32 → get_or l p false ≡ false) → bits ≡ l
only-list {bits} {l} long w n =
    sym (map-get_d bits false 32 w.filled.long)
    ∙ map_same (λ p. get_or bits p false) (λ p. get_or l p false) (up_to 32) (λ p m. only-all w n p ((in-up_to 32 p).1 m))
    ∙ map-get_d l false 32 long
