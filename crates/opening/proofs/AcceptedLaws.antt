-- What the questions of a dossier say of its snapshots: a cell without a property is empty, and each cell of min or max has at most one value, in its
-- space; at the marked place each has its version, and the largest is the last one's; so its sets can be merged.
use mathlib.Core.Path.{◌≡◌, refl, sym, ap, ◌∙◌, subst}
use mathlib.Core.Bool.{Bool, true, false, cond, not, ◌&&◌, ◌||◌}
use mathlib.Core.Option.{none, some}
use mathlib.Core.List.{List, [], ◌∷◌, map, flatten}
use Prim.Native.Nat.{ℕ, zero, suc, ◌+◌, ◌-◌, ◌^◌, ◌≤◌, ◌<◌}
use native.Mathlib.Omega.{arith}
use lib.Dec.{leb, eqb}
use lib.ListN.{length, get_or, get_elem?}
use borrow.Author.Tests.{leb-true, eqb-true, lt-ltb}
use Rattle.model.specs.Rule.{Cell, holds, Snapshot}
use Rattle.model.specs.Order.{numbers}
use Rattle.model.specs.Sets.{Ups, smallest}
use Rattle.model.specs.Opening.{held, is_mark, cell_at, column, merged_at}
use Rattle.model.proofs.Cases.{never, and_parts, or-part, where-so}
use Rattle.model.proofs.SetLaws.{rising-ups}
use Rattle.packed.proofs.LayoutLaws.{All}
use Rattle.ontology.specs.Table.{Property, is_min, is_max, is_versioned}
use Rattle.ontology.specs.declared.types.TypeIndex.{TypeIndex}
use Rattle.ontology.proofs.TableLaws.{Mark, extreme-single, extreme-ordered}
use Rattle.ontology.proofs.TypeIndexLaws.{type-rules}
use Rattle.values.specs.Spaces.{Kind}
use Rattle.values.specs.ValueOrder.{extreme_order}
use Rattle.event.specs.Event.{type_view}
use Rattle.event.specs.EventQuestions.{are_in_space, match_count, values_fit}
use Rattle.event.proofs.EventQuestionLaws.{each-place-at, no_value}
use Rattle.dossier.specs.DossierQuestions.{each_cell, is_vacant, is_present, is_lone, is_lone_if_single, is_lone_if_extreme, is_unmarked_match, snapshot_values}
use Rattle.dossier.specs.code.DossierIndex.{no_snapshot, cell_fits, snapshot_fits, version_fits}
use Rattle.dossier.specs.declared.dossiers.DossierIndex.{DossierIndex}
use Rattle.dossier.proofs.CellLaws.{held_at}
use Rattle.dossier.proofs.DossierBodyLaws.{SnapshotWritten}
use Rattle.dossier.proofs.AcceptedLaws.{DossierTaken, dossier-taken, taken-kept, taken-fits, taken-values, taken-written}
use Rattle.dossier.specs.DossierLayout.{model_of}
use Rattle.opening.specs.code.OpenIndex.{Lone, Mergeable, Openable}
use Rattle.opening.proofs.StandLaws.{column-at, cells-stand}
use Rattle.opening.proofs.MergeLaws.{merged-largest}
use Rattle.opening.proofs.MarkLaws.{last-largest, fits-own, marked-max}

-- ---- place by place

cell-at :
    (f : Property → Cell → Bool) (g : Cell → Bool) (ps : List Property) (cs : List Cell) → each_cell f g ps cs ≡ true → (p : ℕ) (q : Property) →
    get_elem? ps p ≡ some q → f q (get_or cs p (holds [])) ≡ true
unfolding each_cell
cell-at f g [] cs h p q e = never (cc)
cell-at f g (x ∷ ps) [] h zero q e = let k : x ≡ q = cc in rw (← k) (and_parts (f x (holds [])) (each_cell f g ps []) h).0
cell-at f g (x ∷ ps) [] h (suc p) q e = cell-at f g ps [] (and_parts (f x (holds [])) (each_cell f g ps []) h).1 p q e
cell-at f g (x ∷ ps) (c ∷ cs) h zero q e = let k : x ≡ q = cc in rw (← k) (and_parts (f x c) (each_cell f g ps cs) h).0
cell-at f g (x ∷ ps) (c ∷ cs) h (suc p) q e = cell-at f g ps cs (and_parts (f x c) (each_cell f g ps cs) h).1 p q e

-- a cell where there is no property
vacant-at :
    (f : Property → Cell → Bool) (g : Cell → Bool) (ps : List Property) (cs : List Cell) → each_cell f g ps cs ≡ true → g (holds []) ≡ true →
    (p : ℕ) → get_elem? ps p ≡ none → g (get_or cs p (holds [])) ≡ true
unfolding each_cell
vacant-at f g [] [] h n p e = n
vacant-at f g [] (c ∷ cs) h n zero e = (and_parts (g c) (each_cell f g [] cs) h).0
vacant-at f g [] (c ∷ cs) h n (suc p) e = vacant-at f g [] cs (and_parts (g c) (each_cell f g [] cs) h).1 n p e
vacant-at f g (x ∷ ps) cs h n zero e = never (cc)
vacant-at f g (x ∷ ps) [] h n (suc p) e = n
vacant-at f g (x ∷ ps) (c ∷ cs) h n (suc p) e = vacant-at f g ps cs (and_parts (f x c) (each_cell f g ps cs) h).1 n p e

vacant-held : (c : Cell) → is_vacant c ≡ true → held c ≡ []
unfolding is_vacant
vacant-held c h = no_value (held c) (eqb-true (length (held c)) 0 (and_parts (not (is_mark c)) (eqb (length (held c)) 0) h).1)

column-none :
    (ss : List Snapshot) (p : ℕ) → ((j : ℕ) → j < length ss → held (cell_at (get_or ss j no_snapshot) p) ≡ []) → flatten (column ss p) ≡ []
unfolding column flatten
column-none [] p h = refl
column-none (s ∷ ss) p h = rw (h 0 (omega arith)) (column-none ss p (λ j l. h (suc j) (omega arith)))

-- ---- min and max

lone-cell :
    (v : Bool) (q : Property) (c : Cell) → cell_fits v q c ≡ true → q.multivalued ≡ false → (is_min q || is_max q) ≡ true → length (held c) ≤ 1
unfolding cell_fits is_lone_if_single is_lone_if_extreme is_lone
lone-cell v q c h m e =
    leb-true (length (held c)) 1 (go v (and_parts (is_present q c) _ (and_parts (is_present q c && _) (is_unmarked_match q c) h).0).1)
  where
    go :
        (v : Bool) →
        cond v (q.multivalued || leb (length (held c)) 1) (not (is_mark c) && (not (is_min q || is_max q) || leb (length (held c)) 1)) ≡ true →
        leb (length (held c)) 1 ≡ true
    go true k = or-part q.multivalued (leb (length (held c)) 1) k m
    go false k = where-so (is_min q || is_max q) (leb (length (held c)) 1) (and_parts (not (is_mark c)) _ k).1 e

-- ---- versions

versions-low : (ss : List Snapshot) → All SnapshotWritten ss → All (λ (v : ℕ). v < 10 ^ 20) (map (λ (x : Snapshot). x.version) ss)
versions-low [] h = tt
versions-low (x ∷ ss) h = (omega (arith, h.0.version), versions-low ss h.1)

-- ---- a dossier that is opened

module _ (s : List ℕ) (d : DossierIndex) (rows : List ℕ) (t : TypeIndex) (ps : List ℕ) (o : Openable s d rows t ps) where
  abbrev snapshots : List Snapshot
  snapshots = o.headed.snapshots

  pub taken : DossierTaken o.limits o.types s (record { type = o.type; headed = o.headed })
  taken = dossier-taken o.limits o.types s (record { type = o.type; headed = o.headed }) o.asked

  versions-fit : (j : ℕ) → j < length snapshots → version_fits o.limits o.type (get_or snapshots j no_snapshot) ≡ true
  unfolding snapshot_fits
  versions-fit j l =
      let t = o.type in
      let z = get_or snapshots j no_snapshot in
      let each = each_cell (cell_fits (is_versioned t)) is_vacant t.properties z.cells in
      (and_parts (each && leb (match_count t.properties (map held z.cells)) 32) (version_fits o.limits t z) (taken-fits taken j l)).1

  fits-at :
      (j : ℕ) → j < length snapshots →
      each_cell (cell_fits (is_versioned o.type)) is_vacant o.type.properties (get_or snapshots j no_snapshot).cells ≡ true
  unfolding snapshot_fits
  fits-at j l =
      let t = o.type in
      let z = get_or snapshots j no_snapshot in
      let each = each_cell (cell_fits (is_versioned t)) is_vacant t.properties z.cells in
      (and_parts each _ (and_parts (each && _) (version_fits o.limits t z) (taken-fits taken j l)).0).0

  vacant-there :
      (p : ℕ) → get_elem? o.type.properties p ≡ none → (j : ℕ) → j < length snapshots → held (cell_at (get_or snapshots j no_snapshot) p) ≡ []
  unfolding cell_at is_vacant is_mark held
  vacant-there p e j l =
      vacant-held (get_or (get_or snapshots j no_snapshot).cells p (holds []))
      (vacant-at (cell_fits (is_versioned o.type)) is_vacant o.type.properties (get_or snapshots j no_snapshot).cells (fits-at j l) refl p e)

  module _
      (p : ℕ) (q : Property) (e : get_elem? o.type.properties p ≡ some q) (x : (is_min q || is_max q) ≡ true) (j : ℕ) (l : j < length snapshots) where
    one-there : length (held (cell_at (get_or snapshots j no_snapshot) p)) ≤ 1
    unfolding cell_at
    one-there =
        lone-cell (is_versioned o.type) q (get_or (get_or snapshots j no_snapshot).cells p (holds []))
        (cell-at (cell_fits (is_versioned o.type)) is_vacant o.type.properties (get_or snapshots j no_snapshot).cells (fits-at j l) p q e)
        (extreme-single (is_versioned o.type) q ((taken-kept taken o.table o.read).fits p q e) x) x

    space-there : are_in_space q.kind (held (cell_at (get_or snapshots j no_snapshot) p)) ≡ true
    unfolding cell_at snapshot_values values_fit
    space-there =
        ap (are_in_space q.kind) (sym (held_at (get_or snapshots j no_snapshot).cells p))
        ∙ each-place-at (λ p s. are_in_space p.kind s) (λ s. true) o.type.properties (map held (get_or snapshots j no_snapshot).cells)
        (taken-values taken j l) p q e

    lone-there : Lone q.kind (get_or (column snapshots p) j [])
    lone-there = subst (Lone q.kind) (sym (column-at snapshots p j)) (record { one = one-there; in-space = space-there })

  -- the marked place
  module _ (v : is_versioned o.type ≡ true) where
    mark : Mark o.type
    mark = (taken-kept taken o.table o.read).marked v

    is-max : is_max mark.property ≡ true
    is-max = marked-max o.type mark.property (type-rules o.table _ o.types o.type o.read taken.typed).1 v mark.at

    versions-rise : Ups numbers (map (λ (x : Snapshot). x.version) snapshots)
    versions-rise = (rising-ups numbers (map (λ (x : Snapshot). x.version) snapshots)).0 (taken-written taken).body.rises

    marked-last :
        merged_at (type_view o.type) (model_of o.headed) (o.type.mark - 1) ≡ get_or (column snapshots (o.type.mark - 1)) (d.count - 1) []
    marked-last =
        let last : length snapshots ≡ suc (d.count - 1) = omega (arith, o.is.count, o.is.one) in
        merged-largest o.type (model_of o.headed) (o.type.mark - 1) mark.property mark.at is-max
        ∙ ap (λ (k : Kind). smallest (extreme_order true k) (flatten (column snapshots (o.type.mark - 1)))) mark.can.kind
        ∙ last-largest snapshots (o.type.mark - 1) (d.count - 1) versions-rise (versions-low snapshots (taken-written taken).body.snapshots)
        (λ j l. fits-own o.limits o.type (get_or snapshots j no_snapshot) v (versions-fit j l)) last

  marked-there :
      (p : ℕ) → p + 1 ≡ o.type.mark → merged_at (type_view o.type) (model_of o.headed) p ≡ get_or (column snapshots p) (d.count - 1) []
  marked-there p e =
      let before : o.type.mark - 1 ≡ p = omega arith in
      subst (λ (i : ℕ). merged_at (type_view o.type) (model_of o.headed) i ≡ get_or (column snapshots i) (d.count - 1) [])
      before (marked-last (lt-ltb 0 o.type.mark (omega arith)))

  pub mergeable : Mergeable s rows d.count o.type (model_of o.headed)
  mergeable = record {
    stand = cells-stand s o.headed d rows o.is o.stand;
    count = sym o.is.count;
    vacant = λ p e. column-none snapshots p (vacant-there p e);
    chosen = λ p q e x. record {
      number = refl;
      ordered = extreme-ordered (is_versioned o.type) q ((taken-kept taken o.table o.read).fits p q e) x;
    };
    lone = λ p q e x j l. lone-there p q e x j (omega (arith, o.is.count));
    marked = marked-there;
  }
