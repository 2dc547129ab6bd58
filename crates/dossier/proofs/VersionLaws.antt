-- The laws of a snapshot's version property, and of all that question 5 asks of one snapshot.
use mathlib.Core.Path.{◌≡◌, refl, sym, ap, ap₂, ◌∙◌, subst}
use mathlib.Core.Bool.{Bool, true, false, cond, ◌&&◌}
use mathlib.Core.List.{List, [], ◌∷◌, map}
use Prim.Native.Nat.{ℕ, ◌-◌, ◌≤◌, ◌<◌}
use native.Mathlib.Omega.{arith}
use lib.Dec.{ltb, leb, eqb}
use lib.ListN.{length, get_or, length-map, get_or-eq_default}
use borrow.Author.Tests.{lt-ltb, le-leb, lt-leb, eq-eqb, ne_eqb}
use Rattle.model.specs.Order.{Text, texts, sets, lists, lex, equal}
use Rattle.model.proofs.Cases.{three, and-false}
use Rattle.model.proofs.OrderLaws.{equal-false}
use Rattle.model.specs.Rule.{Cell, holds, differs, Snapshot, sizes}
use Rattle.model.specs.Limits.{Limits}
use Rattle.model.specs.Opening.{held, cell_at}
use Rattle.values.specs.Decimal.{in_decimal}
use Rattle.ontology.specs.Table.{EventType, is_versioned}
use Rattle.event.specs.EventQuestions.{match_count}
use Rattle.event.specs.code.EventIndex.{SetIs, set_in, SetsAre}
use Rattle.dossier.specs.DossierQuestions.{each_cell, is_vacant, holds_version}
use Rattle.dossier.specs.code.DossierIndex.{SnapshotIs, CellsAre, cell_fits, version_fits, snapshot_fits}
use Rattle.dossier.specs.declared.snapshots.SnapshotNumbers.{SnapshotNumbers}
use Rattle.dossier.proofs.CellLaws.{held_at, match-few}

-- ---- a set of one value

pub version-many : (vs : List Text) (n : ℕ) (d : Text) → n ≡ length vs → (n ≡ 1 → ⊥) → false ≡ equal sets vs (d ∷ [])
version-many vs n d e ne = sym ((equal-false sets vs (d ∷ [])).1 (λ q. ne (e ∙ ap length q)))

one_value : (vs : List Text) (n : ℕ) (d : Text) → n ≡ length vs → n ≡ 1 → equal texts (get_or vs 0 []) d ≡ equal sets vs (d ∷ [])
unfolding sets equal lists lex
one_value [] n d e o = absurd (omega arith)
one_value (v ∷ []) n d e o = three (texts.cmp v d) (λ e. rw e) (λ e. rw e) (λ e. rw e)
one_value (v ∷ w ∷ vs) n d e o = absurd (omega arith)

-- by its first value v
pub version-one :
    (vs : List Text) (n k : ℕ) → n ≡ length vs → n ≡ 1 → {v : Text} → v ≡ get_or vs 0 [] → {r : Bool} →
    r ≡ equal texts v (in_decimal k) →
    r ≡ equal sets vs (in_decimal k ∷ [])
version-one vs n k e o f g = g ∙ ap (λ (w : Text). equal texts w (in_decimal k)) f ∙ one_value vs n (in_decimal k) e o

-- ---- the version property

holds-held : (v : ℕ) (c : Cell) → holds_version v c ≡ equal sets (held c) (in_decimal v ∷ [])
unfolding holds_version held
holds-held v (holds s) = refl
holds-held v differs = sym ((equal-false sets [] (in_decimal v ∷ [])).1 (λ e. absurd (omega (arith, ap length e))))

pub holds-here :
    (y : Snapshot) (version mark : ℕ) → version ≡ y.version → {r : Bool} →
    r ≡ equal sets (held (cell_at y (mark - 1))) (in_decimal version ∷ []) →
    r ≡ holds_version y.version (cell_at y (mark - 1))
holds-here y version mark v e =
    e ∙ ap (λ (n : ℕ). equal sets (held (cell_at y (mark - 1))) (in_decimal n ∷ [])) v ∙ sym (holds-held y.version (cell_at y (mark - 1)))

module _ (s : List ℕ) (y : Snapshot) (ats : List ℕ) (w : SetsAre s (map held y.cells) ats) (mark : ℕ) where
  long : length y.cells ≡ 32
  long = sym (length-map y.cells held) ∙ w.long

  pub holds-far : 32 < mark → false ≡ holds_version y.version (cell_at y (mark - 1))
  unfolding cell_at held
  holds-far h =
      let l : length y.cells ≤ mark - 1 = omega (arith, long) in
      sym (holds-held y.version (cell_at y (mark - 1))
      ∙ ap (λ (c : Cell). equal sets (held c) (in_decimal y.version ∷ [])) (get_or-eq_default y.cells (holds []) l)
      ∙ (equal-false sets [] (in_decimal y.version ∷ [])).1 (λ e. absurd (omega (arith, ap length e))))

  pub holds-set : 1 ≤ mark → mark ≤ 32 → SetIs s (held (cell_at y (mark - 1))) (set_in ats (mark - 1))
  unfolding cell_at
  holds-set o h = subst (λ (vs : List Text). SetIs s vs (set_in ats (mark - 1))) (held_at y.cells (mark - 1)) (w.each (mark - 1) (omega arith))

-- what is asked of a snapshot by the type's mark: with none, and with one
abbrev pub plain_fits : Limits → Snapshot → Bool
plain_fits limits y = eqb y.version 0 && leb (sizes y.cells) limits.objects

abbrev pub dated_fits : Snapshot → ℕ → Bool
dated_fits y mark = leb (sizes y.cells) 32 && holds_version y.version (cell_at y (mark - 1))

module _
    (limits : Limits) {s : List ℕ} {y : Snapshot} {x : SnapshotNumbers} {ats : List ℕ} (w : SnapshotIs s y x ats) {mark : ℕ} (ty : EventType)
    (m : mark ≡ ty.mark) where
  plain : mark ≡ 0 → version_fits limits ty y ≡ plain_fits limits y
  unfolding version_fits
  plain h = ap (λ (n : ℕ). cond (ltb 0 n) (dated_fits y ty.mark) (plain_fits limits y)) (sym m ∙ h)

  dated : (mark ≡ 0 → ⊥) → version_fits limits ty y ≡ dated_fits y mark
  unfolding version_fits
  dated h =
      ap (λ (n : ℕ). cond (ltb 0 n) (dated_fits y n) (plain_fits limits y)) (sym m)
      ∙ ap (λ (b : Bool). cond b (dated_fits y mark) (plain_fits limits y)) (lt-ltb 0 mark (omega (arith, h)))

  pub plain-not : mark ≡ 0 → (x.version.0 ≡ 0 → ⊥) → false ≡ version_fits limits ty y
  plain-not h ne = sym (plain h ∙ ap (λ (b : Bool). b && leb (sizes y.cells) limits.objects) (ne_eqb y.version 0 (λ e. ne (w.version ∙ e))))

  pub plain-so : mark ≡ 0 → x.version.0 ≡ 0 → leb x.objects limits.objects ≡ version_fits limits ty y
  plain-so h e = sym (plain h ∙ ap₂ (λ (b : Bool) (n : ℕ). b && leb n limits.objects) (eq-eqb y.version 0 (sym w.version ∙ e))
      (sym w.objects))

  module _ (h : mark ≡ 0 → ⊥) where
    by-objects : {b : Bool} → leb (sizes y.cells) 32 ≡ b → version_fits limits ty y ≡ (b && holds_version y.version (cell_at y (mark - 1)))
    by-objects e = dated h ∙ ap (λ (b : Bool). b && holds_version y.version (cell_at y (mark - 1))) e

    pub dated-large : 32 < x.objects → false ≡ version_fits limits ty y
    dated-large k = sym (by-objects (lt-leb (sizes y.cells) 32 (omega (arith, w.objects))))

    pub dated-so : x.objects ≤ 32 → {r : Bool} → r ≡ holds_version y.version (cell_at y (mark - 1)) → r ≡ version_fits limits ty y
    dated-so k e = e ∙ sym (by-objects (le-leb (sizes y.cells) 32 (omega (arith, w.objects))))

-- ---- one snapshot

pub cells_are : (s : List ℕ) (y : Snapshot) (x : SnapshotNumbers) (ats : List ℕ) → SnapshotIs s y x ats → CellsAre s y.cells x.differ ats
cells_are s y x ats w = record { bits = w.differ; sets = w.sets }

abbrev pub cells_fit : EventType → Snapshot → Bool
cells_fit ty y = each_cell (cell_fits (is_versioned ty)) is_vacant ty.properties y.cells

abbrev pub matches_few : EventType → Snapshot → Bool
matches_few ty y = leb (match_count ty.properties (map held y.cells)) 32

module _ (limits : Limits) (ty : EventType) (y : Snapshot) where
  pub fits-cells : {a : Bool} → a ≡ cells_fit ty y → a ≡ false → false ≡ snapshot_fits limits ty y
  unfolding snapshot_fits
  fits-cells e f = sym (ap (λ (b : Bool). b && matches_few ty y && version_fits limits ty y) (sym e ∙ f))

  pub fits-match : {a : Bool} → a ≡ matches_few ty y → a ≡ false → false ≡ snapshot_fits limits ty y
  unfolding snapshot_fits
  fits-match e f =
      sym (ap (λ (b : Bool). cells_fit ty y && b && version_fits limits ty y) (sym e ∙ f)
      ∙ ap (λ (b : Bool). b && version_fits limits ty y) (and-false (cells_fit ty y)))

  pub fits_all :
      {a r : Bool} → a ≡ cells_fit ty y → a ≡ true → matches_few ty y ≡ true → r ≡ version_fits limits ty y → r ≡ snapshot_fits limits ty y
  unfolding snapshot_fits
  fits_all e f g k = k ∙ sym (ap₂ (λ (a b : Bool). a && b && version_fits limits ty y) (sym e ∙ f) g)

-- where there are few objects, there are few match objects
pub match-within : (ty : EventType) (y : Snapshot) {objects : ℕ} → objects ≡ sizes y.cells → objects ≤ 32 → matches_few ty y ≡ true
match-within ty y e h = le-leb (match_count ty.properties (map held y.cells)) 32 (omega (arith, e, match-few ty.properties y.cells))
