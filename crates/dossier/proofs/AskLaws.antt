-- The laws of questions 5 and 6 of all snapshots.
use mathlib.Core.Path.{◌≡◌, refl, sym, ap, ap₂, ◌∙◌, subst}
use mathlib.Core.Bool.{Bool, true, false, cond, not, ◌&&◌, ◌||◌}
use mathlib.Core.List.{List, [], ◌∷◌, map}
use Prim.Native.Nat.{ℕ, ◌+◌, ◌-◌, ◌≤◌, ◌<◌}
use native.Mathlib.Omega.{arith}
use native.Mathlib.Numerals.{add-one}
use lib.Dec.{ltb, leb, eqb}
use lib.ListN.{length, take, drop, get_or, drop_of_length-le, get_or-map}
use lib.Seq.{drop-cons, get_or-take}
use Rattle.model.specs.Order.{Text, sets, lists, equal}
use Rattle.model.proofs.OrderLaws.{equal-true}
use Rattle.model.specs.Rule.{Cell, holds, Snapshot, sizes}
use Rattle.model.specs.Limits.{Limits}
use Rattle.model.specs.Opening.{held, is_mark, cell_at}
use Rattle.model.proofs.Cases.{and-false, and-true, never}
use Rattle.values.specs.declared.versions.EventVersion.{EventVersion}
use Rattle.replies.specs.Questions.{Asked, refused, accepted, ◌>>◌, ensure}
use Rattle.replies.specs.Replies.{refusal_number}
use Rattle.replies.specs.declared.reply.Refusal.{Refusal}
use Rattle.replies.specs.declared.reply.Refusal.TheVariants.{SmallBuffer, BadTable, BadInput, UnknownType, BadShape}
use Rattle.replies.specs.declared.reply.Refusal.TheVariants.{BadValue, Disagreement, OverLimits, BadBatch, BadLimits}
use Rattle.ontology.specs.Table.{Property, EventType, is_versioned}
use Rattle.ontology.specs.code.TypeIndex.{PropertiesAre, TypeIs}
use Rattle.ontology.specs.declared.types.TypeIndex.{TypeIndex}
use Rattle.event.specs.EventLayout.{bit_number}
use Rattle.event.specs.Agreement.{match_sets}
use Rattle.event.specs.code.EventIndex.{SetsAre, KindsAre}
use Rattle.dossier.specs.DossierLayout.{Headed}
use Rattle.dossier.specs.DossierBody.{differ_bit}
use Rattle.dossier.specs.DossierQuestions.{each_cell, each_snapshot, is_vacant, is_present, is_lone_if_single, is_lone_if_extreme, is_unmarked_match}
use Rattle.dossier.specs.DossierQuestions.{unversioned_snapshot, unversioned_shape, holds_version, versioned_snapshot, snapshot_match, match_fits, match_alike}
use Rattle.dossier.specs.DossierQuestions.{dossier_shape, snapshot_values}
use Rattle.dossier.specs.code.DossierIndex.{SnapshotIs, no_snapshot, no_version, row_of, RowsAre, DossierIs, cell_fits, version_fits, snapshot_fits}
use Rattle.dossier.specs.code.DossierIndex.{shape_asked, MasksAre}
use Rattle.dossier.specs.declared.shape.ShapeMasks.{ShapeMasks}
use Rattle.dossier.specs.declared.snapshots.SnapshotNumbers.{SnapshotNumbers}
use Rattle.dossier.specs.declared.dossiers.DossierIndex.{DossierIndex}
use Rattle.dossier.proofs.DossierSizeLaws.{cells_present}
use Rattle.dossier.proofs.VersionLaws.{plain_fits, dated_fits, matches_few}

-- ---- tests

and-swap : (a b c d : Bool) → ((a && b) && (c && d)) ≡ ((a && c) && (b && d))
and-swap false b c d = refl
and-swap true false c d = sym (and-false c)
and-swap true true c d = refl

and_comm : (a b : Bool) → (a && b) ≡ (b && a)
and_comm true b = sym (and-true b)
and_comm false b = sym (and-false b)

and_assoc : (a b c : Bool) → ((a && b) && c) ≡ (a && (b && c))
and_assoc true b c = refl
and_assoc false b c = refl

-- a lone test taken out of the others
and-out : (l a b c d : Bool) → (((a && (l && b)) && c) && d) ≡ (l && (((a && b) && c) && d))
and-out true a b c d = refl
and-out false a b c d = rw (and-false a)

-- the tests of one snapshot, brought together by place
mix : (a b c m l h : Bool) → ((a && ((l && b) && h)) && (c && m)) ≡ ((((a && b) && c) && m) && (l && h))
mix false b c m l h = refl
mix true b c m false h = sym (and-false ((b && c) && m))
mix true false c m true h = refl
mix true true c m true h = and_comm h (c && m)

-- ---- two tests of each place are one

-- what is asked of the places that have a property, and of no other
abbrev each_of : (Property → Cell → Bool) → List Property → List Cell → Bool
each_of f ps cs = each_cell f (λ (c : Cell). true) ps cs

each-place :
    (f h : Property → Cell → Bool) (g : Cell → Bool) (ps : List Property) (cs : List Cell) →
    (each_cell f g ps cs && each_of h ps cs) ≡ each_cell (λ (p : Property) (c : Cell). f p c && h p c) g ps cs
unfolding each_cell
each-place f h g [] [] = refl
each-place f h g [] (c ∷ cs) = and_assoc (g c) (each_cell f g [] cs) (each_of h [] cs) ∙ ap (λ (b : Bool). g c && b) (each-place f h g [] cs)
each-place f h g (p ∷ ps) [] =
    let none : Cell = holds [] in
    and-swap (f p none) (each_cell f g ps []) (h p none) (each_of h ps [])
    ∙ ap (λ (b : Bool). (f p none && h p none) && b) (each-place f h g ps [])
each-place f h g (p ∷ ps) (c ∷ cs) =
    and-swap (f p c) (each_cell f g ps cs) (h p c) (each_of h ps cs) ∙ ap (λ (b : Bool). (f p c && h p c) && b) (each-place f h g ps cs)

-- what is asked of a cell by whether the type is versioned
abbrev of_version : Bool → Property → Cell → Bool
of_version v p c = cond v (is_lone_if_single p c) (not (is_mark c) && is_lone_if_extreme p c)

three-tests :
    (v : Bool) (ps : List Property) (cs : List Cell) →
    ((each_cell is_present is_vacant ps cs && each_of (of_version v) ps cs) && each_of is_unmarked_match ps cs) ≡ each_cell (cell_fits v) is_vacant ps cs
unfolding cell_fits
three-tests v ps cs =
    ap (λ (b : Bool). b && each_of is_unmarked_match ps cs) (each-place is_present (of_version v) is_vacant ps cs)
    ∙ each-place (λ (p : Property) (c : Cell). is_present p c && of_version v p c) is_unmarked_match is_vacant ps cs

-- ---- one snapshot

module _ (limits : Limits) (t : EventType) (s : Snapshot) where
  abbrev asked : (Property → Cell → Bool) → Bool
  asked f = each_of f t.properties s.cells

  -- a and b are what is asked of the version and of all objects
  by_place :
      (v : Bool) → is_versioned t ≡ v → (a b : Bool) → (a && b) ≡ cond v (dated_fits s t.mark) (plain_fits limits s) →
      ((cells_present t s && ((a && asked (of_version v)) && b)) && (asked is_unmarked_match && matches_few t s)) ≡ snapshot_fits limits t s
  unfolding snapshot_fits version_fits
  by_place v e a b w =
      mix (cells_present t s) (asked (of_version v)) (asked is_unmarked_match) (matches_few t s) a b
      ∙ ap₂ (λ (x y : Bool). x && matches_few t s && y) (three-tests v t.properties s.cells) w
      ∙ ap (λ (v : Bool). each_cell (cell_fits v) is_vacant t.properties s.cells && matches_few t s && cond v (dated_fits s t.mark)
      (plain_fits limits s)) (sym e)

  fits-versioned : is_versioned t ≡ true → ((cells_present t s && versioned_snapshot t s) && match_fits t s) ≡ snapshot_fits limits t s
  unfolding versioned_snapshot match_fits
  fits-versioned e = by_place true e (leb (sizes s.cells) 32) (holds_version s.version (cell_at s (t.mark - 1))) refl

  fits-plain : is_versioned t ≡ false → ((cells_present t s && unversioned_snapshot limits t s) && match_fits t s) ≡ snapshot_fits limits t s
  unfolding unversioned_snapshot match_fits
  fits-plain e = by_place false e (eqb s.version 0) (leb (sizes s.cells) limits.objects) refl

-- ---- all snapshots

each_both : (f g : Snapshot → Bool) (ss : List Snapshot) → (each_snapshot f ss && each_snapshot g ss) ≡ each_snapshot (λ (s : Snapshot). f s && g s) ss
unfolding each_snapshot
each_both f g [] = refl
each_both f g (s ∷ ss) = and-swap (f s) (each_snapshot f ss) (g s) (each_snapshot g ss) ∙ ap (λ (b : Bool). (f s && g s) && b) (each_both f g ss)

each_same : (f g : Snapshot → Bool) (ss : List Snapshot) → ((s : Snapshot) → f s ≡ g s) → each_snapshot f ss ≡ each_snapshot g ss
unfolding each_snapshot
each_same f g [] h = refl
each_same f g (s ∷ ss) h = ap₂ (λ (a b : Bool). a && b) (h s) (each_same f g ss h)

-- the same match sets as the first snapshot
abbrev pub alike_to : EventType → Snapshot → Snapshot → Bool
alike_to t a s = equal (lists sets) (snapshot_match t a) (snapshot_match t s)

alike : (t : EventType) (ss : List Snapshot) → match_alike t ss ≡ each_snapshot (alike_to t (get_or ss 0 no_snapshot)) ss
unfolding match_alike each_snapshot
alike t [] = refl
alike t (s ∷ ss) = sym (ap (λ (b : Bool). b && each_snapshot (alike_to t s) ss) ((equal-true (lists sets) (snapshot_match t s) (snapshot_match t s)).1 refl))

-- all that question 5 asks of a snapshot, given the first one
abbrev pub fits_with : Limits → EventType → Snapshot → Snapshot → Bool
fits_with limits t a s = snapshot_fits limits t s && alike_to t a s

module _ (limits : Limits) (t : EventType) (ss : List Snapshot) where
  abbrev all_present : Bool
  all_present = each_snapshot (cells_present t) ss

  -- each snapshot fits by itself, and has the match sets of the first
  abbrev pub all_fit : List Snapshot → Bool
  all_fit xs = each_snapshot (fits_with limits t (get_or ss 0 no_snapshot)) xs

  together :
      (f : Snapshot → Bool) → ((s : Snapshot) → ((cells_present t s && f s) && match_fits t s) ≡ snapshot_fits limits t s) →
      (((all_present && each_snapshot f ss) && each_snapshot (match_fits t) ss) && match_alike t ss) ≡ all_fit ss
  together f h =
      let both : Snapshot → Bool = λ s. cells_present t s && f s in
      ap (λ (b : Bool). (b && each_snapshot (match_fits t) ss) && match_alike t ss) (each_both (cells_present t) f ss)
      ∙ ap (λ (b : Bool). b && match_alike t ss)
      (each_both both (match_fits t) ss ∙ each_same (λ (s : Snapshot). both s && match_fits t s) (snapshot_fits limits t) ss h)
      ∙ ap (λ (b : Bool). each_snapshot (snapshot_fits limits t) ss && b) (alike t ss)
      ∙ each_both (snapshot_fits limits t) (alike_to t (get_or ss 0 no_snapshot)) ss

  by-version :
      (v : Bool) → is_versioned t ≡ v →
      (((all_present && cond v (each_snapshot (versioned_snapshot t) ss) (unversioned_shape limits t ss)) && each_snapshot (match_fits t) ss)
      && match_alike t ss)
      ≡ ((v || eqb (length ss) 1) && all_fit ss)
  unfolding unversioned_shape
  by-version true e = together (versioned_snapshot t) (λ s. fits-versioned limits t s e)
  by-version false e =
      and-out (eqb (length ss) 1) all_present (each_snapshot (unversioned_snapshot limits t) ss) (each_snapshot (match_fits t) ss) (match_alike t ss)
      ∙ ap (λ (b : Bool). eqb (length ss) 1 && b) (together (unversioned_snapshot limits t) (λ s. fits-plain limits t s e))

  pub shape_is : dossier_shape limits t ss ≡ ((is_versioned t || eqb (length ss) 1) && each_snapshot (fits_with limits t (get_or ss 0 no_snapshot)) ss)
  unfolding dossier_shape
  shape_is = by-version (is_versioned t) refl

-- ---- questions 5 and 6 of a snapshot

abbrev match_like : EventType → List (List Text) → Snapshot → Bool
match_like ty xs y = equal (lists sets) (match_sets ty.properties xs) (snapshot_match ty y)

-- what they come to of a snapshot y, where the first one has the sets xs
abbrev pub snapshot_asked : Limits → EventType → List (List Text) → Snapshot → Asked (Unit {0})
snapshot_asked limits ty xs y = shape_asked (snapshot_fits limits ty y && match_like ty xs y) (snapshot_values ty y)

module _ (limits : Limits) (ty : EventType) (xs : List (List Text)) (y : Snapshot) where
  pub asked-shape : {r : Bool} → r ≡ false → r ≡ snapshot_fits limits ty y → refused 5 ≡ snapshot_asked limits ty xs y
  asked-shape h e = sym (ap (λ (b : Bool). shape_asked (b && match_like ty xs y) (snapshot_values ty y)) (sym e ∙ h))

  pub asked-match : {r : Bool} → r ≡ false → r ≡ match_like ty xs y → refused 5 ≡ snapshot_asked limits ty xs y
  asked-match h e =
      sym (ap (λ (b : Bool). shape_asked (snapshot_fits limits ty y && b) (snapshot_values ty y)) (sym e ∙ h)
      ∙ ap (λ (b : Bool). shape_asked b (snapshot_values ty y)) (and-false (snapshot_fits limits ty y)))

  -- where neither refuses, the values decide
  pub asked-values :
      {a b r d : Bool} → a ≡ snapshot_fits limits ty y → a ≡ true → b ≡ match_like ty xs y → b ≡ true →
      r ≡ snapshot_values ty y → r ≡ d → ensure 6 d ≡ snapshot_asked limits ty xs y
  asked-values e h g k n f =
      sym (ap₂ (λ (a b : Bool). shape_asked (a && b) (snapshot_values ty y)) (sym e ∙ h) (sym g ∙ k) ∙ ap (ensure 6) (sym n ∙ f))

-- ---- questions 5 and 6 of all snapshots

-- what they come to of snapshot j, and of all of them
abbrev pub asked_at : Limits → EventType → List Snapshot → ℕ → Asked (Unit {0})
asked_at limits t ss j =
    let y = get_or ss j no_snapshot in
    shape_asked (fits_with limits t (get_or ss 0 no_snapshot) y) (snapshot_values t y)

abbrev pub asked_all : Limits → EventType → List Snapshot → Asked (Unit {0})
asked_all limits t ss = shape_asked (dossier_shape limits t ss) (each_snapshot (snapshot_values t) ss)

-- what the answer so far and the snapshots from j on come to
abbrev asked_from : Limits → EventType → List Snapshot → Asked (Unit {0}) → ℕ → Asked (Unit {0})
asked_from limits t ss answer j =
    ensure 5 (all_fit limits t ss (drop j ss)) >> (answer >> ensure 6 (each_snapshot (snapshot_values t) (drop j ss)))

abbrev sixth : Asked (Unit {0})
sixth = refused 6

-- one refusal has the number 5
shape-number : (q : Refusal) → refusal_number q ≡ 5 → q ≡ BadShape
shape-number SmallBuffer e = absurd (omega (arith, e))
shape-number BadTable e = absurd (omega (arith, e))
shape-number BadInput e = absurd (omega (arith, e))
shape-number UnknownType e = absurd (omega (arith, e))
shape-number BadShape e = refl
shape-number BadValue e = absurd (omega (arith, e))
shape-number Disagreement e = absurd (omega (arith, e))
shape-number OverLimits e = absurd (omega (arith, e))
shape-number BadBatch e = absurd (omega (arith, e))
shape-number BadLimits e = absurd (omega (arith, e))

-- what is known of a snapshot by its answer
fine : (a b : Bool) → accepted tt ≡ shape_asked a b → (a ≡ true) × (b ≡ true)
fine false b e = never (cc)
fine true false e = never (cc)
fine true true e = (refl, refl)

five : (a b : Bool) → refused 5 ≡ shape_asked a b → a ≡ false
five false b e = refl
five true false e = let z : ◌≡◌ {A = ℕ} 5 6 = cc in absurd (omega arith)
five true true e = never (cc)

six : (n : ℕ) (a b : Bool) → refused n ≡ shape_asked a b → (n ≡ 5 → ⊥) → (n ≡ 6) × (a ≡ true) × (b ≡ false)
six n false b e ne = absurd (ne (cc))
six n true false e ne = (cc, refl, refl)
six n true true e ne = never (cc)

module _ (limits : Limits) (t : EventType) (ss : List Snapshot) (answer : Asked (Unit {0})) (j : ℕ) (l : j < length ss) where
  abbrev one : Snapshot
  one = get_or ss j no_snapshot

  abbrev fitting : Snapshot → Bool
  fitting = fits_with limits t (get_or ss 0 no_snapshot)

  -- whether those after it fit, and their values
  abbrev fit-after : Bool
  fit-after = all_fit limits t ss (drop (j + 1) ss)

  abbrev values-after : Bool
  values-after = each_snapshot (snapshot_values t) (drop (j + 1) ss)

  step : (f : Snapshot → Bool) → each_snapshot f (drop j ss) ≡ (f one && each_snapshot f (drop (j + 1) ss))
  unfolding each_snapshot
  step f = rw (drop-cons ss j no_snapshot l, add-one)

  asked-step :
      {a b : Bool} → fitting one ≡ a → snapshot_values t one ≡ b →
      asked_from limits t ss answer j ≡ (ensure 5 (a && fit-after) >> (answer >> ensure 6 (b && values-after)))
  asked-step e f =
      ap₂ (λ (x y : Bool). ensure 5 x >> (answer >> ensure 6 y)) (step fitting ∙ ap (λ (x : Bool). x && fit-after) e)
      (step (snapshot_values t) ∙ ap (λ (x : Bool). x && values-after) f)

  from-fine : accepted tt ≡ asked_at limits t ss j → asked_from limits t ss answer j ≡ asked_from limits t ss answer (j + 1)
  from-fine e = let g = fine (fitting one) (snapshot_values t one) e in asked-step g.0 g.1

  from-five : refused 5 ≡ asked_at limits t ss j → refused 5 ≡ asked_from limits t ss answer j
  from-five e = sym (asked-step (five (fitting one) (snapshot_values t one) e) refl)

  from-six :
      (n : ℕ) → refused n ≡ asked_at limits t ss j → (n ≡ 5 → ⊥) → (answer >> sixth) ≡ sixth →
      asked_from limits t ss answer j ≡ asked_from limits t ss (refused n) (j + 1)
  from-six n e ne h =
      let g = six n (fitting one) (snapshot_values t one) e ne in
      asked-step g.1 g.2 ∙ ap (λ (a : Asked (Unit {0})). ensure 5 fit-after >> a) (h ∙ ap refused (sym g.0))

  is-sixth : (n : ℕ) → refused n ≡ asked_at limits t ss j → (n ≡ 5 → ⊥) → ◌≡◌ {A = Asked (Unit {0})} (refused n) sixth
  is-sixth n e ne = ap refused (six n (fitting one) (snapshot_values t one) e ne).0

then-accepted : (a : Asked (Unit {0})) → (a >> accepted tt) ≡ a
then-accepted (refused n) = refl
then-accepted (accepted u) = refl

from_end :
    (limits : Limits) (t : EventType) (ss : List Snapshot) (answer : Asked (Unit {0})) (j : ℕ) → length ss ≤ j →
    asked_from limits t ss answer j ≡ answer
unfolding each_snapshot
from_end limits t ss answer j l = rw (drop_of_length-le ss l) (then-accepted answer)

-- ---- the dossier's snapshots

-- the numbers that the index has of a snapshot
abbrev numbers_at : DossierIndex → ℕ → SnapshotNumbers
numbers_at d j = record { version = get_or d.versions j no_version; differ = get_or d.differs j 0; objects = get_or d.objects j 0 }

module _ (s : List ℕ) (h : Headed) (d : DossierIndex) (w : DossierIs s h d) where
  pub in_count : (j : ℕ) → j < d.count → j < length h.snapshots
  in_count j l = omega (arith, w.count)

  pub past-count : (j : ℕ) → d.count ≤ j → length h.snapshots ≤ j
  past-count j l = omega (arith, w.count)

  -- what is noted of each snapshot
  noted :
      (xs : List ℕ) (f : Snapshot → ℕ) → f no_snapshot ≡ 0 → take (length h.snapshots) xs ≡ map f h.snapshots →
      (j : ℕ) → j < length h.snapshots → get_or xs j 0 ≡ f (get_or h.snapshots j no_snapshot)
  noted xs f z e j l =
      sym (get_or-take (length h.snapshots) xs j 0 l)
      ∙ ap (λ (ns : List ℕ). get_or ns j 0) e
      ∙ ap (get_or (map f h.snapshots) j) (sym z)
      ∙ get_or-map f h.snapshots j no_snapshot

  -- a snapshot has these numbers, and its sets stand where its row says
  pub snapshot-stands :
      (rows : List ℕ) → RowsAre s h.snapshots rows → (j : ℕ) → j < d.count →
      SnapshotIs s (get_or h.snapshots j no_snapshot) (numbers_at d j) (row_of rows j)
  unfolding sizes bit_number
  snapshot-stands rows r j l =
      let k = in_count j l in
      record {
        version =
            ap (λ (v : EventVersion). v.0) (sym (get_or-take (length h.snapshots) d.versions j no_version k))
            ∙ sym (get_or-map (λ (v : EventVersion). v.0) (take (length h.snapshots) d.versions) j no_version)
            ∙ ap (λ (ns : List ℕ). get_or ns j 0) w.snapshots.numbers
            ∙ get_or-map (λ (x : Snapshot). x.version) h.snapshots j no_snapshot;
        differ = noted d.differs (λ (x : Snapshot). bit_number (map differ_bit x.cells)) refl w.differs j k;
        objects = noted d.objects (λ (x : Snapshot). sizes x.cells) refl w.objects j k;
        sets = r.each j k;
      }

  pub first-sets : (rows : List ℕ) → RowsAre s h.snapshots rows → SetsAre s (map held (get_or h.snapshots 0 no_snapshot).cells) (row_of rows 0)
  first-sets rows r = r.each 0 (omega (arith, w.one, w.count))

  by-lone :
      (limits : Limits) (u : List ℕ) (ty : EventType) (t : TypeIndex) (ps : List ℕ) → TypeIs u ty t ps → {r b : Bool} →
      r ≡ (ltb 0 t.mark || eqb d.count 1) →
      r ≡ b →
      asked_all limits ty h.snapshots ≡ shape_asked (b && all_fit limits ty h.snapshots h.snapshots)
      (each_snapshot (snapshot_values ty) h.snapshots)
  by-lone limits u ty t ps v e f =
      let lone = e ∙ ap₂ (λ (m n : ℕ). ltb 0 m || eqb n 1) v.mark w.count in
      ap (λ (b : Bool). shape_asked b (each_snapshot (snapshot_values ty) h.snapshots))
      (shape_is limits ty h.snapshots ∙ ap (λ (b : Bool). b && all_fit limits ty h.snapshots h.snapshots) (sym lone ∙ f))

-- ---- questions 5 and 6 of a dossier

-- what holds of the type and of the snapshots of any dossier that stands as the numbers say
abbrev pub Each : List ℕ → DossierIndex → List ℕ → TypeIndex → List ℕ → (EventType → List Snapshot → Type 0) → Type 0
Each s d rows t ps P =
    (u : List ℕ) (ty : EventType) (h : Headed) → TypeIs u ty t ps → KindsAre ty → DossierIs s h d → RowsAre s h.snapshots rows →
    P ty h.snapshots

-- what all snapshots come to, by the answer of those before j, which is refused by 6 alone
pub record AskedFrom
    (limits : Limits) (s : List ℕ) (d : DossierIndex) (rows : List ℕ) (t : TypeIndex) (ps : List ℕ) (answer : Asked (Unit {0})) (j : ℕ)
    : Type 0 where
  pub is : Each s d rows t ps (λ ty ss. asked_all limits ty ss ≡ asked_from limits ty ss answer j)
  pub by-six : Each s d rows t ps (λ ty ss. (answer >> sixth) ≡ sixth)

module _
    (limits : Limits) (s : List ℕ) (d : DossierIndex) (rows : List ℕ) (t : TypeIndex) (ps : List ℕ) {r : Bool}
    (e : r ≡ (ltb 0 t.mark || eqb d.count 1)) where
  pub not-lone : r ≡ false → Each s d rows t ps (λ ty ss. refused 5 ≡ asked_all limits ty ss)
  not-lone f u ty h w g x y = sym (by-lone s h d x limits u ty t ps w e f)

  pub is-lone : r ≡ true → AskedFrom limits s d rows t ps (accepted tt) 0
  is-lone f = record { is = λ u ty h w g x y. by-lone s h d x limits u ty t ps w e f; by-six = λ u ty h w g x y. refl }

module _
    {limits : Limits} {s : List ℕ} {d : DossierIndex} {rows : List ℕ} {t : TypeIndex} {ps : List ℕ} {answer : Asked (Unit {0})} {j : ℕ}
    (l : AskedFrom limits s d rows t ps answer j) where
  pub asked-end : d.count ≤ j → Each s d rows t ps (λ ty ss. answer ≡ asked_all limits ty ss)
  asked-end past u ty h w g x y =
      sym (l.is u ty h w g x y ∙ from_end limits ty h.snapshots answer j (past-count s h d x j past))

  -- by the answer of snapshot j
  module _ (k : j < d.count) where
    pub asked-fine : Each s d rows t ps (λ ty ss. accepted tt ≡ asked_at limits ty ss j) → AskedFrom limits s d rows t ps answer (j + 1)
    asked-fine here = record {
      is = λ u ty h w g x y.
          l.is u ty h w g x y ∙ from-fine limits ty h.snapshots answer j (in_count s h d x j k) (here u ty h w g x y);
      by-six = l.by-six;
    }

    -- which is refused by q
    module _ {q : Refusal} (here : Each s d rows t ps (λ ty ss. refused (refusal_number q) ≡ asked_at limits ty ss j)) where
      pub asked-five : q ≡ BadShape → Each s d rows t ps (λ ty ss. refused (refusal_number q) ≡ asked_all limits ty ss)
      asked-five e u ty h w g x y =
          ap refused (ap refusal_number e)
          ∙ from-five limits ty h.snapshots answer j (in_count s h d x j k) (sym (ap refused (ap refusal_number e)) ∙ here u ty h w g x y)
          ∙ sym (l.is u ty h w g x y)

      pub asked-six : (q ≡ BadShape → ⊥) → AskedFrom limits s d rows t ps (refused (refusal_number q)) (j + 1)
      asked-six ne = record {
        is = λ u ty h w g x y.
            l.is u ty h w g x y
            ∙ from-six limits ty h.snapshots answer j (in_count s h d x j k) (refusal_number q) (here u ty h w g x y)
            (λ e. ne (shape-number q e)) (l.by-six u ty h w g x y);
        by-six = λ u ty h w g x y.
            is-sixth limits ty h.snapshots answer j (in_count s h d x j k) (refusal_number q) (here u ty h w g x y) (λ e. ne (shape-number q e));
      }

-- the masks that are made by the index's mark are those of the type
masks-typed :
    {u : List ℕ} {ty : EventType} {t : TypeIndex} {ps : List ℕ} {m : ShapeMasks} → TypeIs u ty t ps → MasksAre (ltb 0 t.mark) ty.properties m →
    MasksAre (is_versioned ty) ty.properties m
masks-typed {u} {ty} {t} {ps} {m} w x = subst (λ (n : ℕ). MasksAre (ltb 0 n) ty.properties m) w.mark x

-- the answer of snapshot j, which is asked by the index's numbers, its row and the first row
pub asked-here :
    (limits : Limits) {s : List ℕ} {d : DossierIndex} {rows : List ℕ} {t : TypeIndex} {ps : List ℕ} {m : ShapeMasks} {j : ℕ} {a : Asked (Unit {0})} →
    j < d.count → ((u : List ℕ) (qs : List Property) → PropertiesAre u qs t.count ps → MasksAre (ltb 0 t.mark) qs m) →
    ((u : List ℕ) (ty : EventType) (xs : List (List Text)) (y : Snapshot) → t.mark ≡ ty.mark → PropertiesAre u ty.properties t.count ps →
    MasksAre (is_versioned ty) ty.properties m → KindsAre ty → SetsAre s xs (row_of rows 0) → SnapshotIs s y (numbers_at d j) (row_of rows j) →
    a ≡ snapshot_asked limits ty xs y) →
    Each s d rows t ps (λ ty ss. a ≡ asked_at limits ty ss j)
asked-here limits {s} {d} {rows} {t} {ps} {m} {j} {a} k masks told u ty h w g x r =
    told u ty _ _ w.mark w.are (masks-typed w (masks u ty.properties w.are)) g (first-sets s h d x rows r) (snapshot-stands s h d x rows r j k)
