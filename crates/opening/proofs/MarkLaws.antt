-- The marked place of a versioned type: each snapshot has its own version there, in decimal, and versions rise; so the largest value is the last snapshot's.
use mathlib.Core.Path.{◌≡◌, refl, sym, ap, ap₂, ◌∙◌}
use mathlib.Core.Bool.{true, not, ◌&&◌, ◌||◌}
use mathlib.Core.Option.{some}
use mathlib.Core.List.{List, [], ◌∷◌, map, flatten}
use Prim.Native.Nat.{Ordering}
use Prim.Native.Nat.{ℕ, zero, suc, ◌-◌, ◌^◌, ◌<◌}
use native.Mathlib.Omega.{arith}
use lib.Dec.{leb}
use lib.ListN.{length, take, get_or, get_elem?, length-map, get_or-map}
use Rattle.model.specs.Order.{Text, Order, sets, numbers, ranked, rank_cmp, integers, integer_cmp}
use Rattle.model.specs.Keyed.{Above, put}
use Rattle.model.specs.Sets.{Ups, itself, canon, union, smallest}
use Rattle.model.specs.Rule.{Cell, holds, differs, Snapshot, sizes}
use Rattle.model.specs.Limits.{Limits}
use Rattle.model.specs.Opening.{held, cell_at, column}
use Rattle.model.proofs.Cases.{never, and_parts, where-so}
use Rattle.model.proofs.OrderLaws.{equal-true}
use Rattle.model.proofs.SetLaws.{smallest-append}
use Rattle.packed.proofs.LayoutLaws.{All}
use Rattle.values.specs.Decimal.{in_decimal}
use Rattle.values.specs.Spaces.{sequence, is_sequence}
use Rattle.values.specs.ValueOrder.{value_number, value_order, extreme_order}
use Rattle.values.proofs.NumeralLaws.{numeral-in-decimal}
use Rattle.values.proofs.SpaceLaws.{chosen}
use Rattle.ontology.specs.Table.{Property, EventType, is_mandatory, is_single, is_max, is_versioned}
use Rattle.ontology.specs.Table.{is_name_within, names_rise, all_fit, can_be_marked, mark_fits, type_rules}
use Rattle.dossier.specs.DossierQuestions.{holds_version}
use Rattle.dossier.specs.code.DossierIndex.{no_snapshot, version_fits}
use Rattle.opening.proofs.StandLaws.{column-at}

-- ---- the largest of rising versions

abbrev version_set : ℕ → List Text
version_set v = in_decimal v ∷ []

abbrev version_in : Snapshot → ℕ
version_in x = x.version

abbrev largest_first : Order Text
largest_first = extreme_order true sequence

-- texts of versions are in the order of the versions
versions-order :
    (v w : ℕ) → v < 10 ^ 20 → w < 10 ^ 20 → numbers.cmp v w ≡ Ordering.lt → (value_order sequence).cmp (in_decimal v) (in_decimal w) ≡ Ordering.lt
unfolding value_order ranked rank_cmp value_number integers integer_cmp numbers
versions-order v w a b c = rw (numeral-in-decimal v a, numeral-in-decimal w b, c)

above_at : (v : ℕ) (vs : List ℕ) → Above numbers itself v vs → (j : ℕ) → j < length vs → numbers.cmp v (get_or vs j 0) ≡ Ordering.lt
above_at v [] h j l = absurd (omega arith)
above_at v (w ∷ vs) h zero l = h.0
above_at v (w ∷ vs) h (suc j) l = above_at v vs h.1 j (omega arith)

low-at : (vs : List ℕ) → All (λ (v : ℕ). v < 10 ^ 20) vs → (j : ℕ) → j < length vs → get_or vs j 0 < 10 ^ 20
low-at [] h j l = absurd (omega arith)
low-at (v ∷ vs) h zero l = h.0
low-at (v ∷ vs) h (suc j) l = low-at vs h.1 j (omega arith)

largest-last :
    (vs : List ℕ) → Ups numbers vs → All (λ (v : ℕ). v < 10 ^ 20) vs → (j : ℕ) → length vs ≡ suc j →
    smallest largest_first (flatten (map version_set vs)) ≡ version_set (get_or vs j 0)
unfolding flatten smallest canon put
largest-last [] u h j e = absurd (omega arith)
largest-last (v ∷ []) u h zero e = refl
largest-last (v ∷ []) u h (suc j) e = absurd (omega arith)
largest-last (v ∷ w ∷ vs) u h zero e = absurd (omega arith)
largest-last (v ∷ w ∷ vs) u h (suc j) e =
    let rest = flatten (map version_set (w ∷ vs)) in
    let last = get_or (w ∷ vs) j 0 in
    let l : j < length (w ∷ vs) = omega arith in
    let above = above_at v (w ∷ vs) u.0 j l in
    sym (smallest-append largest_first (version_set v) rest)
    ∙ ap (λ (x : List Text). take 1 (union largest_first (version_set v) x)) (largest-last (w ∷ vs) u.1 h.1 j (omega arith))
    ∙ sym (chosen true sequence (in_decimal v) (in_decimal last) Ordering.lt (versions-order v last h.0 (low-at (w ∷ vs) h.1 j l) above))

-- ---- the column of the marked place

-- each snapshot has its version at place p
abbrev HoldsOwn : List Snapshot → ℕ → Type 0
HoldsOwn ss p = (j : ℕ) → j < length ss → held (cell_at (get_or ss j no_snapshot) p) ≡ version_set (get_or ss j no_snapshot).version

column-versions : (ss : List Snapshot) (p : ℕ) → HoldsOwn ss p → column ss p ≡ map version_set (map version_in ss)
unfolding column
column-versions [] p h = refl
column-versions (x ∷ ss) p h =
    ap₂ (λ (a : List Text) (b : List (List Text)). a ∷ b) (h 0 (omega arith)) (column-versions ss p (λ j l. h (suc j) (omega arith)))

pub last-largest :
    (ss : List Snapshot) (p j : ℕ) → Ups numbers (map version_in ss) → All (λ (v : ℕ). v < 10 ^ 20) (map version_in ss) → HoldsOwn ss p →
    length ss ≡ suc j →
    smallest largest_first (flatten (column ss p)) ≡ get_or (column ss p) j []
last-largest ss p j u h own e =
    ap (λ (xss : List (List Text)). smallest largest_first (flatten xss)) (column-versions ss p own)
    ∙ largest-last (map version_in ss) u h j (length-map ss version_in ∙ e)
    ∙ ap version_set (get_or-map version_in ss j no_snapshot)
    ∙ sym (column-at ss p j ∙ own j (omega arith))

-- ---- what the questions say of the marked place

holds-own : (v : ℕ) (c : Cell) → holds_version v c ≡ true → held c ≡ version_set v
unfolding holds_version held
holds-own v (holds s) h = (equal-true sets s (version_set v)).0 h
holds-own v differs h = never (cc)

pub fits-own :
    (limits : Limits) (t : EventType) (x : Snapshot) → is_versioned t ≡ true → version_fits limits t x ≡ true →
    held (cell_at x (t.mark - 1)) ≡ version_set x.version
unfolding version_fits
fits-own limits t x v h =
    holds-own x.version (cell_at x (t.mark - 1))
    (and_parts (leb (sizes x.cells) 32) (holds_version x.version (cell_at x (t.mark - 1))) (rw v at h)).1

pub marked-max :
    (t : EventType) (q : Property) → type_rules t ≡ true → is_versioned t ≡ true → get_elem? t.properties (t.mark - 1) ≡ some q →
    is_max q ≡ true
unfolding type_rules mark_fits can_be_marked
marked-max t q h v e =
    let marks = mark_fits (get_elem? t.properties (t.mark - 1)) in
    let rules =
    is_name_within 64 t.name && leb 1 t.definition && leb 1 (length t.properties) && leb (length t.properties) 32
    && names_rise (map (λ (p : Property). p.name) t.properties) && all_fit (is_versioned t) t.properties in
    let can : mark_fits (some q) ≡ true = rw e at (where-so (is_versioned t) marks (and_parts rules (not (is_versioned t) || marks) h).1 v) in
    (and_parts (is_mandatory q && is_single q && is_sequence q.kind) (is_max q) can).1
