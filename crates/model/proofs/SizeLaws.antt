-- How many objects: a snapshot has no more than its dossier, and so has a merged event, so no more than the limit.
use mathlib.Core.Path.{◌≡◌, refl, ◌∙◌, ap, ap₂}
use mathlib.Core.Bool.{Bool, true, false}
use mathlib.Core.List.{List, [], ◌∷◌, ◌++◌, map, flatten, Memᴰ}
use Prim.Native.Nat.{ℕ, ◌+◌, ◌*◌, ◌≤◌, zero-le}
use native.Mathlib.Nat.{suc-mul, mul-le-mul_right}
use lib.ListN.{length, length-append, length-take}
use native.Mathlib.Omega.{arith}
use Rattle.model.specs.Order.{Text, texts}
use Rattle.model.specs.Sets.{smallest, up_to}
use Rattle.model.specs.Rule.{Cell, holds, differs, Choice, every, least, TypeView, View, places, Snapshot, Dossier, rule, size, sizes, objects}
use Rattle.model.proofs.PartLaws.{count, map-get_d}
use Rattle.model.specs.Limits.{Limits, fits}
use Rattle.model.specs.Opening.{cell_at, held, column, last_of, merged_set, merged_at, merged_sets}
use Rattle.model.proofs.WayClaims.{Each}
use Rattle.model.proofs.Cases.{truth}
use Rattle.model.proofs.SetLaws.{length-canon}
use Rattle.model.proofs.LimitLaws.{fits-bounds}
use Rattle.model.proofs.DossierLaws.{cells-length, snapshot-objects}

last-length : (ss : List (List Text)) → length (last_of ss) ≤ length (flatten ss)
unfolding last_of flatten
last-length [] = zero-le
last-length (s ∷ []) = simp length-append (omega arith)
last-length (s ∷ r ∷ ss) = simp length-append (omega (arith, simp length-append at (last-length (r ∷ ss))))

merged-length : (r : Bool) (c : Choice) (ss : List (List Text)) → length (merged_set r c ss) ≤ length (flatten ss)
unfolding merged_set smallest
merged-length true c ss = last-length ss
merged-length false every ss = length-canon texts (flatten ss)
merged-length false (least O) ss = simp length-take (omega (arith, length-canon O (flatten ss)))

-- sums over places, as lengths of what is brought together there
flat-less :
    {A : Type 0} (f g : ℕ → List A) (ps : List ℕ) → ((p : ℕ) → length (f p) ≤ length (g p)) →
    length (flatten (map f ps)) ≤ length (flatten (map g ps))
unfolding flatten
flat-less f g [] h = zero-le
flat-less f g (p ∷ ps) h = simp length-append (omega (arith, h p, flat-less f g ps h))

flat-add :
    {A : Type 0} (f g : ℕ → List A) (ps : List ℕ) →
    length (flatten (map (λ p. f p ++ g p) ps)) ≡ length (flatten (map f ps)) + length (flatten (map g ps))
unfolding flatten
flat-add f g [] = refl
flat-add f g (p ∷ ps) = simp length-append (omega (arith, flat-add f g ps))

flat-none : (ps : List ℕ) → length (flatten (map (λ p. flatten (column [] p)) ps)) ≡ 0
unfolding flatten column
flat-none [] = refl
flat-none (p ∷ ps) = flat-none ps

pub held-size : (c : Cell) → length (held c) ≡ size c
unfolding held size
held-size (holds s) = refl
held-size differs = refl

flat-sizes : (c : ℕ → Cell) (ps : List ℕ) → length (flatten (map (λ p. held (c p)) ps)) ≡ sizes (map c ps)
unfolding flatten sizes
flat-sizes c [] = refl
flat-sizes c (p ∷ ps) = simp length-append (omega (arith, held-size (c p), flat-sizes c ps))

-- the columns have the objects of the snapshots
columns-objects :
    (n : ℕ) (ss : List Snapshot) → Each (λ s. length s.cells ≡ n) ss → length (flatten (map (λ p. flatten (column ss p)) (up_to n))) ≡ objects ss
unfolding column flatten objects
columns-objects n [] h = flat-none (up_to n)
columns-objects n (s ∷ ss) h =
    flat-add (λ p. held (cell_at s p)) (λ p. flatten (column ss p)) (up_to n)
    ∙ ap₂ (λ (a b : ℕ). a + b) (flat-sizes (cell_at s) (up_to n)
    ∙ unfold cell_at in (ap sizes (map-get_d s.cells (holds []) n (h s (Memᴰ.head refl)))))
    (columns-objects n ss (λ z m. h z (Memᴰ.tail m)))

-- a snapshot has no more objects than its dossier
pub sizes-in : (ss : List Snapshot) (z : Snapshot) → Memᴰ z ss → sizes z.cells ≤ objects ss
unfolding objects
sizes-in [] z x' = elim x' [ ]
sizes-in (s ∷ ss) z (Memᴰ.head e) = rw e (omega arith)
sizes-in (s ∷ ss) z (Memᴰ.tail m) = omega (arith, sizes-in ss z m)

objects-most : (n : ℕ) (ss : List Snapshot) → Each (λ s. sizes s.cells ≤ n) ss → objects ss ≤ length ss * n
unfolding objects
objects-most n [] h = zero-le
objects-most n (s ∷ ss) h = rw (suc-mul (length ss) n) (omega (arith, h s (Memᴰ.head refl), objects-most n ss (λ z m. h z (Memᴰ.tail m))))

module _ (t : TypeView) where
  pub merged-objects :
      (d : Dossier) → Each (λ s. length s.cells ≡ t.width) d.snapshots → length (flatten (merged_sets t d)) ≤ objects d.snapshots
  unfolding merged_sets merged_at places
  merged-objects d h =
      omega (
        arith,
        columns-objects t.width d.snapshots h,
        flat-less (merged_at t d) (λ p. flatten (column d.snapshots p)) (up_to t.width)
            (λ p. merged-length (t.replaces p) (t.choice p) (column d.snapshots p)),
      )

module _ {Event : Type 0} (t : View Event) where
  -- "a merged event: packed event form with up to .. 256 objects": 8 versions of at most 32 objects, or 256 objects of an unversioned type
  pub merged-limit :
      (l : Limits) (n most : ℕ) (es : List Event) → fits l t.type (rule t es) ≡ true → l.versions * n ≤ most → l.objects ≤ most →
      Each (λ e. count t e (places t.type) ≤ n) es → length (flatten (merged_sets t.type (rule t es))) ≤ most
  merged-limit l n most es f k o h =
      let (a, b, c) = fits-bounds l t.type (rule t es) f in
      let m : length (flatten (merged_sets t.type (rule t es))) ≤ objects (rule t es).snapshots = merged-objects t.type (rule t es)
      (λ z i. cells-length t es z i) in
      truth t.type.versioned
      (λ u. omega (arith, objects-most n (rule t es).snapshots (λ z i. snapshot-objects t es z i u n h), mul-le-mul_right n b))
      (λ u. omega (arith, c u))
