-- A set of events that passes a limit passes it with more events too (`fits-within`) and under smaller limits (`fits-larger`); one event passes none
-- (`fits_one`). What is permitted is within its bounds (`permitted`).
use mathlib.Core.Path.{◌≡◌, refl, ap}
use mathlib.Core.Bool.{Bool, true, false, ◌||◌}
use mathlib.Core.List.Memᴰ
use mathlib.Core.List.{List, [], ◌∷◌, map, flatten, append-nil}
use Prim.Native.Nat.{ℕ, ◌≤◌, zero-le, suc-le-suc}
use lib.ListN.{length, take, length-map, length-take as length-take-min}
use lib.Dec.{leb}
use borrow.Author.Tests.{leb-true, le-leb}
use native.Mathlib.Omega.{arith}
use Rattle.model.specs.Order.{Text, numbers, texts}
use Rattle.model.specs.Sets.{Within, canon, smallest}
use Rattle.model.specs.Rule.{all_are, agreed, Choice, every, least, TypeView, View, places, Snapshot, Dossier, cell, of_version, cell_of, snapshot, rule_at}
use Rattle.model.specs.Rule.{rule, size, sizes, objects}
use Rattle.model.proofs.PartLaws.{count, map-within, flatten-within, only-within}
use Rattle.model.specs.Limits.{Limits, is_permitted, Permitted, NoLarger, fits}
use Rattle.model.proofs.Cases.{and_parts, or-part}
use Rattle.model.proofs.SetLaws.{ups-canon, canon-in, canon-of, total, total-within, length-canon-within, length-canon}
use Rattle.model.proofs.ValidLaws.{one-snapshot}

-- ---- what is permitted

pub permitted : (l : Limits) → is_permitted l ≡ true → Permitted l
unfolding is_permitted
permitted l h =
    let (a, o) = and_parts _ (leb l.objects 256) h in
    let (b, n) = and_parts _ (leb 32 l.objects) a in
    let (c, q) = and_parts _ (leb l.parents 32) b in
    let (d, p) = and_parts _ (leb 8 l.parents) c in
    let (u, v) = and_parts _ (leb l.versions 8) d in
    record {
      some-versions = leb-true _ _ u;
      few-versions = leb-true _ _ v;
      some-parents = leb-true _ _ p;
      few-parents = leb-true _ _ q;
      some-objects = leb-true _ _ n;
      few-objects = leb-true _ _ o;
    }

pub is-permitted : (l : Limits) → Permitted l → is_permitted l ≡ true
unfolding is_permitted
is-permitted l h =
    rw (
      le-leb _ _ h.some-versions,
      le-leb _ _ h.few-versions,
      le-leb _ _ h.some-parents,
      le-leb _ _ h.few-parents,
      le-leb _ _ h.some-objects,
      le-leb _ _ h.few-objects,
    )

-- ---- the limits as bounds

module _ (l : Limits) (t : TypeView) (d : Dossier) where
  pub fits-bounds :
      fits l t d ≡ true → (length d.parents ≤ l.parents) × (length d.snapshots ≤ l.versions)
      × (t.versioned ≡ false → objects d.snapshots ≤ l.objects)
  unfolding fits
  fits-bounds h =
      let (a, b) = and_parts _ _ h in
      let (c, e) = and_parts _ _ b in
      (leb-true _ _ a, leb-true _ _ c, λ u. leb-true _ _ (or-part _ _ e u))

  pub bounds-fit :
      length d.parents ≤ l.parents → length d.snapshots ≤ l.versions → (t.versioned ≡ false → objects d.snapshots ≤ l.objects) →
      fits l t d ≡ true
  unfolding fits
  bounds-fit a b c = rw (le-leb _ _ a, le-leb _ _ b) (go t.versioned refl)
    where
      go : (x : Bool) → t.versioned ≡ x → (x || leb (objects d.snapshots) l.objects) ≡ true
      go true u = refl
      go false u = le-leb _ _ (c u)

length-take : {A B : Type 0} (xs : List A) (ys : List B) → length xs ≤ length ys → length (take 1 xs) ≤ length (take 1 ys)
length-take [] ys h = zero-le
length-take (x ∷ xs) [] h = absurd (omega arith)
length-take (x ∷ xs) (y ∷ ys) h = suc-le-suc zero-le

size-within : (c : Choice) (ss ts : List (List Text)) → Within ss ts → size (cell false c ss) ≤ size (cell false c ts)
unfolding size cell smallest
size-within every ss ts h = length-canon-within texts (flatten ts) (flatten ss) (flatten-within ss ts h)
size-within (least O) ss ts h =
    length-take (canon O (flatten ss)) (canon O (flatten ts)) (length-canon-within O (flatten ts) (flatten ss) (flatten-within ss ts h))

objects-map : (f : ℕ → Snapshot) (vs : List ℕ) → objects (map f vs) ≡ total numbers (λ v. sizes (f v).cells) vs
unfolding objects total
objects-map f [] = refl
objects-map f (v ∷ vs) = rw (objects-map f vs)

module _ {Event : Type 0} (t : View Event) where
  sizes-within :
      (ps : List ℕ) (es fs : List Event) → t.type.versioned ≡ false → Within es fs → sizes (map (cell_of t es) ps) ≤ sizes (map (cell_of t fs) ps)
  unfolding sizes cell_of
  sizes-within [] es fs u h = zero-le
  sizes-within (p ∷ ps) es fs u h =
      let set : Event → List Text = λ x. t.event.set x p in
      let a : size (cell_of t es p) ≤ size (cell_of t fs p) = rw u (size-within (t.type.choice p) (map set es) (map set fs) (map-within set es fs h)) in
      let b : sizes (map (cell_of t es) ps) ≤ sizes (map (cell_of t fs) ps) = sizes-within ps es fs u h in
      omega arith

  module _ (es fs : List Event) (h : Within es fs) where
    versions-within : Within (canon numbers (map t.event.version es)) (canon numbers (map t.event.version fs))
    versions-within a m =
        canon-in numbers (map t.event.version fs) a (map-within t.event.version es fs h a (canon-of numbers (map t.event.version es) a m))

    fewer-parents : length (rule t es).parents ≤ length (rule t fs).parents
    unfolding rule
    fewer-parents =
        length-canon-within texts (flatten (map t.event.parents fs)) (flatten (map t.event.parents es))
        (flatten-within _ _ (map-within t.event.parents es fs h))

    fewer-snapshots : length (rule t es).snapshots ≤ length (rule t fs).snapshots
    unfolding rule
    fewer-snapshots =
        simp length-map (length-canon-within numbers (map t.event.version fs) (map t.event.version es) (map-within t.event.version es fs h))

    fewer-objects : t.type.versioned ≡ false → objects (rule t es).snapshots ≤ objects (rule t fs).snapshots
    unfolding rule rule_at snapshot of_version
    fewer-objects u =
        let few = map t.event.version es in
        let many = map t.event.version fs in
        rw (objects-map (rule_at t es) (canon numbers few), objects-map (rule_at t fs) (canon numbers many))
        (total-within numbers (λ v. sizes (rule_at t es v).cells) (λ v. sizes (rule_at t fs v).cells)
        (λ v. sizes-within (places t.type) (of_version t v es) (of_version t v fs) u (only-within numbers t.event.version v es fs h))
        (canon numbers many) (canon numbers few) (ups-canon numbers many) (ups-canon numbers few) versions-within)

no-larger : (l : Limits) → NoLarger l l
no-larger l = record { versions = omega arith; parents = omega arith; objects = omega arith }

-- every amount is no larger and every limit no smaller
module _ (t : TypeView) {l m : Limits} (w : NoLarger l m) where
  fits-less :
      (d e : Dossier) → length e.parents ≤ length d.parents → length e.snapshots ≤ length d.snapshots →
      (t.versioned ≡ false → objects e.snapshots ≤ objects d.snapshots) →
      fits l t d ≡ true → fits m t e ≡ true
  fits-less d e a b c h =
      let (x, y, z) = fits-bounds l t d h in
      bounds-fit m t e (omega (arith, w.parents)) (omega (arith, w.versions)) (λ u. omega (arith, c u, z u, w.objects))

  -- larger limits accept what smaller ones accept
  pub fits-larger : (d : Dossier) → fits l t d ≡ true → fits m t d ≡ true
  fits-larger d = fits-less d d (omega arith) (omega arith) (λ u. omega arith)

module _ {Event : Type 0} (l : Limits) (t : View Event) where
  -- with fewer events no limit is passed that was not passed before
  pub fits-within : (es fs : List Event) → Within es fs → fits l t.type (rule t fs) ≡ true → fits l t.type (rule t es) ≡ true
  fits-within es fs h =
      fits-less t.type (no-larger l) (rule t fs) (rule t es) (fewer-parents t es fs h) (fewer-snapshots t es fs h)
      (fewer-objects t es fs h)

-- one event is inside the limits
module _ {Event : Type 0} (t : View Event) (e : Event) where
  flatten-one : {A : Type 0} (xs : List A) → flatten (xs ∷ []) ≡ xs
  unfolding flatten
  flatten-one xs = append-nil xs

  size-one : (b : Bool) (c : Choice) (s : List Text) → size (cell b c (s ∷ [])) ≤ length s
  unfolding size cell agreed all_are smallest
  size-one true c s = omega arith
  size-one false every s = rw (flatten-one s) (length-canon texts s)
  size-one false (least O) s = rw (flatten-one s) (let a : length (canon O s) ≤ length s = length-canon O s in simp length-take-min (omega arith))

  sizes-one : (ps : List ℕ) → sizes (map (cell_of t (e ∷ [])) ps) ≤ count t e ps
  unfolding sizes cell_of count
  sizes-one [] = zero-le
  sizes-one (p ∷ ps) = omega (arith, size-one t.type.versioned (t.type.choice p) (t.event.set e p), sizes-one ps)

  own-snapshot : (rule t (e ∷ [])).snapshots ≡ snapshot t (t.event.version e) (e ∷ []) ∷ []
  own-snapshot = one-snapshot t (t.event.version e) e [] (λ d m. ap t.event.version (Memᴰ.eq_of_singleton m))

  few-objects : objects (rule t (e ∷ [])).snapshots ≤ count t e (places t.type)
  unfolding objects snapshot
  few-objects = rw own-snapshot (omega (arith, sizes-one (places t.type)))

  few-parents : length (rule t (e ∷ [])).parents ≤ length (t.event.parents e)
  unfolding rule
  few-parents = rw (flatten-one (t.event.parents e)) (length-canon texts (t.event.parents e))

  pub fits_one :
      (l : Limits) → 1 ≤ l.versions → length (t.event.parents e) ≤ l.parents → count t e (places t.type) ≤ l.objects →
      fits l t.type (rule t (e ∷ [])) ≡ true
  fits_one l v a b = bounds-fit l t.type (rule t (e ∷ [])) (omega (arith, few-parents)) (rw own-snapshot v) (λ u. omega (arith, few-objects))
