-- The laws of question 5, place by place.
use mathlib.Core.Path.{◌≡◌, refl, sym, ap, ap₂, ◌∙◌, subst}
use mathlib.Core.Bool.{Bool, true, false, cond, not, ◌&&◌, ◌||◌}
use mathlib.Core.Option.{Option, none, some}
use mathlib.Core.List.{List, [], ◌∷◌}
use Prim.Native.Nat.{ℕ, zero, suc, ◌+◌, ◌-◌, ◌≤◌, ◌<◌, min}
use native.Mathlib.Omega.{arith}
use native.Mathlib.Numerals.{add-one}
use native.Mathlib.Nat.{zero-add}
use lib.Dec.{eqb}
use lib.ListN.{length, drop, get_or, get_elem?, drop_of_length-le}
use lib.Seq.{drop-cons}
use borrow.Author.Tests.{le-leb, lt-leb, ne_eqb, not-true, not-false}
use Rattle.model.specs.Order.{Text}
use Rattle.model.proofs.Cases.{and-true, and-false}
use Rattle.ontology.specs.Table.{Property, EventType, is_match, at_place}
use Rattle.ontology.specs.code.TypeIndex.{PropertyIs, property_in, PropertiesAre, has_match}
use Rattle.ontology.specs.declared.properties.PropertyAt.{PropertyAt}
use Rattle.ontology.proofs.TypeIndexLaws.{match-of}
use Rattle.event.specs.Event.{Event, object_count}
use Rattle.event.specs.EventQuestions.{each_place, is_empty, set_fits, match_count, event_shape}
use Rattle.event.specs.code.EventIndex.{set_in, SetsAre}
use Rattle.event.specs.declared.sets.SetAt.{SetAt}

-- ---- a set

module _ (q : Property) (vs : List Text) where
  pub fits-none : length vs ≡ 0 → set_fits q vs ≡ q.optional
  unfolding set_fits
  fits-none h = rw h (go q.optional q.multivalued)
    where
      go : (a b : Bool) → ((a || false) && (b || true)) ≡ a
      go true true = refl
      go true false = refl
      go false b = refl

  pub fits_one : length vs ≡ 1 → set_fits q vs ≡ true
  unfolding set_fits
  fits_one h = rw h (go q.optional q.multivalued)
    where
      go : (a b : Bool) → ((a || true) && (b || true)) ≡ true
      go true true = refl
      go true false = refl
      go false true = refl
      go false false = refl

  pub fits_more : (length vs ≡ 0 → ⊥) → (length vs ≡ 1 → ⊥) → set_fits q vs ≡ q.multivalued
  unfolding set_fits
  fits_more h k = rw (le-leb 1 (length vs) (omega (arith, h)), lt-leb (length vs) 1 (omega (arith, h, k))) (go q.optional q.multivalued)
    where
      go : (a b : Bool) → ((a || true) && (b || false)) ≡ b
      go true true = refl
      go true false = refl
      go false true = refl
      go false false = refl

-- the match objects of a property, by its index
matches-are :
    {s : List ℕ} {n : ℕ} {x : PropertyAt} (q : Property) (vs : List Text) → PropertyIs s q x → n ≡ length vs →
    cond (has_match x) n 0 ≡ cond (is_match q) (length vs) 0
matches-are q vs w f = ap₂ (λ (b : Bool) (n : ℕ). cond b n 0) (match-of w) f

-- ---- a place

none-past : {A : Type 0} (xs : List A) (i : ℕ) → get_elem? xs i ≡ none → length xs ≤ i
none-past [] i e = omega arith
none-past (x ∷ xs) zero e = let z : ◌≡◌ {A = ℕ} 0 1 = cc in absurd (omega arith)
none-past (x ∷ xs) (suc i) e = omega (arith, none-past xs i e)

-- what is said of a place that has a property
pub place-said :
    {A : Type 0} (s : List ℕ) (t : EventType) (n : ℕ) (ps : List ℕ) (k : ℕ) (b : A) (f : Property → A) (a : A) →
    PropertiesAre s t.properties n ps → k < n →
    ((q : Property) → get_elem? t.properties k ≡ some q → PropertyIs s q (property_in ps k) → a ≡ f q) →
    a ≡ at_place b f (get_elem? t.properties k)
unfolding at_place
place-said s t n ps k b f a w h g = go (get_elem? t.properties k) refl
  where
    go : (o : Option Property) → get_elem? t.properties k ≡ o → a ≡ at_place b f o
    go none e = absurd (omega (arith, w.count, h, none-past t.properties k e))
    go (some q) e = g q e (w.each k q e)

-- ---- all places

module _ (f : Property → List Text → Bool) (g : List Text → Bool) where
  past-step : (k : ℕ) (ss : List (List Text)) → k < length ss →
      each_place f g [] (drop k ss) ≡ (g (get_or ss k []) && each_place f g [] (drop (suc k) ss))
  unfolding each_place
  past-step k [] h = absurd (omega arith)
  past-step zero (s ∷ ss) h = refl
  past-step (suc k) (s ∷ ss) h = past-step k ss (omega arith)

  place-step :
      (k : ℕ) (ps : List Property) (ss : List (List Text)) → k < length ss →
      each_place f g (drop k ps) (drop k ss)
      ≡ (at_place (g (get_or ss k [])) (λ q. f q (get_or ss k [])) (get_elem? ps k) && each_place f g (drop (suc k) ps) (drop (suc k) ss))
  unfolding each_place at_place
  place-step k ps [] h = absurd (omega arith)
  place-step zero [] (s ∷ ss) h = refl
  place-step zero (p ∷ ps) (s ∷ ss) h = refl
  place-step (suc k) [] (s ∷ ss) h = past-step k ss (omega arith)
  place-step (suc k) (p ∷ ps) (s ∷ ss) h = place-step k ps ss (omega arith)

  pub each_step :
      (k : ℕ) (ps : List Property) (ss : List (List Text)) → k < length ss →
      each_place f g (drop k ps) (drop k ss)
      ≡ (at_place (g (get_or ss k [])) (λ q. f q (get_or ss k [])) (get_elem? ps k) && each_place f g (drop (k + 1) ps) (drop (k + 1) ss))
  each_step k ps ss h = rw (add-one k) (place-step k ps ss h)

-- the match objects of a place
abbrev matches_at : Option Property → List Text → ℕ
matches_at o s = at_place 0 (λ q. cond (is_match q) (length s) 0) o

count-step :
    (k : ℕ) (ps : List Property) (ss : List (List Text)) → k < length ss →
    match_count (drop k ps) (drop k ss) ≡ matches_at (get_elem? ps k) (get_or ss k []) + match_count (drop (suc k) ps) (drop (suc k) ss)
unfolding match_count at_place
count-step k ps [] h = absurd (omega arith)
count-step zero [] (s ∷ ss) h = refl
count-step zero (p ∷ ps) (s ∷ ss) h = refl
count-step (suc k) [] (s ∷ ss) h = refl
count-step (suc k) (p ∷ ps) (s ∷ ss) h = count-step k ps ss (omega arith)

match-step :
    (k : ℕ) (ps : List Property) (ss : List (List Text)) → k < length ss →
    match_count (drop k ps) (drop k ss) ≡ matches_at (get_elem? ps k) (get_or ss k []) + match_count (drop (k + 1) ps) (drop (k + 1) ss)
match-step k ps ss h = rw (add-one k) (count-step k ps ss h)

match-end : (k : ℕ) (ps : List Property) (ss : List (List Text)) → length ps ≤ k → match_count (drop k ps) (drop k ss) ≡ 0
unfolding match_count
match-end k ps ss l = rw (drop_of_length-le ps l)

objects-step : (k : ℕ) (ss : List (List Text)) → k < length ss → object_count (drop k ss) ≡ length (get_or ss k []) + object_count (drop (k + 1) ss)
unfolding object_count
objects-step k ss h = rw (drop-cons ss k [] h, add-one)

-- where there is no property, there are no objects
all-empty : (f : Property → List Text → Bool) (ss : List (List Text)) → each_place f is_empty [] ss ≡ eqb (object_count ss) 0
unfolding each_place object_count
all-empty f [] = refl
all-empty f ([] ∷ ss) = rw zero-add (all-empty f ss)
all-empty f ((v ∷ vs) ∷ ss) = rw (ne_eqb (length (v ∷ vs)) 0 (λ e. omega arith), ne_eqb (length (v ∷ vs) + object_count ss) 0 (λ e. omega arith))

-- the answers on the places from k on: whether they fit, and how many match objects they have
abbrev fit_from : EventType → Event → ℕ → Bool
fit_from t x k = each_place set_fits is_empty (drop k t.properties) (drop k x.sets)

abbrev matches_from : EventType → Event → ℕ → ℕ
matches_from t x k = match_count (drop k t.properties) (drop k x.sets)

-- The places below k fit, and have so many match objects; the others have `left` objects
record Shape (t : EventType) (x : Event) (left matches k : ℕ) : Type 0 where
  each : fit_from t x 0 ≡ fit_from t x k
  count : matches_from t x 0 ≡ matches + matches_from t x k
  objects : left ≡ object_count (drop k x.sets)

-- so much is known of the numbers of a type and of an event
abbrev pub Shaped : ℕ → List ℕ → ℕ → List ℕ → (EventType → Event → Type 0) → Type 0
Shaped count ps objects ats f =
    (table event : List ℕ) (t : EventType) (x : Event) → PropertiesAre table t.properties count ps → SetsAre event x.sets ats →
    objects ≡ object_count x.sets → f t x

pub record ShapeTo (count : ℕ) (ps : List ℕ) (objects : ℕ) (ats : List ℕ) (left matches k : ℕ) : Type 0 where
  pub few : matches ≤ 32
  shape : Shaped count ps objects ats (λ t x. Shape t x left matches k)

pub shape-none : {count : ℕ} {ps : List ℕ} {objects : ℕ} {ats : List ℕ} → ShapeTo count ps objects ats objects 0 0
shape-none = record { few = omega arith; shape = λ table event t x are is n. record { each = refl; count = omega arith; objects = n } }

module _ {count : ℕ} {ps : List ℕ} {objects : ℕ} {ats : List ℕ} {left matches k : ℕ} (w : ShapeTo count ps objects ats left matches k) where
  -- place k has a property; its property p and its set v are taken from the numbers
  module _ {p : PropertyAt} {v : SetAt} (inside : k < 32) (there : k < count) (property : p ≡ property_in ps k) (set : v ≡ set_in ats k) where
    set-count : {event : List ℕ} {xs : List (List Text)} → SetsAre event xs ats → v.count ≡ length (get_or xs k [])
    set-count is = ap (λ (y : SetAt). y.count) set ∙ (is.each k inside).count

    place_inside : {event : List ℕ} {xs : List (List Text)} → SetsAre event xs ats → k < length xs
    place_inside is = omega (arith, inside, is.long)

    objects-here :
        {event : List ℕ} {xs : List (List Text)} → SetsAre event xs ats →
        object_count (drop k xs) ≡ length (get_or xs k []) + object_count (drop (k + 1) xs)
    objects-here {xs} is = objects-step k xs (place_inside is)

    property-read : {s : List ℕ} {q : Property} → PropertyIs s q (property_in ps k) → PropertyIs s q p
    property-read {s} {q} is = subst (PropertyIs s q) (sym property) is

    pub shape-few : left < v.count → Shaped count ps objects ats (λ t x. false ≡ event_shape t x)
    shape-few l table event t x are is n =
        absurd (omega (arith, (w.shape table event t x are is n).objects, objects-here is, set-count is))

    -- the set fits as is answered
    module _
        {fits : Bool} (asked : (s : List ℕ) (q : Property) (vs : List Text) → PropertyIs s q p → v.count ≡ length vs → fits ≡ set_fits q vs) where
      fit_next : Shaped count ps objects ats (λ t x. fit_from t x 0 ≡ (fits && fit_from t x (k + 1)))
      fit_next table event t x are is n =
          let vs = get_or x.sets k [] in
          let told =
          place-said table t count ps k (is_empty vs) (λ q. set_fits q vs) fits are there
          (λ q i z. asked table q vs (property-read z) (set-count is)) in
          (w.shape table event t x are is n).each
          ∙ each_step set_fits is_empty k t.properties x.sets (place_inside is)
          ∙ ap (λ (b : Bool). b && fit_from t x (k + 1)) (sym told)

      pub shape-not : not fits ≡ true → Shaped count ps objects ats (λ t x. false ≡ event_shape t x)
      unfolding event_shape
      shape-not e table event t x are is n = sym (rw (fit_next table event t x are is n, not-true fits e))

    -- and has so many match objects
    module _ {n : ℕ} (matched : n ≡ cond (has_match p) v.count 0) where
      matches-next : Shaped count ps objects ats (λ t x. matches_from t x 0 ≡ matches + (n + matches_from t x (k + 1)))
      matches-next table event t x are is o =
          let vs = get_or x.sets k [] in
          let told : n ≡ matches_at (get_elem? t.properties k) vs =
          place-said table t count ps k 0 (λ q. cond (is_match q) (length vs) 0) n are there
          (λ q i z. matched ∙ matches-are q vs (property-read z) (set-count is)) in
          omega (arith, (w.shape table event t x are is o).count, match-step k t.properties x.sets (place_inside is), told)

      pub shape-many : 32 - matches < n → Shaped count ps objects ats (λ t x. false ≡ event_shape t x)
      unfolding event_shape
      shape-many l table event t x are is o =
          let many : 32 < matches_from t x 0 = omega (arith, matches-next table event t x are is o, w.few) in
          sym (ap (λ (b : Bool). fit_from t x 0 && b) (lt-leb _ _ many) ∙ and-false (fit_from t x 0))

      pub shape-more :
          {fits : Bool} → ((s : List ℕ) (q : Property) (vs : List Text) → PropertyIs s q p → v.count ≡ length vs → fits ≡ set_fits q vs) →
          not fits ≡ false → n ≤ 32 - matches → ShapeTo count ps objects ats (left - v.count) (matches + n) (k + 1)
      shape-more {fits} asked e l = record {
        few = omega (arith, w.few);
        shape = λ table event t x are is o. record {
          each = fit_next asked table event t x are is o ∙ ap (λ (b : Bool). b && fit_from t x (k + 1)) (not-false fits e);
          count = omega (arith, matches-next table event t x are is o);
          objects = omega (arith, (w.shape table event t x are is o).objects, objects-here is, set-count is);
        };
      }

  pub shape-end : min count 32 ≤ k → Shaped count ps objects ats (λ t x. eqb left 0 ≡ event_shape t x)
  unfolding event_shape
  shape-end past table event t x are is n =
      let s = w.shape table event t x are is n in
      let l : length t.properties ≤ k = omega (arith, are.count, are.few) in
      let c : matches_from t x 0 ≤ 32 = omega (arith, s.count, match-end k t.properties x.sets l, w.few) in
      sym (rw (s.each, drop_of_length-le t.properties l, all-empty set_fits (drop k x.sets), ← s.objects, le-leb _ _ c) (and-true (eqb left 0)))
