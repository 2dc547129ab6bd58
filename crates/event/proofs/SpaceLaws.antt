-- The laws of question 6, text by text and place by place.
use mathlib.Core.Path.{◌≡◌, refl, sym, ap, ◌∙◌}
use mathlib.Core.Bool.{Bool, true, false, not, ◌&&◌}
use mathlib.Core.Option.{Option, some}
use mathlib.Core.List.{List, [], ◌∷◌, map, flatten}
use Prim.Native.Nat.{ℕ, ◌+◌, ◌-◌, ◌^◌, ◌≤◌, ◌<◌, min}
use native.Mathlib.Omega.{arith}
use lib.Dec.{leb}
use lib.ListN.{length, drop, get_or, get_elem?, length-append, length-drop, drop_of_length-le}
use borrow.Author.Tests.{not-true, not-false}
use Rattle.model.specs.Order.{Text}
use Rattle.packed.specs.Packed.{text, part}
use Rattle.packed.specs.code.Located.{text_at}
use Rattle.packed.proofs.ReadLaws.{part_length}
use Rattle.packed.proofs.LayoutLaws.{text-length, number-bounds}
use Rattle.values.specs.Spaces.{Kind, string, is_kind, in_space}
use Rattle.values.specs.code.KindNumbers.{kind_of}
use Rattle.values.specs.code.LowBytes.{AllLow}
use Rattle.values.proofs.SpaceLaws.{kind-numbered, short-string}
use Rattle.values.proofs.UnicodeLaws.{low_part}
use Rattle.ontology.specs.Table.{Property, EventType, at_place}
use Rattle.ontology.specs.declared.properties.PropertyAt.{PropertyAt}
use Rattle.ontology.specs.code.TypeIndex.{KindIs, property_in, PropertiesAre}
use Rattle.event.specs.EventQuestions.{each_place, are_in_space, values_fit}
use Rattle.event.specs.code.EventIndex.{SetIs, set_in, SetsAre, KindsAre}
use Rattle.event.specs.declared.sets.SetAt.{SetAt}
use Rattle.event.proofs.AnswerLaws.{text-got, text-not}
use Rattle.event.proofs.SetLaws.{set-read}
use Rattle.event.proofs.LookupLaws.{text-there, text-next}
use Rattle.event.proofs.ShapeLaws.{place-said, each_step}
use Rattle.std.specs.Prelude.{Some, None}
use Rattle.std.specs.Prelude as std
use Rattle.packed.specs.declared.read.TextAt.{TextAt}

-- the kind that an index has the numbers of
kind-of : (k : Kind) (kind size after sign : ℕ) → KindIs k kind size after sign → kind_of kind size after sign ≡ some k
kind-of k kind size after sign w = rw (w.number, w.size_is, w.after_is, w.sign-is) (kind-numbered k)

-- ---- texts

-- b is the answer on the texts from `at` on, of each kind that p is said of
abbrev SpaceFrom : (Kind → Type 0) → List ℕ → ℕ → Bool → Type 0
SpaceFrom p v at b = (k : Kind) (vs : List Text) → p k → drop at v ≡ flatten (map text vs) → b ≡ are_in_space k vs

-- the answer on all of them is that on those from `at` on
pub record SpaceTo (p : Kind → Type 0) (v : List ℕ) (at : ℕ) : Type 0 where
  on : (b : Bool) → SpaceFrom p v at b → SpaceFrom p v 0 b

pub space-none : {p : Kind → Type 0} {v : List ℕ} → SpaceTo p v 0
space-none = record { on = λ b h. h }

module _ {p : Kind → Type 0} {v : List ℕ} {at : ℕ} (w : SpaceTo p v at) where
  pub space-end : length v ≤ at → SpaceFrom p v 0 true
  unfolding are_in_space flatten
  space-end h = w.on true here
    where
      here : SpaceFrom p v at true
      here k [] q d = refl
      here k (u ∷ us) q d =
          absurd (omega (arith, length-drop at v, ap length d, length-append (text u) (flatten (map text us)), text-length u, (number-bounds (length u)).0))

  module _ (small : length v < 2 ^ 64) (l : at < length v) {r : std.Option TextAt} (told : r ≡ text_at v at) where
    pub space-bad : r ≡ None → SpaceFrom p v 0 false
    unfolding flatten
    space-bad f = w.on false here
      where
        here : SpaceFrom p v at false
        here k [] q d = absurd (omega (arith, length-drop at v, ap length d))
        here k (u ∷ us) q d = absurd (text-there v small at (omega arith) u (flatten (map text us)) d (text-not v at told f))

    -- b is the answer on the next text
    module _ {x : TextAt} (is : r ≡ Some x) {b : Bool} (asked : (k : Kind) → p k → b ≡ in_space k (part v x.start x.end)) where
      -- and that on the others
      step :
          (k : Kind) (vs : List Text) → p k → drop at v ≡ flatten (map text vs) →
          (us : List Text) × (drop x.end v ≡ flatten (map text us)) × (are_in_space k vs ≡ (b && are_in_space k us))
      unfolding are_in_space flatten
      step k [] q d = absurd (omega (arith, length-drop at v, ap length d))
      step k (u ∷ us) q d =
          let n = text-next v small at (omega arith) u (flatten (map text us)) d x.start x.end (text-got told is) in
          (us, n.2.rest, ap (λ (c : Bool). c && are_in_space k us) (sym (asked k q ∙ ap (in_space k) n.0)))

      pub space-not : not b ≡ true → SpaceFrom p v 0 false
      space-not f = w.on false λ k vs q d. let n = step k vs q d in sym (n.2 ∙ ap (λ (c : Bool). c && are_in_space k n.0) (not-true b f))

      pub space-more : not b ≡ false → SpaceTo p v x.end
      space-more f = record {
        on = λ o g. w.on o λ k vs q d.
            let n = step k vs q d in
            g k n.0 q n.1 ∙ sym (n.2 ∙ ap (λ (c : Bool). c && are_in_space k n.0) (not-false b f));
      }

-- a kind that has these numbers
abbrev pub KindHere : ℕ → ℕ → ℕ → ℕ → Kind → Type 0
KindHere kind size after sign k = (kind_of kind size after sign ≡ some k) × (is_kind k ≡ true)

-- a text without a byte above 7F is told by its length
pub short-fits :
    (v : List ℕ) (at : ℕ) {x : TextAt} {most : ℕ} {r : std.Option TextAt} {b : Bool} → r ≡ text_at v at → r ≡ Some x →
    b ≡ (leb 1 (x.end - x.start) && leb (x.end - x.start) 120 && leb (x.end - x.start) most) →
    (k : Kind) → (k ≡ string most) × AllLow v → b ≡ in_space k (part v x.start x.end)
short-fits v at {x} {most} h is e k q =
    let t = text-got h is in
    e ∙ ap (λ (n : ℕ). leb 1 n && leb n 120 && leb n most) (sym (part_length v x.start x.end t.order t.within))
    ∙ short-string most _ (low_part v _ _ t.order t.within q.1) ∙ ap (λ (a : Kind). in_space a (part v x.start x.end)) (sym q.0)

-- ---- places

abbrev place_space : Option Property → List Text → Bool
place_space o s = at_place true (λ q. are_in_space q.kind s) o

-- what is asked of a place that has a property
place-space :
    (table : List ℕ) (y : EventType) (n : ℕ) (ps : List ℕ) (k : ℕ) (vs : List Text) (r : Bool) →
    PropertiesAre table y.properties n ps → KindsAre y → k < n →
    let p = property_in ps k in
    ((a : Kind) → kind_of p.kind p.size p.after p.sign ≡ some a → is_kind a ≡ true → r ≡ are_in_space a vs) →
    r ≡ place_space (get_elem? y.properties k) vs
place-space table y n ps k vs r w kinds h f =
    place-said table y n ps k true (λ q. are_in_space q.kind vs) r w h (λ q e z. f q.kind (kind-of q.kind _ _ _ _ z.kind) (kinds k q e))

-- the kind of a property that was taken from the numbers
kind-read :
    {p q : PropertyAt} {a : Kind} → p ≡ q → kind_of q.kind q.size q.after q.sign ≡ some a →
    kind_of p.kind p.size p.after p.sign ≡ some a
kind-read {p} {q} e is = ap (λ (x : PropertyAt). kind_of x.kind x.size x.after x.sign) e ∙ is

-- where there is no property, nothing is asked
free : (f : Property → List Text → Bool) (ss : List (List Text)) → each_place f (λ s. true) [] ss ≡ true
unfolding each_place
free f [] = refl
free f (s ∷ ss) = free f ss

-- the answer on the places from k on
abbrev fit_from : EventType → List (List Text) → ℕ → Bool
fit_from t ss k = each_place (λ p s. are_in_space p.kind s) (λ s. true) (drop k t.properties) (drop k ss)

-- so much is known of a type and of the sets of an event
abbrev pub Spoken : List ℕ → List ℕ → ℕ → List ℕ → (EventType → List (List Text) → Type 0) → Type 0
Spoken s ats count ps f =
    (u : List ℕ) (ty : EventType) (xs : List (List Text)) → PropertiesAre u ty.properties count ps → KindsAre ty → SetsAre s xs ats → f ty xs

-- the places below k are in their spaces
pub record FitTo (s ats : List ℕ) (count : ℕ) (ps : List ℕ) (k : ℕ) : Type 0 where
  each : Spoken s ats count ps (λ ty xs. values_fit ty xs ≡ fit_from ty xs k)

-- b is the answer on place k
pub record FitAt (s ats : List ℕ) (count : ℕ) (ps : List ℕ) (k : ℕ) (b : Bool) : Type 0 where
  inside : k < 32
  told : Spoken s ats count ps (λ ty xs. b ≡ place_space (get_elem? ty.properties k) (get_or xs k []))

pub fit_none : {s ats : List ℕ} {count : ℕ} {ps : List ℕ} → FitTo s ats count ps 0
unfolding values_fit
fit_none = record { each = λ u ty xs w n v. refl }

pub fit_at :
    {s ats : List ℕ} {count : ℕ} {ps : List ℕ} {k : ℕ} {b : Bool} {p : PropertyAt} {x : SetAt} {v : List ℕ} →
    k < 32 → k < count → p ≡ property_in ps k → x ≡ set_in ats k →
    ((vs : List Text) → SetIs s vs x → v ≡ flatten (map text vs)) →
    ((a : Kind) (vs : List Text) → kind_of p.kind p.size p.after p.sign ≡ some a → is_kind a ≡ true → v ≡ flatten (map text vs) →
    b ≡ are_in_space a vs) →
    FitAt s ats count ps k b
fit_at {count} {ps} {k} {b} inside there property set values asked = record {
  inside = inside;
  told = λ u ty xs w kinds is.
      place-space u ty count ps k (get_or xs k []) b w kinds there
      (λ a h i. asked a (get_or xs k []) (kind-read property h) i (values (get_or xs k []) (set-read set (is.each k inside))));
}

module _ {s ats : List ℕ} {count : ℕ} {ps : List ℕ} {k : ℕ} (w : FitTo s ats count ps k) where
  module _ {b : Bool} (a : FitAt s ats count ps k b) where
    next : Spoken s ats count ps (λ ty xs. values_fit ty xs ≡ (b && fit_from ty xs (k + 1)))
    next u ty xs are kinds is =
        w.each u ty xs are kinds is
        ∙ each_step (λ p s. are_in_space p.kind s) (λ s. true) k ty.properties xs (omega (arith, a.inside, is.long))
        ∙ ap (λ (c : Bool). c && fit_from ty xs (k + 1)) (sym (a.told u ty xs are kinds is))

    pub fit-not : not b ≡ true → Spoken s ats count ps (λ ty xs. false ≡ values_fit ty xs)
    fit-not e u ty xs are kinds is = sym (next u ty xs are kinds is ∙ ap (λ (c : Bool). c && fit_from ty xs (k + 1)) (not-true b e))

    pub fit-more : not b ≡ false → FitTo s ats count ps (k + 1)
    fit-more e = record { each = λ u ty xs are kinds is. next u ty xs are kinds is ∙ ap (λ (c : Bool). c && fit_from ty xs (k + 1)) (not-false b e) }

  pub fit-end : min count 32 ≤ k → Spoken s ats count ps (λ ty xs. true ≡ values_fit ty xs)
  fit-end past u ty xs are kinds is =
      let l : length ty.properties ≤ k = omega (arith, are.count, are.few) in
      sym (w.each u ty xs are kinds is ∙ rw (drop_of_length-le ty.properties l) (free (λ p s. are_in_space p.kind s) (drop k xs)))
