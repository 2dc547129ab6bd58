-- What the merged event has of the events: one event opens as itself, a match property keeps its set, every value is a value of an event.
use mathlib.Core.Path.{◌≡◌, refl, sym, ◌∙◌, ap}
use mathlib.Core.Logic.{◌⊎◌, inl, inr, ⊎_elim, ◌↔◌}
use mathlib.Core.Bool.{Bool, true, false, ◌&&◌}
use mathlib.Core.Option.{Option, none, some}
use mathlib.Core.List.{List, [], ◌∷◌, map, flatten, Memᴰ}
use mathlib.Core.List.Memᴰ
use Prim.Native.Nat.{ℕ, ◌≤◌, ◌<◌}
use lib.ListN.{length, get_or}
use lib.Dec.{leb}
use borrow.Author.Tests.{lt-leb, leb-false}
use native.Mathlib.Omega.{arith}
use Rattle.model.specs.Order.{Order, Text, texts}
use Rattle.model.specs.Sets.{Within, Ups, canon, smallest}
use Rattle.model.specs.Rule.{Cell, holds, differs, Choice, every, least, TypeView, View, places, Snapshot, Dossier, cell_of, snapshot, rule}
use Rattle.model.specs.Opening.{finds, cell_at, held, Conflict, no_conflict, differs_at, conflict}
use Rattle.model.specs.Opening.{column, last_of, merged_set, conflict_at, overfull_at, merged}
use Rattle.model.specs.Opening.{first_of, merged_at, merged_sets, overfull, opening}
use Rattle.model.specs.Clashes.{NoClash}
use Rattle.model.proofs.WayClaims.{Each, Has}
use Rattle.model.proofs.Cases.{never, truth}
use Rattle.model.proofs.SetLaws.{ups-canon, canon-in, canon-of}
use Rattle.model.proofs.PartLaws.{map_same, flatten-in, flatten-of, get_d-up_to}
use Rattle.model.proofs.ValidLaws.{canon-alike, cell-one, smallest-one, has_first, take-of, ups-take, in-places, ups-places, cell-at-snapshot}
use Rattle.model.proofs.ValidLaws.{one-snapshot}
use Rattle.model.proofs.DossierLaws.{snapshot-in, cell-value, cell-rises, cell-mandatory, match-cells}
use Rattle.model.proofs.ClashLaws.{lowest-none, none-lowest, conflict-none, no-conflict-exact, opening-free}

last-member : (ss : List (List Text)) → Has ss → Memᴰ (last_of ss) ss
unfolding last_of
last-member [] n = absurd (Memᴰ.not-nil n.1)
last-member (s ∷ []) n = Memᴰ.head refl
last-member (s ∷ r ∷ ss) n = Memᴰ.tail (last-member (r ∷ ss) (r, Memᴰ.head refl))

-- the values of a merged set are values of its column, and it rises where the column's sets do
merged-within : (r : Bool) (c : Choice) (ss : List (List Text)) → Within (merged_set r c ss) (flatten ss)
unfolding merged_set smallest
merged-within true c [] a m = unfold last_of in (absurd (Memᴰ.not-nil m))
merged-within true c (s ∷ ss) a m = flatten-in (s ∷ ss) (last_of (s ∷ ss)) a (last-member (s ∷ ss) (s, Memᴰ.head refl)) m
merged-within false every ss a m = canon-of texts (flatten ss) a m
merged-within false (least O) ss a m = canon-of O (flatten ss) a (take-of (canon O (flatten ss)) a m)

merged-ups : (r : Bool) (c : Choice) (ss : List (List Text)) → Each (Ups texts) ss → Ups texts (merged_set r c ss)
unfolding merged_set smallest
merged-ups true c [] u = unfold last_of in tt
merged-ups true c (s ∷ ss) u = u (last_of (s ∷ ss)) (last-member (s ∷ ss) (s, Memᴰ.head refl))
merged-ups false every ss u = ups-canon texts (flatten ss)
merged-ups false (least O) ss u = ups-take (canon O (flatten ss))

-- it has a value where the column's sets do
merged-has : (r : Bool) (c : Choice) (ss : List (List Text)) → Has ss → Each Has ss → Has (merged_set r c ss)
unfolding merged_set smallest
merged-has true c ss n h = h (last_of ss) (last-member ss n)
merged-has false every ss n h = let (a, m) = h n.0 n.1 in (a, canon-in texts (flatten ss) a (flatten-in ss n.0 a n.1 m))
merged-has false (least O) ss n h =
    let (a, m) = h n.0 n.1 in has_first (canon O (flatten ss)) (a, canon-in O (flatten ss) a (flatten-in ss n.0 a n.1 m))

merged-alone :
    (r : Bool) (c : Choice) (s : List Text) → Ups texts s → ((O : Order Text) → c ≡ least O → length s ≤ 1) → merged_set r c (s ∷ []) ≡ s
unfolding merged_set
merged-alone true c s u h = unfold last_of in refl
merged-alone false every s u h = canon-alike (s ∷ []) s u (s, Memᴰ.head refl) (λ a m. Memᴰ.eq_of_singleton m)
merged-alone false (least O) s u h = smallest-one O s (h O refl)

module _ (t : TypeView) where
  pub merged-sets-at : (d : Dossier) (p : ℕ) → p < t.width → get_or (merged_sets t d) p [] ≡ merged_at t d p
  unfolding merged_sets places
  merged-sets-at d p h = get_d-up_to t.width (merged_at t d) [] p h

  -- what a merged event is, of any dossier
  module _ (d : Dossier) where
    pub opening-merged :
        (ss : List (List Text)) → opening t d ≡ merged ss →
        (conflict (places t) d.snapshots ≡ no_conflict) × (overfull t d ≡ none) × (merged_sets t d ≡ ss)
    unfolding opening first_of
    opening-merged ss h = go (conflict (places t) d.snapshots) (overfull t d) refl refl
      where
        go :
            (c : Conflict) (m : Option ℕ) → conflict (places t) d.snapshots ≡ c → overfull t d ≡ m →
            (conflict (places t) d.snapshots ≡ no_conflict) × (overfull t d ≡ none) × (merged_sets t d ≡ ss)
        go (differs_at v p) m e f = let q : finds (conflict_at v p) ≡ merged ss = rw e at h in never (cc)
        go no_conflict (some p) e f = let q : finds (overfull_at p) ≡ merged ss = rw (e, f) at h in never (cc)
        go no_conflict none e f = let q : merged (merged_sets t d) ≡ merged ss = rw (e, f) at h in (e, f, cc)

    pub opening-overfull :
        (p : ℕ) → (opening t d ≡ finds (overfull_at p)) ↔ ((conflict (places t) d.snapshots ≡ no_conflict) × (overfull t d ≡ some p))
    unfolding opening first_of
    opening-overfull p = (λ h. go (conflict (places t) d.snapshots) (overfull t d) refl refl h, λ h. rw (h.0, h.1))
      where
        go :
            (c : Conflict) (m : Option ℕ) → conflict (places t) d.snapshots ≡ c → overfull t d ≡ m → opening t d ≡ finds (overfull_at p) →
            (conflict (places t) d.snapshots ≡ no_conflict) × (overfull t d ≡ some p)
        go (differs_at v q) m e f h = let k : finds (conflict_at v q) ≡ finds (overfull_at p) = rw e at h in never (cc)
        go no_conflict (some q) e f h = let k : finds (overfull_at q) ≡ finds (overfull_at p) = rw (e, f) at h in (e, cc)
        go no_conflict none e f h = let k : merged (merged_sets t d) ≡ finds (overfull_at p) = rw (e, f) at h in never (cc)

    -- "overfull (lowest single-valued place that would get more than one object)": without it, every single-valued place has at most one
    pub merged-single : overfull t d ≡ none → (p : ℕ) → p < t.width → t.single p ≡ true → length (merged_at t d p) ≤ 1
    unfolding overfull
    merged-single h p lt s =
        truth (leb 2 (length (merged_at t d p)))
        (λ y. absurd (lowest-none (λ q. t.single q && leb 2 (length (merged_at t d q))) (places t) h p ((in-places t p).0 lt) (rw (s, y))))
        (λ y. omega (arith, leb-false 2 (length (merged_at t d p)) y))

module _ {Event : Type 0} (t : View Event) where
  module _ (es : List Event) (p : ℕ) (lt : p < t.type.width) where
    -- a set of the rule's column is empty, as at a mark, or a snapshot's set
    column-set :
        (s : List Text) → Memᴰ s (column (rule t es).snapshots p) →
        (s ≡ []) ⊎ ((z : Snapshot) × Memᴰ z (rule t es).snapshots × (cell_at z p ≡ holds s))
    unfolding column held
    column-set s m =
        let (z, n, q) = Memᴰ.of_map (λ (z : Snapshot). held (cell_at z p)) (rule t es).snapshots m in
        go z n q (cell_at z p) refl
      where
        go :
            (z : Snapshot) → Memᴰ z (rule t es).snapshots → held (cell_at z p) ≡ s → (c : Cell) → cell_at z p ≡ c →
            (s ≡ []) ⊎ ((z : Snapshot) × Memᴰ z (rule t es).snapshots × (cell_at z p ≡ holds s))
        go z n q differs e = inl (sym q ∙ ap held e)
        go z n q (holds r) e = inr (z, n, e ∙ ap holds (sym (ap held e) ∙ q))

    -- a value of a merged set is a value of some event
    pub merged_value :
        (a : Text) → Memᴰ a (merged_at t.type (rule t es) p) → (e : Event) × Memᴰ e es × Memᴰ a (t.event.set e p)
    unfolding merged_at
    merged_value a m =
        let sets = column (rule t es).snapshots p in
        let (s, n, i) = flatten-of sets a (merged-within (t.type.replaces p) (t.type.choice p) sets a m) in
        ⊎_elim
        (λ q. absurd (Memᴰ.not-nil (rw q at i)))
        (λ c. let (e, me, v, k) = cell-value t es c.0 c.1 p lt s c.2 a i in (e, me, k))
        (column-set s n)

    -- a merged set rises where the events' sets do
    pub merged-rises : Each (λ e. Ups texts (t.event.set e p)) es → Ups texts (merged_at t.type (rule t es) p)
    unfolding merged_at
    merged-rises u =
        merged-ups (t.type.replaces p) (t.type.choice p) (column (rule t es).snapshots p)
        (λ s n. ⊎_elim (λ q. rw q tt) (λ c. cell-rises t es c.0 c.1 p lt s c.2 u) (column-set s n))

    column-has : Has es → Has (column (rule t es).snapshots p)
    unfolding column
    column-has n = (_, Memᴰ.map (λ (z : Snapshot). held (cell_at z p)) (snapshot-in t es n.0 n.1))

    -- without a conflict, a mandatory property has a value
    pub merged_some :
        conflict (places t.type) (rule t es).snapshots ≡ no_conflict → Has es → Each (λ e. Has (t.event.set e p)) es →
        Has (merged_at t.type (rule t es) p)
    unfolding merged_at column held
    merged_some free n h = merged-has (t.type.replaces p) (t.type.choice p) (column (rule t es).snapshots p) (column-has n) (λ s m.
        let (z, k, q) = Memᴰ.of_map (λ (z : Snapshot). held (cell_at z p)) (rule t es).snapshots m in
        go s z k q (cell_at z p) refl)
      where
        go : (s : List Text) (z : Snapshot) → Memᴰ z (rule t es).snapshots → held (cell_at z p) ≡ s → (c : Cell) → cell_at z p ≡ c → Has s
        go s z k q differs e =
            absurd (conflict-none (places t.type) (ups-places t.type) (rule t es).snapshots free z p k ((in-places t.type p).0 lt) e)
        go s z k q (holds r) e = rw (sym (ap held e) ∙ q) at (cell-mandatory t es z k p lt r e h)

    -- a match property, or any place at which all events have one set that is not replaced, keeps that set
    pub merged-match :
        (s : List Text) → t.type.choice p ≡ every → t.type.replaces p ≡ false → Ups texts s → Has es →
        Each (λ e. t.event.set e p ≡ s) es →
        get_or (merged_sets t.type (rule t es)) p [] ≡ s
    unfolding merged_at merged_set column held
    merged-match s c r u n h =
        let f : Snapshot → List Text = λ z. held (cell_at z p) in
        let col : List (List Text) = map f (rule t es).snapshots in
        merged-sets-at t.type (rule t es) p lt
        ∙ (ap (λ (b : Bool). merged_set b (t.type.choice p) col) r
        ∙ (ap (λ (x : Choice). merged_set false x col) c
        ∙ canon-alike col s u (column-has n) (λ a i.
        let (z, j, q) = Memᴰ.of_map f (rule t es).snapshots i in
        sym q ∙ ap held (match-cells t es z j p lt s c u h))))

  -- one event
  module _
      (e : Event) (up : (p : ℕ) → p < t.type.width → Ups texts (t.event.set e p))
      (few : (p : ℕ) → p < t.type.width → (O : Order Text) → t.type.choice p ≡ least O → length (t.event.set e p) ≤ 1)
    where
      one_at : (p : ℕ) → p < t.type.width → merged_at t.type (rule t (e ∷ [])) p ≡ t.event.set e p
      unfolding merged_at column cell_of held
      one_at p h =
          let version = t.event.version in
          let q : column (rule t (e ∷ [])).snapshots p ≡ held (cell_at (snapshot t (version e) (e ∷ [])) p) ∷ [] =
          ap (λ (ss : List Snapshot). column ss p) (one-snapshot t (version e) e [] (λ d m. ap version (Memᴰ.eq_of_singleton m))) in
          let r : cell_at (snapshot t (version e) (e ∷ [])) p ≡ holds (t.event.set e p) =
          cell-at-snapshot t (version e) (e ∷ []) p h ∙ cell-one t.type.versioned (t.type.choice p) (t.event.set e p) (up p h) (few p h) in
          ap (merged_set (t.type.replaces p) (t.type.choice p)) (q ∙ ap (λ (k : Cell). held k ∷ []) r)
          ∙ merged-alone (t.type.replaces p) (t.type.choice p) (t.event.set e p) (up p h) (few p h)

      -- "A dossier of one event opens as that event": the sets
      pub merged-one : merged_sets t.type (rule t (e ∷ [])) ≡ map (t.event.set e) (places t.type)
      unfolding merged_sets
      merged-one = map_same (merged_at t.type (rule t (e ∷ []))) (t.event.set e) (places t.type) (λ p m. one_at p ((in-places t.type p).1 m))

      no-clash : NoClash t (e ∷ [])
      no-clash v p k =
          k.unequal_sets (ap (λ (x : Event). t.event.set x p)
          (Memᴰ.eq_of_singleton k.one_in ∙ sym (Memᴰ.eq_of_singleton k.other_in)))

      -- it has no conflict, and no place is overfull
      pub opening-one :
          ((p : ℕ) → p < t.type.width → t.type.single p ≡ true → length (t.event.set e p) ≤ 1) →
          opening t.type (rule t (e ∷ [])) ≡ merged (map (t.event.set e) (places t.type))
      unfolding overfull first_of
      opening-one s =
          opening-free t.type (rule t (e ∷ [])) ((no-conflict-exact t (e ∷ [])).1 no-clash)
          ∙ rw (not_full, merged-one) refl
        where
          single : (p : ℕ) → p < t.type.width → (t.type.single p && leb 2 (length (merged_at t.type (rule t (e ∷ [])) p))) ≡ false
          single p h = truth (t.type.single p)
              (λ y. rw (y, one_at p h) (lt-leb 2 (length (t.event.set e p)) (omega (arith, s p h y))))
              (λ n. rw n)

          not_full : overfull t.type (rule t (e ∷ [])) ≡ none
          not_full =
              none-lowest (λ p. t.type.single p && leb 2 (length (merged_at t.type (rule t (e ∷ [])) p))) (places t.type)
              (λ p m. single p ((in-places t.type p).1 m))
