-- Opening names a conflict exactly when two of the events share an event version and differ in a property, at the lowest such version and its first such
-- property.
use mathlib.Core.Path.{◌≡◌, refl, sym, ◌∙◌, ap}
use mathlib.Core.Logic.{inl, inr, ⊎_elim, ◌↔◌}
use mathlib.Core.Bool.{Bool, true, false}
use mathlib.Core.Option.{Option, none, some}
use mathlib.Core.List.Memᴰ
use mathlib.Core.List.{List, [], ◌∷◌, map, Memᴰ}
use Prim.Native.Nat.{ℕ, ◌≤◌, ◌<◌}
use native.Mathlib.Omega.{arith}
use Rattle.model.specs.Order.{Text, numbers}
use Rattle.model.specs.Keyed.{Rising}
use Rattle.model.specs.Sets.{Ups, itself, canon}
use Rattle.model.specs.Rule.{Cell, holds, differs, Choice, TypeView, View, places, Snapshot, Dossier, agreed, cell, of_version, cell_of, snapshot, rule_at}
use Rattle.model.specs.Rule.{rule}
use Rattle.model.specs.Opening.{finds, lowest, cell_at, is_mark, Conflict, no_conflict, differs_at}
use Rattle.model.specs.Opening.{marked, or_later, conflict, conflict_at, overfull_at, merged}
use Rattle.model.specs.Opening.{first_of, overfull, merged_sets, opening}
use Rattle.model.specs.Clashes.{Clash, NotBefore, FirstClash, NoClash}
use Rattle.model.proofs.Cases.{never, truth, found}
use Rattle.model.proofs.OrderLaws.{less-of}
use Rattle.model.proofs.KeyedLaws.{above-member}
use Rattle.model.proofs.SetLaws.{canon-in}
use Rattle.model.proofs.PartLaws.{only-in, only_of}
use Rattle.model.proofs.RuleLaws.{rising-snapshots}
use Rattle.model.proofs.ValidLaws.{agreed-differs, differs-agreed, not-unversioned, in-places, ups-places, cell-at-rule}

-- the first number of a rising list that passes a test
pub lowest-found :
    (test : ℕ → Bool) (ps : List ℕ) (p : ℕ) → Ups numbers ps → lowest test ps ≡ some p → Memᴰ p ps × (test p ≡ true)
    × ((q : ℕ) → Memᴰ q ps → test q ≡ true → p ≤ q)
unfolding lowest
lowest-found test [] p u h = never (cc)
lowest-found test (x ∷ ps) p u h =
    truth (test x)
    (λ y.
    let e : p ≡ x = cc in (
      Memᴰ.head e,
      cc,
      λ q m k. rw e (⊎_elim (λ r. omega arith) (λ n. omega (arith, less-of x q (above-member numbers itself x ps q u.0 n)))
          (Memᴰ.cases_cons m)),
    ))
    (λ y.
    let (m, k, l) = lowest-found test ps p u.1 (rw y at h) in
    (Memᴰ.tail m, k, λ q n j. ⊎_elim (λ r. never (cc)) (λ o. l q o j) (Memᴰ.cases_cons n)))

pub lowest-none : (test : ℕ → Bool) (ps : List ℕ) → lowest test ps ≡ none → (q : ℕ) → Memᴰ q ps → test q ≡ true → ⊥
unfolding lowest
lowest-none test [] h q m k = Memᴰ.not-nil m
lowest-none test (x ∷ ps) h q m k =
    truth (test x)
    (λ y. never (cc))
    (λ y. ⊎_elim (λ r. never (cc)) (λ n. lowest-none test ps (rw y at h) q n k) (Memᴰ.cases_cons m))

pub none-lowest : (test : ℕ → Bool) (ps : List ℕ) → ((q : ℕ) → Memᴰ q ps → test q ≡ false) → lowest test ps ≡ none
unfolding lowest
none-lowest test [] h = refl
none-lowest test (x ∷ ps) h = rw (h x (Memᴰ.head refl)) (none-lowest test ps (λ q m. h q (Memᴰ.tail m)))

pub mark-differs : (c : Cell) → (is_mark c ≡ true) ↔ (c ≡ differs)
unfolding is_mark
mark-differs differs = (λ e. refl, λ e. refl)
mark-differs (holds s) = (λ e. never (cc), λ e. never (cc))

-- the conflict of any dossier whose snapshots rise: the first mark, by version and then by place
module _ (ps : List ℕ) (up : Ups numbers ps) where
  pub conflict-found :
      (ss : List Snapshot) (v p : ℕ) → Rising numbers (λ s. s.version) ss → conflict ps ss ≡ differs_at v p →
      (s : Snapshot) × Memᴰ s ss × (s.version ≡ v) × Memᴰ p ps × (cell_at s p ≡ differs)
      × ((r : Snapshot) (q : ℕ) → Memᴰ r ss → Memᴰ q ps → cell_at r q ≡ differs → NotBefore v p r.version q)
  unfolding conflict or_later marked
  conflict-found [] v p u h = never (cc)
  conflict-found (s ∷ ss) v p u h =
      found (marked ps s)
      (λ x e.
      let h2 : differs_at s.version x ≡ differs_at v p = rw e at h in
      let a : s.version ≡ v = cc in
      let b : x ≡ p = cc in
      let (m, k, l) = lowest-found (λ q. is_mark (cell_at s q)) ps x up e in (
        s,
        Memᴰ.head refl,
        a,
        Memᴰ.cast (sym b) m,
        rw b at ((mark-differs (cell_at s x)).0 k),
        λ r q n o j. ⊎_elim
            (λ d. inr (sym a ∙ ap (λ (z : Snapshot). z.version) (sym d), rw (← b) (l q o ((mark-differs (cell_at s q)).1 (rw d at j)))))
            (λ d. inl (rw (← a) (less-of s.version r.version (above-member numbers (λ z. z.version) s.version ss r u.0 d))))
            (Memᴰ.cases_cons n),
      ))
      (λ e.
      let (z, m, a, k, j, l) = conflict-found ss v p u.1 (rw e at h) in (
        z,
        Memᴰ.tail m,
        a,
        k,
        j,
        λ r q n o i. ⊎_elim
            (λ d. absurd (lowest-none (λ x. is_mark (cell_at s x)) ps e q o ((mark-differs (cell_at s q)).1 (rw d at i))))
            (λ d. l r q d o i)
            (Memᴰ.cases_cons n),
      ))

  pub conflict-none :
      (ss : List Snapshot) → conflict ps ss ≡ no_conflict → (r : Snapshot) (q : ℕ) → Memᴰ r ss → Memᴰ q ps →
      cell_at r q ≡ differs → ⊥
  unfolding conflict or_later marked
  conflict-none [] h r q m n k = Memᴰ.not-nil m
  conflict-none (s ∷ ss) h r q m n k =
      found (marked ps s)
      (λ x e. let h2 : differs_at s.version x ≡ no_conflict = rw e at h in never (cc))
      (λ e. ⊎_elim
      (λ d. lowest-none (λ x. is_mark (cell_at s x)) ps e q n ((mark-differs (cell_at s q)).1 (rw d at k)))
      (λ d. conflict-none ss (rw e at h) r q d n k)
      (Memᴰ.cases_cons m))

-- opening answers the conflict, where there is one
module _ (t : TypeView) (d : Dossier) where
  pub opening-conflict : (v p : ℕ) → (opening t d ≡ finds (conflict_at v p)) ↔ (conflict (places t) d.snapshots ≡ differs_at v p)
  unfolding opening first_of
  opening-conflict v p = (λ h. go (conflict (places t) d.snapshots) (overfull t d) refl refl h, λ h. rw h)
    where
      go :
          (c : Conflict) (m : Option ℕ) → conflict (places t) d.snapshots ≡ c → overfull t d ≡ m → opening t d ≡ finds (conflict_at v p) →
          conflict (places t) d.snapshots ≡ differs_at v p
      go (differs_at w q) m e f h = let h2 : finds (conflict_at w q) ≡ finds (conflict_at v p) = rw e at h in cc
      go no_conflict none e f h = let h2 : merged (merged_sets t d) ≡ finds (conflict_at v p) = rw (e, f) at h in never (cc)
      go no_conflict (some x) e f h = let h2 : finds (overfull_at x) ≡ finds (conflict_at v p) = rw (e, f) at h in never (cc)

  pub opening-free : conflict (places t) d.snapshots ≡ no_conflict → opening t d ≡ first_of no_conflict (overfull t d) (merged_sets t d)
  unfolding opening
  opening-free h = rw h

module _ {Event : Type 0} (t : View Event) (es : List Event) where
  sets_at : ℕ → ℕ → List (List Text)
  sets_at v p = map (λ e. t.event.set e p) (of_version t v es)

  at-agreed : t.type.versioned ≡ true → (v p : ℕ) → cell_of t (of_version t v es) p ≡ agreed (sets_at v p)
  unfolding cell_of cell sets_at
  at-agreed u v p = ap (λ (b : Bool). cell b (t.type.choice p) (sets_at v p)) u

  mark-versioned : (v p : ℕ) → cell_of t (of_version t v es) p ≡ differs → t.type.versioned ≡ true
  unfolding cell_of sets_at
  mark-versioned v p h = go t.type.versioned refl (t.type.choice p) h
    where
      go : (b : Bool) → t.type.versioned ≡ b → (c : Choice) → cell t.type.versioned c (sets_at v p) ≡ differs → t.type.versioned ≡ true
      go true u c h = u
      go false u c h = never (not-unversioned c (sets_at v p) (ap (λ (b : Bool). cell b c (sets_at v p)) (sym u) ∙ h))

  clash-of : (v p : ℕ) → p < t.type.width → cell_of t (of_version t v es) p ≡ differs → Clash t es v p
  unfolding of_version sets_at
  clash-of v p m h =
      let f : Event → List Text = λ e. t.event.set e p in
      let u : t.type.versioned ≡ true = mark-versioned v p h in
      let (a, b, ma, mb, n) = agreed-differs (map f (of_version t v es)) (sym (at-agreed u v p) ∙ h) in
      let (e, me, qe) = Memᴰ.of_map f (of_version t v es) ma in
      let (d, md, qd) = Memᴰ.of_map f (of_version t v es) mb in
      let (ie, ve) = only_of numbers t.event.version v es e me in
      let (id, vd) = only_of numbers t.event.version v es d md in
      record {
        versioned = u;
        one = e;
        other = d;
        one_in = ie;
        other_in = id;
        one_version = ve;
        other_version = vd;
        place = m;
        unequal_sets = λ q. n (sym qe ∙ (q ∙ qd));
      }

  of-clash : (v p : ℕ) → Clash t es v p → Memᴰ (rule_at t es v) (rule t es).snapshots × (cell_at (rule_at t es v) p ≡ differs)
  unfolding rule of_version sets_at
  of-clash v p k =
      let f : Event → List Text = λ e. t.event.set e p in (
        Memᴰ.map (rule_at t es) (canon-in numbers (map t.event.version es) v
            (Memᴰ.cast (sym k.one_version) (Memᴰ.map t.event.version k.one_in))),
        cell-at-rule t es v p k.place
            ∙ (at-agreed k.versioned v p
            ∙ differs-agreed (map f (of_version t v es)) (f k.one) (f k.other)
            (Memᴰ.map f (only-in numbers t.event.version v es k.one k.one_in k.one_version))
            (Memᴰ.map f (only-in numbers t.event.version v es k.other k.other_in k.other_version))
            k.unequal_sets),
      )

  -- a mark of the rule's snapshots is a clash
  mark-clash :
      (s : Snapshot) (p : ℕ) → Memᴰ s (rule t es).snapshots → Memᴰ p (places t.type) → cell_at s p ≡ differs →
      Clash t es s.version p
  unfolding rule rule_at snapshot
  mark-clash s p m n h =
      let (v, k, q) = Memᴰ.of_map (rule_at t es) (canon numbers (map t.event.version es)) m in
      let inside = (in-places t.type p).1 n in
      rw (← q) (clash-of v p inside (sym (cell-at-rule t es v p inside) ∙ (rw (← q) at h)))

  -- the conflict named is a clash, and no clash comes before it
  named : (v p : ℕ) → conflict (places t.type) (rule t es).snapshots ≡ differs_at v p → FirstClash t es v p
  named v p h =
      let (s, m, a, n, d, l) = conflict-found (places t.type) (ups-places t.type) (rule t es).snapshots v p (rising-snapshots t es) h in (
        rw (← a) (mark-clash s p m n d),
        λ w q k. let (mw, dw) = of-clash w q k in unfold rule_at snapshot in
            (l (rule_at t es w) q mw ((in-places t.type q).0 k.place) dw),
      )

  free : conflict (places t.type) (rule t es).snapshots ≡ no_conflict → NoClash t es
  free h w q k =
      let (mw, dw) = of-clash w q k in
      conflict-none (places t.type) (ups-places t.type) (rule t es).snapshots h (rule_at t es w) q mw ((in-places t.type q).0 k.place) dw

  one-first : (v p w q : ℕ) → NotBefore v p w q → NotBefore w q v p → (v ≡ w) × (p ≡ q)
  one-first v p w q (inl a) (inl b) = absurd (omega arith)
  one-first v p w q (inl a) (inr b) = absurd (omega arith)
  one-first v p w q (inr a) (inl b) = absurd (omega arith)
  one-first v p w q (inr a) (inr b) = omega arith

  -- a conflict exactly when two events share an event version and differ in a property, naming the lowest such version and its first such property
  pub conflict-exact : (v p : ℕ) → (conflict (places t.type) (rule t es).snapshots ≡ differs_at v p) ↔ FirstClash t es v p
  conflict-exact v p = (named v p, λ h. go h (conflict (places t.type) (rule t es).snapshots) refl)
    where
      go :
          FirstClash t es v p → (c : Conflict) → conflict (places t.type) (rule t es).snapshots ≡ c →
          conflict (places t.type) (rule t es).snapshots ≡ differs_at v p
      go h no_conflict e = absurd (free e v p h.0)
      go h (differs_at w q) e =
          let (k, l) = named w q e in
          let (a, b) = one-first v p w q (h.1 w q k) (l v p h.0) in
          cc

  -- and none exactly when no two do
  pub no-conflict-exact : (conflict (places t.type) (rule t es).snapshots ≡ no_conflict) ↔ NoClash t es
  no-conflict-exact = (free, λ h. go h (conflict (places t.type) (rule t es).snapshots) refl)
    where
      go :
          NoClash t es → (c : Conflict) → conflict (places t.type) (rule t es).snapshots ≡ c →
          conflict (places t.type) (rule t es).snapshots ≡ no_conflict
      go h no_conflict e = e
      go h (differs_at w q) e = absurd (h w q (named w q e).0)

  -- the same, of what opening answers
  pub opening-exact : (v p : ℕ) → (opening t.type (rule t es) ≡ finds (conflict_at v p)) ↔ FirstClash t es v p
  opening-exact v p = (
    λ h. (conflict-exact v p).0 ((opening-conflict t.type (rule t es) v p).0 h),
    λ h. (opening-conflict t.type (rule t es) v p).1 ((conflict-exact v p).1 h),
  )

  pub opening-no-conflict : ((v p : ℕ) → opening t.type (rule t es) ≡ finds (conflict_at v p) → ⊥) ↔ NoClash t es
  opening-no-conflict = (λ h. go h (conflict (places t.type) (rule t es).snapshots) refl, λ h v p e. h v p ((opening-exact v p).0 e).0)
    where
      go :
          ((v p : ℕ) → opening t.type (rule t es) ≡ finds (conflict_at v p) → ⊥) → (c : Conflict) →
          conflict (places t.type) (rule t es).snapshots ≡ c → NoClash t es
      go h no_conflict e = free e
      go h (differs_at w q) e = absurd (h w q ((opening-conflict t.type (rule t es) w q).1 e))
