-- The rule over two lists of events together is the combination of the rules over each, and the rule is one for all lists of the same events.
use mathlib.Core.Path.{◌≡◌, refl, sym, ◌∙◌, ap}
use mathlib.Core.Logic.{⊎_elim}
use mathlib.Core.Bool.{Bool, true, false, cond, ◌&&◌}
use mathlib.Core.Option.{Option, none, some}
use mathlib.Core.List.{List, [], ◌∷◌, ◌++◌, map, flatten}
use mathlib.Core.List.Memᴰ
use mathlib.Core.List.{append-nil, Memᴰ}
use Prim.Native.Nat.{ℕ}
use Rattle.model.specs.Order.{Text, numbers, texts, sets, equal}
use Rattle.model.proofs.Cases.{three, never}
use Rattle.model.specs.Keyed.{Rising, merge}
use Rattle.model.proofs.KeyedLaws.{look, both, joined, joined-keep, rising-merge, look-put, look-merge, by-look}
use Rattle.model.specs.Sets.{Within, Same, canon, union, smallest, only}
use Rattle.model.specs.Rule.{Cell, holds, differs, Choice, every, least, TypeView, View, places, Snapshot, all_are, agreed, cell, join_cell, of_version}
use Rattle.model.specs.Rule.{cell_of, snapshot, rule_at, rule, join_cells, join_snapshots, combine}
use Rattle.model.proofs.SetLaws.{ups-canon, canon-same, union-canon, smallest-append, made?, look-map, rising-map}
use Rattle.model.proofs.PartLaws.{map-append, map_same, map-within, flatten-append, flatten-within, only-append, only-within}

-- cells
all-are-append : (s : List Text) (ss ts : List (List Text)) → all_are s (ss ++ ts) ≡ all_are s ss && all_are s ts
unfolding all_are equal
all-are-append s [] ts = refl
all-are-append s (t ∷ ss) ts = three (sets.cmp s t) (λ l. rw l) (λ q. rw q (all-are-append s ss ts)) (λ g. rw g)

agreed-append :
    (c : Choice) (s t : List Text) (ss ts : List (List Text)) → agreed ((s ∷ ss) ++ (t ∷ ts)) ≡ join_cell true c (agreed (s ∷ ss)) (agreed (t ∷ ts))
unfolding agreed join_cell all_are equal
agreed-append c s t ss ts = rw (all-are-append s ss (t ∷ ts)) (go (all_are s ss) (all_are t ts) refl)
  where
    go :
        (x y : Bool) → all_are t ts ≡ y →
        cond (x && all_are s (t ∷ ts)) (holds s) differs ≡ join_cell true c (cond x (holds s) differs) (cond y (holds t) differs)
    go false y e = refl
    go true false e = three (sets.cmp s t) (λ l. rw l) (λ q. let f : all_are s ts ≡ false = rw (sets.same s t q) e in rw (q, f)) (λ g. rw g)
    go true true e = three (sets.cmp s t) (λ l. rw l) (λ q. let f : all_are s ts ≡ true = rw (sets.same s t q) e in rw (q, f)) (λ g. rw g)

-- the cell of two lists of sets together
cell-append :
    (b : Bool) (c : Choice) (s t : List Text) (ss ts : List (List Text)) →
    cell b c ((s ∷ ss) ++ (t ∷ ts)) ≡ join_cell b c (cell b c (s ∷ ss)) (cell b c (t ∷ ts))
unfolding cell join_cell
cell-append true c s t ss ts = agreed-append c s t ss ts
cell-append false every s t ss ts = rw (flatten-append (s ∷ ss) (t ∷ ts), union-canon texts (flatten (s ∷ ss)) (flatten (t ∷ ts)))
cell-append false (least O) s t ss ts = rw (flatten-append (s ∷ ss) (t ∷ ts), smallest-append O (flatten (s ∷ ss)) (flatten (t ∷ ts)))

pub all-are-member : (s : List Text) (ss : List (List Text)) → all_are s ss ≡ true → (a : List Text) → Memᴰ a ss → a ≡ s
unfolding all_are equal
all-are-member s (t ∷ ss) h a m =
    three (sets.cmp s t)
    (λ l. never (cc))
    (λ q. ⊎_elim (λ r. r ∙ sym (sets.same s t q)) (all-are-member s ss (rw q at h) a) (Memᴰ.cases_cons m))
    (λ g. never (cc))
all-are-member s [] h a m = absurd (Memᴰ.not-nil m)

pub member-all-are : (s : List Text) (ss : List (List Text)) → ((a : List Text) → Memᴰ a ss → a ≡ s) → all_are s ss ≡ true
unfolding all_are equal
member-all-are s [] h = refl
member-all-are s (t ∷ ss) h =
    let r : t ≡ s = h t (Memᴰ.head refl) in
    rw (r, sets.self s) (member-all-are s ss (λ a m. h a (Memᴰ.tail m)))

agreed-same : (ss ts : List (List Text)) → Same ss ts → agreed ss ≡ agreed ts
unfolding agreed
agreed-same [] [] h = refl
agreed-same [] (t ∷ ts) h = absurd (Memᴰ.not-nil (h.1 t (Memᴰ.head refl)))
agreed-same (s ∷ ss) [] h = absurd (Memᴰ.not-nil (h.0 s (Memᴰ.head refl)))
agreed-same (s ∷ ss) (t ∷ ts) h = go (all_are s ss) (all_are t ts) refl refl
  where
    agree : (s t : List Text) (ss ts : List (List Text)) → Within (t ∷ ts) (s ∷ ss) → all_are s ss ≡ true → (t ≡ s) × (all_are t ts ≡ true)
    agree s t ss ts h e =
        let f : (a : List Text) → Memᴰ a (t ∷ ts) → a ≡ s =
        λ a m. ⊎_elim (λ r. r) (all-are-member s ss e a) (Memᴰ.cases_cons (h a m)) in
        let q : t ≡ s = f t (Memᴰ.head refl) in
        (q, member-all-are t ts (λ a m. f a (Memᴰ.tail m) ∙ sym q))

    go : (x y : Bool) → all_are s ss ≡ x → all_are t ts ≡ y → cond (all_are s ss) (holds s) differs ≡ cond (all_are t ts) (holds t) differs
    go false false p q = rw (p, q)
    go true y p q = let r : (t ≡ s) × (all_are t ts ≡ true) = agree s t ss ts h.1 p in rw (p, r.1, r.0)
    go false true p q = let r : (s ≡ t) × (all_are s ss ≡ true) = agree t s ts ss h.0 q in rw (q, r.1, r.0)

cell_same : (b : Bool) (c : Choice) (ss ts : List (List Text)) → Same ss ts → cell b c ss ≡ cell b c ts
unfolding cell smallest
cell_same true c ss ts h = agreed-same ss ts h
cell_same false every ss ts h = rw (canon-same texts (flatten ss) (flatten ts) (flatten-within ss ts h.0, flatten-within ts ss h.1))
cell_same false (least O) ss ts h = rw (canon-same O (flatten ss) (flatten ts) (flatten-within ss ts h.0, flatten-within ts ss h.1))

module _ (t : TypeView) where
  pub join-cells-map :
      (ps : List ℕ) (f g : ℕ → Cell) → join_cells t ps (map f ps) (map g ps) ≡ map (λ p. join_cell t.versioned (t.choice p) (f p) (g p)) ps
  unfolding join_cells
  join-cells-map [] f g = refl
  join-cells-map (p ∷ ps) f g = rw (join-cells-map ps f g)

module _ {Event : Type 0} (t : View Event) where
  -- a snapshot for the version of the list's events, if there are any
  unfoldable pub snapshot? : ℕ → List Event → Option Snapshot
  snapshot? v [] = none
  snapshot? v (e ∷ es) = some (snapshot t v (e ∷ es))

  snapshot-append :
      (v : ℕ) (e f : Event) (es fs : List Event) →
      join_snapshots t.type (snapshot t v (e ∷ es)) (snapshot t v (f ∷ fs)) ≡ snapshot t v ((e ∷ es) ++ (f ∷ fs))
  unfolding join_snapshots snapshot cell_of
  snapshot-append v e f es fs =
      λ i. record {
        version = v;
        cells = (join-cells-map t.type (places t.type) (cell_of t (e ∷ es)) (cell_of t (f ∷ fs))
            ∙ map_same _ (cell_of t ((e ∷ es) ++ (f ∷ fs))) (places t.type) (λ p m. at-place p)) i;
      }
    where
      at-place :
          (p : ℕ) →
          join_cell t.type.versioned (t.type.choice p) (cell_of t (e ∷ es) p) (cell_of t (f ∷ fs) p) ≡ cell_of t ((e ∷ es) ++ (f ∷ fs)) p
      at-place p =
          rw (map-append (λ (x : Event). t.event.set x p) es (f ∷ fs))
          (sym (cell-append t.type.versioned (t.type.choice p) (t.event.set e p) (t.event.set f p)
          (map (λ (x : Event). t.event.set x p) es) (map (λ (x : Event). t.event.set x p) fs)))

  both-append : (v : ℕ) (es fs : List Event) → both (join_snapshots t.type) (snapshot? v es) (snapshot? v fs) ≡ snapshot? v (es ++ fs)
  unfolding both joined snapshot?
  both-append v [] fs = refl
  both-append v (e ∷ es) [] = ap (λ (l : List Event). some (snapshot t v (e ∷ l))) (sym (append-nil es))
  both-append v (e ∷ es) (f ∷ fs) = ap some (snapshot-append v e f es fs)

  -- the versions that occur
  occurs : ℕ → List Event → Option ℕ
  occurs v [] = none
  occurs v (e ∷ es) = some v

  look-versions : (v : ℕ) (es : List Event) → look numbers (λ a. a) v (canon numbers (map t.event.version es)) ≡ occurs v (of_version t v es)
  unfolding canon of_version only occurs look
  look-versions v [] = refl
  look-versions v (e ∷ es) =
      rw (look-put numbers (λ a. a) (λ a b. a) (λ a b q. refl) v (t.event.version e) (canon numbers (map t.event.version es)), look-versions v es)
      (three (numbers.cmp v (t.event.version e))
      (λ l. rw l)
      (λ s. rw (
        s,
        joined-keep (λ (a b : ℕ). a) (λ a b. refl) (t.event.version e) (occurs v (of_version t v es)),
        ← numbers.same v (t.event.version e) s,
      ))
      (λ g. rw g))

  look-snapshots : (v : ℕ) (es : List Event) → look numbers (λ s. s.version) v (rule t es).snapshots ≡ snapshot? v (of_version t v es)
  unfolding rule rule_at snapshot snapshot? made? occurs
  look-snapshots v es =
      look-map numbers (λ s. s.version) (rule_at t es) (λ k. refl) v (canon numbers (map t.event.version es))
      ∙ rw (look-versions v es) (go (of_version t v es) refl)
    where
      go : (l : List Event) → of_version t v es ≡ l → made? (rule_at t es) (occurs v l) ≡ snapshot? v l
      go [] e = refl
      go (x ∷ l) e = ap (λ (m : List Event). some (snapshot t v m)) e

  pub rising-snapshots : (es : List Event) → Rising numbers (λ s. s.version) (rule t es).snapshots
  unfolding rule rule_at snapshot
  rising-snapshots es =
      rising-map numbers (λ s. s.version) (rule_at t es) (λ k. refl) (canon numbers (map t.event.version es))
      (ups-canon numbers (map t.event.version es))

  join-keeps : (a b : Snapshot) → a.version ≡ b.version → (join_snapshots t.type a b).version ≡ a.version
  unfolding join_snapshots
  join-keeps a b e = refl

  -- the rule over both sides together
  pub rule-append : (es fs : List Event) → combine t.type (rule t es) (rule t fs) ≡ rule t (es ++ fs)
  unfolding combine rule of_version
  rule-append es fs = λ i. record { parents = parents-append i; snapshots = snapshots-append i }
    where
      parents-append :
          union texts (canon texts (flatten (map t.event.parents es))) (canon texts (flatten (map t.event.parents fs))) ≡ canon texts
          (flatten (map t.event.parents (es ++ fs)))
      parents-append = rw (union-canon texts, map-append t.event.parents es fs, flatten-append)

      snapshots-append :
          merge numbers (λ s. s.version) (join_snapshots t.type) (rule t es).snapshots (rule t fs).snapshots ≡ (rule t (es ++ fs)).snapshots
      snapshots-append = by-look numbers (λ s. s.version) _ _
          (rising-merge numbers (λ s. s.version) (join_snapshots t.type) join-keeps (rule t es).snapshots (rule t fs).snapshots (rising-snapshots fs))
          (rising-snapshots (es ++ fs))
          (λ v. rw (
            look-merge numbers (λ s. s.version) (join_snapshots t.type) join-keeps v (rule t es).snapshots (rule t fs).snapshots
                (rising-snapshots es),
            look-snapshots v es,
            look-snapshots v fs,
            look-snapshots v (es ++ fs),
            only-append numbers t.event.version v es fs,
          )
          (both-append v (of_version t v es) (of_version t v fs)))

  snapshot-same : (v : ℕ) (es fs : List Event) → Same es fs → snapshot t v es ≡ snapshot t v fs
  unfolding snapshot cell_of
  snapshot-same v es fs h = λ i. record { version = v; cells = map_same (cell_of t es) (cell_of t fs) (places t.type) (λ p m. at-place p) i }
    where
      at-place : (p : ℕ) → cell_of t es p ≡ cell_of t fs p
      at-place p = cell_same t.type.versioned (t.type.choice p) (map (λ (x : Event). t.event.set x p) es) (map (λ (x : Event). t.event.set x p) fs)
          (map-within (λ (x : Event). t.event.set x p) es fs h.0, map-within (λ (x : Event). t.event.set x p) fs es h.1)

  -- the rule is one for all lists of the same events
  pub rule-same : (es fs : List Event) → Same es fs → rule t es ≡ rule t fs
  unfolding rule rule_at of_version
  rule-same es fs h = λ i. record { parents = parents-same i; snapshots = snapshots-same i }
    where
      parents-same : canon texts (flatten (map t.event.parents es)) ≡ canon texts (flatten (map t.event.parents fs))
      parents-same = canon-same texts (flatten (map t.event.parents es)) (flatten (map t.event.parents fs)) (
        flatten-within (map t.event.parents es) (map t.event.parents fs) (map-within t.event.parents es fs h.0),
        flatten-within (map t.event.parents fs) (map t.event.parents es) (map-within t.event.parents fs es h.1),
      )

      snapshots-same : map (rule_at t es) (canon numbers (map t.event.version es)) ≡ map (rule_at t fs) (canon numbers (map t.event.version fs))
      snapshots-same =
          rw (canon-same numbers (map t.event.version es) (map t.event.version fs)
          (map-within t.event.version es fs h.0, map-within t.event.version fs es h.1))
          (map_same (rule_at t es) (rule_at t fs) (canon numbers (map t.event.version fs))
          (λ v m. snapshot-same v (of_version t v es) (of_version t v fs)
          (only-within numbers t.event.version v es fs h.0, only-within numbers t.event.version v fs es h.1)))
