-- Questions 3 to 7 of dossiers, place by place and snapshot by snapshot.
use mathlib.Core.Path.{◌≡◌, refl, sym, ap₂, ◌∙◌}
use mathlib.Core.Logic.{◌↔◌}
use mathlib.Core.Bool.{Bool, true, false, cond, ◌&&◌, and-eq-true_iff}
use mathlib.Core.Option.{none, some}
use mathlib.Core.List.{List, [], ◌∷◌, Memᴰ}
use Prim.Native.Nat.{ℕ, zero, suc, ◌≤◌, ◌<◌}
use native.Mathlib.Omega.{arith}
use lib.ListN.{length, get_or, get_elem?}
use Rattle.model.specs.Order.{Text, texts, sets, lists, equal}
use Rattle.model.specs.Rule.{Cell, holds, Snapshot}
use Rattle.model.specs.Limits.{Limits}
use Rattle.model.specs.Opening.{cell_at}
use Rattle.model.proofs.Cases.{never, truth}
use Rattle.model.proofs.OrderLaws.{equal-true}
use Rattle.replies.specs.Questions.{accepted}
use Rattle.ontology.specs.Table.{Property, EventType, Table, is_match, type_named}
use Rattle.event.proofs.EventQuestionLaws.{MatchAlike}
use Rattle.event.specs.Agreement.{match_sets, agree}
use Rattle.dossier.specs.DossierLayout.{Headed, dossier_of}
use Rattle.dossier.specs.DossierQuestions.{each_cell, each_snapshot, snapshot_match, dossier_match, match_alike, dossier_shape, snapshot_values, dossier_asked}

module _ (f : Property → Cell → Bool) (g : Cell → Bool) where
  each-cell :
      (ps : List Property) (cs : List Cell) → ((p : ℕ) (q : Property) → get_elem? ps p ≡ some q → f q (get_or cs p (holds [])) ≡ true) →
      ((p : ℕ) → p < length cs → get_elem? ps p ≡ none → g (get_or cs p (holds [])) ≡ true) → each_cell f g ps cs ≡ true
  unfolding each_cell
  each-cell [] [] h k = refl
  each-cell [] (c ∷ cs) h k = rw (k 0 (omega arith) refl) (each-cell [] cs (λ p q e. never (cc)) (λ p l e. k (suc p) (omega arith) refl))
  each-cell (x ∷ ps) [] h k = rw (h 0 x refl) (each-cell ps [] (λ p q e. h (suc p) q e) (λ p l e. absurd (omega arith)))
  each-cell (x ∷ ps) (c ∷ cs) h k = rw (h 0 x refl) (each-cell ps cs (λ p q e. h (suc p) q e) (λ p l e. k (suc p) (omega arith) e))

  -- what is so at each place is so of all
  pub cell-each :
      (ps : List Property) (z : Snapshot) → ((p : ℕ) (q : Property) → get_elem? ps p ≡ some q → f q (cell_at z p) ≡ true) →
      ((p : ℕ) → p < length z.cells → get_elem? ps p ≡ none → g (cell_at z p) ≡ true) → each_cell f g ps z.cells ≡ true
  unfolding cell_at
  cell-each ps z h k = each-cell ps z.cells h k

pub snapshot-each : (f : Snapshot → Bool) (zs : List Snapshot) → ((z : Snapshot) → Memᴰ z zs → f z ≡ true) → each_snapshot f zs ≡ true
unfolding each_snapshot
snapshot-each f [] h = refl
snapshot-each f (z ∷ zs) h = rw (h z (Memᴰ.head refl)) (snapshot-each f zs (λ x m. h x (Memᴰ.tail m)))

-- sets are equal in every match property exactly when their match sets are equal
pub match-sets : (ps : List Property) (ss ts : List (List Text)) → length ss ≡ length ts → MatchAlike ps ss ts ↔ (match_sets ps ss ≡ match_sets ps ts)
unfolding match_sets
match-sets ps ss ts l = (there ps ss ts l, back ps ss ts l)
  where
    there : (ps : List Property) (ss ts : List (List Text)) → length ss ≡ length ts → MatchAlike ps ss ts → match_sets ps ss ≡ match_sets ps ts
    there [] ss ts l h = refl
    there (x ∷ ps) [] [] l h = refl
    there (x ∷ ps) [] (t ∷ ts) l h = absurd (omega arith)
    there (x ∷ ps) (s ∷ ss) [] l h = absurd (omega arith)
    there (x ∷ ps) (s ∷ ss) (t ∷ ts) l h =
        let ih = there ps ss ts (omega arith) (λ p q e y. h (suc p) q e y) in
        truth (is_match x)
        (λ y. ap₂ (λ (a : List Text) (r : List (List Text)). cond (is_match x) (a ∷ r) r) (h 0 x refl y) ih)
        (λ n. rw n ih)

    tails : (b : Bool) (s t : List Text) (ss ts : List (List Text)) → cond b (s ∷ ss) ss ≡ cond b (t ∷ ts) ts → ss ≡ ts
    tails true s t ss ts h = cc
    tails false s t ss ts h = h

    heads : (b : Bool) (s t : List Text) (ss ts : List (List Text)) → cond b (s ∷ ss) ss ≡ cond b (t ∷ ts) ts → b ≡ true → s ≡ t
    heads true s t ss ts h y = cc
    heads false s t ss ts h y = never (cc)

    back : (ps : List Property) (ss ts : List (List Text)) → length ss ≡ length ts → match_sets ps ss ≡ match_sets ps ts → MatchAlike ps ss ts
    back [] ss ts l h p q e y = never (cc)
    back (x ∷ ps) [] [] l h p q e y = refl
    back (x ∷ ps) [] (t ∷ ts) l h p q e y = absurd (omega arith)
    back (x ∷ ps) (s ∷ ss) [] l h p q e y = absurd (omega arith)
    back (x ∷ ps) (s ∷ ss) (t ∷ ts) l h zero q e y = let k : x ≡ q = cc in heads (is_match x) s t _ _ h (rw k y)
    back (x ∷ ps) (s ∷ ss) (t ∷ ts) l h (suc p) q e y = back ps ss ts (omega arith) (tails (is_match x) s t _ _ h) p q e y

-- a dossier of which the questions are answered yes
pub dossier-accepted :
    (limits : Limits) (table : Table) (s : List ℕ) (t : EventType) (h : Headed) → dossier_of limits s ≡ some h →
    type_named h.head.type table ≡ some t →
    dossier_shape limits t h.snapshots ≡ true → each_snapshot (snapshot_values t) h.snapshots ≡ true →
    dossier_asked limits table s ≡ accepted (record { type = t; headed = h })
unfolding dossier_asked
dossier-accepted limits table s t h a b c d = rw (a, b, c, d)

-- "Do the two agree in type, source URI and match sets?"
pub agree-exact : (type source : Text) (ms : List (List Text)) (type' source' : Text) (ms' : List (List Text)) →
    (agree type source ms type' source' ms' ≡ true) ↔ ((type ≡ type') × (source ≡ source') × (ms ≡ ms'))
unfolding agree
agree-exact type source ms type' source' ms' = (
  λ h.
      let (a, c) = (and-eq-true_iff (equal texts type type' && equal texts source source') (equal (lists sets) ms ms')).0 h in
      let (x, y) = (and-eq-true_iff (equal texts type type') (equal texts source source')).0 a in
      ((equal-true texts type type').0 x, (equal-true texts source source').0 y, (equal-true (lists sets) ms ms').0 c),
  λ h. rw ((equal-true texts type type').1 h.0, (equal-true texts source source').1 h.1) ((equal-true (lists sets) ms ms').1 h.2),
)

-- the match sets of a dossier of which all snapshots have the same
pub dossier-match :
    (t : EventType) (zs : List Snapshot) (ms : List (List Text)) → 1 ≤ length zs → ((z : Snapshot) → Memᴰ z zs → snapshot_match t z ≡ ms) →
    dossier_match t zs ≡ ms
unfolding dossier_match
dossier-match t [] ms l h = absurd (omega arith)
dossier-match t (z ∷ zs) ms l h = h z (Memᴰ.head refl)

pub match-alike :
    (t : EventType) (zs : List Snapshot) (ms : List (List Text)) → ((z : Snapshot) → Memᴰ z zs → snapshot_match t z ≡ ms) →
    match_alike t zs ≡ true
unfolding match_alike
match-alike t [] ms h = refl
match-alike t (z ∷ zs) ms h = snapshot-each _ zs
    (λ x m. (equal-true (lists sets) (snapshot_match t z) (snapshot_match t x)).1 (h z (Memᴰ.head refl) ∙ sym (h x (Memᴰ.tail m))))
