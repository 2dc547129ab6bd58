-- What the cells of the rule have of the events' own sets: what a reader of the dossier asks (questions 5 to 7) follows from the events'.
use mathlib.Core.Path.{◌≡◌, refl, sym, ◌∙◌, ap}
use mathlib.Core.Logic.{⊎_elim, ◌≢◌, ◌↔◌}
use mathlib.Core.Bool.{Bool, true, false, cond}
use mathlib.Core.List.Memᴰ
use mathlib.Core.List.{List, [], ◌∷◌, map, flatten, Memᴰ}
use Prim.Native.Nat.{Ordering}
use Prim.Native.Nat.{ℕ, ◌≤◌, ◌<◌, zero-le}
use lib.ListN.{length, take, length-take}
use native.Mathlib.Omega.{arith}
use Rattle.model.specs.Order.{Order, Text, numbers, texts, sets, equal}
use Rattle.model.proofs.Cases.{three, never}
use Rattle.model.specs.Keyed.{put}
use Rattle.model.specs.Sets.{Within, Ups, canon, smallest, only}
use Rattle.model.specs.Rule.{Cell, holds, differs, Choice, every, least, TypeView, View, places, all_are, agreed, cell, of_version, cell_of, snapshot}
use Rattle.model.specs.Rule.{rule_at, rule, size, sizes}
use Rattle.model.proofs.PartLaws.{count, flatten-in, flatten-of, ups-up_to, in-up_to, get_d-up_to}
use Rattle.model.specs.Opening.{cell_at}
use Rattle.model.proofs.WayClaims.{Each, Has}
use Rattle.model.proofs.SetLaws.{ups-canon, canon-in, canon-of, by_members}
use Rattle.model.proofs.RuleLaws.{all-are-member, member-all-are}

-- sets that are not all one
unequal : (s : List Text) (ss : List (List Text)) → all_are s ss ≡ false → (b : List Text) × Memᴰ b ss × (s ≢ b)
unfolding all_are equal
unequal s [] h = never (cc)
unequal s (b ∷ ss) h =
    let here : sets.cmp s b ≢ Ordering.eq → (c : List Text) × Memᴰ c (b ∷ ss) × (s ≢ c) =
    λ n. (b, Memᴰ.head refl, λ q. n (rw q (sets.self b))) in
    three (sets.cmp s b)
    (λ l. here (λ e. never (cc)))
    (λ q. let (c, m, n) = unequal s ss (rw q at h) in (c, Memᴰ.tail m, n))
    (λ g. here (λ e. never (cc)))

pub agreed-differs :
    (ss : List (List Text)) → agreed ss ≡ differs → (a : List Text) × (b : List Text) × Memᴰ a ss × Memᴰ b ss × (a ≢ b)
unfolding agreed
agreed-differs [] h = never (cc)
agreed-differs (s ∷ ss) h = go (all_are s ss) refl
  where
    go : (x : Bool) → all_are s ss ≡ x → (a : List Text) × (b : List Text) × Memᴰ a (s ∷ ss) × Memᴰ b (s ∷ ss) × (a ≢ b)
    go true e = never (cc)
    go false e = let (b, m, n) = unequal s ss e in (s, b, Memᴰ.head refl, Memᴰ.tail m, n)

pub differs-agreed : (ss : List (List Text)) (a b : List Text) → Memᴰ a ss → Memᴰ b ss → a ≢ b → agreed ss ≡ differs
unfolding agreed
differs-agreed [] a b m n h = absurd (Memᴰ.not-nil m)
differs-agreed (s ∷ ss) a b m n h = go (all_are s ss) refl
  where
    go : (x : Bool) → all_are s ss ≡ x → cond (all_are s ss) (holds s) differs ≡ differs
    go false e = rw e
    go true e =
        let f : (c : List Text) → Memᴰ c (s ∷ ss) → c ≡ s = λ c k. ⊎_elim (λ r. r) (all-are-member s ss e c) (Memᴰ.cases_cons k) in
        absurd (h (f a m ∙ sym (f b n)))

-- a versioned cell that holds a set has the set of every event
pub agreed-holds : (ss : List (List Text)) (s : List Text) → agreed ss ≡ holds s → (a : List Text) → Memᴰ a ss → a ≡ s
unfolding agreed
agreed-holds [] s h a m = absurd (Memᴰ.not-nil m)
agreed-holds (r ∷ ss) s h a m = go (all_are r ss) refl
  where
    go : (x : Bool) → all_are r ss ≡ x → a ≡ s
    go true e =
        let q : r ≡ s = cc in
        ⊎_elim (λ k. k ∙ q) (λ k. all-are-member r ss e a k ∙ q) (Memᴰ.cases_cons m)
    go false e = never (cc)

-- the smallest of at most one value is that value
pub smallest-one : (O : Order Text) (s : List Text) → length s ≤ 1 → smallest O (flatten (s ∷ [])) ≡ s
unfolding smallest canon put flatten
smallest-one O [] h = refl
smallest-one O (a ∷ []) h = refl
smallest-one O (a ∷ b ∷ s) h = absurd (omega arith)

pub has_first : {A : Type 0} (xs : List A) → Has xs → Has (take 1 xs)
has_first [] n = absurd (Memᴰ.not-nil n.1)
has_first (x ∷ xs) n = (x, Memᴰ.head refl)

pub take-of : {A : Type 0} (xs : List A) → Within (take 1 xs) xs
take-of [] a m = m
take-of (x ∷ xs) a m = Memᴰ.head (Memᴰ.eq_of_singleton m)

holds_same : (r s : List Text) → holds r ≡ holds s → r ≡ s
holds_same r s e = cc

-- a value that a cell holds is a value of an event
pub held-value : (b : Bool) (c : Choice) (ss : List (List Text)) (s : List Text) → cell b c ss ≡ holds s → Within s (flatten ss)
unfolding cell smallest flatten
held-value true c [] s h a m = unfold agreed in (rw (← holds_same [] s h) at m)
held-value true c (r ∷ ss) s h a m =
    flatten-in (r ∷ ss) r a (Memᴰ.head refl) (rw (← agreed-holds (r ∷ ss) s h r (Memᴰ.head refl)) at m)
held-value false every ss s h a m = canon-of texts (flatten ss) a (rw (← holds_same (canon texts (flatten ss)) s h) at m)
held-value false (least O) ss s h a m =
    canon-of O (flatten ss) a (take-of (canon O (flatten ss)) a (rw (← holds_same (take 1 (canon O (flatten ss))) s h) at m))

pub ups-take : (xs : List Text) → Ups texts (take 1 xs)
ups-take [] = tt
ups-take (x ∷ xs) = (tt, tt)

-- a set that a cell holds rises
pub held-rises :
    (b : Bool) (c : Choice) (ss : List (List Text)) (s : List Text) → cell b c ss ≡ holds s → ((a : List Text) → Memᴰ a ss → Ups texts a) →
    Ups texts s
unfolding cell smallest
held-rises true c [] s h u = unfold agreed in (rw (← holds_same [] s h) tt)
held-rises true c (r ∷ ss) s h u = rw (agreed-holds (r ∷ ss) s h r (Memᴰ.head refl)) at (u r (Memᴰ.head refl))
held-rises false every ss s h u = rw (← holds_same (canon texts (flatten ss)) s h) (ups-canon texts (flatten ss))
held-rises false (least O) ss s h u = rw (← holds_same (take 1 (canon O (flatten ss))) s h) (ups-take (canon O (flatten ss)))

-- sets that are all one rising set have it for their union
pub canon-alike : (ss : List (List Text)) (s : List Text) → Ups texts s → Has ss → Each (λ a. a ≡ s) ss → canon texts (flatten ss) ≡ s
canon-alike ss s u n h = by_members texts (canon texts (flatten ss)) s (ups-canon texts _) u (
  (λ a m. let (x, k, i) = flatten-of ss a (canon-of texts (flatten ss) a m) in rw (h x k) at i),
  (λ a m. let (x, k) = n in canon-in texts (flatten ss) a (flatten-in ss x a k (rw (h x k) m))),
)

-- sets that are all one agree in it
pub agreed-all : (ss : List (List Text)) (s : List Text) → Has ss → Each (λ a. a ≡ s) ss → agreed ss ≡ holds s
unfolding agreed
agreed-all [] s n h = absurd (Memᴰ.not-nil n.1)
agreed-all (r ∷ ss) s n h =
    let q : r ≡ s = h r (Memᴰ.head refl) in
    rw (q, member-all-are s ss (λ a m. h a (Memᴰ.tail m)))

-- a property in which all events of a snapshot have one set, as a match property, has that set there
pub alike : (b : Bool) (ss : List (List Text)) (s : List Text) → Ups texts s → Has ss → Each (λ a. a ≡ s) ss → cell b every ss ≡ holds s
unfolding cell
alike true ss s u n h = agreed-all ss s n h
alike false ss s u n h = ap holds (canon-alike ss s u n h)

-- the cell of one event's set is that set
pub cell-one :
    (b : Bool) (c : Choice) (s : List Text) → Ups texts s → ((O : Order Text) → c ≡ least O → length s ≤ 1) → cell b c (s ∷ []) ≡ holds s
unfolding cell agreed all_are
cell-one true c s u h = refl
cell-one false every s u h = alike false (s ∷ []) s u (s, Memᴰ.head refl) (λ a m. Memᴰ.eq_of_singleton m)
cell-one false (least O) s u h = ap holds (smallest-one O s (h O refl))

-- a cell of sets that each have a value has one, or is marked
pub held-some : (b : Bool) (c : Choice) (ss : List (List Text)) (s : List Text) → Has ss → Each Has ss → cell b c ss ≡ holds s → Has s
unfolding cell smallest
held-some true c ss s n h e = rw (agreed-holds ss s e n.0 n.1) at (h n.0 n.1)
held-some false every ss s n h e =
    let (a, m) = h n.0 n.1 in
    (a, rw (holds_same (canon texts (flatten ss)) s e) at (canon-in texts (flatten ss) a (flatten-in ss n.0 a n.1 m)))
held-some false (least O) ss s n h e =
    let (a, m) = h n.0 n.1 in
    rw (holds_same (take 1 (canon O (flatten ss))) s e) at (has_first (canon O (flatten ss)) (a, canon-in O (flatten ss) a (flatten-in ss n.0 a n.1 m)))

-- a cell of min or max has at most one value
pub held-least : (O : Order Text) (ss : List (List Text)) (s : List Text) → cell false (least O) ss ≡ holds s → length s ≤ 1
unfolding cell smallest
held-least O ss s e = rw (← holds_same (take 1 (canon O (flatten ss))) s e) (simp length-take (omega arith))

size-held : (ss : List (List Text)) (a : List Text) → Memᴰ a ss → size (agreed ss) ≤ length a
unfolding size
size-held ss a m = go (agreed ss) refl
  where
    go : (c : Cell) → agreed ss ≡ c → size (agreed ss) ≤ length a
    go differs e = rw e zero-le
    go (holds s) e = rw (e, agreed-holds ss s e a m) (omega arith)

-- only a versioned type has a mark
pub not-unversioned : (c : Choice) (ss : List (List Text)) → cell false c ss ≡ differs → ◌≡◌ {A = ℕ} 0 1
unfolding cell
not-unversioned every ss h = cc
not-unversioned (least O) ss h = cc

module _ (t : TypeView) where
  pub in-places : (p : ℕ) → (p < t.width) ↔ Memᴰ p (places t)
  unfolding places
  in-places p = in-up_to t.width p

  pub ups-places : Ups numbers (places t)
  unfolding places
  ups-places = ups-up_to t.width

module _ {Event : Type 0} (t : View Event) where
  -- the cells of the rule's snapshots, by place
  pub cell-at-snapshot : (v : ℕ) (es : List Event) (p : ℕ) → p < t.type.width → cell_at (snapshot t v es) p ≡ cell_of t es p
  unfolding cell_at snapshot places
  cell-at-snapshot v es p h = get_d-up_to t.type.width (cell_of t es) (holds []) p h

  pub cell-at-rule : (es : List Event) (v p : ℕ) → p < t.type.width → cell_at (rule_at t es v) p ≡ cell_of t (of_version t v es) p
  unfolding rule_at
  cell-at-rule es v p h = cell-at-snapshot v (of_version t v es) p h

  -- an unversioned type: every event's version is 0, and there is one snapshot
  all_of : (v : ℕ) (es : List Event) → ((e : Event) → Memᴰ e es → t.event.version e ≡ v) → of_version t v es ≡ es
  unfolding of_version only
  all_of v [] h = refl
  all_of v (e ∷ es) h =
      let q : numbers.cmp v (t.event.version e) ≡ Ordering.eq = cc (numbers.self v, h e (Memᴰ.head refl)) in
      rw (q, all_of v es (λ d m. h d (Memᴰ.tail m)))

  pub one-snapshot :
      (v : ℕ) (e : Event) (es : List Event) → ((d : Event) → Memᴰ d (e ∷ es) → t.event.version d ≡ v) →
      (rule t (e ∷ es)).snapshots ≡ snapshot t v (e ∷ es) ∷ []
  unfolding rule rule_at
  one-snapshot v e es h = rw versions (ap (λ (l : List Event). snapshot t v l ∷ []) (all_of v (e ∷ es) h))
    where
      versions : canon numbers (map t.event.version (e ∷ es)) ≡ v ∷ []
      versions = by_members numbers (canon numbers (map t.event.version (e ∷ es))) (v ∷ []) (ups-canon numbers _) (tt, tt) (
        (λ a m. let (d, n, q) = Memᴰ.of_map t.event.version (e ∷ es) (canon-of numbers (map t.event.version (e ∷ es)) a m) in Memᴰ.head
            (sym q ∙ h d n)),
        (λ a m. canon-in numbers (map t.event.version (e ∷ es)) a
            (Memᴰ.head (Memᴰ.eq_of_singleton m ∙ sym (h e (Memᴰ.head refl))))),
      )

  -- a versioned snapshot has no more objects than any event of it
  pub sizes-held :
      t.type.versioned ≡ true → (e : Event) (es : List Event) → Memᴰ e es → (ps : List ℕ) → sizes (map (cell_of t es) ps) ≤ count t e ps
  unfolding sizes count cell_of cell
  sizes-held u e es m [] = zero-le
  sizes-held u e es m (p ∷ ps) =
      let f : Event → List Text = λ x. t.event.set x p in
      let a : size (cell_of t es p) ≤ length (f e) = rw (ap (λ (b : Bool). cell b (t.type.choice p) (map f es)) u)
      (size-held (map f es) (f e) (Memᴰ.map f m)) in
      omega (arith, sizes-held u e es m ps)
