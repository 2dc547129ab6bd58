-- Questions 3 to 6 of an event, place by place.
use mathlib.Core.Path.{◌≡◌, refl, sym, ap, ap₂, ◌∙◌, subst, subst₂}
use mathlib.Core.Logic.{⊎_elim}
use mathlib.Core.Bool.{Bool, true, false, cond, not, ◌&&◌, ◌||◌, and-eq-true_iff}
use mathlib.Core.Option.{none, some}
use mathlib.Core.List.Memᴰ
use mathlib.Core.List.{List, [], ◌∷◌, ◌++◌, map, flatten, Memᴰ}
use Prim.Native.Nat.{ℕ, zero, suc, ◌+◌, ◌-◌, ◌^◌, ◌≤◌, ◌<◌}
use native.Mathlib.Omega.{arith}
use lib.Dec.{leb, eqb}
use lib.ListN.{length, get_or, get_elem?, length-append, get_or-eq_default}
use borrow.Author.Tests.{leb-true, eqb-true, not-true}
use Rattle.model.specs.Order.{Order, Text, texts, rising}
use Rattle.model.specs.Sets.{Ups, up_to}
use Rattle.model.specs.Rule.{every, least, places}
use Rattle.model.proofs.PartLaws.{count, map-get_d}
use Rattle.model.proofs.WayClaims.{Has}
use Rattle.model.proofs.Cases.{never, truth, found, and_parts, or-part}
use Rattle.model.proofs.SetLaws.{rising-ups}
use Rattle.packed.proofs.LayoutLaws.{All, lt-or-ge}
use Rattle.values.specs.Decimal.{numeral, in_decimal}
use Rattle.values.specs.Spaces.{Kind, sequence, is_unsigned, is_of_kind, in_space}
use Rattle.values.specs.ValueOrder.{extreme_order}
use Rattle.values.proofs.NumberOrderLaws.{unsigned-below, in-decimal-sequence}
use Rattle.replies.specs.Questions.{accepted, ask}
use Rattle.replies.proofs.QuestionLaws.{asked-then, ask-some, ensured, accepted-same}
use Rattle.ontology.specs.Table.{Strategy, min, max, add, replace, match, set, any, strategy_number, Property, EventType, Table, is_min, is_max, is_match}
use Rattle.ontology.specs.Table.{is_versioned, type_named, at_place}
use Rattle.ontology.proofs.TableLaws.{TypeKept, extreme-single}
use Rattle.ontology.proofs.TypeIndexLaws.{named-at}
use Rattle.event.specs.Event.{Event, object_count, set_at, version_of, choice_of, type_view, event_view, view}
use Rattle.event.specs.EventLayout.{Counts, narrow, wide, event_of}
use Rattle.event.specs.EventQuestions.{each_place, is_empty, set_fits, match_count, event_shape, are_in_space, values_fit, Typed, event_asked}
use Rattle.event.proofs.EventLayoutLaws.{SetWritten, EventWritten, event-was, event-wide}
use Rattle.event.proofs.EventSizeLaws.{event-match}

-- ---- members of a list

module _ {A : Type 0} (ok : A → Type 0) where
  pub all-member : (xs : List A) → All ok xs → (a : A) → Memᴰ a xs → ok a
  all-member [] h a x'' = elim x'' [ ]
  all-member (x ∷ xs) h a (Memᴰ.head q) = rw q h.0
  all-member (x ∷ xs) h a (Memᴰ.tail m) = all-member xs h.1 a m

  pub all_append : (xs ys : List A) → All ok xs → All ok ys → All ok (xs ++ ys)
  all_append [] ys h k = k
  all_append (x ∷ xs) ys h k = (h.0, all_append xs ys h.1 k)

  pub member-all : (xs : List A) → ((a : A) → Memᴰ a xs → ok a) → All ok xs
  member-all [] h = tt
  member-all (x ∷ xs) h = (h x (Memᴰ.head refl), member-all xs (λ a m. h a (Memᴰ.tail m)))

  pub all-at : (d : A) → ok d → (xs : List A) → All ok xs → (p : ℕ) → ok (get_or xs p d)
  all-at d o [] h p = o
  all-at d o (x ∷ xs) h zero = h.0
  all-at d o (x ∷ xs) h (suc p) = all-at d o xs h.1 p

  pub at_all : (d : A) (xs : List A) → ((p : ℕ) → p < length xs → ok (get_or xs p d)) → All ok xs
  at_all d [] h = tt
  at_all d (x ∷ xs) h = (h 0 (omega arith), at_all d xs (λ p l. h (suc p) (omega arith)))

-- ---- what is asked of each place

module _ (f : Property → List Text → Bool) (g : List Text → Bool) where
  pub each-place-at :
      (ps : List Property) (ss : List (List Text)) → each_place f g ps ss ≡ true → (p : ℕ) (q : Property) → get_elem? ps p ≡ some q →
      f q (get_or ss p []) ≡ true
  unfolding each_place
  each-place-at [] ss h p q e = never (cc)
  each-place-at (x ∷ ps) [] h zero q e = let k : x ≡ q = cc in rw (← k) ((and-eq-true_iff (f x []) _).0 h).0
  each-place-at (x ∷ ps) [] h (suc p) q e = each-place-at ps [] ((and-eq-true_iff (f x []) _).0 h).1 p q e
  each-place-at (x ∷ ps) (s ∷ ss) h zero q e = let k : x ≡ q = cc in rw (← k) ((and-eq-true_iff (f x s) _).0 h).0
  each-place-at (x ∷ ps) (s ∷ ss) h (suc p) q e = each-place-at ps ss ((and-eq-true_iff (f x s) _).0 h).1 p q e

  pub each-place-past :
      (ps : List Property) (ss : List (List Text)) → each_place f g ps ss ≡ true → (p : ℕ) → p < length ss → get_elem? ps p ≡ none →
      g (get_or ss p []) ≡ true
  unfolding each_place
  each-place-past ps [] h p l e = absurd (omega arith)
  each-place-past [] (s ∷ ss) h zero l e = ((and-eq-true_iff (g s) _).0 h).0
  each-place-past [] (s ∷ ss) h (suc p) l e = each-place-past [] ss ((and-eq-true_iff (g s) _).0 h).1 p (omega arith) refl
  each-place-past (x ∷ ps) (s ∷ ss) h zero l e = never (cc)
  each-place-past (x ∷ ps) (s ∷ ss) h (suc p) l e = each-place-past ps ss ((and-eq-true_iff (f x s) _).0 h).1 p (omega arith) e

  pub place-each :
      (ps : List Property) (ss : List (List Text)) → ((p : ℕ) (q : Property) → get_elem? ps p ≡ some q → f q (get_or ss p []) ≡ true) →
      ((p : ℕ) → p < length ss → get_elem? ps p ≡ none → g (get_or ss p []) ≡ true) → each_place f g ps ss ≡ true
  unfolding each_place
  place-each [] [] h k = refl
  place-each [] (s ∷ ss) h k = rw (k 0 (omega arith) refl) (place-each [] ss (λ p q e. never (cc)) (λ p l e. k (suc p) (omega arith) refl))
  place-each (x ∷ ps) [] h k = rw (h 0 x refl) (place-each ps [] (λ p q e. h (suc p) q e) (λ p l e. absurd (omega arith)))
  place-each (x ∷ ps) (s ∷ ss) h k = rw (h 0 x refl) (place-each ps ss (λ p q e. h (suc p) q e) (λ p l e. k (suc p) (omega arith) e))

pub in-space : (k : Kind) (s : List Text) → are_in_space k s ≡ true → (v : Text) → Memᴰ v s → in_space k v ≡ true
unfolding are_in_space
in-space k [] h v x'' = elim x'' [ ]
in-space k (x ∷ s) h v (Memᴰ.head q) = rw q ((and-eq-true_iff (in_space k x) _).0 h).0
in-space k (x ∷ s) h v (Memᴰ.tail m) = in-space k s ((and-eq-true_iff (in_space k x) _).0 h).1 v m

pub are-in-space : (k : Kind) (s : List Text) → ((v : Text) → Memᴰ v s → in_space k v ≡ true) → are_in_space k s ≡ true
unfolding are_in_space
are-in-space k [] h = refl
are-in-space k (x ∷ s) h = rw (h x (Memᴰ.head refl)) (are-in-space k s (λ v m. h v (Memᴰ.tail m)))

-- sets that are equal in every match property
abbrev pub MatchAlike : List Property → List (List Text) → List (List Text) → Type 0
MatchAlike ps ss ts = (p : ℕ) (q : Property) → get_elem? ps p ≡ some q → is_match q ≡ true → get_or ss p [] ≡ get_or ts p []

pub match-count : (ps : List Property) (ss ts : List (List Text)) → length ss ≡ length ts → MatchAlike ps ss ts →
    match_count ps ss ≡ match_count ps ts
unfolding match_count
match-count [] ss ts l h = refl
match-count (x ∷ ps) [] [] l h = refl
match-count (x ∷ ps) [] (t ∷ ts) l h = absurd (omega arith)
match-count (x ∷ ps) (s ∷ ss) [] l h = absurd (omega arith)
match-count (x ∷ ps) (s ∷ ss) (t ∷ ts) l h =
    ap₂ (λ (a b : ℕ). a + b)
    (truth (is_match x) (λ y. ap (λ (r : List Text). cond (is_match x) (length r) 0) (h 0 x refl y)) (λ n. rw n))
    (match-count ps ss ts (omega arith) (λ p q e y. h (suc p) q e y))

-- "are mandatory ones there, single ones single"
pub fits-some : (q : Property) (s : List Text) → set_fits q s ≡ true → q.optional ≡ false → Has s
unfolding set_fits
fits-some q [] h o = never (cc (or-part q.optional false ((and-eq-true_iff (q.optional || false) _).0 h).0 o))
fits-some q (v ∷ s) h o = (v, Memᴰ.head refl)

pub fits-single : (q : Property) (s : List Text) → set_fits q s ≡ true → q.multivalued ≡ false → length s ≤ 1
unfolding set_fits
fits-single q s h o = leb-true (length s) 1 (or-part q.multivalued _ ((and-eq-true_iff (q.optional || leb 1 (length s)) _).0 h).1 o)

-- ---- the questions in their order

-- an event that is accepted, and its type
pub record EventAccepted (counts : Counts) (table : Table) (s : List ℕ) (t : EventType) (e : Event) : Type 0 where
  pub read : event_of counts s ≡ some e
  pub typed : type_named e.head.type table ≡ some t
  pub shape : event_shape t e ≡ true
  pub values : values_fit t e.sets ≡ true

module _ (counts : Counts) (table : Table) (s : List ℕ) (t : EventType) (e : Event) where
  pub event-accepted : event_asked counts table s ≡ accepted (record { type = t; event = e }) → EventAccepted counts table s t e
  unfolding event_asked
  event-accepted h =
      let (d, r, k) = asked-then (ask 3 (event_of counts s)) _ _ h in
      let (u, y, l) = asked-then (ask 4 (type_named d.head.type table)) _ _ k in
      let (a, m) = ensured 5 (event_shape u d) _ _ l in
      let (b, n) = ensured 6 (values_fit u d.sets) _ _ m in
      let q = accepted-same (record { type = u; event = d }) (record { type = t; event = e }) n in
      subst₂ (EventAccepted counts table s) (ap (λ (x : Typed). x.type) q) (ap (λ (x : Typed). x.event) q)
      (record { read = ask-some 3 (event_of counts s) d r; typed = ask-some 4 (type_named d.head.type table) u y; shape = a; values = b })

  pub accepted-event : EventAccepted counts table s t e → event_asked counts table s ≡ accepted (record { type = t; event = e })
  unfolding event_asked
  accepted-event a = rw (a.read, a.typed, a.shape, a.values)

-- an accepted event is taken in the wider counts too
pub accepted-wide : (table : Table) (s : List ℕ) (a : Typed) → event_asked narrow table s ≡ accepted a → event_asked wide table s ≡ accepted a
accepted-wide table s a h =
    let k = event-accepted narrow table s a.type a.event h in
    accepted-event wide table s a.type a.event
    (record { read = event-wide s a.event k.read; typed = k.typed; shape = k.shape; values = k.values })

-- ---- what an accepted event has, place by place

pub record EventFits (t : EventType) (e : Event) : Type 0 where
  pub named : e.head.type ≡ t.name
  pub written : EventWritten narrow e
  pub fits : (p : ℕ) (q : Property) → get_elem? t.properties p ≡ some q → set_fits q (set_at e p) ≡ true
  pub vacant : (p : ℕ) → get_elem? t.properties p ≡ none → set_at e p ≡ []
  pub values : (p : ℕ) (q : Property) → get_elem? t.properties p ≡ some q → (v : Text) → Memᴰ v (set_at e p) → in_space q.kind v ≡ true
  pub matches : match_count t.properties e.sets ≤ 32

empty-set : (s : List Text) → is_empty s ≡ true → s ≡ []
empty-set [] h = refl
empty-set (v ∷ s) h = never (cc (eqb-true (suc (length s)) 0 h))

pub event-fits : (table : Table) (s : List ℕ) (t : EventType) (e : Event) → EventAccepted narrow table s t e → EventFits t e
unfolding event_shape values_fit
event-fits table s t e a =
    let shape = ((and-eq-true_iff (each_place set_fits is_empty t.properties e.sets) _).0 a.shape).0 in
    record {
      named = sym (named-at e.head.type table t a.typed).2;
      written = (event-was narrow s e a.read).1;
      fits = each-place-at set_fits is_empty t.properties e.sets shape;
      vacant = λ p n. ⊎_elim
          (λ (l : p < length e.sets). empty-set (set_at e p) (each-place-past set_fits is_empty t.properties e.sets shape p l n))
          (λ (l : length e.sets ≤ p). get_or-eq_default e.sets [] l)
          (lt-or-ge p (length e.sets));
      values =
          λ p q n. in-space q.kind (set_at e p) (each-place-at (λ p s. are_in_space p.kind s) (λ s. true) t.properties e.sets a.values p q n);
      matches = event-match t e a.shape;
    }

-- what a strategy chooses
pub choice-every : (q : Property) → (is_min q || is_max q) ≡ false → choice_of q ≡ every
unfolding choice_of
choice-every q h = rw h

pub choice-least : (q : Property) → (is_min q || is_max q) ≡ true → choice_of q ≡ least (extreme_order (is_max q) q.kind)
unfolding choice_of
choice-least q h = rw h

pub empty-written : SetWritten []
empty-written = record { rises = unfold rising in refl; few = omega arith; short = tt }

module _ (t : EventType) (e : Event) (a : EventFits t e) where
  pub set-written : (p : ℕ) → SetWritten (set_at e p)
  set-written p = all-at SetWritten [] empty-written e.sets a.written.sets.each p

  pub set-rises : (p : ℕ) → Ups texts (set_at e p)
  set-rises p = (rising-ups texts (set_at e p)).0 (set-written p).rises

-- ---- what the rule reads of an event

module _ (t : EventType) (p : ℕ) where
  pub choice-none : get_elem? t.properties p ≡ none → ((type_view t).choice p ≡ every) × ((type_view t).replaces p ≡ false)
  unfolding type_view event_view at_place
  choice-none n = (rw n, rw n)

  module _ (q : Property) (n : get_elem? t.properties p ≡ some q) where
    pub choice-match : is_match q ≡ true → ((type_view t).choice p ≡ every) × ((type_view t).replaces p ≡ false)
    unfolding type_view event_view at_place
    choice-match m = (rw n (choice-every q (go q.strategy m).0), rw n (go q.strategy m).1)
      where
        go :
            (s : Strategy) → eqb (strategy_number s) (strategy_number match) ≡ true →
            ((eqb (strategy_number s) (strategy_number min) || eqb (strategy_number s) (strategy_number max)) ≡ false)
            × (eqb (strategy_number s) (strategy_number replace) ≡ false)
        go min h = never (cc)
        go max h = never (cc)
        go add h = never (cc)
        go replace h = never (cc)
        go match h = (refl, refl)
        go set h = never (cc)
        go any h = never (cc)

    pub single-at : (type_view t).single p ≡ not q.multivalued
    unfolding type_view event_view at_place
    single-at = rw n

    pub extreme-least : (is_min q || is_max q) ≡ true → (O : Order Text) × ((type_view t).choice p ≡ least O)
    unfolding type_view event_view at_place
    extreme-least h = (extreme_order (is_max q) q.kind, rw n (choice-least q h))

    least-extreme : (O : Order Text) → (type_view t).choice p ≡ least O → (is_min q || is_max q) ≡ true
    unfolding type_view event_view at_place
    least-extreme O h = go (is_min q || is_max q) refl (rw n at h)
      where
        go : (b : Bool) → (is_min q || is_max q) ≡ b → choice_of q ≡ least O → b ≡ true
        go true e h = refl
        go false e h = never (cc (choice-every q e))

-- a place at which the rule chooses has at most one value in each event
pub least-few :
    (t : EventType) (e : Event) → TypeKept t → EventFits t e → (p : ℕ) (O : Order Text) → (type_view t).choice p ≡ least O →
    length (set_at e p) ≤ 1
least-few t e k a p O h =
    found (get_elem? t.properties p)
    (λ q n. fits-single q (set_at e p) (a.fits p q n) (extreme-single (is_versioned t) q (k.fits p q n) (least-extreme t p q n O h)))
    (λ n. let z : every ≡ least O = sym (choice-none t p n).0 ∙ h in never (cc))

-- a single-valued place has at most one value in each event
pub single-few : (t : EventType) (e : Event) → EventFits t e → (p : ℕ) → (type_view t).single p ≡ true → length (set_at e p) ≤ 1
unfolding type_view event_view at_place
single-few t e a p h =
    found (get_elem? t.properties p)
    (λ q n. fits-single q (set_at e p) (a.fits p q n) (not-true q.multivalued (sym (single-at t p q n) ∙ h)))
    (λ n. let z : false ≡ true = rw n at h in never (cc))

-- ---- sets of at most one value

pub no_value : (s : List Text) → length s ≡ 0 → s ≡ []
no_value [] h = refl
no_value (v ∷ s) h = absurd (omega arith)

pub one_value : (s : List Text) → (length s ≡ 0 → ⊥) → length s ≤ 1 → s ≡ get_or s 0 [] ∷ []
one_value [] h l = absurd (h refl)
one_value (v ∷ []) h l = refl
one_value (v ∷ w ∷ s) h l = absurd (omega arith)

pub one-in-space : (k : Kind) (s : List Text) → (length s ≡ 0 → ⊥) → length s ≤ 1 → are_in_space k s ≡ true →
    in_space k (get_or s 0 []) ≡ true
unfolding are_in_space
one-in-space k [] h l e = absurd (h refl)
one-in-space k (v ∷ []) h l e = (and_parts (in_space k v) true e).0
one-in-space k (v ∷ w ∷ s) h l e = absurd (omega arith)

-- ---- the event's version

sequence-value : (k : Kind) (v : Text) → k ≡ sequence → in_space k v ≡ true → is_unsigned 8 v ≡ true
unfolding in_space is_of_kind
sequence-value k v e h = rw e at ((and-eq-true_iff (leb 1 (length v) && leb (length v) 120) (is_of_kind k v)).0 h).1

module _ (t : EventType) (e : Event) (k : TypeKept t) (a : EventFits t e) where
  -- the marked property has one value, a sequence number
  marked-value :
      is_versioned t ≡ true →
      (set_at e (t.mark - 1) ≡ get_or (set_at e (t.mark - 1)) 0 [] ∷ []) × (is_unsigned 8 (get_or (set_at e (t.mark - 1)) 0 []) ≡ true)
  marked-value u =
      let m = k.marked u in
      let p = t.mark - 1 in
      let s = set_at e p in
      let fit = a.fits p m.property m.at in
      let (v, there) = fits-some m.property s fit m.can.mandatory in
      let some : length s ≡ 0 → ⊥ = λ z. Memᴰ.not-nil (subst (Memᴰ v) (no_value s z) there) in
      let q : s ≡ get_or s 0 [] ∷ [] = one_value s some (fits-single m.property s fit m.can.single) in
      let i : Memᴰ (get_or s 0 []) s = subst (Memᴰ (get_or s 0 [])) (sym q) (Memᴰ.head refl) in
      (q, sequence-value m.property.kind (get_or s 0 []) m.can.kind (a.values p m.property m.at (get_or s 0 []) i))

  -- "An event's version is the number in its marked property", which has it in decimal
  pub version-set : is_versioned t ≡ true → set_at e (t.mark - 1) ≡ in_decimal (version_of t e) ∷ []
  unfolding version_of
  version-set u =
      let (q, s) = marked-value u in
      q ∙ ap (λ (v : Text). v ∷ []) (sym (in-decimal-sequence _ s)
      ∙ ap in_decimal (sym (ap (λ (b : Bool). cond b (numeral (get_or (set_at e (t.mark - 1)) 0 [])) 0) u)))

  pub version_below : version_of t e < 2 ^ 64
  unfolding version_of
  version_below = truth (is_versioned t) (λ u. rw u (unsigned-below 8 _ (marked-value u).1)) (λ u. rw u (omega arith))

pub version-none : (t : EventType) (e : Event) → is_versioned t ≡ false → version_of t e ≡ 0
unfolding version_of
version-none t e u = rw u

-- the objects at all places
pub count-sets : (t : EventType) (e : Event) (ps : List ℕ) → count (view t) e ps ≡ object_count (map (set_at e) ps)
unfolding count object_count type_view event_view
count-sets t e [] = refl
count-sets t e (p ∷ ps) = ap (λ (n : ℕ). length (set_at e p) + n) (count-sets t e ps)

pub count-objects : (t : EventType) (e : Event) → length e.sets ≡ 32 → count (view t) e (places (type_view t)) ≡ object_count e.sets
unfolding places type_view event_view
count-objects t e l = count-sets t e (up_to 32) ∙ ap object_count (map-get_d e.sets [] 32 l)

pub flat-objects : (ss : List (List Text)) → object_count ss ≡ length (flatten ss)
unfolding object_count flatten
flat-objects [] = refl
flat-objects (s ∷ ss) = simp length-append (omega (arith, flat-objects ss))
