-- The laws of joining two unversioned snapshots.
use mathlib.Core.Path.{◌≡◌, refl, sym, ap, ap₂, ◌∙◌, subst}
use mathlib.Core.Bool.{Bool, true, false, ◌||◌}
use mathlib.Core.Option.{Option, none, some}
use mathlib.Core.List.{List, [], ◌∷◌, ◌++◌, map, flatten, append-nil, Memᴰ}
use Prim.Native.Nat.{ℕ, zero, suc, ◌+◌, ◌-◌, ◌≤◌, ◌<◌}
use native.Mathlib.Omega.{arith}
use native.Mathlib.Numerals.{add-one}
use lib.Dec.{ltb}
use lib.ListN.{length, take, drop, get_or, get_elem?, length-append, length-map}
use lib.Seq.{take_all}
use borrow.Author.Tests.{lt-ltb, le-ltb}
use Rattle.model.specs.Order.{Order, Text, texts, rising}
use Rattle.model.specs.Sets.{union, up_from, up_to}
use Rattle.model.specs.Rule.{Choice, every, least, Cell, holds, join_cell, places, Snapshot, join_snapshots}
use Rattle.model.specs.Opening.{held, cell_at}
use Rattle.model.proofs.Cases.{never}
use Rattle.model.proofs.SetLaws.{rising-ups, union-in}
use Rattle.model.proofs.PartLaws.{map_same}
use Rattle.model.proofs.StepLaws.{union-left-nil, union-right-nil, join-map}
use Rattle.packed.specs.Packed.{number, text}
use Rattle.packed.specs.code.Written.{Wrote, ToGo}
use Rattle.packed.proofs.LayoutLaws.{text-length, number-bounds}
use Rattle.packed.proofs.WriteLaws.{wrote-length, wrote_then, wrote_as}
use Rattle.values.specs.Spaces.{Kind, kind_number, in_space}
use Rattle.values.specs.ValueOrder.{is_ordered, extreme_order}
use Rattle.ontology.specs.Table.{Property, EventType, is_min, is_max, is_versioned, at_place}
use Rattle.ontology.specs.code.TypeIndex.{PropertiesAre, PropertyIs, property_in, has_max}
use Rattle.ontology.specs.declared.properties.PropertyAt.{PropertyAt}
use Rattle.ontology.proofs.TypeIndexLaws.{max_of}
use Rattle.event.specs.Event.{type_view, event_view}
use Rattle.event.specs.EventLayout.{set_bytes, sets_bytes, presence_bit, bit_number}
use Rattle.event.specs.EventQuestions.{are_in_space, values_fit}
use Rattle.event.specs.code.EventIndex.{SetIs, SetsAre, set_in, bit_of}
use Rattle.event.proofs.SetLaws.{set-read}
use Rattle.event.specs.declared.sets.SetAt.{SetAt}
use Rattle.event.proofs.BitLaws.{presence-bits}
use Rattle.event.proofs.EventQuestionLaws.{each-place-at, choice-least, no_value, one_value, one-in-space}
use Rattle.event.proofs.SetWriteLaws.{set-some, set_room, wrote-set}
use Rattle.unions.specs.declared.pair.Joined.{Joined}
use Rattle.unions.specs.code.Runs.{TextsRoom, WroteUnion}
use Rattle.dossier.specs.DossierBody.{differ_bit, snapshot_bytes}
use Rattle.dossier.specs.DossierQuestions.{snapshot_values}
use Rattle.dossier.proofs.CellLaws.{held_at}
use Rattle.combining.specs.code.CombineIndex.{is_extreme_at, Fitting}
use Rattle.combining.specs.code.JoinedIndex.{have_objects, PresentAre, NoObjectsFrom, Extremes, joined_set, ValuesAre, ValuesRoom, Paired}
use Rattle.combining.specs.code.JoinedIndex.{PlaceIs, PlaceRoom}
use Rattle.combining.proofs.CheckLaws.{sets-held, none_differ}
use Rattle.combining.proofs.PartLaws.{PartsRoom}
use Rattle.combining.proofs.ObjectLaws.{keeps-every, Joins, left-cell, right-cell}
use Rattle.combining.proofs.PlaceLaws.{version-none, left-vacant, right-vacant, FilledOnly, only-all}

-- ---- the smaller or larger of two values

whole_part : (v : Text) → take (length v - 0) (drop 0 v) ≡ v
whole_part v = take_all (length v - 0) v (omega arith)

module _ {k : Kind} {kind : ℕ} {xs ys : List Text} (e : Extremes k kind xs ys) where
  pub chosen-right : (O : Order Text) {w : Text} → length xs ≡ 0 → w ≡ get_or ys 0 [] → w ∷ [] ≡ take 1 (union O xs ys)
  chosen-right O n q =
      let y : ys ≡ get_or ys 0 [] ∷ [] = one_value ys (λ z. omega (arith, e.some)) e.right-one in
      ap (λ (v : Text). v ∷ []) q ∙ sym (ap (take 1) (ap (λ (l : List Text). union O l ys) (no_value xs n) ∙ union-left-nil O ys ∙ y))

  pub chosen-left : (O : Order Text) {v : Text} → length ys ≡ 0 → v ≡ get_or xs 0 [] → v ∷ [] ≡ take 1 (union O xs ys)
  unfolding rising
  chosen-left O {v} n q =
      let x : xs ≡ v ∷ [] = one_value xs (λ z. omega (arith, e.some)) e.left_one ∙ ap (λ (v : Text). v ∷ []) (sym q) in
      sym (ap (take 1) (ap₂ (union O) x (no_value ys n) ∙ union-right-nil O (v ∷ []) ((rising-ups O (v ∷ [])).0 refl)))

  pub chosen-both :
      {largest wanted : Bool} {r v w : Text} → largest ≡ wanted → (length xs ≡ 0 → ⊥) → (length ys ≡ 0 → ⊥) → v ≡ get_or xs 0 [] →
      w ≡ get_or ys 0 [] →
      ((k : Kind) → kind_number k ≡ kind → is_ordered k ≡ true →
      in_space k (take (length v - 0) (drop 0 v)) ≡ true → in_space k (take (length w - 0) (drop 0 w)) ≡ true →
      r ∷ [] ≡ take 1 (union (extreme_order largest k) (take (length v - 0) (drop 0 v) ∷ []) (take (length w - 0) (drop 0 w) ∷ []))) →
      r ∷ [] ≡ take 1 (union (extreme_order wanted k) xs ys)
  chosen-both {largest} {wanted} {r} {v} {w} same m n p q c =
      let x : xs ≡ v ∷ [] = one_value xs m e.left_one ∙ ap (λ (v : Text). v ∷ []) (sym p) in
      let y : ys ≡ w ∷ [] = one_value ys n e.right-one ∙ ap (λ (v : Text). v ∷ []) (sym q) in
      let all-v = whole_part v in
      let all-w = whole_part w in
      c k e.number e.ordered
      (ap (in_space k) (all-v ∙ p) ∙ one-in-space k xs m e.left_one e.left-values)
      (ap (in_space k) (all-w ∙ q) ∙ one-in-space k ys n e.right-one e.right-values)
      ∙ ap₂ (λ (a b : List Text). take 1 (union (extreme_order largest k) a b))
      (ap (λ (a : Text). a ∷ []) all-v ∙ sym x) (ap (λ (a : Text). a ∷ []) all-w ∙ sym y)
      ∙ ap (λ (b : Bool). take 1 (union (extreme_order b k) xs ys)) same

-- ---- the set of a place

-- the property of a place of strategy min or max
pub record ExtremeAt (ty : EventType) (p : ℕ) : Type 0 where
  pub what : Property
  pub is : get_elem? ty.properties p ≡ some what
  pub extreme : (is_min what || is_max what) ≡ true

extreme-at : (ty : EventType) (p : ℕ) → is_extreme_at ty p ≡ true → ExtremeAt ty p
unfolding is_extreme_at at_place
extreme-at ty p h = go (get_elem? ty.properties p) refl h
  where
    go : (o : Option Property) → get_elem? ty.properties p ≡ o → at_place false (λ (q : Property). is_min q || is_max q) o ≡ true → ExtremeAt ty p
    go none e h = never (cc)
    go (some q) e h = record { what = q; is = e; extreme = h }

least_at : (ty : EventType) (p : ℕ) (e : ExtremeAt ty p) → (type_view ty).choice p ≡ least (extreme_order (is_max e.what) e.what.kind)
unfolding type_view event_view at_place
least_at ty p e = rw e.is (choice-least e.what e.extreme)

-- a union is empty only where both sets are
union-some : (O : Order Text) (xs ys : List Text) → 1 ≤ length xs + length ys → 1 ≤ length (union O xs ys)
union-some O xs ys h = some_in (xs ++ ys) (omega (arith, length-append xs ys)) (union-in O xs ys)
  where
    member : (m : List Text) (a : Text) → Memᴰ a m → 1 ≤ length m
    member [] a x' = elim x' [ ]
    member (b ∷ m) a (Memᴰ.head q) = omega arith
    member (b ∷ m) a (Memᴰ.tail n) = omega arith

    some_in : (l : List Text) → 1 ≤ length l → ((a : Text) → Memᴰ a l → Memᴰ a (union O xs ys)) → 1 ≤ length (union O xs ys)
    some_in [] h w = absurd (omega arith)
    some_in (a ∷ l) h w = member (union O xs ys) a (w a (Memᴰ.head refl))

-- the first of a list that is not empty
take-one : (l : List Text) → 1 ≤ length l → length (take 1 l) ≡ 1
take-one [] h = absurd (omega arith)
take-one (a ∷ l) h = refl

module _ (ty : EventType) (p : ℕ) (xs ys : List Text) where
  joined-every : is_extreme_at ty p ≡ false → joined_set ty p xs ys ≡ union texts xs ys
  unfolding join_cell held
  joined-every h = rw (keeps-every ty p h)

  joined-extreme : (e : ExtremeAt ty p) → joined_set ty p xs ys ≡ take 1 (union (extreme_order (is_max e.what) e.what.kind) xs ys)
  unfolding join_cell held
  joined-extreme e = rw (least_at ty p e)

  -- it is empty only where both are
  joined-none : xs ≡ [] → ys ≡ [] → joined_set ty p xs ys ≡ []
  unfolding join_cell held
  joined-none a b = ap₂ (joined_set ty p) a b ∙ go ((type_view ty).choice p)
    where
      go : (c : Choice) → held (join_cell false c (holds []) (holds [])) ≡ []
      go every = union-left-nil texts []
      go (least O) = ap (take 1) (union-left-nil O [])

  one-of-both : (O : Order Text) → 1 ≤ length xs + length ys → length (take 1 (union O xs ys)) ≡ 1
  one-of-both O h = take-one (union O xs ys) (union-some O xs ys h)

  joined-some : 1 ≤ length xs + length ys → 1 ≤ length (joined_set ty p xs ys)
  unfolding join_cell held
  joined-some h = go ((type_view ty).choice p)
    where
      go : (c : Choice) → 1 ≤ length (held (join_cell false c (holds xs) (holds ys)))
      go every = union-some texts xs ys h
      go (least O) = omega (arith, one-of-both O h)

  -- a place of strategy min or max has one value then
  joined-one : 1 ≤ length xs + length ys → is_extreme_at ty p ≡ true → 1 ≡ length (joined_set ty p xs ys)
  joined-one h x =
      let e = extreme-at ty p x in
      sym (ap length (joined-extreme e) ∙ one-of-both (extreme_order (is_max e.what) e.what.kind) h)

-- ---- whether one of two places has objects

module _ (a : List ℕ) (x : SetAt) (b : List ℕ) (y : SetAt) (xs ys : List Text) (v : SetIs a xs x) (w : SetIs b ys y) where
  have-none : have_objects x y ≡ false → (xs ≡ []) × (ys ≡ [])
  have-none h = go x.count y.count v.count w.count h
    where
      go : (m n : ℕ) → m ≡ length xs → n ≡ length ys → (ltb 0 m || ltb 0 n) ≡ false → (xs ≡ []) × (ys ≡ [])
      go zero zero p q h = (no_value xs (sym p), no_value ys (sym q))
      go zero (suc n) p q h = let z : ltb 0 (suc n) ≡ true = lt-ltb 0 (suc n) (omega arith) in never (cc)
      go (suc m) n p q h = let z : ltb 0 (suc m) ≡ true = lt-ltb 0 (suc m) (omega arith) in never (cc (rw z at h))

  have-some : have_objects x y ≡ true → 1 ≤ length xs + length ys
  have-some h = go x.count y.count v.count w.count h
    where
      go : (m n : ℕ) → m ≡ length xs → n ≡ length ys → (ltb 0 m || ltb 0 n) ≡ true → 1 ≤ length xs + length ys
      go zero zero p q h = let z : ltb 0 0 ≡ false = le-ltb 0 0 (omega arith) in never (cc (rw z at h))
      go zero (suc n) p q h = omega arith
      go (suc m) n p q h = omega arith

  module _ (ty : EventType) (p : ℕ) where
    nothing-bytes : have_objects x y ≡ false → set_bytes (joined_set ty p xs ys) ≡ []
    unfolding set_bytes
    nothing-bytes h = let (m, n) = have-none h in ap set_bytes (joined-none ty p xs ys m n)

    some_bytes : have_objects x y ≡ true →
        set_bytes (joined_set ty p xs ys) ≡ number (length (joined_set ty p xs ys)) ++ flatten (map text (joined_set ty p xs ys))
    unfolding set_bytes
    some_bytes h = go (joined_set ty p xs ys) (joined-some ty p xs ys (have-some h))
      where
        go : (l : List Text) → 1 ≤ length l → set_bytes l ≡ number (length l) ++ flatten (map text l)
        go [] h = absurd (omega arith)
        go (c ∷ l) h = refl

    presence-is : presence_bit (joined_set ty p xs ys) ≡ bit_of (have_objects x y)
    unfolding presence_bit bit_of
    presence-is = go (have_objects x y) refl
      where
        one : (l : List Text) → 1 ≤ length l → presence_bit l ≡ 1
        one [] h = absurd (omega arith)
        one (c ∷ l) h = refl

        go : (b : Bool) → have_objects x y ≡ b → presence_bit (joined_set ty p xs ys) ≡ bit_of b
        go false e = let (m, n) = have-none e in ap presence_bit (joined-none ty p xs ys m n)
        go true e = one (joined_set ty p xs ys) (joined-some ty p xs ys (have-some e))

-- ---- writing the union of two sets

-- each value takes a byte at least
texts-few : (xs : List Text) → length xs ≤ length (flatten (map text xs))
unfolding flatten
texts-few [] = omega arith
texts-few (x ∷ xs) = omega (arith, length-append (text x) (flatten (map text xs)), text-length x, number-bounds (length x), texts-few xs)

module _ {a : List ℕ} {m : ℕ} {b : List ℕ} {n : ℕ} {xs ys : List Text} (w : ValuesAre a m b n xs ys) where
  pub values-few : (m ≤ length a) × (n ≤ length b)
  values-few = (
    omega (arith, w.left-count, texts-few xs, ap length w.left),
    omega (arith, w.right-count, texts-few ys, ap length w.right),
  )

  module _ (some : 1 ≤ m + n) where
    values-bytes : set_bytes (union texts xs ys) ≡ number (length (union texts xs ys)) ++ flatten (map text (union texts xs ys))
    values-bytes =
        let k = union-some texts xs ys (omega (arith, w.left-count, w.right-count)) in
        set-some (length (union texts xs ys)) (union texts xs ys) refl (λ z. omega (arith, k))

    -- the bytes that the count and the values take
    values-size :
        length (set_bytes (union texts xs ys)) ≡ length (number (length (union texts xs ys))) + length (flatten (map text (union texts xs ys)))
    values-size = ap length values-bytes ∙ length-append (number (length (union texts xs ys))) (flatten (map text (union texts xs ys)))

    -- the values go one byte after where the count is to stand, which takes a byte at least
    values-room : (at size : ℕ) → at + length (set_bytes (union texts xs ys)) ≤ size → TextsRoom a b (at + 1) size
    values-room at size h = record {
      xs = xs;
      ys = ys;
      left = w.left;
      right = w.right;
      xs-rise = w.left-rises;
      ys-rise = w.right-rises;
      room = omega (arith, values-size, number-bounds (length (union texts xs ys)));
    }

    -- how many there are: those of both sets but for the second of each that both have
    values-count : {l bytes l' : List ℕ} {at : ℕ} {r : Joined} → WroteUnion l at bytes l' xs ys r → m + n - r.shared ≡ length (union texts xs ys)
    values-count o = omega (arith, o.counts, w.left-count, w.right-count)

    values-wrote : {l l' : List ℕ} {at next : ℕ} (k : ℕ) → k ≡ length (union texts xs ys) →
        Wrote l at (number k ++ flatten (map text (union texts xs ys))) l' next → Wrote l at (set_bytes (union texts xs ys)) l' next
    values-wrote k e o = wrote_as (ap (λ (i : ℕ). number i ++ flatten (map text (union texts xs ys))) e ∙ sym values-bytes) o

-- what `write_values` asks
module _ {a : List ℕ} {m : ℕ} {b : List ℕ} {n at size : ℕ} (q : ValuesRoom a m b n at size) where
  -- the count takes a byte at least
  counted-parts :
      let u = union texts q.xs q.ys in
      (1 ≤ length (number (length u))) × (at + length (number (length u)) + length (flatten (map text u)) ≤ size)
  counted-parts = ((number-bounds (length (union texts q.xs q.ys))).0, omega (arith, q.room, values-size q.are q.some))

  pub at-within : at < size
  at-within = omega (arith, counted-parts)

  pub union-there : TextsRoom a b (at + 1) size
  union-there = values-room q.are q.some at size q.room

-- and where `write_union` has left the values one byte after where their count is to stand
module _
    {a : List ℕ} {m : ℕ} {b : List ℕ} {n at : ℕ} {l l₁ : List ℕ} {r : Joined}
    (says : (xs ys : List Text) → a ≡ flatten (map text xs) → b ≡ flatten (map text ys) → rising texts xs ≡ true → rising texts ys ≡ true →
    WroteUnion l (at + 1) (flatten (map text (union texts xs ys))) l₁ xs ys r)
    (q : ValuesRoom a m b n at (length l)) where
  union-wrote : {xs ys : List Text} → ValuesAre a m b n xs ys → WroteUnion l (at + 1) (flatten (map text (union texts xs ys))) l₁ xs ys r
  union-wrote {xs} {ys} w = says xs ys w.left w.right w.left-rises w.right-rises

  pub shared-within : r.shared ≤ m + n
  shared-within = omega (arith, (union-wrote q.are).counts, q.are.left-count, q.are.right-count)

  pub before-there : (at + 1 ≤ r.next) × (r.next + (length (number (m + n - r.shared)) - 1) ≤ length l₁)
  before-there =
      let u = union-wrote q.are in
      let o = u.wrote in
      let k = ap (λ (i : ℕ). length (number i)) (values-count q.are q.some u) in
      (omega (arith, o.after), omega (arith, o.after, wrote-length o, k, counted-parts q))

  pub union-written :
      {l₂ : List ℕ} {next : ℕ} →
      ((z bytes : List ℕ) → Wrote z (at + 1) bytes l₁ r.next → Wrote z at (number (m + n - r.shared) ++ bytes) l₂ next) →
      (xs ys : List Text) → ValuesAre a m b n xs ys → Wrote l at (set_bytes (union texts xs ys)) l₂ next
  union-written before xs ys w = let u = union-wrote w in values-wrote w q.some _ (values-count w q.some u) (before l _ u.wrote)

-- ---- writing a place

-- what the chosen value asks
module _
    {count : ℕ} {ps : List ℕ} {p : ℕ} {a : List ℕ} {x : SetAt} {b : List ℕ} {y : SetAt} (some : have_objects x y ≡ true)
    (h : PlaceIs count ps p a x b y) where
  module _ (e : is_extreme_at h.type p ≡ true) where
    abbrev here : ExtremeAt h.type p
    here = extreme-at h.type p e

    property : {q : PropertyAt} → q ≡ property_in ps p → PropertyIs h.table here.what q
    property same = subst (PropertyIs h.table here.what) (sym same) (h.typed.each p here.what here.is)

    extremes : {q : PropertyAt} → q ≡ property_in ps p → Extremes here.what.kind q.kind h.xs h.ys
    extremes same = record {
      number = sym (property same).kind.number;
      ordered = h.paired.ordered here.what here.is here.extreme;
      left_one = (h.paired.few e).0;
      right-one = (h.paired.few e).1;
      left-values = (h.paired.values here.what here.is).0;
      right-values = (h.paired.values here.what here.is).1;
      some = have-some a x b y h.xs h.ys h.left h.right some;
    }

    -- the text of the chosen value is all of the set
    chosen-text :
        {q : PropertyAt} → q ≡ property_in ps p → (v : Text) →
        ((k : Kind) (xs ys : List Text) → SetIs a xs x → SetIs b ys y → Extremes k q.kind xs ys →
        v ∷ [] ≡ take 1 (union (extreme_order (has_max q) k) xs ys)) →
        text v ≡ flatten (map text (joined_set h.type p h.xs h.ys))
    unfolding flatten
    chosen-text same v c =
        sym (append-nil (text v))
        ∙ ap (λ (l : List Text). flatten (map text l))
        (c here.what.kind h.xs h.ys h.left h.right (extremes same)
        ∙ ap (λ (largest : Bool). take 1 (union (extreme_order largest here.what.kind) h.xs h.ys)) (max_of (property same))
        ∙ sym (joined-extreme h.type p h.xs h.ys here))

  -- elsewhere the union is all of the set
  place-values :
      (u v : List ℕ) → u ≡ flatten (map text h.xs) → v ≡ flatten (map text h.ys) → ValuesAre u x.count v y.count h.xs h.ys
  place-values u v l r = record {
    left = l;
    right = r;
    left-count = h.left.count;
    right-count = h.right.count;
    left-rises = h.paired.left-rises;
    right-rises = h.paired.right-rises;
  }

  place-union : is_extreme_at h.type p ≡ false → set_bytes (union texts h.xs h.ys) ≡ set_bytes (joined_set h.type p h.xs h.ys)
  place-union e = ap set_bytes (sym (joined-every h.type p h.xs h.ys e))

  abbrev whole : List Text
  whole = joined_set h.type p h.xs h.ys

  whole-bytes : set_bytes whole ≡ number (length whole) ++ flatten (map text whole)
  whole-bytes = some_bytes a x b y h.xs h.ys h.left h.right h.type p some

  place-room :
      (n at size : ℕ) → n ≡ length whole → at + length (set_bytes whole) ≤ size →
      at + length (number n) + length (flatten (map text whole)) ≤ size
  place-room n at size e k = set_room n whole at size e (subst (λ (z : List ℕ). at + length z ≤ size) whole-bytes k)

  place-wrote : {l l₁ l₂ : List ℕ} {at b next : ℕ} (n : ℕ) → n ≡ length whole →
      Wrote l at (number n) l₁ b → Wrote l₁ b (flatten (map text whole)) l₂ next → Wrote l at (set_bytes whole) l₂ next
  place-wrote n e v w = wrote_as (sym whole-bytes) (wrote-set n whole e v w)

-- `is_extreme_at` answers `asked` of the place
module _
    {count : ℕ} {ps : List ℕ} {p : ℕ} {a : List ℕ} {x : SetAt} {b : List ℕ} {y : SetAt} {asked : Bool}
    (says : (u : List ℕ) (ty : EventType) → PropertiesAre u ty.properties count ps → asked ≡ is_extreme_at ty p) where
  extreme-so : {c : Bool} → asked ≡ c → (h : PlaceIs count ps p a x b y) → is_extreme_at h.type p ≡ c
  extreme-so e h = sym (says h.table h.type h.typed) ∙ e

  -- one value is written where the strategy is min or max
  module _ (e : asked ≡ true) where
    one : have_objects x y ≡ true → (h : PlaceIs count ps p a x b y) → 1 ≡ length (joined_set h.type p h.xs h.ys)
    one there h = joined-one h.type p h.xs h.ys (have-some a x b y h.xs h.ys h.left h.right there) (extreme-so e h)

    one-parts :
        {at size : ℕ} (r : PlaceRoom count ps p a x b y at size) → let h = r.place in
        at + length (number 1) + length (flatten (map text (joined_set h.type p h.xs h.ys))) ≤ size
    one-parts r = place-room r.some r.place 1 _ _ (one r.some r.place) r.room

    pub one-room : {at size : ℕ} → PlaceRoom count ps p a x b y at size → at + length (number 1) ≤ size
    one-room r = omega (arith, one-parts r)

    -- `chosen` answers v of the property that was read
    module _
        {q : PropertyAt} (same : q ≡ property_in ps p) {v : Text}
        (chosen : (k : Kind) (xs ys : List Text) → SetIs a xs x → SetIs b ys y → Extremes k q.kind xs ys →
        v ∷ [] ≡ take 1 (union (extreme_order (has_max q) k) xs ys))
        {l l₁ : List ℕ} {at n : ℕ} (counted : Wrote l at (number 1) l₁ n) (r : PlaceRoom count ps p a x b y at (length l)) where
      value : (h : PlaceIs count ps p a x b y) → text v ≡ flatten (map text (joined_set h.type p h.xs h.ys))
      value h = chosen-text r.some h (extreme-so e h) same v chosen

      pub value_room : n + length (text v) ≤ length l₁
      value_room = omega (arith, one-parts r, counted.after, wrote-length counted, ap length (value r.place))

      pub value-wrote :
          {l₂ : List ℕ} {next : ℕ} → Wrote l₁ n (text v) l₂ next →
          (h : PlaceIs count ps p a x b y) → Wrote l at (set_bytes (joined_set h.type p h.xs h.ys)) l₂ next
      value-wrote w h = place-wrote r.some h 1 (one r.some h) counted (wrote_as (value h) w)

  -- elsewhere all values of both are, from the parts u and v that `set_part` lends
  module _
      (e : asked ≡ false) {u v : List ℕ}
      (left : (xs : List Text) → SetIs a xs x → u ≡ flatten (map text xs)) (right : (ys : List Text) → SetIs b ys y → v ≡ flatten (map text ys))
      {at size : ℕ} (r : PlaceRoom count ps p a x b y at size) where
    values : (h : PlaceIs count ps p a x b y) → ValuesAre u x.count v y.count h.xs h.ys
    values h = place-values r.some h u v (left h.xs h.left) (right h.ys h.right)

    all_there : (h : PlaceIs count ps p a x b y) → set_bytes (union texts h.xs h.ys) ≡ set_bytes (joined_set h.type p h.xs h.ys)
    all_there h = place-union r.some h (extreme-so e h)

    pub values-there : ValuesRoom u x.count v y.count at size
    values-there =
        let h = r.place in
        record {
          xs = h.xs;
          ys = h.ys;
          are = values h;
          some = omega (arith, have-some a x b y h.xs h.ys h.left h.right r.some, h.left.count, h.right.count);
          room = omega (arith, r.room, ap length (all_there h));
        }

    pub all-wrote :
        {l l₁ : List ℕ} {next : ℕ} →
        ((xs ys : List Text) → ValuesAre u x.count v y.count xs ys → Wrote l at (set_bytes (union texts xs ys)) l₁ next) →
        (h : PlaceIs count ps p a x b y) → Wrote l at (set_bytes (joined_set h.type p h.xs h.ys)) l₁ next
    all-wrote w h = wrote_as (all_there h) (w h.xs h.ys (values h))

pub to-go-same :
    {l₀ whole l l' xs : List ℕ} {at p p' : ℕ} → ToGo l₀ at whole l p xs → l' ≡ l → p' ≡ p → ToGo l₀ at whole l' p' xs
to-go-same g e f = rw (e, f) g

-- ---- the places that have objects

pub places-all : {left right : List ℕ} {l : List Bool} {count k : ℕ} →
    FilledOnly (λ p. have_objects (set_in left p) (set_in right p)) l k → NoObjectsFrom count left right → count ≤ k → PresentAre left right l
places-all w n h = record { long = w.filled.long; each = only-all w (λ p l m. n.each p (omega arith) m) }

-- ---- an unversioned snapshot

-- the set of a place
abbrev pub set_of : Snapshot → ℕ → List Text
set_of x p = get_or (map held x.cells) p []

-- what is so of its cell's set is so of it
at_set : (x : Snapshot) (p : ℕ) (P : List Text → Type 0) → P (held (get_or x.cells p (holds []))) → P (set_of x p)
at_set x p P w = subst P (sym (held_at x.cells p)) w

set_values : (ty : EventType) (x : Snapshot) → snapshot_values ty x ≡ true → (p : ℕ) (q : Property) → get_elem? ty.properties p ≡ some q →
    are_in_space q.kind (set_of x p) ≡ true
unfolding snapshot_values values_fit
set_values ty x v p q e =
    each-place-at (λ (q : Property) (s : List Text). are_in_space q.kind s) (λ (s : List Text). true) ty.properties (map held x.cells) v p q e

-- ---- two unversioned snapshots

-- the bytes of their sets together, from place k on
unfoldable pub sets_from : EventType → Snapshot → Snapshot → ℕ → List ℕ
sets_from ty x y k = sets_bytes (map (λ p. joined_set ty p (set_of x p) (set_of y p)) (up_from k (32 - k)))

pub sets-step : (ty : EventType) (x y : Snapshot) (k : ℕ) → k < 32 →
    sets_from ty x y k ≡ set_bytes (joined_set ty k (set_of x k) (set_of y k)) ++ sets_from ty x y (k + 1)
unfolding sets_from sets_bytes flatten up_from
sets-step ty x y k h =
    ap (λ (n : ℕ). sets_bytes (map (λ p. joined_set ty p (set_of x p) (set_of y p)) (up_from k n))) (one_more k h)
    ∙ ap (λ (m : ℕ). set_bytes (joined_set ty k (set_of x k) (set_of y k))
    ++ sets_bytes (map (λ p. joined_set ty p (set_of x p) (set_of y p)) (up_from m (32 - (k + 1))))) (sym (add-one k))
  where
    one_more : (k : ℕ) → k < 32 → 32 - k ≡ suc (32 - (k + 1))
    one_more k h = omega arith

module _ {table a b : List ℕ} {count : ℕ} {ps i j : List ℕ} {ty : EventType} {x y : Snapshot} (h : Joins table a b count ps i j ty x y) where
  abbrev f : Fitting ty x y
  f = h.meet.fitting

  abbrev joined : ℕ → List Text
  joined p = joined_set ty p (set_of x p) (set_of y p)

  pub paired : (p : ℕ) → Paired ty p (set_of x p) (set_of y p)
  paired p = record {
    left-rises = at_set x p (λ s. rising texts s ≡ true) (left-cell h p).rises;
    right-rises = at_set y p (λ s. rising texts s ≡ true) (right-cell h p).rises;
    few = λ e. (at_set x p (λ s. length s ≤ 1) ((left-cell h p).lone e), at_set y p (λ s. length s ≤ 1) ((right-cell h p).lone e));
    values = λ q e. (set_values ty x f.left-values p q e, set_values ty y f.right-values p q e);
    ordered = λ q e o. f.ordered p q e o;
  }

  -- from the count of the type's properties on, both have none
  left-none : (p : ℕ) → count ≤ p → set_of x p ≡ []
  unfolding held
  left-none p l = held_at x.cells p ∙ ap held ((left-vacant f h.typed.count).each p l)

  right-none : (p : ℕ) → count ≤ p → set_of y p ≡ []
  unfolding held
  right-none p l = held_at y.cells p ∙ ap held ((right-vacant f h.typed.count).each p l)

  objects-none : NoObjectsFrom count i j
  objects-none = record {
    each = λ p l m.
        ap₂ (λ (a b : ℕ). ltb 0 a || ltb 0 b) ((h.left.each p m).count ∙ ap length (left-none p l))
        ((h.right.each p m).count ∙ ap length (right-none p l));
  }

  none-bytes : (n k : ℕ) → count ≤ k → sets_bytes (map joined (up_from k n)) ≡ []
  unfolding sets_bytes set_bytes flatten up_from
  none-bytes zero k l = refl
  none-bytes (suc n) k l =
      ap₂ (λ (s : List Text) (t : List ℕ). set_bytes s ++ t) (joined-none ty k (set_of x k) (set_of y k) (left-none k l) (right-none k l))
      (none-bytes n (suc k) (omega arith))

  -- so nothing is left to write there
  pub sets_end : (k : ℕ) → count ≤ k → sets_from ty x y k ≡ []
  unfolding sets_from
  sets_end k l = none-bytes (32 - k) k l

  -- a place, with its sets as they were taken from the numbers
  abbrev pub joined-place : {v w : SetAt} (p : ℕ) → v ≡ set_in i p → w ≡ set_in j p → p < 32 → PlaceIs count ps p a v b w
  joined-place p e f l = record {
    table = table;
    type = ty;
    typed = h.typed;
    xs = set_of x p;
    ys = set_of y p;
    left = set-read e (h.left.each p l);
    right = set-read f (h.right.each p l);
    paired = paired p;
  }

  -- their cells together
  cells-long : (s : List ℕ) (z : Snapshot) (ats : List ℕ) → SetsAre s (map held z.cells) ats → length z.cells ≡ 32
  cells-long s z ats w = sym (length-map z.cells held) ∙ w.long

  joined-cell : (p : ℕ) → join_cell (is_versioned ty) ((type_view ty).choice p) (cell_at x p) (cell_at y p) ≡ holds (joined p)
  joined-cell p =
      ap (λ (v : Bool). join_cell v ((type_view ty).choice p) (cell_at x p) (cell_at y p)) h.unversioned
      ∙ ap₂ (join_cell false ((type_view ty).choice p))
      (at_set x p (λ s. cell_at x p ≡ holds s) (unfold cell_at in (left-cell h p).holds-it))
      (at_set y p (λ s. cell_at y p ≡ holds s) (unfold cell_at in (right-cell h p).holds-it))
      ∙ go ((type_view ty).choice p)
    where
      go : (c : Choice) →
          join_cell false c (holds (set_of x p)) (holds (set_of y p)) ≡ holds (held (join_cell false c (holds (set_of x p)) (holds (set_of y p))))
      go every = unfold join_cell held in refl
      go (least O) = unfold join_cell held in refl

  joined-cells : (join_snapshots (type_view ty) x y).cells ≡ map (λ p. holds (joined p)) (up_to 32)
  unfolding type_view event_view places
  joined-cells =
      join-map (type_view ty) x y (cells-long a x i h.left) (cells-long b y j h.right)
      ∙ map_same (λ p. join_cell (is_versioned ty) ((type_view ty).choice p) (cell_at x p) (cell_at y p)) (λ p. holds (joined p)) (up_to 32)
      (λ p m. joined-cell p)

  joined-version : (join_snapshots (type_view ty) x y).version ≡ 0
  unfolding join_snapshots
  joined-version = version-none f.limits ty x f.left-fits h.unversioned

  -- `joined_places` answers `present`
  module _ {present : List Bool} (says : NoObjectsFrom count i j → PresentAre i j present) where
    w : PresentAre i j present
    w = says objects-none

    joined-bits : map presence_bit (map joined (up_to 32)) ≡ map bit_of present
    joined-bits =
        presence-bits joined present w.long
        (λ p m.
        presence-is a (set_in i p) b (set_in j p) (set_of x p) (set_of y p) (h.left.each p m) (h.right.each p m) ty p
        ∙ ap bit_of (sym (w.each p m)))

    pub joined_bytes : snapshot_bytes (join_snapshots (type_view ty) x y) ≡ number 0 ++ number (bit_number (map bit_of present)) ++ number 0 ++ sets_from ty x
        y 0
    unfolding snapshot_bytes sets_from up_to
    joined_bytes =
        ap₂ (λ (v : ℕ) (cs : List Cell).
        number v ++ number (bit_number (map presence_bit (map held cs))) ++ number (bit_number (map differ_bit cs)) ++ sets_bytes (map held cs))
        joined-version joined-cells
        ∙ ap₂ (λ (ss : List (List Text)) (n : ℕ). number 0 ++ number (bit_number (map presence_bit ss)) ++ number n ++ sets_bytes ss)
        (sets-held joined (up_to 32)) (none_differ joined (up_to 32))
        ∙ ap (λ (bs : List ℕ). number 0 ++ number (bit_number bs) ++ number 0 ++ sets_bytes (map joined (up_to 32))) joined-bits

    -- its room, part by part
    pub joined-parts :
        {l : List ℕ} (at : ℕ) → at + length (snapshot_bytes (join_snapshots (type_view ty) x y)) ≤ length l →
        PartsRoom l at 0 (bit_number (map bit_of present)) 0 (sets_from ty x y 0)
    joined-parts {l} at room = record { room = subst (λ (z : List ℕ). at + length z ≤ length l) joined_bytes room }

    -- the numbers are written, and then the sets
    pub joined-wrote :
        {l l₁ l₂ l₃ l₄ : List ℕ} {at p q r m n : ℕ} → n ≡ bit_number (map bit_of present) →
        Wrote l at (number 0) l₁ p → Wrote l₁ p (number n) l₂ q → Wrote l₂ q (number 0) l₃ r → Wrote l₃ r (sets_from ty x y 0) l₄ m →
        Wrote l at (snapshot_bytes (join_snapshots (type_view ty) x y)) l₄ m
    joined-wrote e u v z g = wrote_as (sym joined_bytes) (wrote_then (wrote_then (wrote_then u (wrote_as (ap number e) v)) z) g)

    -- a place that has objects, with its room, where the places before it are written
    pub place-next :
        {l₀ l : List ℕ} {at p : ℕ} {v z : SetAt} (k : ℕ) → v ≡ set_in i k → z ≡ set_in j k → k < 32 → get_or present k false ≡ true →
        ToGo l₀ at (sets_from ty x y 0) l p (sets_from ty x y k) → at + length (sets_from ty x y 0) ≤ length l₀ →
        PlaceRoom count ps k a v b z p (length l)
    place-next k c d l e g r = record {
      low = l;
      some = ap₂ have_objects c d ∙ sym (w.each k l) ∙ e;
      place = joined-place k c d l;
      room = omega (arith, g.after, g.long, ap length (sets-step ty x y k l), length-append (set_bytes (joined k)) (sets_from ty x y (k + 1)));
    }

    -- nothing is written for one that has none
    pub place-past :
        {l₀ l : List ℕ} {at p : ℕ} (k : ℕ) → k < 32 → get_or present k false ≡ false →
        ToGo l₀ at (sets_from ty x y 0) l p (sets_from ty x y k) → ToGo l₀ at (sets_from ty x y 0) l p (sets_from ty x y (k + 1))
    place-past {l₀} {l} {at} {p} k m e g =
        let none = sym (w.each k m) ∙ e in
        let nothing = nothing-bytes a _ b _ (set_of x k) (set_of y k) (h.left.each k m) (h.right.each k m) ty k none in
        subst (ToGo l₀ at (sets_from ty x y 0) l p) (sets-step ty x y k m ∙ ap (λ (z : List ℕ). z ++ sets_from ty x y (k + 1)) nothing) g
