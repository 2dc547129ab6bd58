-- The laws of a type: what stands before its properties, its properties one by one, and its rules.
use mathlib.Core.Path.{◌≡◌, refl, sym, ap, ap₂, ◌∙◌, subst}
use mathlib.Core.Logic.{◌⊎◌, inl, inr}
use mathlib.Core.Bool.{Bool, true, false, cond, not, ◌&&◌, ◌||◌}
use mathlib.Core.Option.{some}
use mathlib.Core.List.{List, [], ◌∷◌, ◌++◌, map, append-nil}
use Prim.Native.Nat.{ℕ, ◌+◌, ◌-◌, ◌≤◌, ◌<◌}
use native.Mathlib.Omega.{arith}
use lib.ListN.{length, drop, get_elem?, length-append}
use lib.Dec.{ltb, leb, eqb}
use borrow.Author.Tests.{le-leb, leb-true, eq-eqb, ne_eqb, eqb-true, eqb-false}
use Rattle.model.specs.Order.{Text}
use Rattle.model.proofs.Cases.{never, truth, and_parts}
use Rattle.packed.specs.Parse.{Parse, fail, got, Layout, and_then, found, found_if, such_that, times}
use Rattle.packed.specs.Packed.{read_number, read_text, part, is_within}
use Rattle.packed.proofs.LayoutLaws.{and_then-got, such_that-got}
use Rattle.packed.specs.code.Located.{NameStops}
use Rattle.packed.proofs.FieldLaws.{then-none, within-bounds, is_within_lem}
use Rattle.ontology.specs.Table.{Property, EventType, is_name_within, names_rise, all_fit, mark_fits, is_versioned, type_rules}
use Rattle.ontology.specs.TableLayout.{read_property, read_type}
use Rattle.ontology.specs.declared.properties.PropertyAt.{PropertyAt}
use Rattle.ontology.specs.declared.types.TypeIndex.{TypeIndex}
use Rattle.ontology.specs.code.TypeIndex.{PropertyIs, PropertyStops, property_in, PropertiesStop}
use Rattle.ontology.specs.code.TypeIndex.{property_fits, fit_in_turn, fitting_from, read_fitting, property_rules, type_of, HeadStops, TypeReads}
use Rattle.std.specs.Bool.{then_some}
use Rattle.ontology.proofs.OnwardLaws.{Onward, on-first}
use Rattle.ontology.proofs.RunLaws.{prepend, prepend-nil, prepend-two, times-length, snoc-at}
use Rattle.ontology.proofs.TurnLaws.{fitting-stop, fitting-end, fitting-not, fitting-more, rules-in-turn}

-- ---- the rules of a type

-- what they come to
pub record RulesHold (t : EventType) : Type 0 where
  pub name : is_name_within 64 t.name ≡ true
  pub definition : 1 ≤ t.definition
  pub least : 1 ≤ length t.properties
  pub most : length t.properties ≤ 32
  pub others : property_rules t.mark t.properties ≡ true

pub rules-hold : (t : EventType) → type_rules t ≡ true → RulesHold t
unfolding type_rules property_rules
rules-hold t e =
    let n = is_name_within 64 t.name in
    let d = leb 1 t.definition in
    let l = leb 1 (length t.properties) in
    let m = leb (length t.properties) 32 in
    let r = names_rise (map (λ (p : Property). p.name) t.properties) in
    let f = all_fit (is_versioned t) t.properties in
    let k = not (is_versioned t) || mark_fits (get_elem? t.properties (t.mark - 1)) in
    let a = and_parts (n && d && l && m && r && f) k e in
    let b = and_parts (n && d && l && m && r) f a.0 in
    let c = and_parts (n && d && l && m) r b.0 in
    let g = and_parts (n && d && l) m c.0 in
    let h = and_parts (n && d) l g.0 in
    let i = and_parts n d h.0 in
    record {
      name = i.0;
      definition = leb-true 1 t.definition i.1;
      least = leb-true 1 (length t.properties) h.1;
      most = leb-true (length t.properties) 32 g.1;
      others = ap₂ (λ (x y : Bool). x && y && k) c.1 b.1 ∙ a.1;
    }

rules-are :
    (name : Text) (definition mark : ℕ) (qs : List Property) → is_name_within 64 name ≡ true → 1 ≤ definition → 1 ≤ length qs →
    length qs ≤ 32 →
    type_rules (type_of name definition mark qs) ≡ property_rules mark qs
unfolding type_rules property_rules
rules-are name definition mark qs h k l m = rw (h, le-leb 1 definition k, le-leb 1 (length qs) l, le-leb (length qs) 32 m)

-- ---- a type that was read, by its parts

pub record TypeWas (s : List ℕ) (t : EventType) (r : List ℕ) : Type 0 where
  pub after-name : List ℕ
  pub after-definition : List ℕ
  pub after-mark : List ℕ
  pub after-count : List ℕ
  pub count : ℕ
  pub name : read_text s ≡ got t.name after-name
  pub definition : read_number after-name ≡ got t.definition after-definition
  pub mark : read_number after-definition ≡ got t.mark after-mark
  pub counted : read_number after-mark ≡ got count after-count
  pub properties : times read_property count after-count ≡ got t.properties r
  pub long : length t.properties ≡ count

pub type-was : (s : List ℕ) (t : EventType) (r : List ℕ) → read_type s ≡ got t r → TypeWas s t r
unfolding read_type
type-was s t r e =
    let a = and_then-got (read_text s) _ t r e in
    let b = and_then-got (read_number a.left) _ t r a.second in
    let c = and_then-got (read_number b.left) _ t r b.second in
    let d = and_then-got (read_number c.left) _ t r c.second in
    let f = and_then-got (times read_property d.value d.left) _ t r d.second in
    let x : type_of a.value b.value c.value f.value ≡ t = cc f.second in
    let y : f.left ≡ r = cc f.second in
    let z : f.value ≡ t.properties = ap (λ (u : EventType). u.properties) x in
    record {
      after-name = a.left;
      after-definition = b.left;
      after-mark = c.left;
      after-count = d.left;
      count = d.value;
      name = a.first ∙ ap (λ (u : EventType). got u.name a.left) x;
      definition = b.first ∙ ap (λ (u : EventType). got u.definition b.left) x;
      mark = c.first ∙ ap (λ (u : EventType). got u.mark c.left) x;
      counted = d.first;
      properties = f.first ∙ ap₂ got z y;
      long = ap length (sym z) ∙ times-length read_property d.value d.left f.value f.left f.first;
    }

-- a layout of types fails where no type of it meets the rules
type-fail :
    (s : List ℕ) → ((t : EventType) (r : List ℕ) → TypeWas s t r → RulesHold t → ◌≡◌ {A = ℕ} 0 1) →
    such_that type_rules read_type s ≡ fail
type-fail s never = go (such_that type_rules read_type s) refl
  where
    go : (p : Parse EventType) → such_that type_rules read_type s ≡ p → p ≡ fail
    go fail e = refl
    go (got t r) e =
        let w = such_that-got type_rules read_type s t r e in
        let z = never t r (type-was s t r w.was) (rules-hold t w.test) in
        absurd (omega arith)

-- two tests, one after the other
two-tests :
    {A B : Type 0} (a b : Bool) (f : A → B) (x : A) (r : List ℕ) →
    cond (a && b) (got (f x) r) fail ≡ and_then (cond a (got x r) fail) (λ y. found_if b (f y))
two-tests true b f x r = refl
two-tests false b f x r = refl

-- ---- a type that is asked its rules in turn, as it is read

-- what follows each field of the type with the name v
abbrev after-count : ℕ → ℕ → ℕ → Text → Layout EventType
after-count d m n v t = and_then (read_fitting m n t) (λ qs. found_if (leb m n) (type_of v d m qs))

abbrev pub after-mark : ℕ → ℕ → Text → Layout EventType
after-mark d m v t = and_then (such_that (is_within 1 32) read_number t) (λ n. after-count d m n v)

abbrev pub when-defined : ℕ → Text → Layout EventType
when-defined d v t = and_then (read_number t) (λ m. after-mark d m v)

abbrev pub after-definition : ℕ → Text → Layout EventType
after-definition d v t = cond (leb 1 d) (when-defined d v t) fail

abbrev after-name : Text → Layout EventType
after-name v t = and_then (read_number t) (λ d. after-definition d v)

module _ (s : List ℕ) where
  module _ {v : Text} {t : List ℕ} (name : read_text s ≡ got v t) (named : is_name_within 64 v ≡ true) where
    module _ {d : ℕ} {u : List ℕ} (definition : read_number t ≡ got d u) (defined : leb 1 d ≡ true) where
      module _ {m : ℕ} {x : List ℕ} (mark : read_number u ≡ got m x) where
        counted : {n : ℕ} {y : List ℕ} → read_number x ≡ got n y → is_within 1 32 n ≡ true →
            such_that type_rules read_type s ≡ after-count d m n v y
        unfolding read_type
        counted {n} {y} count few = rw (name, definition, mark, count) (go (times read_property n y) refl)
          where
            go :
                (p : Parse (List Property)) → times read_property n y ≡ p →
                and_then (and_then p (λ qs. found (type_of v d m qs))) (λ t. found_if (type_rules t) t)
                ≡ and_then (and_then p (λ qs. found_if (fit_in_turn (ltb 0 m) m [] qs) qs)) (λ qs. found_if (leb m n) (type_of v d m qs))
            go fail e = refl
            go (got qs r) e =
                let long = times-length read_property n y qs r e in
                let (least, most) = within-bounds 1 32 n few in
                ap (λ (b : Bool). cond b (got (type_of v d m qs) r) fail)
                (rules-are v d m qs named (leb-true 1 d defined) (omega arith) (omega arith) ∙ rules-in-turn m n y qs r e)
                ∙ two-tests (fit_in_turn (ltb 0 m) m [] qs) (leb m n) (type_of v d m) qs r

        with-count :
            (p : Parse ℕ) → read_number x ≡ p →
            such_that type_rules read_type s ≡ and_then (and_then p (λ n. found_if (is_within 1 32 n) n)) (λ n. after-count d m n v)
        with-count fail e = type-fail s (λ t r w k. cc)
        with-count (got n y) e =
            truth (is_within 1 32 n)
            (λ h. rw h (counted e h))
            (λ h. rw h (type-fail s (λ t r w k.
            let n-is : w.count ≡ n = cc in
            let in-range = is_within_lem 1 32 n (omega (arith, k.least, w.long)) (omega (arith, k.most, w.long)) in
            cc in-range)))

      with-mark : (p : Parse ℕ) → read_number u ≡ p → such_that type_rules read_type s ≡ and_then p (λ m. after-mark d m v)
      with-mark fail e = type-fail s (λ t r w k. cc)
      with-mark (got m x) e = with-count e (read_number x) refl

    with-definition : (p : Parse ℕ) → read_number t ≡ p → such_that type_rules read_type s ≡ and_then p (λ d. after-definition d v)
    with-definition fail e = type-fail s (λ t r w k. cc)
    with-definition (got d u) e =
        truth (leb 1 d)
        (λ h. rw h (with-mark e h (read_number u) refl))
        (λ h. rw h (type-fail s (λ t r w k.
        let d-is : t.definition ≡ d = cc in
        cc (le-leb 1 d (omega (arith, k.definition))))))

  with-name : (p : Parse Text) → read_text s ≡ p →
      such_that type_rules read_type s ≡ and_then (and_then p (λ v. found_if (is_name_within 64 v) v)) after-name
  with-name fail e = type-fail s (λ t r w k. cc)
  with-name (got v t) e =
      truth (is_name_within 64 v)
      (λ h. rw h (with-definition e h (read_number t) refl))
      (λ h. rw h (type-fail s (λ t r w k. cc k.name)))

  in-turn : such_that type_rules read_type s ≡ and_then (such_that (is_name_within 64) read_text s) after-name
  in-turn = with-name (read_text s) refl

  pub type-unnamed : such_that (is_name_within 64) read_text s ≡ fail → such_that type_rules read_type s ≡ fail
  type-unnamed e = in-turn ∙ then-none after-name e

-- a type's name is read, from start up to end
pub record TypeNamed (s : List ℕ) (at start end : ℕ) : Type 0 where
  pub order : start ≤ end
  pub left : Onward (such_that type_rules read_type) s at (after-name (part s start end)) end

pub type-named :
    {s : List ℕ} {at start end : ℕ} → NameStops (such_that (is_name_within 64) read_text (drop at s)) s at start end → TypeNamed s at start end
type-named g = record { order = g.order; left = on-first (such_that (is_name_within 64) read_text) after-name in-turn g.stops }

module _ {s : List ℕ} {at start end : ℕ} (g : TypeNamed s at start end) where
  -- what is left of it
  abbrev pub Left : (Text → Layout EventType) → ℕ → Type 0
  Left rest e = Onward (such_that type_rules read_type) s at (rest (part s start end)) e

  pub head-is : (d m : ℕ) {n e : ℕ} → Left (after-count d m n) e → n ≤ 32 → HeadStops s at start end (record { 0 = d }) m n e
  head-is d m w few =
      record { is = w.is; order = g.order; ends = g.left.within; few = few; after = w.after; within = w.within }

-- ---- properties, one by one

-- The properties before place k are read and meet the rules, the last of them with its name from start up to end. Where they are kept, each is at its place.
pub record Filled
    (p : Parse (List Property)) (s : List ℕ) (at mark : ℕ) (keep : Bool) (xs₀ xs : List ℕ) (next start end k count : ℕ)
    : Type 0 where
  pub before : List Property
  pub long : length before ≡ k
  pub few : k ≤ count
  pub rest : p ≡ prepend before (fitting_from (ltb 0 mark) (mark - k) (part s start end) (count - k) (drop next s))
  pub low : at ≤ next
  pub within : next ≤ length s
  pub order : start ≤ end
  pub ends : end ≤ length s
  pub each : keep ≡ true → (i : ℕ) (q : Property) → get_elem? before i ≡ some q → PropertyIs s q (property_in xs i)
  pub stay : keep ≡ false → xs ≡ xs₀
  pub size : length xs ≡ 96

pub filled_none :
    (s : List ℕ) (at mark count : ℕ) (keep : Bool) (xs : List ℕ) → at ≤ length s → length xs ≡ 96 →
    Filled (read_fitting mark count (drop at s)) s at mark keep xs xs at 0 0 0 count
filled_none s at mark count keep xs h z = record {
  before = [];
  long = refl;
  few = omega arith;
  rest =
      prepend-nil (read_fitting mark count (drop at s))
      ∙ ap₂ (λ (m n : ℕ). prepend [] (fitting_from (ltb 0 mark) m [] n (drop at s)))
      (let e : mark ≡ mark - 0 = omega arith in e) (let e : count ≡ count - 0 = omega arith in e);
  low = omega arith;
  within = h;
  order = omega arith;
  ends = omega arith;
  each = λ k i q e. never (cc);
  stay = λ k. refl;
  size = z;
}

-- the property x was put at place k, and the others stay; or it is not kept, and all stay
pub record Placed (keep : Bool) (k : ℕ) (x : PropertyAt) (xs ys : List ℕ) : Type 0 where
  pub here : keep ≡ true → property_in ys k ≡ x
  pub others : keep ≡ true → (i : ℕ) → (i ≡ k → ⊥) → property_in ys i ≡ property_in xs i
  pub stay : keep ≡ false → ys ≡ xs
  pub size : length ys ≡ 96

module _ {keep : Bool} {k : ℕ} {x : PropertyAt} {xs ys : List ℕ} where
  pub placed :
      keep ≡ true → {zs : List ℕ} → ys ≡ zs → property_in zs k ≡ x →
      ((i : ℕ) → (i ≡ k → ⊥) → property_in zs i ≡ property_in xs i) → length zs ≡ 96 →
      Placed keep k x xs ys
  placed o {zs} e here others size =
      subst (Placed keep k x xs) (sym e) (record { here = λ a. here; others = λ a. others; stay = λ a. never (cc); size = size })

  pub not-placed : keep ≡ false → ys ≡ xs → length xs ≡ 96 → Placed keep k x xs ys
  not-placed o e size = record { here = λ a. never (cc); others = λ a. never (cc); stay = λ a. e; size = ap length e ∙ size }

-- the place after k is the mark where the mark is 1 from k on
mark-here : (mark k : ℕ) → eqb (k + 1) mark ≡ eqb (mark - k) 1
mark-here mark k =
    truth (eqb (k + 1) mark)
    (λ e. e ∙ sym (eq-eqb (mark - k) 1 (omega (arith, eqb-true (k + 1) mark e))))
    (λ e. e ∙ sym (ne_eqb (mark - k) 1 (λ f. eqb-false (k + 1) mark e (omega arith))))

module _
    {p : Parse (List Property)} {s : List ℕ} {at mark : ℕ} {keep : Bool} {xs₀ xs : List ℕ} {next start end k count : ℕ}
    (w : Filled p s at mark keep xs₀ xs next start end k count)
  where
    -- the whole, by what is left
    whole_by :
        {q : Parse (List Property)} → fitting_from (ltb 0 mark) (mark - k) (part s start end) (count - k) (drop next s) ≡ q → p ≡ prepend w.before q
    whole_by e = w.rest ∙ ap (prepend w.before) e

    pub filled-bad : k < count → read_property (drop next s) ≡ fail → p ≡ fail
    filled-bad h e = whole_by (fitting-stop (ltb 0 mark) (mark - k) (part s start end) (count - k) (drop next s) (omega arith) e)

    pub filled-all : count ≤ 32 → count ≤ k → PropertiesStop p s at count next keep xs
    filled-all m h = record {
      what = w.before;
      is =
          whole_by (fitting-end (ltb 0 mark) (mark - k) (part s start end) (count - k) (drop next s) (omega (arith, w.few)))
          ∙ ap (λ (l : List Property). got l (drop next s)) (append-nil w.before);
      after = w.low;
      within = w.within;
      are = λ o. record { count = omega (arith, w.few, w.long); few = m; each = w.each o };
    }

    module _ {x : PropertyAt} {e : ℕ} (h : k < count) (t : PropertyStops (read_property (drop next s)) s next x e) where
      -- `property_fits` answered b
      abbrev Fits : Bool → Type 0
      Fits b = (q : Property) → PropertyIs s q x → b ≡ property_fits (ltb 0 mark) (eqb (k + 1) mark) (part s start end) q

      -- the same with the mark counted from here
      fits-here : {b : Bool} → Fits b → property_fits (ltb 0 mark) (eqb (mark - k) 1) (part s start end) t.what ≡ b
      fits-here f = ap (λ (m : Bool). property_fits (ltb 0 mark) m (part s start end) t.what) (sym (mark-here mark k)) ∙ sym (f t.what t.is)

      pub filled-not : Fits false → p ≡ fail
      filled-not f =
          whole_by
          (fitting-not (ltb 0 mark) (mark - k) (part s start end) (count - k) (drop next s) t.what _ (omega arith) t.stops.is (fits-here f))

      -- what is left after it, with the mark m, the last name v and n properties
      abbrev after : ℕ → Text → ℕ → Parse (List Property)
      after m v n = prepend (w.before ++ (t.what ∷ [])) (fitting_from (ltb 0 mark) m v n (drop e s))

      pub filled_more :
          {ys : List ℕ} → Fits true → Placed keep k x xs ys →
          Filled p s at mark keep xs₀ ys e x.start x.end (k + 1) count
      filled_more {ys} f d = record {
        before = w.before ++ (t.what ∷ []);
        long = length-append w.before (t.what ∷ []) ∙ ap (λ (n : ℕ). n + 1) w.long;
        few = omega arith;
        rest =
            whole_by
            (fitting-more (ltb 0 mark) (mark - k) (part s start end) (count - k) (drop next s) t.what (drop e s) (omega arith) t.stops.is
            (fits-here f))
            ∙ prepend-two w.before (t.what ∷ []) (fitting_from (ltb 0 mark) (mark - k - 1) t.what.name (count - k - 1) (drop e s))
            ∙ ap₂ (λ (m n : ℕ). after m t.what.name n)
            (let z : mark - k - 1 ≡ mark - (k + 1) = omega arith in z) (let z : count - k - 1 ≡ count - (k + 1) = omega arith in z)
            ∙ ap (λ (v : Text). after (mark - (k + 1)) v (count - (k + 1))) (sym t.is.name);
        low = omega (arith, w.low, t.stops.after);
        within = t.stops.within;
        order = t.is.order;
        ends = t.is.within;
        each = λ o i q g. one o i q (snoc-at w.before t.what i q g);
        stay = λ o. d.stay o ∙ w.stay o;
        size = d.size;
      }
        where
          one :
              keep ≡ true → (i : ℕ) (q : Property) →
              ((i < length w.before) × (get_elem? w.before i ≡ some q)) ⊎ ((i ≡ length w.before) × (t.what ≡ q)) →
              PropertyIs s q (property_in ys i)
          one o i q (inl a) =
              let ne : i ≡ k → ⊥ = λ b. omega (arith, a.0, w.long) in
              subst (PropertyIs s q) (sym (d.others o i ne)) (w.each o i q a.1)
          one o i q (inr a) =
              let b : k ≡ i = sym (a.0 ∙ w.long) in
              let g : property_in ys i ≡ x = ap (λ (j : ℕ). property_in ys j) (sym b) ∙ d.here o in
              subst (PropertyIs s q) (sym g) (subst (λ (u : Property). PropertyIs s u x) a.1 t.is)

-- ---- the type

-- what stands before the properties is read
module _ {s : List ℕ} {at : ℕ} {x : TypeIndex} {next : ℕ} (w : HeadStops s at x.start x.end x.definition x.mark x.count next) where
  -- the type, by what its properties come to
  type-by :
      {q : Parse (List Property)} → read_fitting x.mark x.count (drop next s) ≡ q →
      such_that type_rules read_type (drop at s)
      ≡ and_then q (λ qs. found_if (leb x.mark x.count) (type_of (part s x.start x.end) x.definition.0 x.mark qs))
  type-by e =
      w.is
      ∙ ap (λ (q : Parse (List Property)). and_then q (λ qs. found_if (leb x.mark x.count) (type_of (part s x.start x.end) x.definition.0 x.mark qs))) e

  pub type-short : read_fitting x.mark x.count (drop next s) ≡ fail → such_that type_rules read_type (drop at s) ≡ fail
  type-short e = type-by e

  -- and so are the properties, up to `after`
  module _ {after : ℕ} {keep : Bool} {xs : List ℕ} (u : PropertiesStop (read_fitting x.mark x.count (drop next s)) s next x.count after keep xs) where
    -- the type that was read, if its mark is at most their count
    abbrev pub headed : EventType
    headed = type_of (part s x.start x.end) x.definition.0 x.mark u.what

    type-if : {b : Bool} → leb x.mark x.count ≡ b → such_that type_rules read_type (drop at s) ≡ cond b (got headed (drop after s)) fail
    type-if e = type-by u.is ∙ ap (λ (b : Bool). cond b (got headed (drop after s)) fail) e

    pub type-reads : TypeReads (such_that type_rules read_type (drop at s)) s at keep xs (then_some (leb x.mark x.count) (x, after))
    type-reads =
        truth (leb x.mark x.count)
        (λ h. rw h (record {
          what = headed;
          stops = record { is = type-if h; after = omega (arith, w.after, u.after); within = u.within };
          name = refl;
          order = w.order;
          ends = w.ends;
          is = λ o. record { name = refl; order = w.order; within = w.ends; definition = refl; mark = refl; are = u.are o };
        }))
        (λ h. rw h (type-if h))
