-- The laws of the table's layout: what is written is read (`-read`), and what is read was written so (`-was`).
use mathlib.Core.Path.{◌≡◌, refl, sym, ap, ◌∙◌}
use mathlib.Core.Logic.{⊎_elim}
use mathlib.Core.Bool.{Bool, true, false, cond, not, ◌&&◌, ◌||◌}
use mathlib.Core.Option.{some}
use mathlib.Core.List.{List, [], ◌∷◌, ◌++◌, append_assoc, append-nil, map, flatten}
use Prim.Native.Nat.{ℕ, zero, suc, ◌-◌, ◌^◌, ◌≤◌, ◌<◌}
use native.Mathlib.Omega.{arith}
use lib.Dec.{ltb, leb, eqb}
use lib.ListN.{length, get_elem?}
use borrow.Author.Tests.{lt-ltb, le-leb, leb-true, eqb-true}
use Rattle.model.specs.Order.{Text}
use Rattle.model.proofs.Cases.{never, truth, and_parts, where-so}
use Rattle.packed.specs.Parse.{got, Layout, ◌>>=◌, found, such_that, times}
use Rattle.packed.specs.Packed.{groups, number, read_number, text, read_text, is_within}
use Rattle.packed.proofs.LayoutLaws.{All, lt-or-ge, fail-got, and_then-got, found_if-got}
use Rattle.packed.proofs.LayoutLaws.{such_that-got, whole-some, number_read, number-was, text-read, text-was}
use Rattle.packed.proofs.LayoutLaws.{times-read, times-was}
use Rattle.packed.proofs.FieldLaws.{within-bounds}
use Rattle.values.specs.Spaces.{Kind, unsigned, signed, decimal, currency, sequence, datetime, boolean, string, hex, is_kind}
use Rattle.values.specs.Spaces.{kind_number, unsigned_number, signed_number, decimal_number, string_number, hex_number}
use Rattle.ontology.specs.Table.{Strategy, min, max, add, replace, match, set, any, strategy_number}
use Rattle.ontology.specs.Table.{Property, EventType, Table, is_name_within, all_fit, mark_fits, names_rise, type_rules}
use Rattle.ontology.specs.TableLayout.{read_flag, read_decimal, read_parameters, read_kind, read_strategy, read_property, read_type, read_table, table_of}
use Rattle.ontology.specs.TableLayout.{flag_bytes, parameter_bytes, kind_bytes, property_bytes, type_bytes, table_bytes}
use Rattle.ontology.specs.code.TypeIndex.{parameter_fits, property_rules, type_of}
use Rattle.ontology.proofs.NameLaws.{name-length}
use Rattle.ontology.proofs.KindLaws.{fits-small, digits-small}
use Rattle.ontology.proofs.RunLaws.{no-element}
use Rattle.ontology.proofs.TypeLaws.{rules-hold, type-was}

-- ---- what can be written

pub record PropertyWritten (p : Property) : Type 0 where
  pub name : is_name_within 32 p.name ≡ true
  pub kind : is_kind p.kind ≡ true

-- the rules keep every number of a type below 2^64 but its definition version
pub record TypeWritten (t : EventType) : Type 0 where
  pub rules : type_rules t ≡ true
  pub definition : t.definition < 2 ^ 64
  pub properties : All PropertyWritten t.properties

pub record TableWritten (ts : Table) : Type 0 where
  pub one : 1 ≤ length ts
  pub few : length ts ≤ 16
  pub types : All TypeWritten ts
  pub rises : names_rise (map (λ (t : EventType). t.name) ts) ≡ true

-- ---- a flag

flag-read : (b : Bool) (r : List ℕ) → read_flag (flag_bytes b ++ r) ≡ got b r
unfolding read_flag flag_bytes
flag-read true r = rw (number_read 1 r (omega arith))
flag-read false r = rw (number_read 0 r (omega arith))

flag-was : (s : List ℕ) (b : Bool) (r : List ℕ) → read_flag s ≡ got b r → s ≡ flag_bytes b ++ r
unfolding read_flag flag_bytes
flag-was s b r e =
    let c = and_then-got (such_that (λ (n : ℕ). leb n 1) read_number s) _ b r e in
    let n = such_that-got (λ (n : ℕ). leb n 1) read_number s c.value c.left c.first in
    go c.value c.left (number-was s c.value c.left n.was).0 (leb-true c.value 1 n.test) c.second
  where
    go : (n : ℕ) (t : List ℕ) → s ≡ number n ++ t → n ≤ 1 → got (eqb n 1) t ≡ got b r → s ≡ number (cond b 1 0) ++ r
    go zero t a h e =
        let x : false ≡ b = cc in
        let y : t ≡ r = cc in
        rw (← x, ← y) a
    go (suc zero) t a h e =
        let x : true ≡ b = cc in
        let y : t ≡ r = cc in
        rw (← x, ← y) a
    go (suc (suc n)) t a h e = absurd (omega arith)

-- ---- a layout that is chosen by a number

chosen :
    {A C : Type 0} (n i : ℕ) (p q : Layout A) (s : List ℕ) (a : A) (r : List ℕ) →
    (n ≡ i → p s ≡ got a r → C) → (q s ≡ got a r → C) → cond (eqb n i) p q s ≡ got a r → C
chosen n i p q s a r f g e = truth (eqb n i) (λ h. f (eqb-true n i h) (rw h at e)) (λ h. g (rw h at e))

-- ---- a kind

parameters-read : (k : Kind) (r : List ℕ) → is_kind k ≡ true → read_parameters (kind_number k) (parameter_bytes k ++ r) ≡ got k r
unfolding read_parameters read_decimal parameter_bytes is_kind parameter_fits
parameters-read (unsigned w) r h = rw (number_read w r (omega (arith, fits-small unsigned_number w h)))
parameters-read (signed w) r h = rw (number_read w r (omega (arith, fits-small signed_number w h)))
parameters-read (decimal t a g) r h =
    let small = digits-small t a h in
    rw (
      append_assoc (number t ++ number a) (flag_bytes g) r,
      append_assoc (number t) (number a) (flag_bytes g ++ r),
      number_read t (number a ++ (flag_bytes g ++ r)) (omega (arith, small.0)),
      number_read a (flag_bytes g ++ r) (omega (arith, small.1)),
      flag-read g r,
    )
parameters-read currency r h = refl
parameters-read sequence r h = refl
parameters-read datetime r h = refl
parameters-read boolean r h = refl
parameters-read (string n) r h = rw (number_read n r (omega (arith, fits-small string_number n h)))
parameters-read (hex n) r h = rw (number_read n r (omega (arith, fits-small hex_number n h)))

kind-is :
    (z k : Kind) (n : ℕ) (s t r : List ℕ) → n ≡ kind_number z → s ≡ parameter_bytes z ++ t → got z t ≡ got k r →
    (n ≡ kind_number k) × (s ≡ parameter_bytes k ++ r)
kind-is z k n s t r a b e =
    let x : z ≡ k = cc in
    let y : t ≡ r = cc in
    rw (← x, ← y) (a, b)

-- a kind of one parameter
module _ (make : ℕ → Kind) (same : (w : ℕ) → parameter_bytes (make w) ≡ number w) where
  one-was :
      (n : ℕ) (s : List ℕ) (k : Kind) (r : List ℕ) → ((w : ℕ) → n ≡ kind_number (make w)) →
      (read_number >>= λ w. found (make w)) s ≡ got k r →
      (n ≡ kind_number k) × (s ≡ parameter_bytes k ++ r)
  one-was n s k r a e =
      let c = and_then-got (read_number s) _ k r e in
      kind-is (make c.value) k n s c.left r (a c.value)
      ((number-was s c.value c.left c.first).0 ∙ ap (λ (b : List ℕ). b ++ c.left) (sym (same c.value))) c.second

decimal-was : (s : List ℕ) (k : Kind) (r : List ℕ) → read_decimal s ≡ got k r → (decimal_number ≡ kind_number k) × (s ≡ parameter_bytes k ++ r)
unfolding read_decimal parameter_bytes
decimal-was s k r e =
    let a = and_then-got (read_number s) _ k r e in
    let b = and_then-got (read_number a.left) _ k r a.second in
    let c = and_then-got (read_flag b.left) _ k r b.second in
    kind-is (decimal a.value b.value c.value) k decimal_number s c.left r refl
    (decimal-bytes a.value b.value c.value a.left b.left c.left
    (number-was s a.value a.left a.first).0 (number-was a.left b.value b.left b.first).0
    (flag-was b.left c.value c.left c.first))
    c.second
  where
    decimal-bytes :
        (total after : ℕ) (sign : Bool) (t u v : List ℕ) → s ≡ number total ++ t → t ≡ number after ++ u → u ≡ flag_bytes sign ++ v →
        s ≡ number total ++ number after ++ flag_bytes sign ++ v
    decimal-bytes total after sign t u v a b c = a ∙ rw (b, c) (simp append_assoc)

parameters-was : (n : ℕ) (s : List ℕ) (k : Kind) (r : List ℕ) → read_parameters n s ≡ got k r →
    (n ≡ kind_number k) × (s ≡ parameter_bytes k ++ r)
unfolding read_parameters parameter_bytes
parameters-was n s k r =
    chosen n unsigned_number _ _ s k r (λ h. one-was unsigned (λ w. refl) n s k r (λ w. h))
    (chosen n signed_number _ _ s k r (λ h. one-was signed (λ w. refl) n s k r (λ w. h))
    (chosen n decimal_number _ _ s k r (λ h e. let w = decimal-was s k r e in (h ∙ w.0, w.1))
    (chosen n (kind_number currency) _ _ s k r (λ h. kind-is currency k n s s r h refl)
    (chosen n (kind_number sequence) _ _ s k r (λ h. kind-is sequence k n s s r h refl)
    (chosen n (kind_number datetime) _ _ s k r (λ h. kind-is datetime k n s s r h refl)
    (chosen n (kind_number boolean) _ _ s k r (λ h. kind-is boolean k n s s r h refl)
    (chosen n string_number _ _ s k r (λ h. one-was string (λ w. refl) n s k r (λ w. h))
    (chosen n hex_number _ _ s k r (λ h. one-was hex (λ w. refl) n s k r (λ w. h)) fail-got))))))))

kind-read : (k : Kind) (r : List ℕ) → is_kind k ≡ true → read_kind (kind_bytes k ++ r) ≡ got k r
unfolding read_kind kind_bytes
kind-read k r h =
    rw (
      append_assoc (number (kind_number k)) (parameter_bytes k) r,
      number_read (kind_number k) (parameter_bytes k ++ r) (number_small k),
      parameters-read k r h,
      h,
    )
  where
    number_small : (k : Kind) → kind_number k < 2 ^ 64
    number_small (unsigned w) = omega arith
    number_small (signed w) = omega arith
    number_small (decimal t a g) = omega arith
    number_small currency = omega arith
    number_small sequence = omega arith
    number_small datetime = omega arith
    number_small boolean = omega arith
    number_small (string n) = omega arith
    number_small (hex n) = omega arith

kind-was : (s : List ℕ) (k : Kind) (r : List ℕ) → read_kind s ≡ got k r → (s ≡ kind_bytes k ++ r) × (is_kind k ≡ true)
unfolding read_kind kind_bytes
kind-was s k r e =
    let x = such_that-got is_kind (read_number >>= read_parameters) s k r e in
    let c = and_then-got (read_number s) read_parameters k r x.was in
    let p = parameters-was c.value c.left k r c.second in
    ((number-was s c.value c.left c.first).0 ∙ rw (p.0, p.1) (sym (append_assoc (number (kind_number k)) (parameter_bytes k) r)), x.test)

-- ---- a strategy

strategy-read : (y : Strategy) (r : List ℕ) → read_strategy (number (strategy_number y) ++ r) ≡ got y r
unfolding read_strategy
strategy-read min r = rw (number_read (strategy_number min) r (omega arith))
strategy-read max r = rw (number_read (strategy_number max) r (omega arith))
strategy-read add r = rw (number_read (strategy_number add) r (omega arith))
strategy-read replace r = rw (number_read (strategy_number replace) r (omega arith))
strategy-read match r = rw (number_read (strategy_number match) r (omega arith))
strategy-read set r = rw (number_read (strategy_number set) r (omega arith))
strategy-read any r = rw (number_read (strategy_number any) r (omega arith))

strategy-is :
    (z y : Strategy) (n : ℕ) (t r : List ℕ) → n ≡ strategy_number z → got z t ≡ got y r → number n ++ t ≡ number (strategy_number y) ++ r
strategy-is z y n t r h e =
    let a : z ≡ y = cc in
    let b : t ≡ r = cc in
    rw (h, a, b)

strategy-was : (s : List ℕ) (y : Strategy) (r : List ℕ) → read_strategy s ≡ got y r → s ≡ number (strategy_number y) ++ r
unfolding read_strategy
strategy-was s y r e =
    let c = and_then-got (read_number s) _ y r e in
    let n = c.value in
    let t = c.left in
    (number-was s n t c.first).0
    ∙ (chosen n (strategy_number min) _ _ t y r (strategy-is min y n t r)
    (chosen n (strategy_number max) _ _ t y r (strategy-is max y n t r)
    (chosen n (strategy_number add) _ _ t y r (strategy-is add y n t r)
    (chosen n (strategy_number replace) _ _ t y r (strategy-is replace y n t r)
    (chosen n (strategy_number match) _ _ t y r (strategy-is match y n t r)
    (chosen n (strategy_number set) _ _ t y r (strategy-is set y n t r)
    (chosen n (strategy_number any) _ _ t y r (strategy-is any y n t r) fail-got)))))) c.second)

-- ---- a property

property-parts :
    (p : Property) (r : List ℕ) →
    property_bytes p ++ r
    ≡ text p.name ++ (kind_bytes p.kind ++ (flag_bytes p.optional ++ (flag_bytes p.multivalued ++ (number (strategy_number p.strategy) ++ r))))
unfolding property_bytes
property-parts p r = simp append_assoc

property-read : (p : Property) (r : List ℕ) → PropertyWritten p → read_property (property_bytes p ++ r) ≡ got p r
unfolding read_property
property-read p r w =
    let d = number (strategy_number p.strategy) ++ r in
    let c = flag_bytes p.multivalued ++ d in
    let b = flag_bytes p.optional ++ c in
    ap read_property (property-parts p r)
    ∙ rw (
      text-read p.name (kind_bytes p.kind ++ b) (omega (arith, name-length 32 p.name w.name)),
      w.name,
      kind-read p.kind b w.kind,
      flag-read p.optional c,
      flag-read p.multivalued d,
      strategy-read p.strategy r,
    )

property-is :
    (s t u v x y r : List ℕ) (name : Text) (kind : Kind) (optional multivalued : Bool) (strategy : Strategy) (p : Property) →
    s ≡ text name ++ t → t ≡ kind_bytes kind ++ u → u ≡ flag_bytes optional ++ v → v ≡ flag_bytes multivalued ++ x →
    x ≡ number (strategy_number strategy) ++ y →
    is_name_within 32 name ≡ true → is_kind kind ≡ true →
    record { name = name; kind = kind; optional = optional; multivalued = multivalued; strategy = strategy } ≡ p → y ≡ r →
    (s ≡ property_bytes p ++ r) × PropertyWritten p
property-is s t u v x y r name kind optional multivalued strategy p a b c d e h k q f =
    rw (← q, ← f) (
      a ∙ rw (b, c, d, e) (sym (property-parts (record { name = name; kind = kind; optional = optional; multivalued = multivalued; strategy = strategy }) y)),
      record { name = h; kind = k },
    )

property-was : (s : List ℕ) (p : Property) (r : List ℕ) → read_property s ≡ got p r → (s ≡ property_bytes p ++ r) × PropertyWritten p
unfolding read_property
property-was s p r e =
    let a = and_then-got (such_that (is_name_within 32) read_text s) _ p r e in
    let b = and_then-got (read_kind a.left) _ p r a.second in
    let c = and_then-got (read_flag b.left) _ p r b.second in
    let d = and_then-got (read_flag c.left) _ p r c.second in
    let f = and_then-got (read_strategy d.left) _ p r d.second in
    let n = such_that-got (is_name_within 32) read_text s a.value a.left a.first in
    let k = kind-was a.left b.value b.left b.first in
    property-is s a.left b.left c.left d.left f.left r a.value b.value c.value d.value f.value p
    (text-was s a.value a.left n.was).0 k.0
    (flag-was b.left c.value c.left c.first)
    (flag-was c.left d.value d.left d.first)
    (strategy-was d.left f.value f.left f.first)
    n.test k.1 (cc f.second) (cc f.second)

-- ---- a type that meets its rules

-- a mark is a property's place plus 1
mark-low : (mark : ℕ) (qs : List Property) → property_rules mark qs ≡ true → mark ≤ length qs
unfolding property_rules mark_fits
mark-low mark qs e =
    let fits = mark_fits (get_elem? qs (mark - 1)) in
    let rule = (and_parts (names_rise (map (λ (p : Property). p.name) qs) && all_fit (ltb 0 mark) qs) (not (ltb 0 mark) || fits) e).1 in
    ⊎_elim (λ (l : length qs < mark).
    let h = where-so (ltb 0 mark) fits rule (lt-ltb 0 mark (omega arith)) in
    never (cc (rw (no-element qs (mark - 1) (omega arith)) at h)))
    (λ (l : mark ≤ length qs). l)
    (lt-or-ge (length qs) mark)

type-parts :
    (t : EventType) (r : List ℕ) →
    type_bytes t ++ r
    ≡ text t.name ++ (number t.definition ++
    (number t.mark ++ (number (length t.properties) ++ (flatten (map property_bytes t.properties) ++ r))))
unfolding type_bytes
type-parts t r = simp append_assoc

type-read : (t : EventType) (r : List ℕ) → TypeWritten t → read_type (type_bytes t ++ r) ≡ got t r
unfolding read_type
type-read t r w =
    let ps = t.properties in
    let c = flatten (map property_bytes ps) ++ r in
    let b = number (length ps) ++ c in
    let a = number t.mark ++ b in
    let h = rules-hold t w.rules in
    ap read_type (type-parts t r)
    ∙ rw (
      text-read t.name (number t.definition ++ a) (omega (arith, name-length 64 t.name h.name)),
      number_read t.definition a w.definition,
      number_read t.mark b (omega (arith, mark-low t.mark ps h.others, h.most)),
      number_read (length ps) c (omega (arith, h.most)),
      times-read read_property property_bytes PropertyWritten property-read ps r w.properties,
    )

ruled-read : (t : EventType) (r : List ℕ) → TypeWritten t → such_that type_rules read_type (type_bytes t ++ r) ≡ got t r
ruled-read t r w = rw (type-read t r w, w.rules)

ruled-was : (s : List ℕ) (t : EventType) (r : List ℕ) → such_that type_rules read_type s ≡ got t r → (s ≡ type_bytes t ++ r) × TypeWritten t
ruled-was s t r e =
    let x = such_that-got type_rules read_type s t r e in
    let w = type-was s t r x.was in
    let n = text-was s t.name w.after-name w.name in
    let d = number-was w.after-name t.definition w.after-definition w.definition in
    let m = number-was w.after-definition t.mark w.after-mark w.mark in
    let c = number-was w.after-mark w.count w.after-count w.counted in
    let ps = times-was read_property property_bytes PropertyWritten property-was w.count w.after-count t.properties r w.properties in
    (n.0 ∙ rw (d.0, m.0, c.0, ps.0, ← w.long) (sym (type-parts t r)), record { rules = x.test; definition = d.1; properties = ps.2 })

-- ---- the table

table-parts : (ts : Table) → table_bytes ts ≡ number (length ts) ++ (flatten (map type_bytes ts) ++ [])
unfolding table_bytes
table-parts ts = rw (append-nil (flatten (map type_bytes ts)))

pub table-read : (ts : Table) → TableWritten ts → table_of (table_bytes ts) ≡ some ts
unfolding table_of read_table
table-read ts w =
    (whole-some (read_table (table_bytes ts)) ts).1
    (ap read_table (table-parts ts)
    ∙ rw (
      number_read (length ts) (flatten (map type_bytes ts) ++ []) (omega (arith, w.few)),
      le-leb 1 (length ts) w.one,
      le-leb (length ts) 16 w.few,
      times-read (such_that type_rules read_type) type_bytes TypeWritten ruled-read ts [] w.types,
      w.rises,
    ))

table_is :
    (n : ℕ) (s t u : List ℕ) (xs ts : Table) →
    s ≡ number n ++ t → (1 ≤ n) × (n ≤ 16) → (t ≡ flatten (map type_bytes xs) ++ u) × (length xs ≡ n) × All TypeWritten xs →
    names_rise (map (λ (t : EventType). t.name) xs) ≡ true → xs ≡ ts → u ≡ [] → (s ≡ table_bytes ts) × TableWritten ts
table_is n s t u xs ts a b x up p q =
    rw (← p) (
      a ∙ rw (x.0, ← x.1, q) (sym (table-parts xs)),
      record { one = omega arith; few = omega arith; types = x.2; rises = up },
    )

pub table-was : (s : List ℕ) (ts : Table) → table_of s ≡ some ts → (s ≡ table_bytes ts) × TableWritten ts
unfolding table_of read_table
table-was s ts e =
    let c = and_then-got (such_that (is_within 1 16) read_number s) _ ts [] ((whole-some (read_table s) ts).0 e) in
    let n = such_that-got (is_within 1 16) read_number s c.value c.left c.first in
    let d = and_then-got (times (such_that type_rules read_type) c.value c.left) _ ts [] c.second in
    let f = found_if-got (names_rise (map (λ (t : EventType). t.name) d.value)) d.value d.left ts [] d.second in
    table_is c.value s c.left d.left d.value ts
    (number-was s c.value c.left n.was).0
    (within-bounds 1 16 c.value n.test)
    (times-was (such_that type_rules read_type) type_bytes TypeWritten ruled-was c.value c.left d.value d.left d.first)
    f.test f.value f.rest

-- bytes that are one table are equal
pub table-one : (s t : List ℕ) (ts : Table) → table_of s ≡ some ts → table_of t ≡ some ts → s ≡ t
table-one s t ts h k = (table-was s ts h).0 ∙ sym (table-was t ts k).0

-- ---- an example

-- one type `a` of definition version 1, with no mark, and its property `b`: a signed decimal of five digits, two of them after the point; optional,
-- single-valued, strategy any
written :
    table_bytes
    (type_of (97 ∷ []) 1 0
    (record { name = 98 ∷ []; kind = decimal 5 2 true; optional = true; multivalued = false; strategy = any } ∷ []) ∷ [])
    ≡ 1 ∷ 1 ∷ 97 ∷ 1 ∷ 0 ∷ 1 ∷ 1 ∷ 98 ∷ 3 ∷ 5 ∷ 2 ∷ 1 ∷ 1 ∷ 0 ∷ 7 ∷ []
unfolding table_bytes type_bytes property_bytes kind_bytes parameter_bytes flag_bytes text number groups flatten
written = refl
