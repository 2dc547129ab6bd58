-- What question 2 says of an accepted table's types and their properties.
use mathlib.Core.Path.{◌≡◌, refl}
use mathlib.Core.Bool.{Bool, true, false, not, ◌&&◌, ◌||◌, and-eq-true_iff}
use mathlib.Core.Option.{Option, none, some}
use mathlib.Core.List.{List, [], ◌∷◌, map}
use Prim.Native.Nat.{ℕ, zero, suc, ◌-◌, ◌≤◌, ◌<◌}
use native.Mathlib.Omega.{arith}
use lib.Dec.{leb}
use lib.ListN.{length, get_elem?}
use borrow.Author.Tests.{leb-true, not-true}
use Rattle.model.specs.Order.{Text}
use Rattle.model.proofs.Cases.{never, where-so, and_parts}
use Rattle.values.specs.Spaces.{Kind, is_sequence, unsigned, signed, decimal, currency, sequence, datetime, boolean, string, hex}
use Rattle.values.specs.ValueOrder.{is_ordered}
use Rattle.ontology.specs.Table.{Property, EventType, Table, is_mandatory, is_single, is_min, is_max, is_replace, is_versioned, is_name, is_name_within}
use Rattle.ontology.specs.Table.{strategy_fits, all_fit, can_be_marked, mark_fits, names_rise, type_rules, type_named}
use Rattle.ontology.specs.TableLayout.{table_of}
use Rattle.ontology.proofs.TypeIndexLaws.{type-rules}

all-fit-at : (b : Bool) (ps : List Property) → all_fit b ps ≡ true → (p : ℕ) (q : Property) → get_elem? ps p ≡ some q → strategy_fits b q ≡ true
unfolding all_fit
all-fit-at b [] h p q e = never (cc)
all-fit-at b (x ∷ ps) h zero q e = let k : x ≡ q = cc in rw (← k) ((and-eq-true_iff _ _).0 h).0
all-fit-at b (x ∷ ps) h (suc p) q e = all-fit-at b ps ((and-eq-true_iff (strategy_fits b x) (all_fit b ps)).0 h).1 p q e

-- "The marked property is mandatory, single-valued, kind 5"
pub record Markable (q : Property) : Type 0 where
  pub mandatory : q.optional ≡ false
  pub single : q.multivalued ≡ false
  pub kind : q.kind ≡ sequence

is-sequence : (k : Kind) → is_sequence k ≡ true → k ≡ sequence
is-sequence (unsigned w) h = never (cc)
is-sequence (signed w) h = never (cc)
is-sequence (decimal a b c) h = never (cc)
is-sequence currency h = never (cc)
is-sequence sequence h = refl
is-sequence datetime h = never (cc)
is-sequence boolean h = never (cc)
is-sequence (string n) h = never (cc)
is-sequence (hex n) h = never (cc)

markable : (q : Property) → can_be_marked q ≡ true → Markable q
unfolding can_be_marked
markable q h =
    let (a, b) = (and-eq-true_iff _ _).0 h in
    let (c, d) = (and-eq-true_iff _ _).0 a in
    let (e, f) = (and-eq-true_iff _ _).0 c in
    record { mandatory = not-true _ e; single = not-true _ f; kind = is-sequence q.kind d }

-- the marked property of a type
pub record Mark (t : EventType) : Type 0 where
  pub property : Property
  pub at : get_elem? t.properties (t.mark - 1) ≡ some property
  pub can : Markable property

-- what the rules say of a type
pub record TypeKept (t : EventType) : Type 0 where
  pub named : is_name t.name ≡ true
  pub short : length t.name ≤ 64
  pub few : length t.properties ≤ 32
  pub rise : names_rise (map (λ (p : Property). p.name) t.properties) ≡ true
  pub fits : (p : ℕ) (q : Property) → get_elem? t.properties p ≡ some q → strategy_fits (is_versioned t) q ≡ true
  pub marked : is_versioned t ≡ true → Mark t

-- of seven tests that are passed, five
five-of :
    (a b c d e f g : Bool) → (a && b && c && d && e && f && g) ≡ true → (a ≡ true) × (d ≡ true) × (e ≡ true) × (f ≡ true) × (g ≡ true)
five-of a b c d e f g h =
    let (h6, w) = (and-eq-true_iff (a && b && c && d && e && f) g).0 h in
    let (h5, z) = (and-eq-true_iff (a && b && c && d && e) f).0 h6 in
    let (h4, v) = (and-eq-true_iff (a && b && c && d) e).0 h5 in
    let (h3, y) = (and-eq-true_iff (a && b && c) d).0 h4 in
    (((and-eq-true_iff a b).0 ((and-eq-true_iff (a && b) c).0 h3).0).0, y, v, z, w)

type-kept : (t : EventType) → type_rules t ≡ true → TypeKept t
unfolding type_rules is_name_within
type-kept t h =
    let ps = t.properties in
    let rise = names_rise (map (λ (p : Property). p.name) ps) in
    let marks = not (is_versioned t) || mark_fits (get_elem? ps (t.mark - 1)) in
    let (name, few, rises, fit, mark) =
    five-of (is_name_within 64 t.name) (leb 1 t.definition) (leb 1 (length ps)) (leb (length ps) 32) rise (all_fit (is_versioned t) ps) marks h in
    let (named, short) = (and-eq-true_iff (is_name t.name) _).0 name in
    record {
      named = named;
      short = leb-true (length t.name) 64 short;
      few = leb-true _ _ few;
      rise = rises;
      fits = all-fit-at (is_versioned t) t.properties fit;
      marked = λ v. at_mark (get_elem? t.properties (t.mark - 1)) refl (where-so _ _ mark v);
    }
  where
    at_mark : (m : Option Property) → get_elem? t.properties (t.mark - 1) ≡ m → mark_fits (get_elem? t.properties (t.mark - 1)) ≡ true → Mark t
    at_mark none e k = unfold mark_fits in never (cc)
    at_mark (some q) e k = unfold mark_fits in record { property = q; at = e; can = markable q (rw e at k) }

-- the type of a name in an accepted table
pub table-type : (s : List ℕ) (ts : Table) → table_of s ≡ some ts → (n : Text) (t : EventType) → type_named n ts ≡ some t → TypeKept t
table-type s ts h n t e = type-kept t (type-rules s n ts t h e).1

place-below : (ps : List Property) (p : ℕ) (q : Property) → get_elem? ps p ≡ some q → p < length ps
place-below [] p q e = never (cc)
place-below (x ∷ ps) zero q e = omega arith
place-below (x ∷ ps) (suc p) q e = omega (arith, place-below ps p q e)

-- a property has one of the 32 places
pub place_in : (t : EventType) → TypeKept t → (p : ℕ) (q : Property) → get_elem? t.properties p ≡ some q → p < 32
place_in t k p q e = omega (arith, k.few, place-below t.properties p q e)

-- "Min and max need a mandatory single-valued property of kind 1 to 6"
extreme-parts :
    (b : Bool) (q : Property) → strategy_fits b q ≡ true → (is_min q || is_max q) ≡ true →
    ((is_mandatory q && is_single q) ≡ true) × (is_ordered q.kind ≡ true)
unfolding strategy_fits
extreme-parts b q h e =
    and_parts (is_mandatory q && is_single q) (is_ordered q.kind)
    (where-so (is_min q || is_max q) (is_mandatory q && is_single q && is_ordered q.kind)
    (and_parts _ (not (is_replace q) || (q.optional && is_single q && b)) h).0 e)

pub extreme-single : (b : Bool) (q : Property) → strategy_fits b q ≡ true → (is_min q || is_max q) ≡ true → q.multivalued ≡ false
extreme-single b q h e = not-true q.multivalued (and_parts (is_mandatory q) _ (extreme-parts b q h e).0).1

pub extreme-ordered : (b : Bool) (q : Property) → strategy_fits b q ≡ true → (is_min q || is_max q) ≡ true → is_ordered q.kind ≡ true
extreme-ordered b q h e = (extreme-parts b q h e).1
