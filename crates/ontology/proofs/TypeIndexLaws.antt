-- What is known of a type that a table has, and of its properties: for the callers of `read_table`.
use mathlib.Core.Path.{◌≡◌, refl, sym, ap, ap₂, ◌∙◌, subst}
use mathlib.Core.Bool.{Bool, true, ◌||◌}
use mathlib.Core.Option.{Option, none, some}
use mathlib.Core.List.{List, [], ◌∷◌}
use Prim.Native.Nat.{ℕ, suc, ◌≤◌}
use lib.Dec.{eqb}
use lib.ListN.{get_elem?}
use Rattle.model.specs.Order.{Text, texts, equal}
use Rattle.model.proofs.Cases.{never, truth}
use Rattle.packed.proofs.OrderLaws.{texts-equal}
use Rattle.ontology.specs.Table.{Strategy, min, max, replace, match, strategy_number, is_strategy, is_min, is_max, is_replace, is_match}
use Rattle.ontology.specs.Table.{Property, EventType, Table, type_rules, type_named}
use Rattle.ontology.specs.TableLayout.{table_of}
use Rattle.ontology.specs.declared.properties.PropertyAt.{PropertyAt}
use Rattle.ontology.specs.declared.types.TypeIndex.{TypeIndex}
use Rattle.ontology.specs.code.TypeIndex.{PropertyIs, has_strategy, has_min, has_max, has_extreme, has_replace, has_match}
use Rattle.ontology.specs.code.TypeIndex.{TypeIs, TypeSaid, TypeSays, TableSaid, TableSays}
use Rattle.std.specs.Option.{option_flatten}
use Rattle.std.specs.Prelude as std
use Rattle.std.specs.Prelude.{Some, None}
pub use Rattle.ontology.proofs.NameLaws.{name-length}
use Rattle.ontology.proofs.RunLaws.{all-at}
use Rattle.ontology.proofs.TableLayoutLaws.{PropertyWritten, TypeWritten, table-was}

-- ---- the strategy of a property

module _ {s : List ℕ} {q : Property} {x : PropertyAt} (w : PropertyIs s q x) where
  strategy-is : (y : Strategy) → has_strategy y x ≡ is_strategy y q
  strategy-is y = ap (λ (n : ℕ). eqb n (strategy_number y)) w.strategy

  pub min-of : has_min x ≡ is_min q
  min-of = strategy-is min

  pub max_of : has_max x ≡ is_max q
  max_of = strategy-is max

  pub extreme-of : has_extreme x ≡ (is_min q || is_max q)
  extreme-of = ap₂ (λ (a b : Bool). a || b) min-of max_of

  pub replace-of : has_replace x ≡ is_replace q
  replace-of = strategy-is replace

  pub match-of : has_match x ≡ is_match q
  match-of = strategy-is match

-- ---- a type of a table

-- its place, and that it has the name
pub named-at : (n : Text) (ts : List EventType) (t : EventType) → type_named n ts ≡ some t → (i : ℕ) × (get_elem? ts i ≡ some t) × (t.name ≡ n)
unfolding type_named
named-at n [] t e = never (cc)
named-at n (x ∷ ts) t e =
    truth (equal texts n x.name)
    (λ y. let q : x ≡ t = cc (rw y at e) in (0, ap some q, ap (λ (u : EventType). u.name) (sym q) ∙ sym ((texts-equal n x.name).0 y)))
    (λ y. let r = named-at n ts t (rw y at e) in (suc r.0, r.1, r.2))

-- its rules and those of its properties
module _ (s : List ℕ) (n : Text) (ts : Table) (t : EventType) (e : table_of s ≡ some ts) (h : type_named n ts ≡ some t) where
  type-written : (t.name ≡ n) × TypeWritten t
  type-written = let a = named-at n ts t h in (a.2, all-at TypeWritten ts (table-was s ts e).1.types a.0 t a.1)

  pub type-rules : (t.name ≡ n) × (type_rules t ≡ true)
  type-rules = (type-written.0, type-written.1.rules)

  pub properties-rules : (i : ℕ) (q : Property) → get_elem? t.properties i ≡ some q → PropertyWritten q
  properties-rules i q k = all-at PropertyWritten t.properties type-written.1.properties i q k

-- ---- what a caller of `read_table` has, whose answer is r

module _ (s : List ℕ) (n : Text) (ps : List ℕ) (r : std.Option (std.Option TypeIndex)) where
  pub table-refused : TableSays (table_of s) s n ps r → r ≡ None → table_of s ≡ none
  table-refused w h = subst (TableSays (table_of s) s n ps) h w

  pub table_got : {x : std.Option TypeIndex} → TableSays (table_of s) s n ps r → r ≡ Some x → TableSaid (table_of s) s n ps x
  table_got w h = subst (TableSays (table_of s) s n ps) h w

  -- what was read for a name was read for the same name
  pub says_same :
      (m : Text) {b : Bool} → b ≡ equal texts n m → b ≡ true → TableSays (table_of s) s n ps r → TableSays (table_of s) s m ps r
  says_same m e h = subst (λ (x : Text). TableSays (table_of s) s x ps r) ((texts-equal n m).0 (sym e ∙ h))

-- so of the types that the table is known to have
pub type-says :
    (s : List ℕ) (n : Text) (ps : List ℕ) (r : std.Option TypeIndex) (ts : Table) →
    table_of s ≡ some ts → TableSaid (table_of s) s n ps r → TypeSays (type_named n ts) s ps r
type-says s n ps r ts e w = let k : w.what ≡ ts = cc (w.is) in subst (λ (t : Table). TypeSays (type_named n t) s ps r) k w.says

-- such a table is not refused
pub known-says :
    (s : List ℕ) (n : Text) (ps : List ℕ) (r : std.Option (std.Option TypeIndex)) (ts : Table) →
    table_of s ≡ some ts → TableSays (table_of s) s n ps r → TypeSays (type_named n ts) s ps (option_flatten r)
known-says s n ps (Some x) ts e w = type-says s n ps x ts e w
known-says s n ps None ts e w = never (cc)

-- the type that was asked for, where there is one
module _ (o : Option EventType) (s ps : List ℕ) (r : std.Option TypeIndex) where
  pub type-absent : TypeSays o s ps r → r ≡ None → o ≡ none
  type-absent w h = subst (TypeSays o s ps) h w

  pub type-found : {x : TypeIndex} → TypeSays o s ps r → r ≡ Some x → TypeSaid o s ps x
  type-found w h = subst (TypeSays o s ps) h w

  pub found-few : {x : TypeIndex} → TypeSays o s ps r → r ≡ Some x → x.count ≤ 32
  found-few w h = (type-found w h).typed.are.few

-- so of the type that is known to be there
pub type-there :
    (o : Option EventType) (s ps : List ℕ) (r : std.Option TypeIndex) (t : EventType) →
    o ≡ some t → TypeSays o s ps r → (x : TypeIndex) × (r ≡ Some x) × TypeIs s t x ps
type-there o s ps (Some x) t e w = let k : w.what ≡ t = cc (w.is) in (x, refl, subst (λ (u : EventType). TypeIs s u x ps) k w.typed)
type-there o s ps None t e w = never (cc)
