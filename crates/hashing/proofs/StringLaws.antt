-- The strings of a hash text differ: a name has no colon, so that a string tells its name and its value, the names of a type rise, and so do a set's values.
use mathlib.Core.Path.{◌≡◌, refl, sym, ap, ◌∙◌, subst}
use mathlib.Core.Bool.{Bool, true, false, cond}
use mathlib.Core.Option.{some}
use mathlib.Core.List.{List, [], ◌∷◌, ◌++◌, map}
use Prim.Native.Nat.{ℕ}
use Rattle.model.specs.Order.{Text, texts}
use Rattle.model.proofs.Cases.{never, and_parts}
use Rattle.model.proofs.SortLaws.{Apart, rising-apart, sorted_rises}
use Rattle.packed.proofs.LayoutLaws.{All}
use Rattle.ontology.specs.Table.{Property, EventType, Table, is_match, names_rise, type_named, is_letter, is_name_byte, are_name_bytes, is_name, is_name_within}
use Rattle.ontology.specs.TableLayout.{table_of}
use Rattle.ontology.proofs.TableLaws.{TypeKept, table-type}
use Rattle.ontology.proofs.TypeIndexLaws.{properties-rules}
use Rattle.event.proofs.EventLayoutLaws.{SetWritten, event-was}
use Rattle.event.proofs.EventQuestionLaws.{all_append, event-accepted}
use Rattle.hashing.specs.HashText.{object_string, object_strings}
use Rattle.hashing.specs.NoDuplicates.{NoDuplicates}
use Rattle.hashing.specs.ReadHashText.{before, after}
use Rattle.hashing.proofs.CallLaws.{all-elements}
use Rattle.hashing.proofs.CutLaws.{Without, string-cut}

-- ---- names

-- a name does not have a byte that no name may have
pub name-without : (c : ℕ) → is_name_byte c ≡ false → (v : Text) → is_name v ≡ true → Without c v
unfolding is_name are_name_bytes is_name_byte
name-without c other [] h = tt
name-without c other (b ∷ v) h =
    let (l, rest) = and_parts (is_letter b) (are_name_bytes v) h in
    ((λ e. apart b (rw l) e), go v rest)
  where
    apart : (b : ℕ) → is_name_byte b ≡ true → b ≡ c → ⊥
    apart b h e = let z : is_name_byte c ≡ true = subst (λ (x : ℕ). is_name_byte x ≡ true) e h in never (cc)

    go : (v : Text) → are_name_bytes v ≡ true → Without c v
    go [] h = tt
    go (b ∷ v) h = let (l, rest) = and_parts (is_name_byte b) (are_name_bytes v) h in (apart b l, go v rest)

abbrev NoColon : Text → Type 0
NoColon v = Without 58 v

-- the names of a type of an accepted table
module _ (table : List ℕ) (ts : Table) (n : Text) (t : EventType) (is : table_of table ≡ some ts) (found : type_named n ts ≡ some t) where
  pub names-without : (c : ℕ) → is_name_byte c ≡ false → All (λ (q : Property). Without c q.name) t.properties
  unfolding is_name_within
  names-without c other =
      all-elements (λ (q : Property). Without c q.name) t.properties
      (λ i q k. name-without c other q.name (and_parts (is_name q.name) _ (properties-rules table n ts t is found i q k).name).0)

  kept : TypeKept t
  kept = table-type table ts is n t found

  pub type-without : (c : ℕ) → is_name_byte c ≡ false → Without c t.name
  type-without c other = name-without c other t.name kept.named

  pub names_apart : Apart (map (λ (q : Property). q.name) t.properties)
  unfolding names_rise
  names_apart = rising-apart texts (map (λ (q : Property). q.name) t.properties) kept.rise

-- ---- strings

-- a string tells its name and its value
string-parts : (n m v u : Text) → NoColon n → NoColon m → object_string n v ≡ object_string m u → (n ≡ m) × (v ≡ u)
string-parts n m v u a b e =
    let (name, value) = string-cut n v a in
    let (name', value') = string-cut m u b in
    (sym name ∙ ap (before 58) e ∙ name', sym value ∙ ap (after 58) e ∙ value')

apart-append : {A : Type 0} (xs ys : List A) → Apart xs → Apart ys → All (λ x. All (λ y. x ≡ y → ⊥) ys) xs → Apart (xs ++ ys)
unfolding Apart
apart-append [] ys h k l = k
apart-append (x ∷ xs) ys h k l = (all_append (λ y. x ≡ y → ⊥) xs ys h.0 l.0, apart-append xs ys h.1 k l.1)

-- what is so of every string of a name is so of a set's strings
named-all :
    (P : Text → Type 0) (b : Bool) (name : Text) (s : List Text) → ((v : Text) → P (object_string name v)) →
    All P (cond b (map (object_string name) s) [])
named-all P false name s h = tt
named-all P true name s h = go s
  where
    go : (s : List Text) → All P (map (object_string name) s)
    go [] = tt
    go (v ∷ s) = (h v, go s)

named-apart : (b : Bool) (name : Text) (s : List Text) → NoColon name → Apart s → Apart (cond b (map (object_string name) s) [])
unfolding Apart
named-apart false name s n h = tt
named-apart true name s n h = go s h
  where
    differ : (v : Text) (s : List Text) → All (λ u. v ≡ u → ⊥) s → All (λ t. object_string name v ≡ t → ⊥) (map (object_string name) s)
    differ v [] h = tt
    differ v (u ∷ s) h = ((λ e. h.0 (string-parts name name v u n n e).1), differ v s h.1)

    go : (s : List Text) → Apart s → Apart (map (object_string name) s)
    go [] h = tt
    go (v ∷ s) h = (differ v s h.0, go s h.1)

-- a string of a name that no property has
string-apart :
    (name v : Text) → NoColon name → (ps : List Property) (ss : List (List Text)) → All (λ (q : Property). NoColon q.name) ps →
    All (λ (m : Text). name ≡ m → ⊥) (map (λ (q : Property). q.name) ps) → All (λ t. object_string name v ≡ t → ⊥) (object_strings ps ss)
unfolding object_strings
string-apart name v n [] ss c h = tt
string-apart name v n (p ∷ ps) [] c h = tt
string-apart name v n (p ∷ ps) (s ∷ ss) c h =
    all_append (λ t. object_string name v ≡ t → ⊥) (cond (is_match p) (map (object_string p.name) s) []) (object_strings ps ss)
    (named-all (λ t. object_string name v ≡ t → ⊥) (is_match p) p.name s (λ u e. h.0 (string-parts name p.name v u n c.0 e).0))
    (string-apart name v n ps ss c.1 h.1)

strings-apart :
    (ps : List Property) (ss : List (List Text)) → All (λ (q : Property). NoColon q.name) ps → Apart (map (λ (q : Property). q.name) ps) →
    All SetWritten ss → Apart (object_strings ps ss)
unfolding object_strings Apart
strings-apart [] ss c n w = tt
strings-apart (p ∷ ps) [] c n w = tt
strings-apart (p ∷ ps) (s ∷ ss) c n w =
    apart-append (cond (is_match p) (map (object_string p.name) s) []) (object_strings ps ss)
    (named-apart (is_match p) p.name s c.0 (rising-apart texts s w.0.rises))
    (strings-apart ps ss c.1 n.1 w.1)
    (named-all (λ x. All (λ y. x ≡ y → ⊥) (object_strings ps ss)) (is_match p) p.name s (λ v. string-apart p.name v c.0 ps ss c.1 n.0))

pub strings-rise : NoDuplicates
strings-rise counts table event ts a t h =
    let w = event-accepted counts ts event a.type a.event h in
    let c = names-without table ts a.event.head.type a.type t w.typed 58 (unfold is_name_byte is_letter in refl) in
    let n = names_apart table ts a.event.head.type a.type t w.typed in
    let s = (event-was counts event a.event w.read).1.sets.each in
    sorted_rises texts (object_strings a.type.properties a.event.sets) (strings-apart a.type.properties a.event.sets c n s)
