-- Reading undoes the hash text: no source URI and no name has the byte 0A, no name a colon, and no name and no value the byte FF, so that every cut is made
-- where the hash text was put together.
use mathlib.Core.Path.{◌≡◌, refl, sym, ap, ap₂, ◌∙◌}
use mathlib.Core.Bool.{Bool, true, false, cond, ◌&&◌}
use mathlib.Core.Option.{some}
use mathlib.Core.List.{List, [], ◌∷◌, ◌++◌, append_assoc, map}
use Prim.Native.Nat.{ℕ, suc}
use native.Mathlib.Omega.{arith}
use lib.Dec.{leb}
use lib.ListN.{length, get_or, get_elem?}
use borrow.Author.Tests.{leb-true}
use Rattle.model.specs.Order.{Text, texts}
use Rattle.model.specs.Sorting.{sorted}
use Rattle.model.proofs.Cases.{and_parts}
use Rattle.model.proofs.SetLaws.{rising-ups}
use Rattle.model.proofs.SortLaws.{sorted_all, sorted-ups}
use Rattle.packed.proofs.LayoutLaws.{All}
use Rattle.values.specs.Spaces.{Kind, in_space}
use Rattle.values.proofs.ByteLaws.{Below, value-below}
use Rattle.replies.specs.Questions.{accepted}
use Rattle.ontology.specs.Table.{Property, EventType, Table, is_match, type_named, is_name_byte, is_letter}
use Rattle.ontology.specs.TableLayout.{table_of}
use Rattle.ontology.proofs.RunLaws as runs
use Rattle.ontology.proofs.TypeIndexLaws.{named-at}
use Rattle.event.specs.Head.{are_source_bytes, is_source}
use Rattle.event.specs.EventLayout.{Counts}
use Rattle.event.specs.EventQuestions.{each_place, are_in_space, values_fit, Typed, event_asked}
use Rattle.event.specs.Agreement.{match_sets}
use Rattle.event.proofs.EventLayoutLaws.{SetWritten, EventWritten, event-was}
use Rattle.event.proofs.EventQuestionLaws.{all_append, all-at, EventAccepted, event-accepted, empty-written}
use Rattle.hashing.specs.HashText.{object_string, object_strings, separated, hash_text, event_text}
use Rattle.hashing.specs.ReadHashText.{strings, values_of, sets_from, read_hash_text, identity_of, ReadsBack}
use Rattle.hashing.proofs.CutLaws.{Without, before-first, after_first, string-cut, IsString, strings-back, strings-few}
use Rattle.hashing.proofs.NamedValueLaws.{values-at, values-sorted}
use Rattle.hashing.proofs.StringLaws.{names-without, type-without, names_apart}

-- ---- the sets by place

place-back :
    (b : Bool) (x s : List Text) (r q : List (List Text)) → (b ≡ true → x ≡ s) → r ≡ q → cond b (x ∷ []) [] ++ r ≡ cond b (s ∷ q) q
place-back true x s r q h e = ap₂ (λ (v : List Text) (w : List (List Text)). v ∷ w) (h refl) e
place-back false x s r q h e = e

sets-back :
    (xs : List Text) (ps : List Property) (ss : List (List Text)) →
    ((i : ℕ) (q : Property) → get_elem? ps i ≡ some q → is_match q ≡ true → values_of q.name xs ≡ get_or ss i []) →
    sets_from ps xs ≡ match_sets ps ss
unfolding sets_from match_sets
sets-back xs [] ss h = refl
sets-back xs (p ∷ ps) [] h = place-back (is_match p) _ _ _ _ (h 0 p refl) (sets-back xs ps [] (λ i. h (suc i)))
sets-back xs (p ∷ ps) (s ∷ ss) h = place-back (is_match p) _ _ _ _ (h 0 p refl) (sets-back xs ps ss (λ i. h (suc i)))

-- ---- an accepted event

is-string : (name v : Text) → Without 58 name → Without 0xff name → Below v → IsString (object_string name v)
is-string name v c f b =
    let (n, u) = string-cut name v c in
    record {
      whole = all_append (λ (b : ℕ). b ≡ 0xff → ⊥) name (58 ∷ v) f ((λ e. absurd (omega arith)), below v b);
      parts = sym (ap₂ object_string n u);
    }
  where
    below : (v : Text) → Below v → Without 0xff v
    below [] h = tt
    below (b ∷ v) h = ((λ e. absurd (omega (arith, h.0))), below v h.1)

set-strings :
    (b : Bool) (k : Kind) (name : Text) (s : List Text) → Without 58 name → Without 0xff name → are_in_space k s ≡ true →
    All IsString (cond b (map (object_string name) s) [])
unfolding are_in_space
set-strings false k name s c f h = tt
set-strings true k name [] c f h = tt
set-strings true k name (v ∷ s) c f h =
    let (here, rest) = and_parts (in_space k v) (are_in_space k s) h in
    (is-string name v c f (value-below k v here), set-strings true k name s c f rest)

are-strings :
    (ps : List Property) (ss : List (List Text)) → All (λ (q : Property). Without 58 q.name) ps →
    All (λ (q : Property). Without 0xff q.name) ps → each_place (λ p s. are_in_space p.kind s) (λ s. true) ps ss ≡ true →
    All IsString (object_strings ps ss)
unfolding object_strings each_place
are-strings [] ss c f h = tt
are-strings (p ∷ ps) [] c f h = tt
are-strings (p ∷ ps) (s ∷ ss) c f h =
    let (here, rest) = and_parts (are_in_space p.kind s) _ h in
    all_append IsString (cond (is_match p) (map (object_string p.name) s) []) (object_strings ps ss)
    (set-strings (is_match p) p.kind p.name s c.0 f.0 here) (are-strings ps ss c.1 f.1 rest)

source-without : (v : Text) → is_source v ≡ true → Without 10 v
unfolding is_source are_source_bytes
source-without v h = go v (and_parts (leb 1 (length v) && leb (length v) 120) (are_source_bytes v) h).1
  where
    go : (v : Text) → are_source_bytes v ≡ true → Without 10 v
    go [] h = tt
    go (b ∷ v) h =
        let (here, rest) = and_parts (leb 0x21 b && leb b 0x7e) (are_source_bytes v) h in
        ((λ e. absurd (omega (arith, leb-true 0x21 b (and_parts (leb 0x21 b) _ here).0))), go v rest)

-- the text is cut where it was put together
read-cut :
    (ts : Table) (source name body : Text) (t : EventType) → Without 10 source → Without 10 name → type_named name ts ≡ some t →
    read_hash_text ts (source ++ (10 ∷ []) ++ name ++ (10 ∷ []) ++ body)
    ≡ some (record { source = source; type = t.name; sets = sets_from t.properties (strings (length body) body) })
unfolding read_hash_text
read-cut ts source name body t s n e =
    let rest = name ++ 10 ∷ body in
    let whole : source ++ (10 ∷ []) ++ name ++ (10 ∷ []) ++ body ≡ source ++ 10 ∷ rest = simp append_assoc refl in
    rw (whole, before-first 10 source rest s, after_first 10 source rest s, before-first 10 name body n, after_first 10 name body n, e)

module _
    (counts : Counts) (table event : List ℕ) (ts : Table) (a : Typed) (is : table_of table ≡ some ts)
    (h : event_asked counts ts event ≡ accepted a) where
  abbrev name : Text
  name = a.event.head.type

  abbrev ps : List Property
  ps = a.type.properties

  abbrev ss : List (List Text)
  ss = a.event.sets

  -- the strings of the hash text, and what it has after its second 0A
  abbrev found : List Text
  found = sorted texts (object_strings ps ss)

  abbrev body : List ℕ
  body = separated found

  asked : EventAccepted counts ts event a.type a.event
  asked = event-accepted counts ts event a.type a.event h

  written : EventWritten counts a.event
  written = (event-was counts event a.event asked.read).1

  named : a.type.name ≡ name
  named = (named-at name ts a.type asked.typed).2

  colonless : All (λ (q : Property). Without 58 q.name) ps
  colonless = names-without table ts name a.type is asked.typed 58 (unfold is_name_byte is_letter in refl)

  all-strings : All IsString (object_strings ps ss)
  unfolding values_fit
  all-strings =
      are-strings ps ss colonless (names-without table ts name a.type is asked.typed 0xff (unfold is_name_byte is_letter in refl)) asked.values

  -- each match property's set comes back
  set_back : (i : ℕ) (q : Property) → get_elem? ps i ≡ some q → is_match q ≡ true → values_of q.name found ≡ get_or ss i []
  set_back i q e m =
      values-sorted q.name (runs.all-at (λ (p : Property). Without 58 p.name) ps colonless i q e) (object_strings ps ss) all-strings
      ∙ ap (sorted texts) (values-at ps ss colonless (names_apart table ts name a.type is asked.typed) i q e m)
      ∙ sorted-ups texts (get_or ss i []) ((rising-ups texts (get_or ss i [])).0 (all-at SetWritten [] empty-written ss written.sets.each i).rises)

  strings-are : strings (length body) body ≡ found
  strings-are =
      let each = sorted_all texts IsString (object_strings ps ss) all-strings in
      strings-back (length body) found (strings-few found each) each

  sets-are : sets_from ps (strings (length body) body) ≡ match_sets ps ss
  sets-are = ap (sets_from ps) strings-are ∙ sets-back found ps ss set_back

  read_back : read_hash_text ts (event_text a.type a.event) ≡ some (identity_of a)
  unfolding hash_text
  read_back =
      read-cut ts a.event.head.source a.type.name body a.type
      (source-without a.event.head.source written.head.source)
      (type-without table ts name a.type is asked.typed 10 (unfold is_name_byte is_letter in refl))
      (ap (λ (n : Text). type_named n ts) named ∙ asked.typed)
      ∙ ap some (λ i. record { source = a.event.head.source; type = named i; sets = sets-are i })

pub reads-back : ReadsBack
reads-back = read_back
