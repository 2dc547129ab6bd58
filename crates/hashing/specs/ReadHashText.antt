-- Document 02, Q-12, "Equal hash texts, equal identity": a hash text read back into the source URI, the type name and the sets of the match properties. No
-- call and no definition of document 01 rests on this reader; that it undoes `hash_text` is why equal hash texts are of one identity.
use Rattle.std.specs.Prelude.{ℕ, zero, suc, ◌≡◌, cond, List, [], ◌∷◌, ◌++◌, length, drop, eqb}
use Rattle.std.proofs.Math.Option.{Option, some, map}
use Rattle.model.specs.Order.{Text, texts, equal}
use Rattle.replies.specs.Questions.{accepted}
use Rattle.ontology.specs.Table.{Property, EventType, Table, is_match, type_named}
use Rattle.ontology.specs.TableLayout.{table_of}
use Rattle.event.specs.EventLayout.{Counts}
use Rattle.event.specs.EventQuestions.{Typed, event_asked}
use Rattle.event.specs.Agreement.{match_sets}
use Rattle.hashing.specs.HashText.{event_text}

-- "source URI, type name and every match property's set": the sets by place, as question 7 compares them
pub record Identity : Type 0 where
  pub source : Text
  pub type : Text
  pub sets : List (List Text)

abbrev pub identity_of : Typed → Identity
identity_of a = record {
  source = a.event.head.source;
  type = a.event.head.type;
  sets = match_sets a.type.properties a.event.sets;
}

-- what stands before the first of a byte, and what stands after it
unfoldable pub before : ℕ → List ℕ → List ℕ
before b [] = []
before b (c ∷ s) = cond (eqb c b) [] (c ∷ before b s)

unfoldable pub after : ℕ → List ℕ → List ℕ
after b [] = []
after b (c ∷ s) = cond (eqb c b) s (after b s)

-- the strings between the separators, at most so many: each ends at the first FF, and three more follow this one
unfoldable pub strings : ℕ → List ℕ → List Text
strings zero s = []
strings (suc most) [] = []
strings (suc most) (c ∷ s) = before 0xff (c ∷ s) ∷ strings most (drop 3 (after 0xff (c ∷ s)))

-- the values of a name: a string's name ends at its first colon
unfoldable pub values_of : Text → List Text → List Text
values_of name [] = []
values_of name (x ∷ xs) = cond (equal texts (before 58 x) name) (after 58 x ∷ []) [] ++ values_of name xs

-- the sets of the match properties, by place
unfoldable pub sets_from : List Property → List Text → List (List Text)
sets_from [] xs = []
sets_from (p ∷ ps) xs = cond (is_match p) (values_of p.name xs ∷ []) [] ++ sets_from ps xs

-- the source ends at the first 0A, the type name at the second; a text whose type the table does not have is of no identity
unfoldable pub read_hash_text : Table → List ℕ → Option Identity
read_hash_text table s =
    let rest = after 10 s in
    let objects = after 10 rest in
    map
    (λ (t : EventType). record { source = before 10 s; type = t.name; sets = sets_from t.properties (strings (length objects) objects) })
    (type_named (before 10 rest) table)

-- reading undoes the hash text of every event that is taken, in the narrow counts or in the wide ones
abbrev pub ReadsBack : Type 0
ReadsBack =
    (counts : Counts) (table event : List ℕ) (ts : Table) (a : Typed) → table_of table ≡ some ts → event_asked counts ts event ≡ accepted a →
    read_hash_text ts (event_text a.type a.event) ≡ some (identity_of a)
