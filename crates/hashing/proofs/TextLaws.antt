-- The laws of writing a hash text from its parts.
use mathlib.Core.Path.{◌≡◌, sym, ap, ◌∙◌}
use mathlib.Core.List.{List, [], ◌∷◌, ◌++◌, append_assoc}
use Prim.Native.Nat.{ℕ, ◌+◌, ◌≤◌}
use native.Mathlib.Omega.{arith}
use lib.ListN.{length, length-append}
use Rattle.model.specs.Order.{texts}
use Rattle.model.specs.Sorting.{sorted}
use Rattle.packed.specs.Packed.{part}
use Rattle.packed.specs.code.Strings.{strings_of}
use Rattle.packed.specs.code.Written.{Wrote}
use Rattle.packed.specs.declared.strings.StringAt.{StringAt}
use Rattle.packed.proofs.WriteLaws.{wrote_then}
use Rattle.replies.specs.Capacities.{hash_text_capacity}
use Rattle.ontology.specs.declared.types.TypeIndex.{TypeIndex}
use Rattle.event.specs.declared.read.EventIndex.{EventIndex}
use Rattle.hashing.specs.HashText.{object_strings, separated, hash_text, event_text}
use Rattle.hashing.specs.code.HashIndex.{Gatherable, Hashable}

-- the two lines that a hash text begins with
abbrev pub source_line : List ℕ → EventIndex → List ℕ
source_line event e = part event e.head.source.start e.head.source.end ++ (10 ∷ [])

abbrev pub name_line : List ℕ → TypeIndex → List ℕ
name_line table t = part table t.start t.end ++ (10 ∷ [])

-- what the objects of a hash text are gathered from
abbrev pub gatherable :
    {table event : List ℕ} {t : TypeIndex} {ps : List ℕ} {e : EventIndex} {ats : List ℕ} →
    Hashable table event t ps e ats → Gatherable table event t.count ps ats
gatherable h = record {
  properties = h.type.properties;
  sets = h.event.sets;
  are = h.typed.are;
  stand = h.read.sets;
  few = h.few;
}

module _
    {table event : List ℕ} {t : TypeIndex} {ps : List ℕ} {e : EventIndex} {ats : List ℕ} (h : Hashable table event t ps e ats)
    (objects : List StringAt) (count : ℕ)
    (g : strings_of table event objects count ≡ sorted texts (object_strings h.type.properties h.event.sets))
  where
    text-parts : event_text h.type h.event ≡ (source_line event e ++ name_line table t) ++ separated (strings_of table event objects count)
    unfolding hash_text
    text-parts =
        let n = h.type.name in
        let z = separated (sorted texts (object_strings h.type.properties h.event.sets)) in
        ap (λ (l : List ℕ). l ++ z) (append_assoc (h.event.head.source ++ (10 ∷ [])) n (10 ∷ []))
        ∙ ap (λ (l : List ℕ). ((l ++ (10 ∷ [])) ++ (n ++ (10 ∷ []))) ++ z) (sym h.read.head.uri.bytes)
        ∙ ap (λ (l : List ℕ). (source_line event e ++ (l ++ (10 ∷ []))) ++ z) (sym h.typed.name)
        ∙ ap (λ (l : List (List ℕ)). (source_line event e ++ name_line table t) ++ separated l) (sym g)

    -- the parts have room where there is room for any hash text
    pub parts-room : length (source_line event e) + length (name_line table t) + length (separated (strings_of table event objects count)) ≤
        hash_text_capacity
    parts-room =
        omega (
          arith,
          h.short,
          ap length text-parts,
          length-append (source_line event e ++ name_line table t) (separated (strings_of table event objects count)),
          length-append (source_line event e) (name_line table t),
        )

    pub wrote-hash-text :
        {l l₁ l₂ l₃ : List ℕ} {a b c d : ℕ} → Wrote l a (source_line event e) l₁ b → Wrote l₁ b (name_line table t) l₂ c →
        Wrote l₂ c (separated (strings_of table event objects count)) l₃ d → Wrote l a (event_text h.type h.event) l₃ d
    wrote-hash-text p q r = rw text-parts (wrote_then (wrote_then p q) r)
