-- The lines of a report have room in its output.
use mathlib.Core.Path.{◌≡◌, refl, ap}
use mathlib.Core.Option.{some}
use mathlib.Core.List.{List, [], ◌∷◌, flatten}
use Prim.Native.Nat.{ℕ, suc, ◌*◌, ◌≤◌}
use native.Mathlib.Omega.{arith}
use lib.ListN.{length, get_elem?, length-append}
use Rattle.model.specs.Order.{Text}
use Rattle.model.specs.Opening.{Finding, conflict_at, overfull_at, place_of}
use Rattle.packed.proofs.LayoutLaws.{All}
use Rattle.packed.specs.Ascii.{ascii}
use Rattle.values.proofs.DigitLaws.{decimal-length}
use Rattle.replies.specs.Questions.{accepted}
use Rattle.replies.specs.Capacities.{report_capacity}
use Rattle.ontology.specs.Table.{Property, EventType, Table, type_named, at_place, name_at}
use Rattle.ontology.specs.TableLayout.{table_of}
use Rattle.ontology.proofs.TypeIndexLaws.{name-length, properties-rules}
use Rattle.event.specs.Event.{Event, object_count}
use Rattle.event.specs.EventLayout.{wide}
use Rattle.event.specs.EventQuestions.{event_asked}
use Rattle.event.proofs.EventLayoutLaws.{event-was}
use Rattle.event.proofs.EventQuestionLaws.{event-accepted}
use Rattle.event.proofs.EventSizeLaws.{ValuesShort, event-short}
use Rattle.fips180.specs.Fips.{sha1_of}
use Rattle.fips180.proofs.Laws.{length-sha1_of}
use Rattle.hashing.specs.HashText.{event_text}
use Rattle.report.specs.Report.{value_lines, object_lines, merged_lines, conflict_line, overfull_line, finding_line}
use Rattle.report.proofs.LineLaws.{hashed_length}

-- the names of a type's properties
abbrev Named : List Property → Type 0
Named ps = (i : ℕ) (q : Property) → get_elem? ps i ≡ some q → length q.name ≤ 32

-- a property of an accepted table has a name of at most 32 bytes
pub names-short :
    (table : List ℕ) (types : Table) (t : EventType) (name : Text) → table_of table ≡ some types → type_named name types ≡ some t →
    Named t.properties
names-short table types t name e h i q k = (name-length 32 q.name (properties-rules table name types t e h i q k).name).1

values-size :
    (name : Text) (vs : List Text) → length name ≤ 32 → All (λ (v : Text). length v ≤ 120) vs → length (value_lines name vs) ≤ 154 * length vs
unfolding value_lines flatten
values-size name [] h w = omega arith
values-size name (v ∷ vs) h w = simp length-append (omega (arith, h, w.0, values-size name vs h w.1))

objects-size : (ps : List Property) (ss : List (List Text)) → Named ps → ValuesShort ss → length (object_lines ps ss) ≤ 154 * object_count ss
unfolding object_lines object_count
objects-size [] ss n w = omega arith
objects-size (p ∷ ps) [] n w = omega arith
objects-size (p ∷ ps) (s ∷ ss) n w =
    omega (
      arith,
      length-append (value_lines p.name s) (object_lines ps ss),
      values-size p.name s (n 0 p refl) w.0,
      objects-size ps ss (λ i q k. n (suc i) q k) w.1,
    )

module _ (table : List ℕ) (types : Table) (is_table : table_of table ≡ some types) (t : EventType) where
  pub merged-short :
      (s : List ℕ) (e : Event) → event_asked wide types s ≡ accepted (record { type = t; event = e }) → length (merged_lines t e) ≤ report_capacity
  unfolding wide
  merged-short s e a =
      let w = event-accepted wide types s t e a in
      omega (
        arith,
        hashed_length t e (sha1_of (event_text t e)),
        length-sha1_of (event_text t e),
        decimal-length (object_count e.sets),
        (event-was wide s e w.read).1.objects,
        objects-size t.properties e.sets (names-short table types t e.head.type is_table w.typed) (event-short t e w.shape w.values),
      )

  module _ (name : Text) (named : type_named name types ≡ some t) (p : ℕ) (q : Property) (at : get_elem? t.properties p ≡ some q) where
    name-at : name_at t p ≡ q.name
    unfolding name_at at_place
    name-at = rw at

    name-short : length (name_at t p) ≤ 32
    name-short = omega (arith, ap length name-at, names-short table types t name is_table named p q at)

    conflict-short : (v : ℕ) → length (conflict_line t v p) ≤ report_capacity
    unfolding conflict_line ascii
    conflict-short v = simp length-append (omega (arith, name-short, decimal-length v))

    overfull-short : length (overfull_line t p) ≤ report_capacity
    unfolding overfull_line ascii
    overfull-short = simp length-append (omega (arith, name-short))

  pub finding-short : (name : Text) → type_named name types ≡ some t → (f : Finding) (q : Property) → get_elem? t.properties (place_of f) ≡ some q →
      length (finding_line t f) ≤ report_capacity
  unfolding place_of finding_line
  finding-short name named (conflict_at v p) q at = conflict-short name named p q at v
  finding-short name named (overfull_at p) q at = overfull-short name named p q at
