-- Document 01: what the merge program prints. "The merge program reads standard input (at most 65,536 bytes, else 9): table as a text, then a batch. A table
-- text that doesn't read to its length gives 9, before question 2."
use Rattle.std.specs.Prelude.{ℕ, ◌+◌, ◌/◌, ◌%◌, cond, length, leb, ltb}
use mathlib.Core.List.{List, [], ◌∷◌, ◌++◌, map, flatten}
use Rattle.model.specs.Order.{Text}
use Rattle.model.specs.Limits.{standard}
use Rattle.model.specs.Opening.{Finding, conflict_at, overfull_at, Opened, finds, merged, opening}
use Rattle.packed.specs.Parse.{Parse, fail, got}
use Rattle.packed.specs.Packed.{read_text}
use Rattle.packed.specs.Ascii.{ascii}
use Rattle.values.specs.Decimal.{in_decimal}
use Rattle.replies.specs.Answers.{Answer, gives, refuses, Outcome, outcome}
use Rattle.replies.specs.Capacities.{report_capacity}
use Rattle.ontology.specs.Table.{Property, EventType, name_at}
use Rattle.event.specs.Event.{Event, type_view, object_count}
use Rattle.dossier.specs.DossierLayout.{Headed, model_of}
use Rattle.dossier.specs.DossierQuestions.{TypedDossier}
use Rattle.fips180.specs.Fips.{sha1_of}
use Rattle.hashing.specs.HashText.{object_string, event_text}
use Rattle.opening.specs.OpenCall.{merged_event}
use Rattle.batch.specs.Batch.{AskedAt, refused_at, accepted, batch_asked}

-- "Each line ends with 0A."
abbrev pub line : List ℕ → List ℕ
line s = s ++ (10 ∷ [])

-- "lower-case hex digits"
unfoldable pub hex_digit : ℕ → ℕ
hex_digit n = cond (ltb n 10) (48 + n) (87 + n)

unfoldable pub hex_of : List ℕ → List ℕ
hex_of [] = []
hex_of (b ∷ s) = hex_digit (b / 16) ∷ hex_digit (b % 16) ∷ hex_of s

-- `addr:h1`
abbrev pub value_line : Text → Text → List ℕ
value_line name v = line (object_string name v)

-- the lines of a property's values
unfoldable pub value_lines : Text → List Text → List ℕ
value_lines name vs = flatten (map (value_line name) vs)

-- the objects, by place and then by value
unfoldable pub object_lines : List Property → List (List Text) → List ℕ
object_lines [] ss = []
object_lines (p ∷ ps) [] = []
object_lines (p ∷ ps) (s ∷ ss) = value_lines p.name s ++ object_lines ps ss

-- "`merged 5` (objects), .. then `hash ` and 40 lower-case hex digits"
unfoldable pub hashed_lines : EventType → Event → List ℕ → List ℕ
hashed_lines t e hash =
    line (ascii "merged " ++ in_decimal (object_count e.sets)) ++ object_lines t.properties e.sets ++ line (ascii "hash " ++ hex_of hash)

abbrev pub merged_lines : EventType → Event → List ℕ
merged_lines t e = hashed_lines t e (sha1_of (event_text t e))

-- "`conflict 1 state` (version, property)"
unfoldable pub conflict_line : EventType → ℕ → ℕ → List ℕ
conflict_line t v p = line (ascii "conflict " ++ in_decimal v ++ ascii " " ++ name_at t p)

-- "`overfull serial` (property, of another type)"
unfoldable pub overfull_line : EventType → ℕ → List ℕ
overfull_line t p = line (ascii "overfull " ++ name_at t p)

-- what opening finds in place of a merged event
unfoldable pub finding_line : EventType → Finding → List ℕ
finding_line t (conflict_at v p) = conflict_line t v p
finding_line t (overfull_at p) = overfull_line t p

unfoldable pub opened_lines : EventType → Headed → Opened → List ℕ
opened_lines t h (finds f) = finding_line t f
opened_lines t h (merged ss) = merged_lines t (merged_event h ss)

-- "`refused 7 1` (number, position)"
unfoldable pub refused_line : ℕ → ℕ → List ℕ
refused_line n i = line (ascii "refused " ++ in_decimal n ++ ascii " " ++ in_decimal i)

unfoldable pub asked_lines : AskedAt TypedDossier → List ℕ
asked_lines (refused_at n i) = refused_line n i
asked_lines (accepted d) = opened_lines d.type d.headed (opening (type_view d.type) (model_of d.headed))

unfoldable pub framed_lines : Parse (List ℕ) → List ℕ
framed_lines fail = refused_line 9 0
framed_lines (got table batch) = asked_lines (batch_asked standard table batch)

-- "at most 65,536 bytes, else 9"
abbrev pub most_input : ℕ
most_input = 65536

-- what the program prints for its input
unfoldable pub report : List ℕ → List ℕ
report input = cond (leb (length input) most_input) (framed_lines (read_text input)) (refused_line 9 0)

-- The report as a call
unfoldable pub report_answer : ℕ → List ℕ → Answer
report_answer room input = cond (leb report_capacity room) (gives (report input)) (refuses 1)

-- the call with its output
unfoldable pub report_call : List ℕ → List ℕ → Outcome
report_call input out = outcome (report_answer (length out) input) out
