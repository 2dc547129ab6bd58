-- How a reply is read from its number: the macros of include/merger.h, and that they give back what a call replied.
use Rattle.std.specs.Prelude.{ℕ, ◌+◌, ◌/◌, ◌%◌, ◌^◌, ◌≤◌, ◌≡◌, List, length}
use Rattle.model.specs.Limits.{Limits}
use Rattle.model.specs.Opening.{Finding, conflict_at, overfull_at}
use Rattle.packed.specs.Packed.{part}
use Rattle.replies.specs.Answers.{Reply}
use Rattle.ontology.specs.TableCall.{table_call}
use Rattle.event.specs.Value.{Part, value_call}
use Rattle.hashing.specs.HashCalls.{hash_text_call, hash_call}
use Rattle.combining.specs.CheckCall.{check_call}
use Rattle.combining.specs.CombineCall.{combine_call}
use Rattle.opening.specs.OpenCall.{open_call}
use Rattle.batch.specs.Batch.{Rooms, batch_call}
use Rattle.report.specs.Report.{report_call}
use Rattle.interface.specs.Packing.{packed_as, version_after, packed_part}

-- ---- the macros

-- MERGER_KIND
abbrev pub kind_of : ℕ → ℕ
kind_of reply = reply / 2 ^ 56

-- MERGER_LENGTH and MERGER_PLACE
abbrev pub low_of : ℕ → ℕ
low_of reply = reply % 2 ^ 32

-- MERGER_NUMBER
abbrev pub number_of : ℕ → ℕ
number_of reply = reply % 2 ^ 8

-- MERGER_POSITION
abbrev pub position_of : ℕ → ℕ
position_of reply = reply / 2 ^ 8 % 2 ^ 24

-- MERGER_VALUE_LENGTH
abbrev pub value_length_of : ℕ → ℕ
value_length_of reply = reply % 2 ^ 28

-- MERGER_VALUE_START
abbrev pub value_start_of : ℕ → ℕ
value_start_of reply = reply / 2 ^ 28 % 2 ^ 28

-- ---- replies

-- The macros give the kind and the place of what opening finds back; the event version of a conflict is handed over apart.
abbrev pub TellsFinding : Finding → ℕ → Type 0
TellsFinding (conflict_at v p) reply = (kind_of reply ≡ 2) × (low_of reply ≡ p)
TellsFinding (overfull_at p) reply = (kind_of reply ≡ 3) × (low_of reply ≡ p)

-- The macros give the reply's kind and its numbers back. `kind` is 0 for done and 1 for merged.
abbrev pub Tells : ℕ → Reply → ℕ → Type 0
Tells kind (Reply.done n) reply = (kind_of reply ≡ kind) × (low_of reply ≡ n)
Tells kind (Reply.found f) reply = TellsFinding f reply
Tells kind (Reply.refused n) reply = (kind_of reply ≡ 4) × (number_of reply ≡ n) × (position_of reply ≡ 0)
Tells kind (Reply.refused_at n i) reply = (kind_of reply ≡ 4) × (number_of reply ≡ n) × (position_of reply ≡ i)

-- what is found, as far as its number tells it: without the event version of a conflict
abbrev pub finding_in_number : Finding → Finding
finding_in_number (conflict_at v p) = conflict_at 0 p
finding_in_number (overfull_at p) = overfull_at p

-- a reply as far as its number tells it: a refusal outside a batch has the position 0
abbrev pub in_number : Reply → Reply
in_number (Reply.done n) = Reply.done n
in_number (Reply.found f) = Reply.found (finding_in_number f)
in_number (Reply.refused n) = Reply.refused_at n 0
in_number (Reply.refused_at n i) = Reply.refused_at n i

-- Whatever a call is handed, the macros give its reply back; and where its numbers are the same, so are its replies as far as a number tells them
pub record CallTold {A : Type 0} (kind : ℕ) (reply : A → Reply) : Type 0 where
  pub tells : (a : A) → Tells kind (reply a) (packed_as kind (reply a))
  pub same : (a b : A) → packed_as kind (reply a) ≡ packed_as kind (reply b) → in_number (reply a) ≡ in_number (reply b)

-- The macros give the part's length and start back, and the kind done; and they are a part of the event that has the part's bytes.
pub record PartTold (event : List ℕ) (x : Part) (reply : ℕ) : Type 0 where
  pub kind : kind_of reply ≡ 0
  pub long : value_length_of reply ≡ length x.bytes
  pub start : value_start_of reply ≡ x.start
  pub within : value_start_of reply + value_length_of reply ≤ length event
  pub bytes : part event (value_start_of reply) (value_start_of reply + value_length_of reply) ≡ x.bytes

-- Each call, on any bytes and any output
pub record Told : Type 0 where
  pub table : CallTold 0 table_call
  pub check : CallTold 0 (λ ((table, event, old) : List ℕ × List ℕ × List ℕ). (check_call table event old).reply)
  pub combine : CallTold 0 (λ ((limits, table, left, right, old) : Limits × List ℕ × List ℕ × List ℕ × List ℕ).
      (combine_call limits table left right old).reply)
  pub opens : CallTold 1 (λ ((limits, table, dossier, old) : Limits × List ℕ × List ℕ × List ℕ). (open_call limits table dossier old).reply)
  -- the event version of a conflict is what the caller's version is set to
  pub version : (limits : Limits) (table dossier old : List ℕ) (v p before : ℕ) →
      (open_call limits table dossier old).reply ≡ Reply.found (conflict_at v p) →
      version_after (open_call limits table dossier old).reply before ≡ v
  pub hash_text : CallTold 0 (λ ((table, event, old) : List ℕ × List ℕ × List ℕ). (hash_text_call table event old).reply)
  pub hash : CallTold 0 (λ ((table, event, old) : List ℕ × List ℕ × List ℕ). (hash_call table event old).reply)
  -- "gets the value's own bytes in the caller's event": its number tells where they stand
  pub value :
      (table event : List ℕ) (place index : ℕ) → PartTold event (value_call table event place index) (packed_part (value_call table event place index))
  pub batch : CallTold 0 (λ ((limits, rooms, table, batch, old) : Limits × Rooms × List ℕ × List ℕ × List ℕ).
      (batch_call limits rooms table batch old).reply)
  pub report : CallTold 0 (λ ((input, old) : List ℕ × List ℕ). (report_call input old).reply)
