-- Demand 1's last sentence and the bounds of replies as claims about the report, over its own equation, with document 00's words.
use Rattle.std.specs.Prelude.{ℕ, ◌≤◌, ◌≡◌, ◌⊎◌, List, length, take}
use Rattle.packed.specs.Parse.{got}
use Rattle.packed.specs.Packed.{read_text}
use Rattle.replies.specs.Capacities.{report_capacity}
use Rattle.replies.specs.Answers.{Reply, Outcome}
use Rattle.ontology.specs.TableLayout.{table_of}
use Rattle.batch.specs.Taken.{IsNumber, IsPosition, Reads, Takes, BatchReads, Bounded}
use Rattle.report.specs.Report.{refused_line, most_input, report_call}

-- an input of the report that is read: "at most 65,536 bytes ..: table as a text, then a batch"
abbrev pub InputReads : List ℕ → Type 0
InputReads input =
    (length input ≤ most_input) × (table : List ℕ) × (batch : List ℕ) × (read_text input ≡ got table batch) × Reads (table_of table)
    × BatchReads batch

-- lines that name a refusal: "Else one line: .. `refused 7 1` (number, position)"
abbrev pub Refusal : List ℕ → Type 0
Refusal lines = (n : ℕ) × (i : ℕ) × (lines ≡ refused_line n i) × IsNumber n × IsPosition i

-- and those are all that is printed: the first bytes of the output, as many as the call returned
abbrev pub PrintsRefusal : Outcome → Type 0
PrintsRefusal o = (lines : List ℕ) × ((o.reply ≡ Reply.done (length lines)) × (take (length lines) o.bytes ≡ lines)) × Refusal lines

-- An input of the report that is "outside document 01's layouts .. gets a number from 1 to 9" in the line that it prints; the call itself is refused only for
-- its output's size.
pub record ReportDemand1 : Type 0 where
  pub report : (input old : List ℕ) → Takes IsNumber (InputReads input ⊎ PrintsRefusal (report_call input old)) (report_call input old) old

-- The numbers of the report's reply, whatever bytes it is handed and whatever its output has: it gives no more bytes than question 1 asks room for.
pub record ReportBounded : Type 0 where
  pub report : (input old : List ℕ) → Bounded IsNumber report_capacity (report_call input old).reply
