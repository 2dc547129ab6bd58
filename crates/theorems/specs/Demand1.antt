-- Demand 1's last sentence as a single claim about all calls but the report, over the calls' own equations, with document 00's words (of the report:
-- `ReportDemand1`). That a call stays in its buffers, does not overflow and ends is what every proof of a function shows.
use Rattle.std.specs.Prelude.{ℕ, ◌≡◌, ◌⊎◌, List, []}
use Rattle.model.specs.Limits.{Limits}
use Rattle.ontology.specs.TableLayout.{table_of}
use Rattle.ontology.specs.TableCall.{table_call}
use Rattle.event.specs.EventLayout.{narrow, wide, event_of}
use Rattle.event.specs.Value.{value_call}
use Rattle.dossier.specs.DossierLayout.{dossier_of}
use Rattle.hashing.specs.HashCalls.{hash_text_call, hash_call}
use Rattle.combining.specs.CheckCall.{check_call}
use Rattle.combining.specs.CombineCall.{combine_call}
use Rattle.opening.specs.OpenCall.{open_call}
use Rattle.batch.specs.Batch.{Rooms, batch_call}
use Rattle.batch.specs.Taken.{IsNumber, IsNumberOr18, Reads, Takes, BatchReads}

-- "Nothing handed to an entry point, be it table, event, dossier or batch": any bytes, and any output. The table's call has no output. The value reader has
-- neither number nor output: "a refused table or event .. gives a part of 0 bytes". Calls that take limits are asked with any, permitted or not.
pub record Demand1 : Type 0 where
  pub table : (table : List ℕ) → Takes IsNumber (Reads (table_of table)) (record { reply = table_call table; bytes = [] }) []
  pub check : (table event old : List ℕ) → Takes IsNumber (Reads (table_of table) × Reads (event_of narrow event)) (check_call table event old) old
  pub combine : (limits : Limits) (table left right old : List ℕ) →
      Takes IsNumberOr18 (Reads (table_of table) × Reads (dossier_of limits left) × Reads (dossier_of limits right))
      (combine_call limits table left right old) old
  pub opens : (limits : Limits) (table dossier old : List ℕ) →
      Takes IsNumberOr18 (Reads (table_of table) × Reads (dossier_of limits dossier)) (open_call limits table dossier old) old
  pub hash_text : (table event old : List ℕ) → Takes IsNumber (Reads (table_of table) × Reads (event_of wide event)) (hash_text_call table event old) old
  pub hash : (table event old : List ℕ) → Takes IsNumber (Reads (table_of table) × Reads (event_of wide event)) (hash_call table event old) old
  pub value : (table event : List ℕ) (place index : ℕ) →
      ((value_call table event place index).bytes ≡ []) ⊎ (Reads (table_of table) × Reads (event_of wide event))
  pub batch : (limits : Limits) (rooms : Rooms) (table batch old : List ℕ) →
      Takes IsNumberOr18 (Reads (table_of table) × BatchReads batch) (batch_call limits rooms table batch old) old
