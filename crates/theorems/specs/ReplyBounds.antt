-- How large the numbers of each call's reply can be, whatever bytes the call is handed and whatever its output has (of the report: `ReportBounded`).
use Rattle.std.specs.Prelude.{ℕ, List}
use Rattle.model.specs.Limits.{Limits}
use Rattle.replies.specs.Capacities.{dossier_capacity, hash_text_capacity, hash_capacity}
use Rattle.ontology.specs.TableCall.{table_call}
use Rattle.hashing.specs.HashCalls.{hash_text_call, hash_call}
use Rattle.combining.specs.CheckCall.{check_call}
use Rattle.combining.specs.CombineCall.{combine_call}
use Rattle.opening.specs.OpenCall.{open_call}
use Rattle.batch.specs.Batch.{Rooms, batch_call}
use Rattle.batch.specs.Taken.{IsNumber, IsNumberOr18, Bounded}

-- "Has the output at least 32,768 bytes (hash text 8,192, hash 20) ..?": no call gives more bytes than this question asks room for. The table's call has no
-- output, and the value call has no reply but a part of the caller's event. Document 02, Q-13: "Buffers don't change", whatever limits a call takes.
pub record RepliesBounded : Type 0 where
  pub table : (table : List ℕ) → Bounded IsNumber 0 (table_call table)
  pub check : (table event old : List ℕ) → Bounded IsNumber dossier_capacity (check_call table event old).reply
  pub combine : (limits : Limits) (table left right old : List ℕ) → Bounded IsNumberOr18 dossier_capacity (combine_call limits table left right old).reply
  pub opens : (limits : Limits) (table dossier old : List ℕ) → Bounded IsNumberOr18 dossier_capacity (open_call limits table dossier old).reply
  pub hash_text : (table event old : List ℕ) → Bounded IsNumber hash_text_capacity (hash_text_call table event old).reply
  pub hash : (table event old : List ℕ) → Bounded IsNumber hash_capacity (hash_call table event old).reply
  pub batch : (limits : Limits) (rooms : Rooms) (table batch old : List ℕ) →
      Bounded IsNumberOr18 dossier_capacity (batch_call limits rooms table batch old).reply
