-- Document 01: the call check a table, "2 only". It has no output.
use Rattle.std.specs.Prelude.{ℕ, List}
use Rattle.std.proofs.Math.Option.{Option, none, some}
use Rattle.replies.specs.Answers.{Reply}
use Rattle.ontology.specs.Table.{Table}
use Rattle.ontology.specs.TableLayout.{table_of}

-- accepted with no bytes, or refused with 2
unfoldable pub reply_to_table : Option Table → Reply
reply_to_table none = Reply.refused 2
reply_to_table (some ts) = Reply.done 0

unfoldable pub table_call : List ℕ → Reply
table_call table = reply_to_table (table_of table)
