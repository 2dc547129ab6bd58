use Rattle.replies.proofs.RefusalLaws.{none-refused}
use Rattle.ontology.proofs.TypeIndexLaws.{table-refused, table_got}
use Rattle.ontology.proofs.TableReadLaws.{reply-accepted, reply-refused}
use Rattle.ontology.proofs.tables.check_table.Goals as goal

pub returns-in_err-ok_or : goal.returns-in_err-ok_or
returns-in_err-ok_or c =
    let told = c.in_err-ok_or.ensures in
    rw (none-refused told.value told.ok_part c.from_residual.ensures.1)
    (reply-refused _ (table-refused _ _ _ _ c.read_table.ensures told.ok_part))

pub returns : goal.returns
returns c = reply-accepted _ (table_got _ _ _ _ c.read_table.ensures c.in_ok-ok_or.ensures.ok_part).is
