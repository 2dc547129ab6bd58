-- Each turn reads a type with its rules, and asks that its name comes after the last one. Until the type of the name is found, the properties of each type are
-- kept, and so are those of the type that is found; afterwards none are, so that these stay.
use Rattle.std.proofs.Common.{arith}
use Rattle.ontology.proofs.TableReadLaws.{table_none, table-fail, listed-none, listed-bad, listed-low, listed_more, listed-exact, listed-early}
use Rattle.ontology.proofs.tables.read_table.Goals as goal

pub returns-in_err-count : goal.returns-in_err-count
returns-in_err-count c = rw c.from_residual.ensures (table-fail _ (table_none _ c.in_err-count.ensures))

pub loop-init : goal.loop-init
loop-init c = listed-none _ _ _ c.in_ok-count.ensures (omega arith)

pub returns-in_err-x : goal.returns-in_err-x
returns-in_err-x c = rw c.from_residual-in_err-x.ensures (listed-bad c.loop.invariant (omega arith) c.in_err-x.ensures.reads)

pub returns-then-not-is_before : goal.returns-then-not-is_before
returns-then-not-is_before c = listed-low c.loop.invariant (omega arith) c.in_ok-x.ensures.reads c.if-not-is_before.ensures

pub loop-preserved : goal.loop-preserved
loop-preserved c =
    listed_more c.loop.invariant (omega arith) c.in_ok-x.ensures.reads (omega arith) c.if-not-is_before.ensures c.is_none.ensures
    c.keep-found.ensures c.in_ok-x.ensures.stay

pub returns-then-at-table : goal.returns-then-at-table
returns-then-at-table c = listed-exact c.loop.invariant (omega arith) c.if-at-table.true

pub returns-else-at-table : goal.returns-else-at-table
returns-else-at-table c = listed-early c.loop.invariant (omega arith) c.if-at-table.false
