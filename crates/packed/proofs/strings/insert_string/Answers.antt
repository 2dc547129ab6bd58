-- The strings from place k on have moved up by one, and x comes before them (`Placing`). A turn asks whether x comes after the string before place k: then x
-- stands at k (`placed-after`), else that string moves too (`placing-more`).
use Rattle.std.proofs.Common.{arith}
use Rattle.packed.proofs.StringPlaceLaws.{Asked, placing-none, before-fits, placed-after, placing-more, placed_first}
use Rattle.packed.proofs.strings.insert_string.Goals as goal

pub loop-k-init : goal.loop-k-init
loop-k-init c = let (fits, fit, room, long) = c.requires in placing-none fits fit room long

pub is_after-requires : goal.is_after-requires
is_after-requires c = (c.loop-k.invariant.fit, before-fits c.loop-k.invariant c.loop-k-test.true c.string_at-y.ensures)

pub returns-then-is_after : goal.returns-then-is_after
returns-then-is_after c =
    let asked : Asked c.loop-k.invariant c.string_at-y.result c.is_after.result =
    record { some = c.loop-k-test.true; is = c.string_at-y.ensures; told = c.is_after.ensures } in
    placed-after asked c.if-is_after.true c.put_string.ensures

pub loop-k-preserved : goal.loop-k-preserved
loop-k-preserved c =
    let asked : Asked c.loop-k.invariant c.string_at-y.result c.is_after.result =
    record { some = c.loop-k-test.true; is = c.string_at-y.ensures; told = c.is_after.ensures } in
    placing-more asked c.if-is_after.false (omega arith) c.put_string-in-loop-k.ensures

pub returns : goal.returns
returns c = placed_first c.loop-k.invariant c.loop-k-test.false c.put_string-2.ensures
