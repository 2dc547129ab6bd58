-- The sets before the place's own and the texts before the index are skipped, and where the event stands no reading fails.
use Rattle.std.proofs.Common.{arith}
use Rattle.event.proofs.LookupLaws.{no_place, no_index, value-no-count, value-found}
use Rattle.event.proofs.lookup.find_value.Goals as goal

pub returns-then-place-gt31 : goal.returns-then-place-gt31
returns-then-place-gt31 c e is = no_place is _ _ c.if-place-gt31.true

pub returns-then-set-index : goal.returns-then-set-index
returns-then-set-index c e is = no_index is _ _ c.if-place-gt31.false c.set_at-set.ensures c.if-set-index.true

pub returns-in_err-after_count : goal.returns-in_err-after_count
returns-in_err-after_count c e is =
    rw c.from_residual.ensures
    (value-no-count (omega arith) is c.if-place-gt31.false c.set_at-set.ensures c.if-set-index.false c.sets_below.ensures c.skip_sets-at.ensures
    c.read_number.ensures c.in_err-after_count.was)

pub returns : goal.returns
returns c e is =
    value-found (omega arith) is c.if-place-gt31.false c.set_at-set.ensures c.if-set-index.false c.sets_below.ensures c.skip_sets-at.ensures
    c.read_number.ensures c.in_ok-after_count.was c.skip_texts-to.ensures c.read_text.ensures
