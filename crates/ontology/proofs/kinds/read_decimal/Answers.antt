-- After each field the whole answer is the answer of what is left of the layout, read from there: a field that fails fails the whole, and the digits, which are
-- asked last, decide it.
use Rattle.packed.specs.Packed.{read_number}
use Rattle.ontology.specs.TableLayout.{read_flag}
use Rattle.ontology.proofs.OnwardLaws.{any-got, any-fail, on-got, on-fail}
use Rattle.ontology.proofs.KindLaws.{decimal-none, TotalLeft, total_left, PointLeft, decimal-stops, decimal-not}
use Rattle.ontology.proofs.kinds.read_decimal.Goals as goal
use Rattle.ontology.proofs.kinds.read_decimal.Goals.{In_ok-total, In_ok-after}

total : (c : In_ok-total) → TotalLeft c.args.s.now c.args.at c.in_ok-total.total c.in_ok-total.after_total
total c = total_left (any-got c.in_ok-total.ensures)

point : (c : In_ok-after) → PointLeft c.args.s.now c.args.at c.in_ok-total.total c.in_ok-after.after c.in_ok-after.after_point
point c = on-got read_number _ (total (goal.at.In_ok-after c).In_ok-total) (any-got c.in_ok-after.ensures)

pub returns-in_err-total : goal.returns-in_err-total
returns-in_err-total c = rw c.from_residual.ensures (decimal-none _ (any-fail _ _ c.in_err-total.ensures))

pub returns-in_err-after : goal.returns-in_err-after
returns-in_err-after c =
    rw c.from_residual-in_err-after.ensures
    (on-fail read_number _ (total (goal.at.returns-in_err-after c).In_ok-total) (any-fail _ _ c.in_err-after.ensures))

pub returns-in_err-sign : goal.returns-in_err-sign
returns-in_err-sign c =
    rw c.from_residual-in_err-sign.ensures (on-fail read_flag _ (point (goal.at.returns-in_err-sign c).In_ok-after) c.in_err-sign.ensures)

pub returns-then-digits_fit : goal.returns-then-digits_fit
returns-then-digits_fit c =
    decimal-stops _ _ (point (goal.at.returns-then-digits_fit c).In_ok-after) c.in_ok-sign.ensures c.if-digits_fit.ensures

pub returns-else-digits_fit : goal.returns-else-digits_fit
returns-else-digits_fit c =
    decimal-not c.in_ok-total.total c.in_ok-after.after (point (goal.at.returns-else-digits_fit c).In_ok-after) c.in_ok-sign.ensures c.if-digits_fit.ensures
