use Rattle.std.proofs.Common.{arith, ap, sym, inr, ltb}
use Rattle.packed.specs.Ascii.{ascii}
use Rattle.values.specs.Calendar.{whole_second, with_fraction}
use Rattle.values.proofs.InstantLaws.{fraction-length}
use Rattle.values.proofs.calendar.has_datetime_form.Goals as goal

pub returns-then-has_form : goal.returns-then-has_form
unfolding whole_second ascii
returns-then-has_form c = rw (sym c.if-has_form.ensures) c.if-has_form.true

pub returns-then-has_form-2 : goal.returns-then-has_form-2
unfolding whole_second with_fraction ascii
returns-then-has_form-2 c =
    let n = fraction-length _ (sym c.if-has_form-2.ensures) in
    rw (sym c.if-has_form.ensures, sym c.if-has_form-2.ensures) (ap (ltb 0) (c.fraction.ensures (inr (omega arith))))

pub returns-else-has_form-2 : goal.returns-else-has_form-2
unfolding whole_second with_fraction ascii
returns-else-has_form-2 c = rw (sym c.if-has_form.ensures, sym c.if-has_form-2.ensures) c.if-has_form-2.false
