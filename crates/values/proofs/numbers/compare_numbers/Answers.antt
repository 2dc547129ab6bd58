use Rattle.std.proofs.Common.{◌∙◌, sym}
use Rattle.values.proofs.NumberOrderLaws.{value-order-signed}
use Rattle.values.proofs.numbers.compare_numbers.Goals as goal

pub returns-in-true-true : goal.returns-in-true-true
returns-in-true-true c k n p q =
    sym (value-order-signed k _ _ n p q ∙ rw (sym c.in-true-true.ensures, sym c.in-true-true.ensures') (sym c.by_size.ensures))

pub returns-in-true-false : goal.returns-in-true-false
returns-in-true-false c k n p q = sym (value-order-signed k _ _ n p q ∙ rw (sym c.in-true-false.ensures, sym c.in-true-false.ensures'))

pub returns-in-false-true : goal.returns-in-false-true
returns-in-false-true c k n p q = sym (value-order-signed k _ _ n p q ∙ rw (sym c.in-false-true.ensures, sym c.in-false-true.ensures'))

pub returns-in-false-false : goal.returns-in-false-false
returns-in-false-false c k n p q =
    sym (value-order-signed k _ _ n p q ∙ rw (sym c.in-false-false.ensures, sym c.in-false-false.ensures') (sym c.by_size-in-false-false.ensures))
