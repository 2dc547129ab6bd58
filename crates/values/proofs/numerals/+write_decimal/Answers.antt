use Rattle.std.proofs.Common.{◌<◌, length, arith}
use Rattle.values.proofs.DigitLaws.{last_fits, wrote-last, tenth-fits, digit-fits, wrote-more}
use Rattle.values.proofs.numerals.+write_decimal.Goals as goal

pub bounds-out-at : goal.bounds-out-at
bounds-out-at t c = last_fits _ _ _ c.if-n-lt10.true c.requires

pub returns-then-n-lt10 : goal.returns-then-n-lt10
returns-then-n-lt10 t c = wrote-last _ _ _ c.if-n-lt10.true

pub write_decimal-after_tenth-requires : goal.write_decimal-after_tenth-requires
write_decimal-after_tenth-requires t c = (omega arith, tenth-fits _ c.if-n-lt10.false (omega arith) _ _ c.requires)

pub bounds-out-after_tenth : goal.bounds-out-after_tenth
bounds-out-after_tenth t c = digit-fits _ c.if-n-lt10.false (omega arith) c.write_decimal-after_tenth.ensures c.requires

pub overflow_add-result-2 : goal.overflow_add-result-2
overflow_add-result-2 t c =
    let fits : c.write_decimal-after_tenth.result < length c.write_decimal-after_tenth.new.out =
    digit-fits _ c.if-n-lt10.false (omega arith) c.write_decimal-after_tenth.ensures c.requires in
    omega arith

pub returns : goal.returns
returns t c = wrote-more _ c.if-n-lt10.false (omega arith) c.write_decimal-after_tenth.ensures
