use Rattle.std.proofs.Common.{◌∙◌, sym, arith, le-ltb}
use Rattle.values.proofs.DigitLaws.{left-all, digit-empty, digit-far, digit-other, digit-same, digit-short, digit-one}
use Rattle.values.proofs.numerals.is_in_decimal.Goals as goal
use Rattle.values.proofs.numerals.is_in_decimal.Goals.{then-m-lt10-via-then-m-lt10, then-m-lt10-via-else-m-lt10+then-from-m}

pub returns-then-is_empty : goal.returns-then-is_empty
returns-then-is_empty c = digit-empty (left-all c.args.v.now c.args.n (omega arith)) (grind arith)

pub loop-i-init : goal.loop-i-init
loop-i-init c = (grind arith, left-all _ _ (omega arith))

pub returns-then-m-lt10 : goal.returns-then-m-lt10
returns-then-m-lt10 c =
    elim c.then-m-lt10.branch [
      | then-m-lt10-via-then-m-lt10 w ↦ digit-far c.loop-i.invariant.1 (omega arith) (λ e. omega arith)
      | then-m-lt10-via-else-m-lt10+then-from-m w ↦
          digit-other c.loop-i.invariant.1 (omega arith) (λ e. omega arith) (λ e. w.if-from-m.true (w.from.ensures ∙ e))
    ]

pub loop-i-preserved : goal.loop-i-preserved
loop-i-preserved c = (omega arith, digit-same c.loop-i.invariant.1 (omega arith) (λ e. omega arith) (sym c.from.ensures ∙ c.if-from-m.false))

pub returns-then-m-lt10-2 : goal.returns-then-m-lt10-2
returns-then-m-lt10-2 c = rw c.from-then-m-lt10-2.ensures (digit-one c.loop-i.invariant.1 (omega arith) (omega arith))

pub returns-else-m-lt10-2 : goal.returns-else-m-lt10-2
returns-else-m-lt10-2 c = le-ltb c.loop-i.m 10 (omega arith) ∙ digit-short c.loop-i.invariant.1 (omega arith) (omega arith)
