use Rattle.std.proofs.Common.{arith}
use Rattle.event.proofs.SpaceLaws.{fit_none, fit_at, fit-not, fit-more, fit-end}
use Rattle.event.proofs.spaces.sets_in_space.Goals as goal

pub loop-k-init : goal.loop-k-init
loop-k-init c = fit_none

pub returns-then-not-are_in_space : goal.returns-then-not-are_in_space
returns-then-not-are_in_space c =
    fit-not c.loop-k.invariant
    (fit_at (omega arith) (omega arith) c.property_at-p.ensures c.set_at.ensures c.set_part.ensures c.are_in_space.ensures)
    c.if-not-are_in_space.true-raw

pub loop-k-preserved : goal.loop-k-preserved
loop-k-preserved c =
    fit-more c.loop-k.invariant
    (fit_at (omega arith) (omega arith) c.property_at-p.ensures c.set_at.ensures c.set_part.ensures c.are_in_space.ensures)
    c.if-not-are_in_space.false-raw

pub returns : goal.returns
returns c = fit-end c.loop-k.invariant (omega (arith, c.min-k-end.ensures))
