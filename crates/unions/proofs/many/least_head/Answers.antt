use Rattle.std.proofs.Common.{arith}
use Rattle.unions.proofs.MergeLaws.{sofar-none, sofar-all}
use Rattle.unions.proofs.many.least_head.Goals as goal

pub loop-j-init : goal.loop-j-init
loop-j-init c = sofar-none

pub returns : goal.returns
returns c = sofar-all c.loop-j.invariant (omega arith)
