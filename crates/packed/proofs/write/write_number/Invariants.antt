use Rattle.std.proofs.Common.{◌<◌, ◌^◌}
use Rattle.packed.specs.Packed.{number}
use Rattle.packed.specs.code.Written.{ToGo}
use Rattle.packed.proofs.write.write_number.Given as goal

-- the groups of m are still to be written
abbrev pub invariant-loop-m : goal.invariant-loop-m
invariant-loop-m l = ToGo l.initial.out l.at (number l.n) l.out l.i (number l.m) × (l.m < 2 ^ 64)

abbrev pub decreases-loop-m : goal.decreases-loop-m
decreases-loop-m l = l.m
