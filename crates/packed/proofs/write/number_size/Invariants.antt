use Rattle.std.proofs.Common.{◌≡◌, ◌+◌, ◌<◌, ◌^◌, length}
use Rattle.packed.specs.Packed.{number}
use Rattle.packed.proofs.write.number_size.Given as goal

abbrev pub invariant-loop-m : goal.invariant-loop-m
invariant-loop-m l = (l.k + length (number l.m) ≡ 1 + length (number l.n)) × (l.m < 2 ^ 64)

abbrev pub decreases-loop-m : goal.decreases-loop-m
decreases-loop-m l = l.m
