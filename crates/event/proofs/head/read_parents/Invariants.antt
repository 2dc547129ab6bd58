-- The answer is that of reading on from here, with the last hash and as many more as are left.
use Rattle.std.proofs.Common.{◌-◌, drop}
use Rattle.packed.specs.Packed.{read_bytes}
use Rattle.event.specs.Head.{read_parents}
use Rattle.event.proofs.SetLaws.{RisingTo}
use Rattle.event.proofs.head.read_parents.Given as goal

abbrev pub invariant-loop : goal.invariant-loop
invariant-loop l = RisingTo (read_bytes 20) (read_parents l.most (drop l.at l.s)) l.s l.from l.to (l.count - l.counter)
