-- The answer is that of reading on from here, with the last value and as many more as are left.
use Rattle.std.proofs.Common.{◌-◌, drop}
use Rattle.packed.specs.Packed.{read_text}
use Rattle.event.specs.EventLayout.{read_set}
use Rattle.event.proofs.SetLaws.{RisingTo}
use Rattle.event.proofs.sets.read_set.Given as goal

abbrev pub invariant-loop : goal.invariant-loop
invariant-loop l = RisingTo read_text (read_set (drop l.at l.s)) l.s l.last.start l.last.end (l.count - l.counter)
