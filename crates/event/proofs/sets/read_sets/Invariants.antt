-- The sets of the places below k are read, where they stand, and what is left to read.
use Rattle.std.proofs.Common.{◌-◌, drop}
use Rattle.event.specs.EventLayout.{read_sets}
use Rattle.event.proofs.SetLaws.{Sofar}
use Rattle.event.proofs.sets.read_sets.Given as goal

abbrev pub invariant-loop-k : goal.invariant-loop-k
invariant-loop-k l = Sofar (read_sets 32 l.presence (drop l.at l.s)) l.s l.sets l.bits l.next l.objects l.k

abbrev pub decreases-loop-k : goal.decreases-loop-k
decreases-loop-k l = 32 - l.k
