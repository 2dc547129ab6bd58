-- Skipping all sets ends where skipping those that are left at `pos` does.
use Rattle.std.proofs.Common.{◌-◌}
use Rattle.event.proofs.LookupLaws.{SetsTo}
use Rattle.event.proofs.lookup.skip_sets.Given as goal

abbrev pub invariant-loop : goal.invariant-loop
invariant-loop l = SetsTo l.s l.at l.count l.pos (l.count - l.counter)
