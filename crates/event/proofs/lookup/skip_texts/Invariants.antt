-- Skipping all texts ends where skipping those that are left at `pos` does.
use Rattle.std.proofs.Common.{◌-◌}
use Rattle.event.proofs.LookupLaws.{TextsTo}
use Rattle.event.proofs.lookup.skip_texts.Given as goal

abbrev pub invariant-loop : goal.invariant-loop
invariant-loop l = TextsTo l.s l.at l.count l.pos (l.count - l.counter)
