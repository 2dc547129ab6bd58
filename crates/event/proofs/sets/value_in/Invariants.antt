-- The value is the one at index `index - counter` among the texts from `at` on.
use Rattle.std.proofs.Common.{◌-◌}
use Rattle.event.proofs.SetLaws.{WalkedTo}
use Rattle.event.proofs.sets.value_in.Given as goal

abbrev pub invariant-loop : goal.invariant-loop
invariant-loop l = WalkedTo l.s l.index l.at (l.index - l.counter)
