-- The objects of the set's values are gathered but for those that stand at `at`.
use Rattle.std.proofs.Common.{◌-◌}
use Rattle.hashing.proofs.GatherLaws.{GatheringTo}
use Rattle.hashing.proofs.gather.gather_set.Given as goal

abbrev pub invariant-loop-n : goal.invariant-loop-n
invariant-loop-n l = GatheringTo l.table l.event l.name l.colon l.initial.objects l.count l.fn.set.start l.fn.set.count l.objects l.n l.at (l.all - l.n)
