-- The objects of the places below `place` are gathered.
use Rattle.hashing.proofs.GatherLaws.{GatheredTo}
use Rattle.hashing.proofs.gather.gather.Given as goal

abbrev pub invariant-loop-place : goal.invariant-loop-place
invariant-loop-place l = GatheredTo l.table l.event l.count l.properties l.sets l.objects l.n l.place
