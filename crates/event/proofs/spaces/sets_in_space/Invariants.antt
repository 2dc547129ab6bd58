-- The answer is that of the places from k on.
use Rattle.event.proofs.SpaceLaws.{FitTo}
use Rattle.event.proofs.spaces.sets_in_space.Given as goal

abbrev pub invariant-loop-k : goal.invariant-loop-k
invariant-loop-k l = FitTo l.s l.sets l.count l.properties l.k
