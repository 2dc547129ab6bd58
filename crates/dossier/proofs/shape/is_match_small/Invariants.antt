-- What is left of 32 after the places passed is what the places from here on may have. A place with more than that answers no.
use Rattle.dossier.proofs.CellLaws.{MatchesLeft}
use Rattle.dossier.proofs.shape.is_match_small.Given as goal

abbrev pub invariant-loop-k : goal.invariant-loop-k
invariant-loop-k l = MatchesLeft l.count l.properties l.sets l.left l.k
