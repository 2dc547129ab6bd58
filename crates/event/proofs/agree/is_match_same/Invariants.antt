-- The match sets are the same if those from place k on are.
use Rattle.event.proofs.MatchLaws.{SameTo}
use Rattle.event.proofs.agree.is_match_same.Given as goal

abbrev pub invariant-loop-k : goal.invariant-loop-k
invariant-loop-k l = SameTo l.count l.properties l.a l.x l.b l.y l.k
