use Rattle.batch.proofs.calls.+combine_first.Given as goal

abbrev pub decreases-combine_first : goal.decreases-combine_first
decreases-combine_first l = l.n
