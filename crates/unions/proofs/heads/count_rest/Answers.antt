use Rattle.unions.proofs.RunLaws.{one_on, one-all}
use Rattle.unions.proofs.heads.count_rest.Goals as goal

pub loop-end-preserved : goal.loop-end-preserved
loop-end-preserved c = one_on c.loop-end.invariant c.in-Some.ensures

pub returns-clause-all : goal.returns-clause-all
returns-clause-all c = one-all c.loop-end.invariant c.in_default.ensures
