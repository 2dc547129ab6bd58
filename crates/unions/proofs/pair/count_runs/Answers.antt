use Rattle.unions.proofs.RunLaws.{counting-on, counting-all}
use Rattle.unions.proofs.pair.count_runs.Goals as goal

pub loop-x-preserved : goal.loop-x-preserved
loop-x-preserved c = counting-on c.loop-x.invariant c.in-Some.ensures

pub returns : goal.returns
returns c = counting-all c.loop-x.invariant c.in_default.ensures c.count_rest.ensures.all c.count_rest-2.ensures.all
