use Rattle.std.proofs.Common.{arith}
use Rattle.unions.proofs.RunLaws.{text-run}
use Rattle.unions.proofs.pair.count_union.Goals as goal

pub returns : goal.returns
returns c = λ xs ys ex ey kx ky. c.count_runs.ensures xs ys (text-run _ xs (omega arith) ex kx) (text-run _ ys (omega arith) ey ky)
