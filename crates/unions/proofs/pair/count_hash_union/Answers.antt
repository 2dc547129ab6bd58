use Rattle.unions.proofs.RunLaws.{hash-run}
use Rattle.unions.proofs.pair.count_hash_union.Goals as goal

pub returns : goal.returns
returns c = λ xs ys ex ey hx hy kx ky. c.count_runs.ensures xs ys (hash-run _ xs ex hx kx) (hash-run _ ys ey hy ky)
