use Rattle.model.specs.Order.{texts}
use Rattle.model.specs.Sets.{union}
use Rattle.unions.proofs.RunLaws.{hash-run, hashes-room, hashes-wrote}
use Rattle.unions.proofs.pair.write_hash_union.Goals as goal

pub write_runs-requires : goal.write_runs-requires
write_runs-requires c = hashes-room c.requires

pub returns : goal.returns
returns c = λ xs ys ex ey hx hy kx ky.
    hashes-wrote (union texts xs ys) (c.write_runs.ensures xs ys (hash-run _ xs ex hx kx) (hash-run _ ys ey hy ky)).wrote
