use Rattle.std.proofs.Common.{arith}
use Rattle.unions.proofs.RunLaws.{text-run, texts-room, texts-wrote}
use Rattle.unions.proofs.pair.write_union.Goals as goal

pub write_runs-requires : goal.write_runs-requires
write_runs-requires c = texts-room (omega arith) (omega arith) c.requires

pub returns : goal.returns
returns c = λ xs ys ex ey kx ky. texts-wrote (c.write_runs.ensures xs ys (text-run _ xs (omega arith) ex kx) (text-run _ ys (omega arith) ey ky))
