use Rattle.packed.proofs.CopyLaws.{ends-copied}
use Rattle.packed.proofs.write.copy_ends.Goals as goal

pub returns : goal.returns
returns g c = let (low, high, _) = c.requires in ends-copied _ _ _ _ low high c.copy_chunk.ensures c.copy_chunk-2.ensures
