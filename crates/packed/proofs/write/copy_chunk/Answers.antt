use Rattle.packed.proofs.CopyLaws.{chunk-copied}
use Rattle.packed.proofs.write.copy_chunk.Goals as goal

pub returns : goal.returns
returns g c =
    let a = c.args in
    chunk-copied a.src.now a.out.now a.from a.to g.row.N c.requires.1 (rw c.unwrap-bytes.ensures at c.try_into.ensures).1 c.copy_from_slice.ensures.after
