use Rattle.std.proofs.Common.{arith}
use Rattle.packed.proofs.LayoutLaws.{text-length}
use Rattle.packed.proofs.WriteLaws.{wrote-text}
use Rattle.packed.proofs.write.write_text.Goals as goal

pub write_number-after_length-requires : goal.write_number-after_length-requires
write_number-after_length-requires c = omega (arith, text-length c.args.src.now)

pub copy-requires : goal.copy-requires
copy-requires c = omega (arith, text-length c.args.src.now)

pub returns : goal.returns
returns c = wrote-text c.write_number-after_length.ensures c.copy.ensures
