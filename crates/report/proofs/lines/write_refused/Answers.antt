-- The five writes are the parts of the line in their order (`wrote-refused`), and the whole line has room (`refused-length`).
use Rattle.std.proofs.Common.{arith}
use Rattle.report.proofs.LineLaws.{refused-length, wrote-refused}
use Rattle.report.proofs.lines.write_refused.Goals as goal

pub copy-after_word-requires : goal.copy-after_word-requires
copy-after_word-requires c = omega (arith, refused-length c.args.number c.args.position)

pub write_decimal-after_number-requires : goal.write_decimal-after_number-requires
write_decimal-after_number-requires c = omega (arith, refused-length c.args.number c.args.position)

pub copy-after_space-requires : goal.copy-after_space-requires
copy-after_space-requires c = omega (arith, refused-length c.args.number c.args.position)

pub write_decimal-after_position-requires : goal.write_decimal-after_position-requires
write_decimal-after_position-requires c = omega (arith, refused-length c.args.number c.args.position)

pub write_end-requires : goal.write_end-requires
write_end-requires c = omega (arith, refused-length c.args.number c.args.position)

pub returns : goal.returns
returns c =
    wrote-refused _ _ c.copy-after_word.ensures c.write_decimal-after_number.ensures c.copy-after_space.ensures
    c.write_decimal-after_position.ensures c.write_end.ensures
