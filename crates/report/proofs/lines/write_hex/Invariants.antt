-- The digits of the bytes from here on are still to be written.
use Rattle.std.proofs.Common.{◌+◌, ◌*◌, drop}
use Rattle.packed.specs.code.Written.{ToGo}
use Rattle.report.specs.Report.{hex_of}
use Rattle.report.proofs.lines.write_hex.Given as goal

abbrev pub invariant-loop-i : goal.invariant-loop-i
invariant-loop-i l = ToGo l.initial.out l.at (hex_of l.s) l.out (l.at + 2 * l.i) (hex_of (drop l.i l.s))
