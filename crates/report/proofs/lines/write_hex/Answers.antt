use Rattle.std.proofs.Common.{◌≡◌, length, arith}
use Rattle.packed.proofs.WriteLaws.{all-gone}
use Rattle.report.proofs.LineLaws.{hex-start, hex-end, hex-gone}
use Rattle.report.proofs.lines.write_hex.Goals as goal

pub loop-i-init : goal.loop-i-init
loop-i-init c = hex-start _ _ _

pub loop-i-preserved : goal.loop-i-preserved
loop-i-preserved c = hex-gone _ _ _ _ (omega arith) c.hex_digit.ensures c.hex_digit-in-loop-i.ensures c.loop-i.invariant

pub returns : goal.returns
returns c =
    let all : c.loop-i.i ≡ length c.args.s.now = omega arith in
    rw (← all) (all-gone c.loop-i.invariant (hex-end c.args.s.now c.loop-i.i (omega arith)))
