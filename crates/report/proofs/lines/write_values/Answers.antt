-- So many values stand there that none fails to be read.
use Rattle.std.proofs.Common.{◌≡◌, ◌+◌, ◌-◌, arith, sym, ◌∙◌}
use Rattle.packed.proofs.ReadLaws.{text-stops, text-none}
use Rattle.hashing.proofs.GatherLaws.{standing-bad}
use Rattle.report.proofs.LineLaws.{lines_start, lines-room, lines_more, lines-all}
use Rattle.report.proofs.lines.write_values.Goals as goal

pub loop-init : goal.loop-init
loop-init c = λ v.
    let all : c.args.x.count - 0 ≡ c.args.x.count = omega arith in
    rw all (lines_start v.is)

pub returns-in_default : goal.returns-in_default
returns-in_default c = λ v.
    absurd
    (standing-bad (c.loop.invariant v).stand (omega arith) (omega arith) (text-none _ _ (sym c.read_text.ensures ∙ c.in_default.is)))

pub write_value-next-requires : goal.write_value-next-requires
write_value-next-requires c =
    let v = c.requires in
    let t = text-stops _ _ _ (sym c.read_text.ensures ∙ c.in-Some.is) in (
      v.named.order,
      v.named.within,
      t.order,
      t.within,
      lines-room (c.loop.invariant v) (omega arith) (omega arith) t v.named.name v.fits,
    )

pub loop-preserved : goal.loop-preserved
loop-preserved c = λ v.
    let left : c.args.x.count - (c.loop.counter + 1) ≡ c.args.x.count - c.loop.counter - 1 = omega arith in
    let t = text-stops _ _ _ (sym c.read_text.ensures ∙ c.in-Some.is) in
    rw left (lines_more (c.loop.invariant v) (omega arith) (omega arith) t v.named.name c.write_value-next.ensures)

pub returns : goal.returns
returns c = λ v. lines-all (c.loop.invariant v) (omega arith)
