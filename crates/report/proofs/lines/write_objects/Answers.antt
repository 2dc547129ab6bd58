use Rattle.std.proofs.Common.{arith}
use Rattle.packed.proofs.WriteLaws.{to-go}
use Rattle.report.proofs.LineLaws.{values-room, objects-more, objects-all}
use Rattle.report.proofs.lines.write_objects.Goals as goal

pub loop-k-init : goal.loop-k-init
loop-k-init c = λ o. to-go

pub write_values-next-requires : goal.write_values-next-requires
write_values-next-requires c =
    let room = c.requires.2 in
    values-room room c.loop-k.k (c.loop-k.invariant room) (omega arith) c.property_at-p.ensures c.set_at.ensures

pub loop-k-preserved : goal.loop-k-preserved
loop-k-preserved c = λ o.
    objects-more o c.loop-k.k (c.loop-k.invariant o) (omega arith) c.property_at-p.ensures c.set_at.ensures c.write_values-next.ensures

pub returns : goal.returns
returns c = λ o. objects-all o c.loop-k.k (c.loop-k.invariant o) (omega arith)
