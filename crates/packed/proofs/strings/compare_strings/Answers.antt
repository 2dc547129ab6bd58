use Rattle.std.proofs.Common.{arith, sym, ◌∙◌}
use Rattle.packed.specs.code.Strings.{string_of}
use Rattle.packed.proofs.OrderLaws.{order-step, order-differs, order-lengths}
use Rattle.packed.proofs.strings.compare_strings.Goals as goal

pub returns-then-p-q : goal.returns-then-p-q
returns-then-p-q c =
    let x = string_of c.args.a.now c.args.b.now c.args.x in
    let y = string_of c.args.a.now c.args.b.now c.args.y in
    order-differs x y _ c.string_byte-p.ensures c.string_byte-q.ensures (omega arith) (omega arith) c.if-p-q.true c.cmp.ensures
    ∙ sym c.loop-i.invariant

pub loop-i-preserved : goal.loop-i-preserved
loop-i-preserved c =
    let x = string_of c.args.a.now c.args.b.now c.args.x in
    let y = string_of c.args.a.now c.args.b.now c.args.y in
    c.loop-i.invariant
    ∙ order-step x y c.loop-i.i (omega arith) (omega arith) (sym c.string_byte-p.ensures ∙ c.if-p-q.false ∙ c.string_byte-q.ensures)

pub returns : goal.returns
returns c = order-lengths _ _ _ c.string_size-n.ensures c.string_size-m.ensures (omega arith) c.cmp-2.ensures ∙ sym c.loop-i.invariant
