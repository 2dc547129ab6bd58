-- The first bytes are the same in both (`Alike`). The first four are compared as one word; a word or a byte that differs decides, and where none does, the
-- lengths do (`alike_all`).
use Rattle.std.proofs.Common.{arith}
use Rattle.packed.proofs.WordLaws.{Alike, alike-none, alike-less, alike_all, byte_differs, byte-same, words-at, word_differs, word_same}
use Rattle.packed.proofs.order.compare_short.Goals as goal
use Rattle.packed.proofs.order.compare_short.Goals.{then-n-ge4+else-x-y, else-n-ge4}

pub returns-then-x-y : goal.returns-then-x-y
returns-then-x-y c =
    let start : Alike c.args.a.now c.args.b.now c.min-n.result 0 = alike-none c.type_inv.a c.type_inv.b c.min-n.ensures in
    word_differs (words-at start 0 4 (omega arith) c.if-n-ge4.true c.half_word-x.ensures c.half_word-y.ensures) c.if-x-y.true c.cmp.ensures

pub loop-i-init : goal.loop-i-init
loop-i-init c =
    let start : Alike c.args.a.now c.args.b.now c.min-n.result 0 = alike-none c.type_inv.a c.type_inv.b c.min-n.ensures in
    elim c.if-n-ge4.branch [
      | then-n-ge4+else-x-y w ↦
          alike-less
          (word_same (words-at start 0 4 (omega arith) w.if-n-ge4.true w.half_word-x.ensures w.half_word-y.ensures) w.if-x-y.false)
          (omega arith)
      | else-n-ge4 w ↦ alike-less start (omega arith)
    ]

pub returns-then-x-y-2 : goal.returns-then-x-y-2
returns-then-x-y-2 c = byte_differs c.loop-i.invariant c.loop-i-test.true c.if-x-y-2.true c.cmp-then-x-y-2.ensures

pub loop-i-preserved : goal.loop-i-preserved
loop-i-preserved c = byte-same c.loop-i.invariant c.loop-i-test.true c.if-x-y-2.false

pub returns : goal.returns
returns c = alike_all c.loop-i.invariant c.loop-i-test.false c.cmp-2.ensures
