-- The first bytes are the same in both (`Alike`). Where two words differ, they are in the order of their bytes, and so are the slices. The last words begin at
-- the loop's end or before it. Where no words differ, the shorter slice is a prefix of the longer one, and the lengths decide.
use Rattle.std.proofs.Common.{arith}
use Rattle.packed.proofs.WordLaws.{alike-none, alike-less, words-at, word_differs, word_same, alike_all}
use Rattle.packed.proofs.order.compare.Goals as goal

pub loop-k-init : goal.loop-k-init
loop-k-init c = alike-none c.type_inv.a c.type_inv.b c.min-n.ensures

pub returns-then-x-y : goal.returns-then-x-y
returns-then-x-y c =
    word_differs (words-at c.loop-k.invariant _ 8 (omega arith) (omega arith) c.word-x.ensures c.word-y.ensures) c.if-x-y.true c.cmp.ensures

pub loop-k-preserved : goal.loop-k-preserved
loop-k-preserved c =
    alike-less (word_same (words-at c.loop-k.invariant _ 8 (omega arith) (omega arith) c.word-x.ensures c.word-y.ensures) c.if-x-y.false) (omega arith)

pub returns-then-x-y-2 : goal.returns-then-x-y-2
returns-then-x-y-2 c =
    alike_all (word_same (words-at c.loop-k.invariant _ 8 (omega arith) (omega arith) c.word-x-2.ensures c.word-y-2.ensures) c.if-x-y-2.true)
    (omega arith) c.cmp-then-x-y-2.ensures

pub returns-else-x-y-2 : goal.returns-else-x-y-2
returns-else-x-y-2 c =
    word_differs (words-at c.loop-k.invariant _ 8 (omega arith) (omega arith) c.word-x-2.ensures c.word-y-2.ensures) c.if-x-y-2.false c.cmp-else-x-y-2.ensures
