-- A turn writes the first of the groups of m, the last store the only one.
use Rattle.std.proofs.Common.{arith, refl, [], ◌∷◌}
use Rattle.packed.proofs.LayoutLaws.{number-last, number_more, number-bounds}
use Rattle.packed.proofs.WriteLaws.{stored, gone, all-gone}
use Rattle.packed.proofs.write.write_number.Goals as goal

pub bounds-out-i : goal.bounds-out-i
bounds-out-i c = omega (arith, number-bounds c.loop-m.m)

pub loop-m-preserved : goal.loop-m-preserved
loop-m-preserved c = (gone (_ ∷ []) _ c.loop-m.invariant.0 (number_more c.loop-m.m (omega arith) (omega arith)) (stored _ _ _), omega arith)

pub bounds-out-i-2 : goal.bounds-out-i-2
bounds-out-i-2 c = omega (arith, number-bounds c.loop-m.m)

pub returns : goal.returns
returns c = all-gone (gone (_ ∷ []) [] c.loop-m.invariant.0 (number-last c.loop-m.m (omega arith)) (stored _ _ _)) refl
