use Rattle.std.proofs.Common.{arith}
use Rattle.unions.proofs.MergeLaws.{merges-none, merges-wrote, merges-counted, least-fits, least-some, merges-on}
use Rattle.unions.proofs.many.write_merged.Goals as goal

pub loop-least-init : goal.loop-least-init
loop-least-init c = merges-none c.requires.1

pub copy_part-next-requires : goal.copy_part-next-requires
copy_part-next-requires c = least-fits c.loop-least.invariant c.in-Some.ensures

pub overflow_add-count : goal.overflow_add-count
overflow_add-count c =
    let w = c.loop-least.invariant in
    omega (arith, w.few, w.long, least-some w c.in-Some.ensures, least-fits w c.in-Some.ensures)

pub loop-least-smaller : goal.loop-least-smaller
loop-least-smaller c =
    let w = c.loop-least.invariant in
    omega (arith, w.long, c.copy_part-next.ensures.after, least-some w c.in-Some.ensures, least-fits w c.in-Some.ensures)

pub loop-least-preserved : goal.loop-least-preserved
loop-least-preserved c = merges-on c.loop-least.invariant c.in-Some.ensures c.copy_part-next.ensures

pub returns : goal.returns
returns c = record { writes = merges-wrote c.loop-least.invariant c.in_default.ensures; counts = merges-counted c.loop-least.invariant c.in_default.ensures }
