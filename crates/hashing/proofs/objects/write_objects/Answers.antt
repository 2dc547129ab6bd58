-- The first string is written alone.
use Rattle.std.proofs.Common.{arith}
use Rattle.hashing.proofs.ObjectLaws.{wrote_none, first-ready, following-start, next-ready, next-gone, wrote-all}
use Rattle.hashing.proofs.objects.write_objects.Goals as goal

pub returns-then-count-eq0 : goal.returns-then-count-eq0
returns-then-count-eq0 c = search wrote_none

pub write_object-next-requires : goal.write_object-next-requires
write_object-next-requires c = first-ready _ c.requires.0 c.string_at-first.ensures (omega arith) _ _ c.requires.1

pub loop-i-init : goal.loop-i-init
loop-i-init c =
    following-start _ c.requires.0 c.string_at-first.ensures (omega arith) c.write_object-next.ensures c.requires.1

pub write_next-next-requires : goal.write_next-next-requires
write_next-next-requires c = next-ready _ c.requires.0 c.loop-i.i c.string_at-x.ensures (omega arith) c.loop-i.invariant

pub loop-i-preserved : goal.loop-i-preserved
loop-i-preserved c =
    next-gone _ c.requires.0 c.loop-i.i c.string_at-x.ensures (omega arith) c.loop-i.invariant c.write_next-next.ensures

pub returns : goal.returns
returns c =
    wrote-all _ c.requires.0 c.string_at-first.ensures (omega arith) c.write_object-next.ensures c.loop-i.i c.loop-i.invariant (omega arith)
