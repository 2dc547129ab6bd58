-- A place from `count` on has no property, so it is vacant on both sides and in what they are together; it stays false in both arrays.
use Rattle.std.proofs.Common.{arith}
use Rattle.combining.proofs.AgreedLaws.{places-none, places-next, places-all}
use Rattle.combining.proofs.agreed.agreed_places.Goals as goal

pub loop-k-init : goal.loop-k-init
loop-k-init c = λ ty x y v w u. places-none _ _ _ _ _ _ ty x y v w u

pub loop-k-preserved : goal.loop-k-preserved
loop-k-preserved c = λ ty x y v w u.
    places-next v w u (omega arith) (c.loop-k.invariant ty x y v w u) c.set_at-v.ensures c.set_at-w.ensures c.is_kept-kept.ensures c.has_objects.ensures

pub returns : goal.returns
returns c = λ ty x y v w u p q. places-all _ _ _ _ _ _ ty x y v w u _ _ _ c.loop-k.k p q (omega arith) (c.loop-k.invariant ty x y v w u)
