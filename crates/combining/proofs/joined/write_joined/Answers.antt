-- The places that have objects are found first, since their number stands before the sets. Then the set of each is written. From `count` on there are none,
-- since a place that has no property is empty.
use Rattle.std.proofs.Common.{◌<◌, refl, map, arith}
use Rattle.packed.proofs.WriteLaws.{gone, all-gone}
use Rattle.event.specs.EventLayout.{bit_number}
use Rattle.event.specs.code.EventIndex.{bit_of}
use Rattle.combining.proofs.PartLaws.{PartsRoom, version-room, presence-room, differ-room, sets-room}
use Rattle.combining.proofs.ObjectLaws.{joins, room-joins}
use Rattle.combining.proofs.JoinedLaws.{to-go-same, sets_from, sets-step, sets_end, joined-place, joined-parts, joined-wrote, place-next, place-past}
use Rattle.combining.proofs.joined.write_joined.Goals as goal
use Rattle.combining.proofs.joined.write_joined.Goals.{After-joined_places-present, then-present-k, else-present-k}

-- what is written has its room, part by part
parts :
    (c : After-joined_places-present) → let q = c.requires.3 in
    PartsRoom c.args.out.now c.args.at 0 (bit_number (map bit_of c.joined_places-present.result)) 0 (sets_from q.type q.left q.right 0)
parts c = let q = c.requires.3 in joined-parts (room-joins q) c.joined_places-present.ensures _ q.room

pub write_number-after_version-requires : goal.write_number-after_version-requires
write_number-after_version-requires c = version-room (parts (goal.at.write_number-after_version-requires c).After-joined_places-present)

pub write_number-after_presence-requires : goal.write_number-after_presence-requires
write_number-after_presence-requires c =
    presence-room (parts (goal.at.write_number-after_presence-requires c).After-joined_places-present)
    c.write_number-after_version.ensures c.number_of.ensures

pub write_number-next-requires : goal.write_number-next-requires
write_number-next-requires c =
    differ-room (parts (goal.at.write_number-next-requires c).After-joined_places-present)
    c.write_number-after_version.ensures c.number_of.ensures c.write_number-after_presence.ensures refl

pub write_place-next-requires : goal.write_place-next-requires
write_place-next-requires c =
    let q = c.requires.3 in
    let n = room-joins q in
    let room =
    sets-room (parts (goal.at.write_place-next-requires c).After-joined_places-present)
    c.write_number-after_version.ensures c.number_of.ensures c.write_number-after_presence.ensures refl c.write_number-next.ensures refl in
    let place =
    place-next n c.joined_places-present.ensures c.loop-k.k c.set_at-v.ensures c.set_at-w.ensures (omega (arith, q.typed.few))
    c.if-present-k.true (c.loop-k.invariant _ _ _ _ n) room in
    (c.requires.2, place)

pub loop-k-preserved : goal.loop-k-preserved
loop-k-preserved c = λ u ty x y n.
    let k = c.loop-k.k in
    let low : k < 32 = omega (arith, c.requires.3.typed.few) in
    let g = c.loop-k.invariant u ty x y n in
    elim c.if-present-k.branch [
      | then-present-k w ↦
          to-go-same (gone _ _ g (sets-step ty x y k low) (w.write_place-next.ensures (joined-place n k w.set_at-v.ensures w.set_at-w.ensures low)))
          w.out-is w.next-is
      | else-present-k w ↦ to-go-same (place-past n c.joined_places-present.ensures k low w.if-present-k.false g) w.out-is w.next-is
    ]

pub returns : goal.returns
returns c = λ u ty x y w v m l r.
    let n = joins w v m l r in
    joined-wrote n c.joined_places-present.ensures c.number_of.ensures
    c.write_number-after_version.ensures c.write_number-after_presence.ensures c.write_number-next.ensures
    (all-gone (c.loop-k.invariant u ty x y n) (sets_end n _ (omega arith)))
