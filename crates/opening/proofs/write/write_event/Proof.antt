-- The head, the presence number and the sets are written one after the other: what is left of the room after each is the room of the next (`presence-room`,
-- `sets-room`), and together they are the event (`wrote-event`).
use borrow.Author.Rules.{rules}
use native.Mathlib.Omega.{arith}
use mathlib.Core.Path.{refl}
use Rattle.event.specs.Head.{Head}
use Rattle.event.specs.code.EventIndex.{HeadIs, HeadParts}
use Rattle.event.proofs.HeadLaws.{parts-of}
use Rattle.opening.proofs.WriteRoomLaws.{event-length, presence-room, sets-room, wrote-event}
use Rattle.opening.proofs.write.write_event.Statement.{statement}
use Rattle.opening.proofs.write.write_event.Tie as tie

-- ---- the places

abbrev to_start : tie.After-write_head-arg-1 → tie.Start
to_start c = (search)

abbrev to-head : tie.After-presence_of → tie.After-write_head-after_head
to-head c = (search)

abbrev to_number : tie.After-write_sets-arg-1 → tie.After-write_number-after_presence
to_number c = (search)

-- ---- the facts

-- the parts of the head that is written
parts :
    (c : tie.After-write_head-arg-1) (h : Head) → HeadIs (to_start c).args.s.now h (to_start c).args.d.head →
    HeadParts c.text_part-name.result.now c.text_part-source.result.now c.hashes_part-hashes.result.now h
parts c h w =
    parts-of w
    (c.text_part-name.ensures _ w.name)
    (c.text_part-source.ensures _ w.uri)
    (c.hashes_part-hashes.ensures _ w.hashes)

-- ---- the needs

write-head-requires : tie.Need-write_head-after_head-requires
write-head-requires c κs =
    let w = (to_start c).requires.3 in
    record { head = w.headed.head; parts = parts c _ w.is.head; room = omega (arith, event-length w) }

write-number-requires : tie.Need-write_number-after_presence-requires
write-number-requires c κs =
    let head = to-head c in
    presence-room (to_start (search)).requires.3 refl (parts (search)) head.write_head-after_head.ensures c.presence_of.ensures

write-sets-requires : tie.Need-write_sets-requires
write-sets-requires c κs =
    let number = to_number c in
    let head = to-head (search) in
    let p = (to_start (search)).requires in (
      (search rules, search rules, p.3.is.few, search rules),
      sets-room p.3 refl (parts (search)) head.write_head-after_head.ensures number.presence_of.ensures number.write_number-after_presence.ensures,
    )

returns : tie.Need-returns
returns c =
    let sets = c in
    let number = to_number (search) in
    let head = to-head (search) in
    λ w.
    wrote-event w refl (parts (search)) head.write_head-after_head.ensures number.presence_of.ensures number.write_number-after_presence.ensures
    sets.write_sets.ensures

pub write_event_spec : {M : Type 1} → statement M
write_event_spec =
    tie.close
    (tie.spec
    (λ c κs. search rules) (λ c κs. search rules) (λ c κs. search rules)
    write-head-requires
    (λ c κs. search rules)
    write-number-requires
    write-sets-requires
    (λ c. search rules)
    returns)
