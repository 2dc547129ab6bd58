-- `agreed::write_agreed` meets its contract. The places of both together are found first, since the presence and the differ number stand before the sets. A set
-- that is kept is the same on both sides, so the sets are written from the left one: those that the presence number names.
use borrow.Author.Rules.{rules}
use mathlib.Core.Path.{refl}
use mathlib.Core.List.{map}
use Rattle.model.specs.Opening.{held}
use Rattle.event.specs.code.SetWriting.{present_bytes}
use Rattle.combining.proofs.PartLaws.{PartsRoom, version-room, presence-room, differ-room, sets-room}
use Rattle.combining.proofs.AgreedLaws.{both_found, both-parts, wrote-both}
use Rattle.combining.proofs.agreed.write_agreed.Statement.{statement}
use Rattle.combining.proofs.agreed.write_agreed.Tie as tie

-- ---- the places

abbrev to-places : tie.After-number_of-differ → tie.After-agreed_places-p
to-places c = (search)

abbrev to_start : tie.After-number_of-differ → tie.Start
to_start c = (search)

-- ---- the facts

-- what is written has its room, part by part
parts :
    (c : tie.After-number_of-differ) → let s = to_start c in
    let presence = c.number_of-presence.result in
    PartsRoom s.args.out.now s.args.at s.args.version.0 presence c.number_of-differ.result
    (present_bytes presence (map held s.requires.2.left.cells))
parts c =
    let p = (to_start c).requires.2 in
    let found = (to-places c).agreed_places-p in
    both-parts (both_found found.ensures c.number_of-presence.ensures c.number_of-differ.ensures p.versioned p.counted p.shared) _ p.room

-- ---- the needs

write-sets-requires : tie.Need-write_sets-requires
write-sets-requires c κs =
    let d : tie.After-write_number-after_differ = search in
    let p : tie.After-write_number-after_presence = search in
    let v : tie.After-write_number-after_version = search in
    let numbers = v in
    let pre = (to_start (search)).requires in
    let q = pre.2 in
    let room = sets-room (parts (search)) v.write_number-after_version.ensures refl p.write_number-after_presence.ensures refl
    d.write_number-after_differ.ensures refl in
    (pre.0, record { values = map held q.left.cells; are = q.shared.left_is.sets; room = room })

returns : tie.Need-returns
returns c = λ ty left right versioned counted shared.
    let sets = c in
    let d : tie.After-write_number-after_differ = search in
    let p : tie.After-write_number-after_presence = search in
    let v : tie.After-write_number-after_version = search in
    let n = v in
    let found = (to-places (search)).agreed_places-p in
    wrote-both (both_found found.ensures n.number_of-presence.ensures n.number_of-differ.ensures versioned counted shared)
    v.write_number-after_version.ensures p.write_number-after_presence.ensures d.write_number-after_differ.ensures
    (sets.write_sets.ensures _ shared.left_is.sets)

pub write_agreed_spec : {M : Type 1} → statement M
write_agreed_spec =
    tie.close
    (tie.spec
    (λ c κs. search rules) (λ c κs. search rules) (λ c κs. search rules)
    (λ c κs. version-room (parts search))
    (λ c κs. search (presence-room (parts search)))
    (λ c κs. let v : tie.After-write_number-after_version = search in search (differ-room (parts search) v.write_number-after_version.ensures refl))
    write-sets-requires
    (λ c. search rules)
    returns)
