-- `check::write_alone` meets its contract: the four parts of a snapshot are written one after the other, and where the whole has its room, each of them has.
use borrow.Author.Rules.{rules}
use mathlib.Core.Path.{refl}
use mathlib.Core.List.{map}
use Rattle.event.specs.EventLayout.{presence_bit, bit_number, sets_bytes}
use Rattle.combining.proofs.PartLaws.{PartsRoom, version-room, presence-room, differ-room, sets-room}
use Rattle.combining.proofs.LoneLaws.{sets-are, wrote-alone}
use Rattle.combining.proofs.check.write_alone.Statement.{statement}
use Rattle.combining.proofs.check.write_alone.Tie as tie

-- ---- the facts

parts :
    (c : tie.Start) → let e = c.requires.1.event in
    PartsRoom c.args.out.now c.args.at c.args.version.0 (bit_number (map presence_bit e.sets)) 0 (sets_bytes e.sets)
parts c = record { room = c.requires.1.room }

-- ---- the needs

write-sets-requires : tie.Need-write_sets-requires
write-sets-requires c κs =
    let d : tie.After-write_number-after_differ = search in
    let p : tie.After-write_number-after_presence = search in
    let v : tie.After-write_number-after_version = search in
    let s : tie.Start = search in
    let is = s.requires.1.read in
    let room = sets-room (parts s) v.write_number-after_version.ensures is.presence p.write_number-after_presence.ensures refl
    d.write_number-after_differ.ensures (sets-are is) in
    (s.requires.0, record { values = s.requires.1.event.sets; are = is.sets; room = room })

pub write_alone_spec : {M : Type 1} → statement M
write_alone_spec =
    tie.close
    (tie.spec
    (λ c κs. version-room (parts search))
    (λ c κs. search (presence-room (parts search)))
    (λ c κs. search (differ-room (parts search)))
    write-sets-requires
    (λ c. search rules)
    (λ c. λ e is. search (wrote-alone is, c.write_sets.ensures _ is.sets)))
