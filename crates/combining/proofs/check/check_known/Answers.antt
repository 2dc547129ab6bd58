-- The event is known to be accepted, so that it reads, its version is had, and what is written is its dossier (`check_done`). Its one snapshot is the last
-- thing written, and by its version and its size it is measured (`lone-measured`).
use Rattle.std.proofs.Common.{rules}
use Rattle.combining.proofs.CheckLaws.{known-some, known-checked, checkable, lone_room, lone-measured, check_done}
use Rattle.combining.proofs.check.check_known.Goals as goal

pub unwrap-known-requires : goal.unwrap-known-requires
unwrap-known-requires c = known-some c.requires.0 _ _ c.read_event.ensures

pub version_of-version-requires : goal.version_of-version-requires
version_of-version-requires c = (search rules, checkable (known-checked c.requires.0 _ _ c.read_event.ensures c.unwrap-known.ensures))

pub write_lone-lone-requires : goal.write_lone-lone-requires
write_lone-lone-requires c =
    let a = known-checked c.requires.0 _ _ c.read_event.ensures c.unwrap-known.ensures in
    (search rules, lone_room a _ _ (c.version_of-version.ensures (checkable a)) c.requires.2)

pub returns-clause-out_after : goal.returns-clause-out_after
returns-clause-out_after c =
    let a = known-checked c.requires.0 _ _ c.read_event.ensures c.unwrap-known.ensures in
    check_done _ _ _ a _ _ _ c.requires.2 (c.version_of-version.ensures (checkable a)) (c.write_lone-lone.ensures.wrote _ a.read)

pub returns-clause-measured : goal.returns-clause-measured
returns-clause-measured c = λ k.
    let a = known-checked k _ _ c.read_event.ensures c.unwrap-known.ensures in
    lone-measured a _ (c.version_of-version.ensures (checkable a)) (c.write_lone-lone.ensures.size _ a.read).1 c.measure_one.ensures
