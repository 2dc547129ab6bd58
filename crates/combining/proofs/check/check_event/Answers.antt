-- A question that is answered no refuses with its number. The dossier of an event that is accepted has its room in the output, and is what is written
-- (`check_done`).
use Rattle.std.proofs.Common.{rules}
use Rattle.replies.proofs.RefusalLaws.{passed-on}
use Rattle.combining.proofs.CheckLaws.{asked-checked, checkable, lone_room, check-small, check-refused, check_done}
use Rattle.combining.proofs.check.check_event.Goals as goal

pub returns-then-out-lt-DOSSIER_CAPACITY : goal.returns-then-out-lt-DOSSIER_CAPACITY
returns-then-out-lt-DOSSIER_CAPACITY c = check-small _ _ _ c.if-out-lt-DOSSIER_CAPACITY.true

pub returns-in_err-t : goal.returns-in_err-t
returns-in_err-t c = rw (passed-on c.from_residual.ensures.1) (check-refused _ _ _ _ c.if-out-lt-DOSSIER_CAPACITY.false c.in_err-t.ensures)

pub version_of-version-requires : goal.version_of-version-requires
version_of-version-requires c = (search rules, checkable (asked-checked c.in_ok-t.ensures))

pub write_lone-lone-requires : goal.write_lone-lone-requires
write_lone-lone-requires c =
    let a = asked-checked c.in_ok-t.ensures in
    (search rules, lone_room a _ _ (c.version_of-version.ensures (checkable a)) c.if-out-lt-DOSSIER_CAPACITY.false)

pub returns : goal.returns
returns c =
    let a = asked-checked c.in_ok-t.ensures in
    check_done _ _ _ a _ _ _ c.if-out-lt-DOSSIER_CAPACITY.false (c.version_of-version.ensures (checkable a)) (c.write_lone-lone.ensures.wrote _ a.read)
