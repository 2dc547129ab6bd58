-- Each number that is read leaves the rest of the snapshot to be read from behind it: a return that refuses is a reading that fails there, and behind the
-- last number, where it is apart from the presence number, the sets are left.
use Rattle.dossier.proofs.SnapshotLaws.{no-version, no-presence, presence-large, no-differ, differ-large, numbers-told}
use Rattle.dossier.proofs.snapshots.read_numbers.Goals as goal

pub returns-in_err-version : goal.returns-in_err-version
returns-in_err-version c = rw c.from_residual.ensures (search (no-version, c.in_err-version.was))

pub returns-in_err-presence : goal.returns-in_err-presence
returns-in_err-presence c =
    rw c.from_residual-in_err-presence.ensures (search (no-presence, c.in_ok-version.was, c.in_err-presence.was))

pub returns-then-presence-ge4294967296 : goal.returns-then-presence-ge4294967296
returns-then-presence-ge4294967296 c = search (presence-large, c.in_ok-version.was, c.in_ok-presence.was)

pub returns-in_err-differ : goal.returns-in_err-differ
returns-in_err-differ c =
    rw c.from_residual-in_err-differ.ensures (search (no-differ, c.in_ok-version.was, c.in_ok-presence.was, c.in_err-differ.was))

pub returns-then-differ-ge4294967296 : goal.returns-then-differ-ge4294967296
returns-then-differ-ge4294967296 c = search (differ-large, c.in_ok-version.was, c.in_ok-presence.was, c.in_ok-differ.was)

pub returns : goal.returns
returns c =
    rw c.then_some.ensures
    (numbers-told _ _ c.read_number.ensures c.in_ok-version.was c.read_number-2.ensures c.in_ok-presence.was c.if-presence-ge4294967296.false
    c.read_number-3.ensures c.in_ok-differ.was c.if-differ-ge4294967296.false c.are_apart.ensures)
