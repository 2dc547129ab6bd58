-- After each reading either one more part of the dossier is read, or the bytes are no dossier, which is what the refusing returns say. Fewer rows than the
-- count asks for show it too, since a dossier has its rows (`HasRows`).
use Rattle.dossier.proofs.DossierReadLaws.{head-none, count_none, count-read, snapshots-none, not-whole, not-rising, dossier-found}
use Rattle.dossier.proofs.RowLaws.{rows_short}
use Rattle.dossier.proofs.dossiers.read_dossier.Goals as goal
use Rattle.dossier.proofs.dossiers.read_dossier.Goals.{then-next-s-via-then-next-s, then-next-s-via-else-next-s+then-not-versions_rise}

pub returns-in_err-head-clause-dossier_reads : goal.returns-in_err-head-clause-dossier_reads
returns-in_err-head-clause-dossier_reads c = rw c.from_residual.ensures (head-none _ _ c.in_err-head.ensures)

pub returns-in_err-number-clause-dossier_reads : goal.returns-in_err-number-clause-dossier_reads
returns-in_err-number-clause-dossier_reads c =
    rw c.from_residual-in_err-number.ensures (count_none _ c.in_ok-head.ensures c.in_err-number.ensures)

pub returns-then-rows-count-clause-dossier_reads : goal.returns-then-rows-count-clause-dossier_reads
returns-then-rows-count-clause-dossier_reads c =
    let counted = count-read _ c.in_ok-head.ensures c.requires.0 c.in_ok-number.ensures in
    rows_short counted c.requires.1 c.if-rows-count.true

pub returns-in_err-next-clause-dossier_reads : goal.returns-in_err-next-clause-dossier_reads
returns-in_err-next-clause-dossier_reads c =
    let counted = count-read _ c.in_ok-head.ensures c.requires.0 c.in_ok-number.ensures in
    rw c.from_residual-in_err-next.ensures (snapshots-none counted c.in_err-next.ensures)

pub returns-then-next-s-clause-dossier_reads : goal.returns-then-next-s-clause-dossier_reads
returns-then-next-s-clause-dossier_reads c =
    let counted = count-read _ c.in_ok-head.ensures c.requires.0 c.in_ok-number.ensures in
    elim c.then-next-s.branch [
      | then-next-s-via-then-next-s v ↦ not-whole counted c.in_ok-next.ensures v.if-next-s.true
      | then-next-s-via-else-next-s+then-not-versions_rise v ↦
          not-rising counted c.in_ok-next.ensures v.versions_rise.ensures v.if-not-versions_rise.true
    ]

pub returns-clause-dossier_reads : goal.returns-clause-dossier_reads
returns-clause-dossier_reads c =
    let counted = count-read _ c.in_ok-head.ensures c.requires.0 c.in_ok-number.ensures in
    dossier-found counted c.in_ok-next.ensures c.versions_rise.ensures c.if-not-versions_rise.false c.if-next-s.false
