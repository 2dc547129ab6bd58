-- The snapshots read so far stand in the arrays and the rows, and the whole answer is theirs before that of the others.
use Rattle.std.proofs.Common.{length, drop}
use Rattle.packed.specs.Parse.{times}
use Rattle.dossier.specs.DossierBody.{read_snapshot}
use Rattle.dossier.proofs.DossierReadLaws.{Sofar}
use Rattle.dossier.proofs.dossiers.read_snapshots.Given as goal

abbrev pub invariant-loop-j : goal.invariant-loop-j
invariant-loop-j l = Sofar (times read_snapshot l.count (drop l.fn.at l.s)) l.s l.rows l.r l.count l.j (length l.fn.rows)
