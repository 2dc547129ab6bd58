-- Where one of the snapshots is none, all are none. Any other is one more that is read, whose row is put among the others.
use Rattle.std.proofs.Common.{arith}
use Rattle.dossier.proofs.DossierReadLaws.{sofar-none, stopped, sofar-more, sofar-all}
use Rattle.dossier.proofs.dossiers.read_snapshots.Goals as goal

pub loop-j-init : goal.loop-j-init
loop-j-init c = sofar-none _ _ _ _ c.requires.0 c.requires.3

pub returns-in_err-x : goal.returns-in_err-x
returns-in_err-x c = rw c.from_residual.ensures (stopped c.loop-j.invariant c.loop-j-test.true c.in_err-x.ensures)

pub loop-j-preserved : goal.loop-j-preserved
loop-j-preserved c = sofar-more c.loop-j.invariant c.loop-j-test.true c.requires.2 c.in_ok-x.ensures c.read_snapshot.auto.sets

pub returns : goal.returns
returns c = sofar-all c.loop-j.invariant (omega arith)
