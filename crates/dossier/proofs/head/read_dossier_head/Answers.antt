use Rattle.dossier.specs.DossierHead.{read_dossier_head}
use Rattle.dossier.proofs.head.read_dossier_head.Goals as goal

pub returns-in_err-head : goal.returns-in_err-head
unfolding read_dossier_head
returns-in_err-head c = rw c.from_residual.ensures c.in_err-head.ensures

pub returns : goal.returns
unfolding read_dossier_head
returns c = let w = c.in_ok-head.ensures in record { what = w.what; is = w.is; stands = w.stands }
