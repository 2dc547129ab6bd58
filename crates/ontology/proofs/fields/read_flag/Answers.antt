use Rattle.ontology.proofs.FlagLaws.{flag-none, flag_is}
use Rattle.ontology.proofs.fields.read_flag.Goals as goal

pub returns-in_err-n : goal.returns-in_err-n
returns-in_err-n c = rw c.from_residual.ensures (flag-none _ c.in_err-n.ensures)

pub returns : goal.returns
returns c = flag_is c.in_ok-n.ensures
