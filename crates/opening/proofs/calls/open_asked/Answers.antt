-- A conflict that is found is what the dossier opens as; without one it opens as the merged event does.
use Rattle.opening.proofs.OpenLaws.{replies-conflict, without-conflict}
use Rattle.opening.proofs.calls.open_asked.Goals as goal

pub returns-in-Some : goal.returns-in-Some
returns-in-Some c = λ o. replies-conflict o c.in-Some.ensures _

pub returns-in-None : goal.returns-in-None
returns-in-None c = λ o. c.open_merged.ensures o (without-conflict o c.in-None.ensures)
