-- A text is read, and whether it is a name decides.
use Rattle.packed.proofs.ReadLaws.{TextStops}
use Rattle.ontology.proofs.NameLaws.{text-read, name-unread, name-reads}
use Rattle.ontology.proofs.names.read_name.Goals as goal
use Rattle.ontology.proofs.names.read_name.Goals.{In_ok-name}

text : (c : In_ok-name) → TextStops c.args.s.now c.args.at c.in_ok-name.name.start c.in_ok-name.name.end
text c = text-read c.in_ok-name.ensures

pub returns-in_err-name : goal.returns-in_err-name
returns-in_err-name c = rw c.from_residual.ensures (name-unread _ _ _ c.in_err-name.ensures)

pub slice_bounds-is_name-count : goal.slice_bounds-is_name-count
slice_bounds-is_name-count c = (text (goal.at.slice_bounds-is_name-count c).In_ok-name).order

pub slice_bounds-is_name-start : goal.slice_bounds-is_name-start
slice_bounds-is_name-start c = (text (goal.at.slice_bounds-is_name-start c).In_ok-name).order

pub slice_bounds-is_name-end : goal.slice_bounds-is_name-end
slice_bounds-is_name-end c = (text (goal.at.slice_bounds-is_name-end c).In_ok-name).within

pub returns : goal.returns
returns c = rw c.then_some.ensures (name-reads _ (text (goal.at.returns c).In_ok-name) c.is_name.ensures)
