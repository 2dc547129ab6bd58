-- After each reading either the next part of the head starts where this one ends, or the bytes have no head, so that any position will do. The parents'
-- hashes are passed over by their number.
use Rattle.dossier.proofs.HeadEndLaws.{no_name, no_source, no-count, ends-short, ends-here}
use Rattle.dossier.proofs.head.dossier_head_end.Goals as goal

pub returns-in_default : goal.returns-in_default
returns-in_default c = search no_name

pub returns-in_default-read_text : goal.returns-in_default-read_text
returns-in_default-read_text c = search no_source

pub returns-in_default-read_within : goal.returns-in_default-read_within
returns-in_default-read_within c = search no-count

pub returns-then-s-after_count : goal.returns-then-s-after_count
returns-then-s-after_count c = search ends-short

pub returns : goal.returns
returns c = search ends-here
