-- The questions refuse the dossier, or accept it with its type: then it can be opened.
use mathlib.Core.Path.{◌∙◌}
use Rattle.replies.proofs.RefusalLaws.{passed-on}
use Rattle.opening.proofs.OpenLaws.{open-refused, openable, open-done}
use Rattle.opening.proofs.calls.open_with.Goals as goal

pub returns-in_err-t : goal.returns-in_err-t
returns-in_err-t c = open-refused c.requires.0 _ _ _ c.requires.2 c.in_err-t.ensures.answers (passed-on c.from_residual.ensures.1)

pub returns : goal.returns
returns c =
    let (allowed, rows, room) = c.requires in
    let a = c.in_ok-t.ensures.answers in
    c.open_asked.ensures (openable allowed a) ∙ open-done allowed a _ room
