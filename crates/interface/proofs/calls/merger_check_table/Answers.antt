use Rattle.std.proofs.Common.{◌∙◌, ap}
use Rattle.interface.specs.Packing.{packed}
use Rattle.replies.specs.Replies.{table_replied}
use Rattle.interface.proofs.calls.merger_check_table.Goals as goal

pub returns-in-Ok : goal.returns-in-Ok
unfolding table_replied
returns-in-Ok c = c.pack_reply.ensures ∙ ap packed c.in-Ok.ensures

pub returns-in-Err : goal.returns-in-Err
unfolding table_replied
returns-in-Err c = c.pack_reply-in-Err.ensures ∙ ap packed c.in-Err.ensures
