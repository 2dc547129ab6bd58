use Rattle.std.proofs.Common.{◌≡◌}
use Rattle.replies.specs.declared.reply.Opened.TheVariants.{Merged, Found}
use Rattle.interface.proofs.PackingLaws.{opened-merged, opened-found, opened-refused}
use Rattle.interface.proofs.pack.pack_opened.Goals as goal

pub returns-in-Ok-Merged : goal.returns-in-Ok-Merged
returns-in-Ok-Merged c =
    let o = c.in-Ok-Merged in
    let is : o.field-0 ≡ Merged o.n = rw o.is at o.field-0-is in
    opened-merged o.is is c.low_bits.ensures

pub returns-in-Ok-Found : goal.returns-in-Ok-Found
returns-in-Ok-Found c =
    let o = c.in-Ok-Found in
    let is : o.field-0 ≡ Found o.f = rw o.is at o.field-0-is in
    opened-found o.is is c.pack_finding.ensures

pub returns-in-Err : goal.returns-in-Err
returns-in-Err c = opened-refused c.in-Err.is c.number.ensures c.pack_refusal.ensures
