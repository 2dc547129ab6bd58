use Rattle.std.proofs.Common.{◌≡◌}
use Rattle.replies.specs.declared.reply.Opened.TheVariants.{Merged, Found}
use Rattle.interface.proofs.PackingLaws.{version-merged, version-found, version-refused}
use Rattle.interface.proofs.calls.conflict_version.Goals as goal

pub returns-in-Ok-Merged : goal.returns-in-Ok-Merged
returns-in-Ok-Merged c =
    let o = c.in-Ok-Merged in
    let is : o.field-0 ≡ Merged o.field-0-0 = rw o.is at o.field-0-is in
    version-merged _ o.is is

pub returns-in-Ok-Found : goal.returns-in-Ok-Found
returns-in-Ok-Found c =
    let o = c.in-Ok-Found in
    let is : o.field-0 ≡ Found o.f = rw o.is at o.field-0-is in
    version-found _ o.is is c.finding_version.ensures

pub returns-in-Err : goal.returns-in-Err
returns-in-Err c = version-refused _ c.in-Err.is
