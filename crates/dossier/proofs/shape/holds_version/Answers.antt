use Rattle.std.proofs.Common.{◌∙◌}
use borrow.Author.Tests.{lt-leb}
use Rattle.event.proofs.SetLaws.{set-read}
use Rattle.dossier.proofs.VersionLaws.{holds-far, holds-set, holds-here}
use Rattle.dossier.proofs.shape.holds_version.Goals as goal

pub returns-then-mark-le32 : goal.returns-then-mark-le32
returns-then-mark-le32 c y v w =
    holds-here y _ _ v (c.is_version.ensures _ (set-read c.set_at.ensures (holds-set _ y _ w _ c.requires.0 c.if-mark-le32.true)))

pub returns-else-mark-le32 : goal.returns-else-mark-le32
returns-else-mark-le32 c y v w = lt-leb _ 32 c.if-mark-le32.false ∙ holds-far _ y _ w _ c.if-mark-le32.false
