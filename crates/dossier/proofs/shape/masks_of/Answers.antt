use Rattle.dossier.proofs.MaskLaws.{masks-none, masks-more, masks-all}
use Rattle.dossier.proofs.shape.masks_of.Goals as goal

pub loop-k-init : goal.loop-k-init
loop-k-init c = search masks-none

pub loop-k-preserved : goal.loop-k-preserved
loop-k-preserved c =
    masks-more c.loop-k.invariant c.loop-k-test.true c.requires.0 c.property_at-p.ensures c.from.ensures c.is_lone_place.ensures
    c.from-in-loop-k.ensures c.is_unmarked_place.ensures c.from-in-loop-k-2.ensures

pub returns : goal.returns
returns c = search masks-all
