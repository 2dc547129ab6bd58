-- The loop goes from the highest place down. Each mask is that of the properties from the place reached on, and a property's bits are put below it, so that at
-- place 0 the masks are those of all properties. A mask has at most as many bits as there are places from there on, so that doubling it does not wrap.
use Rattle.dossier.proofs.MaskLaws.{MasksDown}
use Rattle.dossier.proofs.shape.masks_of.Given as goal

abbrev pub invariant-loop-k : goal.invariant-loop-k
invariant-loop-k l = MasksDown l.versioned l.count l.properties l.m l.k
