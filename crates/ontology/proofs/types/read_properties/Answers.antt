-- Each turn reads a property and asks its rules. Where the property is none or breaks one, no list that begins with what was read so far meets the rules;
-- else one more is read, and what is left of the rules is about those after it.
use Rattle.std.proofs.Common.{arith}
use Rattle.ontology.proofs.TypeLaws.{placed, not-placed, filled-bad, filled-not, filled_more, filled-all}
use Rattle.ontology.proofs.types.read_properties.Goals as goal
use Rattle.ontology.proofs.types.read_properties.Goals.{then-keep, else-keep}

pub returns-in_err-p-clause-says : goal.returns-in_err-p-clause-says
returns-in_err-p-clause-says c = rw c.from_residual.ensures (filled-bad c.loop-k.invariant (omega arith) c.in_err-p.ensures)

pub returns-then-not-property_fits-clause-says : goal.returns-then-not-property_fits-clause-says
returns-then-not-property_fits-clause-says c = filled-not c.loop-k.invariant (omega arith) c.in_ok-p.ensures c.if-not-property_fits.ensures

pub loop-k-preserved : goal.loop-k-preserved
loop-k-preserved c =
    filled_more c.loop-k.invariant (omega arith) c.in_ok-p.ensures c.if-not-property_fits.ensures
    (elim c.if-keep.branch [
      | then-keep w ↦
          placed w.if-keep.true w.properties-is w.put_property.ensures.here w.put_property.ensures.others
          (omega (arith, c.loop-k.invariant.size, w.put_property.auto.properties))
      | else-keep w ↦ not-placed w.if-keep.false w.properties-is c.loop-k.invariant.size
    ])

pub returns-clause-says : goal.returns-clause-says
returns-clause-says c = filled-all c.loop-k.invariant c.requires.1 (omega arith)
