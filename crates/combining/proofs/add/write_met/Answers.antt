-- The event's snapshot is written apart. Where it has the bytes of the one of its version, that one is both together, and is copied. Where it has not, that one
-- is read, and the two are joined as those of two dossiers are.
use Rattle.combining.proofs.MergedLaws.{joined-wrote}
use Rattle.combining.proofs.AddLaws.{copy-there, both-copied, met-shared}
use Rattle.combining.proofs.add.write_met.Goals as goal

pub copy-requires : goal.copy-requires
copy-requires c = copy-there c.write_alone-size.ensures c.requires.2 c.part_of-met.ensures c.same.ensures c.if-same.true

pub returns-then-same : goal.returns-then-same
returns-then-same c = both-copied c.write_alone-size.ensures c.requires.2 c.part_of-met.ensures c.same.ensures c.if-same.true c.copy.ensures

pub returns : goal.returns
returns c = λ h. joined-wrote h.typed (met-shared c.in-Some.ensures h) c.write_joined.ensures c.if-t-gt0.false
