-- The type of the name is kept where one is found. Else the answer of `same` is whether the next type has the name.
use Rattle.ontology.proofs.TableReadLaws.{keep-old, keep-new, keep-none}
use Rattle.ontology.proofs.tables.keep.Goals as goal
use Rattle.ontology.proofs.tables.keep.Goals.{else-is_none-via-then-is_none+else-same, else-is_none-via-else-is_none}

pub returns-then-same : goal.returns-then-same
returns-then-same c ts t ps w is = keep-new _ ts t _ ps _ _ (rw c.if-is_none.true at c.is_none.ensures) w is (rw c.if-same.true at c.same.ensures)

pub returns : goal.returns
returns c ts t ps w is = elim c.else-is_none.branch [
  | else-is_none-via-then-is_none+else-same v ↦
      keep-none _ ts t _ ps _ _ (rw v.if-is_none.true at c.is_none.ensures) w is (rw v.if-same.false at v.same.ensures)
  | else-is_none-via-else-is_none v ↦ keep-old _ ts t _ ps _ (rw v.if-is_none.false at c.is_none.ensures) w
]
