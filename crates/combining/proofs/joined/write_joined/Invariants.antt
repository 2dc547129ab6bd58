use Rattle.std.proofs.Common.{ℕ, List}
use Rattle.model.specs.Rule.{Snapshot}
use Rattle.packed.specs.code.Written.{ToGo}
use Rattle.ontology.specs.Table.{EventType}
use Rattle.combining.proofs.ObjectLaws.{Joins}
use Rattle.combining.proofs.JoinedLaws.{sets_from}
use Rattle.combining.proofs.joined.write_joined.Given as goal

-- the sets from this place on are left to write
abbrev pub invariant-loop-k : goal.invariant-loop-k
invariant-loop-k l =
    (u : List ℕ) (ty : EventType) (left right : Snapshot) → Joins u l.a l.b l.count l.properties l.x l.y ty left right →
    ToGo l.initial.out l.initial.next (sets_from ty left right 0) l.out l.next (sets_from ty left right l.k)
