use Rattle.std.proofs.Common.{◌≡◌, ℕ, List, leb, drop}
use Rattle.model.specs.Rule.{Snapshot, join_snapshots, sizes}
use Rattle.ontology.specs.Table.{EventType}
use Rattle.event.specs.Event.{type_view}
use Rattle.combining.proofs.ObjectLaws.{Joins}
use Rattle.combining.proofs.limits.objects_fit.Given as goal

-- whether all fit is whether those from this place on fit in the room that is left
abbrev pub invariant-loop-k : goal.invariant-loop-k
invariant-loop-k l =
    (u : List ℕ) (ty : EventType) (left right : Snapshot) → Joins u l.a l.b l.count l.properties l.x l.y ty left right →
    leb (sizes (join_snapshots (type_view ty) left right).cells) l.most
    ≡ leb (sizes (drop l.k (join_snapshots (type_view ty) left right).cells)) l.room
