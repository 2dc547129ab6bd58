use Rattle.std.proofs.Common.{◌≡◌, true}
use Rattle.model.specs.Rule.{Snapshot}
use Rattle.ontology.specs.Table.{EventType, is_versioned}
use Rattle.dossier.specs.code.DossierIndex.{CellsAre}
use Rattle.combining.proofs.AgreedLaws.{PlacesSofar}
use Rattle.combining.proofs.agreed.agreed_places.Given as goal

-- the places up to k are found
abbrev pub invariant-loop-k : goal.invariant-loop-k
invariant-loop-k l =
    (ty : EventType) (v w : Snapshot) → is_versioned ty ≡ true → CellsAre l.a v.cells l.m l.x → CellsAre l.b w.cells l.n l.y →
    PlacesSofar ty v w l.p.present l.p.marked l.left l.right l.k
