-- What a call gives has room in the output that document 01 asks for: the dossier and the merged event of any accepted input.
use mathlib.Core.Path.{◌≡◌, ap, subst}
use mathlib.Core.Option.{some}
use mathlib.Core.List.{List}
use Prim.Native.Nat.{ℕ, ◌≤◌}
use native.Mathlib.Omega.{arith}
use lib.ListN.{length}
use Rattle.model.specs.Order.{Text}
use Rattle.model.specs.Limits.{Limits, Permitted}
use Rattle.model.specs.Opening.{merged, opening}
use Rattle.model.proofs.OpeningLaws.{opening-merged}
use Rattle.replies.specs.Capacities.{dossier_capacity}
use Rattle.replies.specs.Questions.{accepted}
use Rattle.ontology.specs.Table.{Table}
use Rattle.ontology.specs.TableLayout.{table_of}
use Rattle.event.specs.Event.{type_view}
use Rattle.event.specs.EventLayout.{event_bytes}
use Rattle.dossier.specs.DossierQuestions.{TypedDossier, dossier_asked}
use Rattle.dossier.proofs.DossierLayoutLaws.{dossier-was}
use Rattle.dossier.proofs.DossierSizeLaws.{dossier-fits}
use Rattle.dossier.proofs.AcceptedLaws.{DossierTaken, dossier-taken, taken-written, taken-name}
use Rattle.dossier.specs.DossierLayout.{model_of}
use Rattle.opening.specs.OpenCall.{merged_event}
use Rattle.opening.proofs.SizeLaws.{merged-room}

-- ---- an accepted dossier

pub dossier-short :
    {limits : Limits} → Permitted limits → (table s : List ℕ) (types : Table) (a : TypedDossier) → table_of table ≡ some types →
    dossier_asked limits types s ≡ accepted a →
    length s ≤ dossier_capacity
dossier-short {limits} permitted table s types a t h =
    let w = dossier-taken limits types s a h in
    omega (
      arith,
      ap length (dossier-was limits s a.headed w.read).0,
      dossier-fits permitted a.type a.headed (taken-written w) w.shape w.values (taken-name w table t),
    )

-- ---- a merged event

pub merged-short :
    {limits : Limits} → Permitted limits → (table s : List ℕ) (types : Table) (a : TypedDossier) → table_of table ≡ some types →
    DossierTaken limits types s a → (ss : List (List Text)) →
    opening (type_view a.type) (model_of a.headed) ≡ merged ss → length (event_bytes (merged_event a.headed ss)) ≤ dossier_capacity
merged-short permitted table s types a t w ss o =
    subst (λ (x : List (List Text)). length (event_bytes (merged_event a.headed x)) ≤ dossier_capacity)
    (opening-merged (type_view a.type) (model_of a.headed) ss o).2
    (merged-room permitted table s types a t w)
