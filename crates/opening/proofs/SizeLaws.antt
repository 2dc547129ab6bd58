-- The merged event of an accepted dossier has room in the output that document 01 asks for.
use mathlib.Core.Path.{◌≡◌, ◌∙◌, subst}
use mathlib.Core.Bool.{Bool, true, false}
use mathlib.Core.Option.{some}
use mathlib.Core.List.{List, [], ◌∷◌, map, flatten, Memᴰ}
use Prim.Native.Nat.{ℕ, ◌≤◌}
use native.Mathlib.Omega.{arith}
use lib.ListN.{length, length-append, length-map}
use Rattle.model.specs.Order.{Text, texts}
use Rattle.model.specs.Sets.{canon, smallest}
use Rattle.model.specs.Rule.{Choice, every, least, TypeView, places, Snapshot, Dossier}
use Rattle.model.specs.Limits.{Limits, Permitted}
use Rattle.model.specs.Opening.{held, cell_at, column, last_of, merged_set, merged_at, merged_sets}
use Rattle.model.proofs.SetLaws.{canon-of}
use Rattle.model.proofs.ValidLaws.{take-of}
use Rattle.model.proofs.PartLaws.{flatten-of, length-up_to}
use Rattle.model.proofs.SizeLaws.{merged-objects}
use Rattle.packed.proofs.LayoutLaws.{All, number-length-5}
use Rattle.replies.specs.Capacities.{dossier_capacity}
use Rattle.ontology.specs.Table.{Table}
use Rattle.ontology.specs.TableLayout.{table_of}
use Rattle.event.specs.Event.{object_count, type_view, event_view}
use Rattle.event.specs.EventLayout.{presence_bit, bit_number, event_bytes}
use Rattle.event.proofs.HeadLayoutLaws.{HeadWritten}
use Rattle.event.proofs.EventLayoutLaws.{presence-below}
use Rattle.event.proofs.EventSizeLaws.{ValuesShort, head-size, sets-size, each_within}
use Rattle.event.proofs.EventQuestionLaws.{all-member, member-all, all-at, flat-objects}
use Rattle.dossier.specs.DossierLayout.{Headed, model_of}
use Rattle.dossier.specs.DossierQuestions.{TypedDossier}
use Rattle.dossier.specs.declared.dossiers.DossierIndex.{DossierIndex}
use Rattle.dossier.proofs.CellLaws.{held_at}
use Rattle.dossier.proofs.DossierBodyLaws.{SnapshotWritten, snapshot-cells}
use Rattle.dossier.proofs.AcceptedLaws.{DossierTaken, taken-written, taken-name, taken-objects, taken-short}
use Rattle.opening.specs.OpenCall.{merged_event}
use Rattle.ontology.specs.declared.types.TypeIndex.{TypeIndex}
use Rattle.opening.specs.code.OpenIndex.{Openable}
use Rattle.dossier.proofs.DossierHeadLaws.{head_more}
use Rattle.opening.proofs.AcceptedLaws.{taken}

-- ---- the values of a merged set are values of its column

abbrev Short : List Text → Type 0
Short = All (λ (v : Text). length v ≤ 120)

last-short : (ss : List (List Text)) → All Short ss → Short (last_of ss)
unfolding last_of
last-short [] h = tt
last-short (s ∷ []) h = h.0
last-short (s ∷ r ∷ ss) h = last-short (r ∷ ss) h.1

column-value : (ss : List (List Text)) → All Short ss → (v : Text) → Memᴰ v (flatten ss) → length v ≤ 120
column-value ss h v m =
    let (s, n, i) = flatten-of ss v m in
    all-member (λ (w : Text). length w ≤ 120) s (all-member Short ss h s n) v i

merged-short : (r : Bool) (c : Choice) (ss : List (List Text)) → All Short ss → Short (merged_set r c ss)
unfolding merged_set smallest
merged-short true c ss h = last-short ss h
merged-short false every ss h =
    member-all (λ (w : Text). length w ≤ 120) (canon texts (flatten ss)) (λ v m. column-value ss h v (canon-of texts (flatten ss) v m))
merged-short false (least O) ss h =
    member-all (λ (w : Text). length w ≤ 120) _ (λ v m. column-value ss h v (canon-of O (flatten ss) v (take-of (canon O (flatten ss)) v m)))

column-short : (ss : List Snapshot) (p : ℕ) → All (λ (z : Snapshot). ValuesShort (map held z.cells)) ss → All Short (column ss p)
unfolding column cell_at
column-short [] p h = tt
column-short (z ∷ ss) p h = (subst Short (held_at z.cells p) (all-at Short [] tt (map held z.cells) h.0 p), column-short ss p h.1)

-- ---- the size of an event with so many objects

event-short :
    (h : Headed) (ss : List (List Text)) → HeadWritten 32 h.head → length h.head.type ≤ 64 → length ss ≡ 32 → object_count ss ≤ 256 →
    ValuesShort ss → length (event_bytes (merged_event h ss)) ≤ dossier_capacity
unfolding event_bytes merged_event
event-short h ss w t n o v =
    simp length-append
    (omega (
      arith,
      head-size h.head w t,
      number-length-5 (bit_number (map presence_bit ss)) (presence-below ss n),
      sets-size ss v (each_within 256 ss o),
    ))

-- ---- the merged event of an accepted dossier

module _
    {limits : Limits} (permitted : Permitted limits) (table s : List ℕ) (types : Table) (a : TypedDossier) (t : table_of table ≡ some types)
    (w : DossierTaken limits types s a) where
  abbrev d : Dossier
  d = model_of a.headed

  abbrev v : TypeView
  v = type_view a.type

  sets-short : ValuesShort (merged_sets v d)
  unfolding merged_sets merged_at
  sets-short = go (places v)
    where
      go : (ps : List ℕ) → ValuesShort (map (merged_at v d) ps)
      go [] = tt
      go (p ∷ ps) = (merged-short (v.replaces p) (v.choice p) (column d.snapshots p) (column-short d.snapshots p (taken-short w)), go ps)

  sets-long : length (merged_sets v d) ≡ 32
  unfolding merged_sets places type_view event_view
  sets-long = length-map (places v) (merged_at v d) ∙ length-up_to 32

  sets-few : object_count (merged_sets v d) ≤ 256
  unfolding type_view event_view
  sets-few =
      omega (
        arith,
        flat-objects (merged_sets v d),
        merged-objects v d (λ z i. snapshot-cells z (all-member SnapshotWritten d.snapshots (taken-written w).body.snapshots z i)),
        taken-objects w permitted,
      )

  pub merged-room : length (event_bytes (merged_event a.headed (merged_sets v d))) ≤ dossier_capacity
  merged-room =
      event-short a.headed (merged_sets v d) (head_more permitted.few-parents a.headed.head (taken-written w).head)
      (taken-name w table t) sets-long sets-few sets-short

-- the same of a dossier that is opened
pub merged-size : (s : List ℕ) (d : DossierIndex) (rows : List ℕ) (t : TypeIndex) (ps : List ℕ) (o : Openable s d rows t ps) →
    length (event_bytes (merged_event o.headed (merged_sets (type_view o.type) (model_of o.headed)))) ≤ dossier_capacity
merged-size s d rows t ps o =
    merged-room o.permitted o.table s o.types (record { type = o.type; headed = o.headed }) o.read (taken s d rows t ps o)
