-- What is still to be written of a combined dossier, as the code has it.
use Rattle.std.specs.Prelude.{ℕ, ◌+◌, ◌≤◌, ◌≡◌, true, length, drop}
use mathlib.Core.List.{List, map, flatten}
use Rattle.model.specs.Order.{texts, rising, Text}
use Rattle.model.specs.Sets.{union}
use Rattle.model.specs.Rule.{Snapshot, join_snapshots}
use Rattle.packed.specs.Parse.{All}
use Rattle.values.specs.declared.versions.EventVersion.{EventVersion}
use Rattle.ontology.specs.Table.{EventType}
use Rattle.ontology.specs.code.TypeIndex.{TypeIs}
use Rattle.ontology.specs.declared.types.TypeIndex.{TypeIndex}
use Rattle.event.specs.Event.{type_view}
use Rattle.event.specs.Head.{Head}
use Rattle.event.specs.code.EventIndex.{HeadIs}
use Rattle.event.specs.declared.head.HeadAt.{HeadAt}
use Rattle.unions.specs.code.Runs.{Hashes}
use Rattle.dossier.specs.DossierLayout.{Headed, dossier_bytes}
use Rattle.dossier.specs.DossierBody.{snapshot_bytes}
use Rattle.dossier.specs.code.DossierIndex.{DossierIs}
use Rattle.dossier.specs.declared.dossiers.DossierIndex.{DossierIndex}
use Rattle.dossier.specs.DossierHead.{dossier_head_bytes}
use Rattle.combining.specs.CombineCall.{combined, headed_as}
use Rattle.combining.specs.code.CombineIndex.{Combinable, Inside, Shared}

-- what two snapshots of one version are together, which have the bytes p and q, has its room in an output of `size` bytes
pub record SharedRoom
    (version : EventVersion) (a x : List ℕ) (m : ℕ) (b y : List ℕ) (n : ℕ) (p q : List ℕ) (t : TypeIndex) (ps : List ℕ)
    (at size : ℕ) : Type 0 where
  pub table : List ℕ
  pub type : EventType
  pub left : Snapshot
  pub right : Snapshot
  pub typed : TypeIs table type t ps
  pub shared : Shared version a x m b y n type left right
  pub left-bytes : p ≡ snapshot_bytes left
  pub right-bytes : q ≡ snapshot_bytes right
  pub room : at + length (snapshot_bytes (join_snapshots (type_view type) left right)) ≤ size

-- the bytes of the snapshots from the i-th on
abbrev pub bytes_from : List Snapshot → ℕ → List ℕ
bytes_from ss i = flatten (map snapshot_bytes (drop i ss))

-- they have their room
pub record RestRoom (s : List ℕ) (d : DossierIndex) (i at size : ℕ) : Type 0 where
  pub what : Headed
  pub is : DossierIs s what d
  pub room : at + length (bytes_from what.snapshots i) ≤ size

-- the left one of two heads, with the parents of both
abbrev pub both_heads : Head → Head → Head
both_heads g h = record { type = g.type; source = g.source; parents = union texts g.parents h.parents }

-- the heads g and h stand in a and b where x and y say, with the hashes of their parents rising
pub record HeadsAre (a : List ℕ) (x : HeadAt) (b : List ℕ) (y : HeadAt) (g h : Head) : Type 0 where
  pub left : HeadIs a g x
  pub right : HeadIs b h y
  pub left-each : Hashes g.parents
  pub right-each : Hashes h.parents
  pub left-rise : rising texts g.parents ≡ true
  pub right-rise : rising texts h.parents ≡ true
  pub few : length (union texts g.parents h.parents) ≤ 32
  pub both-each : All (λ (p : Text). length p ≡ 20) (union texts g.parents h.parents)

-- what is written of them has its room in an output of `size` bytes
pub record HeadsRoom (a : List ℕ) (x : HeadAt) (b : List ℕ) (y : HeadAt) (size : ℕ) : Type 0 where
  pub left : Head
  pub right : Head
  pub are : HeadsAre a x b y left right
  pub room : length (dossier_head_bytes (both_heads left right)) ≤ size

-- the snapshots of both sides have their room
pub record SnapshotsRoom
    (a : List ℕ) (d : DossierIndex) (left b : List ℕ) (e : DossierIndex) (right : List ℕ) (t : TypeIndex) (ps : List ℕ) (at size : ℕ) : Type 0 where
  pub table : List ℕ
  pub both : Combinable table a d left b e right t ps
  pub room : at + length (flatten (map snapshot_bytes (combined both.known.left both.known.right).snapshots)) ≤ size

-- the two dossiers together pass no limit, and have their room
pub record CombinedRoom
    (a : List ℕ) (d : DossierIndex) (left b : List ℕ) (e : DossierIndex) (right : List ℕ) (t : TypeIndex) (ps : List ℕ) (size : ℕ) : Type 0 where
  pub table : List ℕ
  pub both : Combinable table a d left b e right t ps
  pub inside :
      (u : List ℕ) (h : Combinable u a d left b e right t ps) → Inside h.known.left.type (combined h.known.left h.known.right)
  pub room : length (dossier_bytes (headed_as both.known.left.headed (combined both.known.left both.known.right))) ≤ size
