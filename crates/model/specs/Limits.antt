-- Document 01, limits of the set of events, and document 02, Q-13, "Limits chosen per installation". Document 01's own are `standard`.
use Rattle.std.specs.Prelude.{Bool, ◌&&◌, ◌||◌, ℕ, ◌≤◌, leb, length}
use Rattle.model.specs.Rule.{TypeView, Dossier, objects}

pub record Limits : Type 0 where
  pub versions : ℕ
  pub parents : ℕ
  pub objects : ℕ

-- "Limits of the set: 8 event versions, 32 parents, and for an unversioned type 256 objects"
unfoldable pub standard : Limits
standard = record { versions = 8; parents = 32; objects = 256 }

-- "event versions 1 to 8, parents 8 to 32, objects of an unversioned dossier 32 to 256"
unfoldable pub is_permitted : Limits → Bool
is_permitted l =
    leb 1 l.versions && leb l.versions 8 && leb 8 l.parents && leb l.parents 32 && leb 32 l.objects && leb l.objects 256

-- "any permitted choice": the same as bounds
pub record Permitted (l : Limits) : Type 0 where
  pub some-versions : 1 ≤ l.versions
  pub few-versions : l.versions ≤ 8
  pub some-parents : 8 ≤ l.parents
  pub few-parents : l.parents ≤ 32
  pub some-objects : 32 ≤ l.objects
  pub few-objects : l.objects ≤ 256

-- "smaller limits" and "larger ones": no limit of l is above that of m
pub record NoLarger (l m : Limits) : Type 0 where
  pub versions : l.versions ≤ m.versions
  pub parents : l.parents ≤ m.parents
  pub objects : l.objects ≤ m.objects

-- "The set passes one when its events have more distinct versions or parents, or the rule's snapshot more objects": the dossier passes none.
-- The rule has a snapshot for each distinct version and each distinct parent once.
unfoldable pub fits : Limits → TypeView → Dossier → Bool
fits l t d =
    leb (length d.parents) l.parents && (leb (length d.snapshots) l.versions && (t.versioned || leb (objects d.snapshots) l.objects))
