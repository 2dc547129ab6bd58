-- The laws of the dossier's head: what is written is read, what is read was written so, and how long it is.
use mathlib.Core.Path.{◌≡◌}
use mathlib.Core.List.{List, ◌++◌}
use Prim.Native.Nat.{ℕ, ◌≤◌}
use native.Mathlib.Omega.{arith}
use lib.ListN.{length}
use Rattle.model.specs.Limits.{Limits}
use Rattle.packed.specs.Parse.{got}
use Rattle.event.specs.Head.{Head}
use Rattle.event.proofs.HeadLayoutLaws.{HeadWritten, head_read, head-was}
use Rattle.event.proofs.EventSizeLaws.{head-size}
use Rattle.dossier.specs.DossierHead.{read_dossier_head, dossier_head_bytes}

abbrev pub DossierHeadWritten : Limits → Head → Type 0
DossierHeadWritten limits h = HeadWritten limits.parents h

pub dossier-head-read :
    (limits : Limits) (h : Head) (r : List ℕ) → DossierHeadWritten limits h → read_dossier_head limits (dossier_head_bytes h ++ r) ≡ got h r
unfolding read_dossier_head dossier_head_bytes
dossier-head-read limits h r w = head_read limits.parents h r w

pub dossier-head-was :
    (limits : Limits) (s : List ℕ) (h : Head) (r : List ℕ) → read_dossier_head limits s ≡ got h r →
    (s ≡ dossier_head_bytes h ++ r) × DossierHeadWritten limits h
unfolding read_dossier_head dossier_head_bytes
dossier-head-was limits s h r e = head-was limits.parents s h r e

-- a head that has room for more parents than it has to
pub head_more : {m n : ℕ} → m ≤ n → (h : Head) → HeadWritten m h → HeadWritten n h
head_more l h w = record {
  type = w.type;
  source = w.source;
  parents = record { within = omega (arith, w.parents.within); few = w.parents.few; each = w.parents.each; rises = w.parents.rises };
}

-- the head of a dossier of at most 32 parents
pub dossier-head-size : (h : Head) → HeadWritten 32 h → length h.type ≤ 64 → length (dossier_head_bytes h) ≤ 827
unfolding dossier_head_bytes
dossier-head-size h w t = head-size h w t
