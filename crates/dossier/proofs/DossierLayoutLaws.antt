-- The laws of the dossier's layout, a head and a body: what is written is read (`-read`), and what is read was written so (`-was`).
use mathlib.Core.Path.{◌≡◌, sym, ap, ◌∙◌}
use mathlib.Core.Option.{some}
use mathlib.Core.List.{List, [], ◌++◌, append-nil}
use Prim.Native.Nat.{ℕ}
use Rattle.model.specs.Rule.{Snapshot}
use Rattle.model.specs.Limits.{Limits}
use Rattle.packed.specs.Parse.{got}
use Rattle.packed.proofs.LayoutLaws.{and_then-got, whole-some}
use Rattle.event.specs.Head.{Head, read_head}
use Rattle.dossier.specs.DossierHead.{read_dossier_head, dossier_head_bytes}
use Rattle.dossier.specs.DossierBody.{read_body, body_bytes}
use Rattle.dossier.specs.DossierLayout.{Headed, read_dossier, dossier_of, dossier_bytes}
use Rattle.dossier.proofs.DossierHeadLaws.{DossierHeadWritten, dossier-head-read, dossier-head-was}
use Rattle.dossier.proofs.DossierBodyLaws.{BodyWritten, body-read, body-was}

pub record DossierWritten (limits : Limits) (h : Headed) : Type 0 where
  pub head : DossierHeadWritten limits h.head
  pub body : BodyWritten limits h.snapshots

dossier-parts : (h : Headed) → dossier_bytes h ≡ dossier_head_bytes h.head ++ (body_bytes h.snapshots ++ [])
unfolding dossier_bytes
dossier-parts h = ap (λ (l : List ℕ). dossier_head_bytes h.head ++ l) (sym (append-nil (body_bytes h.snapshots)))

pub dossier-read : (limits : Limits) (h : Headed) → DossierWritten limits h → dossier_of limits (dossier_bytes h) ≡ some h
unfolding dossier_of read_dossier
dossier-read limits h w =
    (whole-some (read_dossier limits (dossier_bytes h)) h).1
    (ap (read_dossier limits) (dossier-parts h)
    ∙ rw (dossier-head-read limits h.head (body_bytes h.snapshots ++ []) w.head, body-read limits h.snapshots [] w.body))

pub dossier-was : (limits : Limits) (s : List ℕ) (h : Headed) → dossier_of limits s ≡ some h → (s ≡ dossier_bytes h) × DossierWritten limits h
unfolding dossier_of read_dossier
dossier-was limits s h e =
    let a = and_then-got (read_dossier_head limits s) _ h [] ((whole-some (read_dossier limits s) h).0 e) in
    let b = and_then-got (read_body limits a.left) _ h [] a.second in
    go a.value b.value b.left b.second
    (dossier-head-was limits s a.value a.left a.first)
    (body-was limits a.left b.value b.left b.first)
  where
    go :
        {t : List ℕ} (g : Head) (ss : List Snapshot) (u : List ℕ) → got (record { head = g; snapshots = ss }) u ≡ got h [] →
        (s ≡ dossier_head_bytes g ++ t) × DossierHeadWritten limits g → (t ≡ body_bytes ss ++ u) × BodyWritten limits ss →
        (s ≡ dossier_bytes h) × DossierWritten limits h
    go g ss u e a b =
        let f : (record { head = g; snapshots = ss }) ≡ h = cc in
        let k : u ≡ [] = cc in
        rw (← f) (a.0 ∙ rw (b.0, k) (sym (dossier-parts (record { head = g; snapshots = ss }))), record { head = a.1; body = b.1 })

-- ---- what a dossier begins with

pub dossier-begins :
    (limits : Limits) (s : List ℕ) (h : Headed) → dossier_of limits s ≡ some h → (r : List ℕ) × (read_head limits.parents s ≡ got h.head r)
unfolding read_dossier_head
dossier-begins limits s h e =
    let w = dossier-was limits s h e in
    let rest = body_bytes h.snapshots ++ [] in
    (rest, ap (read_head limits.parents) (w.0 ∙ dossier-parts h) ∙ dossier-head-read limits h.head rest w.1.head)

-- a name that is read where a head begins is that of the dossier's type
pub dossier-name :
    (s name : List ℕ) → ((most : ℕ) (h : Head) (r : List ℕ) → read_head most s ≡ got h r → name ≡ h.type) →
    (limits : Limits) (h : Headed) → dossier_of limits s ≡ some h → name ≡ h.head.type
dossier-name s name told limits h e = let b = dossier-begins limits s h e in told limits.parents h.head b.0 b.1
