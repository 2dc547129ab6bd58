-- What is known of two dossiers of which questions 2 to 7 are answered yes, and of two of their snapshots that have one version.
use mathlib.Core.Path.{◌≡◌, sym, subst}
use mathlib.Core.Bool.{true}
use mathlib.Core.List.{List, map}
use Prim.Native.Nat.{ℕ, ◌^◌, ◌<◌}
use lib.ListN.{length, get_or}
use Rattle.model.specs.Order.{numbers}
use Rattle.model.specs.Keyed.{Rising}
use Rattle.model.specs.Rule.{Snapshot}
use Rattle.model.specs.Limits.{Limits}
use Rattle.model.proofs.KeyedLaws.{rising-keys}
use Rattle.model.proofs.SetLaws.{rising-ups}
use Rattle.packed.specs.Parse.{got}
use Rattle.ontology.specs.Table.{EventType, Table, is_versioned}
use Rattle.ontology.specs.declared.types.TypeIndex.{TypeIndex}
use Rattle.ontology.proofs.TableLaws.{TypeKept, extreme-ordered}
use Rattle.dossier.specs.DossierBody.{read_snapshot}
use Rattle.dossier.specs.DossierQuestions.{TypedDossier, snapshot_values, dossier_match, dossiers_agree}
use Rattle.dossier.specs.code.DossierIndex.{no_snapshot, snapshot_fits}
use Rattle.dossier.specs.declared.dossiers.DossierIndex.{DossierIndex}
use Rattle.dossier.proofs.DossierBodyLaws.{snapshot-was}
use Rattle.dossier.proofs.DossierQuestionLaws.{agree-exact}
use Rattle.dossier.proofs.AcceptedLaws.{DossierTaken, dossier-taken, taken-written, taken-kept, taken-fits, taken-values, one_type}
use Rattle.combining.specs.code.CombineIndex.{Known, Combinable, Fitting, Meet}

-- a snapshot's key
abbrev pub version_in : Snapshot → ℕ
version_in s = s.version

-- the versions of the snapshots rise
pub taken-rises :
    {limits : Limits} {types : Table} {s : List ℕ} {a : TypedDossier} → DossierTaken limits types s a → Rising numbers version_in a.headed.snapshots
taken-rises {limits} {types} {s} {a} w =
    let ss = a.headed.snapshots in (rising-keys numbers version_in ss).1 ((rising-ups numbers (map version_in ss)).0 (taken-written w).body.rises)

module _ {table a b : List ℕ} {t : TypeIndex} {ps : List ℕ} (k : Known table a b t ps) where
  pub left-taken : DossierTaken k.limits k.types a k.left
  left-taken = dossier-taken k.limits k.types a k.left k.left-asked

  pub right-taken : DossierTaken k.limits k.types b k.right
  right-taken = dossier-taken k.limits k.types b k.right k.right-asked

  -- the types have one name, and so they are one
  pub same-type : k.left.type ≡ k.right.type
  unfolding dossiers_agree
  same-type =
      one_type left-taken right-taken ((agree-exact k.left.headed.head.type k.left.headed.head.source
      (dossier_match k.left.type k.left.headed.snapshots) k.right.headed.head.type k.right.headed.head.source
      (dossier_match k.right.type k.right.headed.snapshots)).0 k.agree).0

  pub kept : TypeKept k.left.type
  kept = taken-kept left-taken table k.is

module _
    {table a b : List ℕ} {t : TypeIndex} {ps : List ℕ} (k : Known table a b t ps)
    (i j : ℕ) (l : i < length k.left.headed.snapshots) (m : j < length k.right.headed.snapshots) where
  abbrev left_one : Snapshot
  left_one = get_or k.left.headed.snapshots i no_snapshot

  abbrev right_one : Snapshot
  right_one = get_or k.right.headed.snapshots j no_snapshot

  fitting : left_one.version < 2 ^ 64 → left_one.version ≡ right_one.version → Fitting k.left.type left_one right_one
  fitting z h =
      let left = left-taken k in
      let right = right-taken k in
      let one_type = sym (same-type k) in
      record {
        limits = k.limits;
        left-fits = taken-fits left i l;
        right-fits = subst (λ (t : EventType). snapshot_fits k.limits t right_one ≡ true) one_type (taken-fits right j m);
        left-values = taken-values left i l;
        right-values = subst (λ (t : EventType). snapshot_values t right_one ≡ true) one_type (taken-values right j m);
        same = h;
        below = z;
        ordered = λ p q x y. extreme-ordered (is_versioned k.left.type) q ((kept k).fits p q x) y;
      }

  -- two snapshots of one version, each read from some bytes
  pub known-meet :
      (p q r s : List ℕ) → read_snapshot p ≡ got left_one q → read_snapshot r ≡ got right_one s → left_one.version ≡ right_one.version →
      Meet k.left.type left_one right_one
  known-meet p q r s x y h = record {
    fitting = fitting (snapshot-was p left_one q x).1.version h;
    left-bytes = p;
    left-rest = q;
    left-read = x;
    right-bytes = r;
    right-rest = s;
    right-read = y;
  }

-- and where each stands in its dossier
pub meet :
    {table a : List ℕ} {d : DossierIndex} {left b : List ℕ} {e : DossierIndex} {right : List ℕ} {t : TypeIndex} {ps : List ℕ}
    (c : Combinable table a d left b e right t ps)
    (i j : ℕ) (l : i < length c.known.left.headed.snapshots) (m : j < length c.known.right.headed.snapshots) →
    (left_one c.known i j l m).version ≡ (right_one c.known i j l m).version →
    Meet c.known.left.type (left_one c.known i j l m) (right_one c.known i j l m)
meet c i j l m = known-meet c.known i j l m _ _ _ _ (c.left-read.snapshots.each i l).is (c.right-read.snapshots.each j m).is
