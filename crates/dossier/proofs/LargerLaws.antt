-- What is a dossier under smaller limits, and is asked its questions with success, is the same under larger ones.
use mathlib.Core.Path.{◌≡◌, refl, ap, ◌∙◌}
use mathlib.Core.Bool.{Bool, true, false, cond, not, ◌&&◌}
use mathlib.Core.Option.{some}
use mathlib.Core.List.{List, [], ◌∷◌}
use Prim.Native.Nat.{ℕ}
use native.Mathlib.Omega.{arith}
use lib.Dec.{leb, eqb}
use lib.ListN.{length}
use borrow.Author.Tests.{leb-true, le-leb}
use Rattle.model.specs.Rule.{Snapshot, sizes}
use Rattle.model.specs.Limits.{Limits, NoLarger}
use Rattle.model.specs.Opening.{is_mark}
use Rattle.model.proofs.Cases.{and_parts}
use Rattle.replies.specs.Questions.{accepted}
use Rattle.ontology.specs.Table.{EventType, Table, is_versioned}
use Rattle.dossier.specs.DossierLayout.{Headed, dossier_of}
use Rattle.dossier.specs.DossierQuestions.{each_cell, each_snapshot, is_lone_if_extreme, unversioned_snapshot, unversioned_shape, versioned_snapshot}
use Rattle.dossier.specs.DossierQuestions.{match_fits, match_alike}
use Rattle.dossier.specs.DossierQuestions.{dossier_shape, TypedDossier, dossier_asked}
use Rattle.dossier.proofs.DossierHeadLaws.{head_more}
use Rattle.dossier.proofs.DossierLayoutLaws.{DossierWritten, dossier-read, dossier-was}
use Rattle.dossier.proofs.DossierSizeLaws.{cells_present}
use Rattle.dossier.proofs.AcceptedLaws.{dossier-taken}

and-all : {a b : Bool} → (a ≡ true) × (b ≡ true) → (a && b) ≡ true
and-all (x, y) = rw (x, y)

module _ {l m : Limits} (w : NoLarger l m) where
  written-larger : (h : Headed) → DossierWritten l h → DossierWritten m h
  written-larger h z = record {
    head = head_more w.parents h.head z.head;
    body = record {
      one = z.body.one;
      within = omega (arith, z.body.within, w.versions);
      few = z.body.few;
      snapshots = z.body.snapshots;
      rises = z.body.rises;
    };
  }

  pub dossier-larger : (s : List ℕ) (h : Headed) → dossier_of l s ≡ some h → dossier_of m s ≡ some h
  dossier-larger s h e = let (is, written) = dossier-was l s h e in ap (dossier_of m) is ∙ dossier-read m h (written-larger h written)

  -- question 5
  snapshot-larger : (t : EventType) (s : Snapshot) → unversioned_snapshot l t s ≡ true → unversioned_snapshot m t s ≡ true
  unfolding unversioned_snapshot
  snapshot-larger t s h =
      let dated = eqb s.version 0 && each_cell (λ p c. not (is_mark c) && is_lone_if_extreme p c) (λ c. true) t.properties s.cells in
      let (others, few) = and_parts dated (leb (sizes s.cells) l.objects) h in
      let within = leb-true (sizes s.cells) l.objects few in
      and-all (others, le-leb (sizes s.cells) m.objects (omega (arith, within, w.objects)))

  each-larger : (t : EventType) (ss : List Snapshot) → each_snapshot (unversioned_snapshot l t) ss ≡ true →
      each_snapshot (unversioned_snapshot m t) ss ≡ true
  unfolding each_snapshot
  each-larger t [] h = refl
  each-larger t (s ∷ ss) h =
      let (one, others) = and_parts (unversioned_snapshot l t s) _ h in
      and-all (snapshot-larger t s one, each-larger t ss others)

  by-version :
      (v : Bool) (t : EventType) (ss : List Snapshot) →
      cond v (each_snapshot (versioned_snapshot t) ss) (unversioned_shape l t ss) ≡ true →
      cond v (each_snapshot (versioned_snapshot t) ss) (unversioned_shape m t ss) ≡ true
  unfolding unversioned_shape
  by-version true t ss h = h
  by-version false t ss h =
      let (lone, each) = and_parts (eqb (length ss) 1) (each_snapshot (unversioned_snapshot l t) ss) h in
      and-all (lone, each-larger t ss each)

  pub shape-larger : (t : EventType) (ss : List Snapshot) → dossier_shape l t ss ≡ true → dossier_shape m t ss ≡ true
  unfolding dossier_shape
  shape-larger t ss h =
      let shaped = cond (is_versioned t) (each_snapshot (versioned_snapshot t) ss) (unversioned_shape l t ss) in
      let (a, alike) = and_parts ((each_snapshot (cells_present t) ss && shaped) && each_snapshot (match_fits t) ss) (match_alike t ss) h in
      let (b, match) = and_parts (each_snapshot (cells_present t) ss && shaped) (each_snapshot (match_fits t) ss) a in
      let (present, dated) = and_parts (each_snapshot (cells_present t) ss) shaped b in
      and-all (and-all (and-all (present, by-version (is_versioned t) t ss dated), match), alike)

  pub asked-larger : (types : Table) (s : List ℕ) (a : TypedDossier) → dossier_asked l types s ≡ accepted a → dossier_asked m types s ≡ accepted a
  unfolding dossier_asked
  asked-larger types s a e =
      let z = dossier-taken l types s a e in
      rw (dossier-larger s a.headed z.read, z.typed, shape-larger a.type a.headed.snapshots z.shape, z.values)
