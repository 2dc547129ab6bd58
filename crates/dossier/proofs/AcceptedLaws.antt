-- What is known of a dossier of which questions 3 to 6 are answered yes.
use mathlib.Core.Path.{◌≡◌, sym, ◌∙◌, subst, ap}
use mathlib.Core.Bool.{Bool, true, ◌||◌}
use mathlib.Core.Option.{some}
use mathlib.Core.List.{List, [], ◌∷◌, map}
use Prim.Native.Nat.{ℕ, zero, suc, ◌≤◌, ◌<◌}
use native.Mathlib.Omega.{arith}
use lib.Dec.{eqb}
use lib.ListN.{length, get_or}
use Rattle.model.specs.Order.{Text}
use Rattle.model.specs.Rule.{Snapshot, sizes, objects}
use Rattle.model.specs.Limits.{Limits, Permitted}
use Rattle.model.specs.Opening.{held}
use Rattle.model.proofs.Cases.{and_parts}
use Rattle.packed.proofs.LayoutLaws.{All}
use Rattle.replies.specs.Questions.{accepted, ask, Asked, refused}
use Rattle.replies.specs.Replies.{refusal_number}
use Rattle.replies.specs.declared.reply.Refusal.{Refusal}
use Rattle.replies.proofs.QuestionLaws.{asked-then, ask-some, ensured, accepted-same}
use Rattle.ontology.specs.Table.{Table, is_versioned, type_named}
use Rattle.ontology.specs.TableLayout.{table_of}
use Rattle.ontology.proofs.TableLaws.{TypeKept, table-type}
use Rattle.ontology.proofs.TypeIndexLaws.{named-at}
use Rattle.event.proofs.EventSizeLaws.{ValuesShort}
use Rattle.dossier.specs.DossierLayout.{dossier_of}
use Rattle.dossier.specs.DossierQuestions.{each_snapshot, dossier_shape, snapshot_values, TypedDossier, dossier_asked}
use Rattle.dossier.specs.code.DossierIndex.{no_snapshot, snapshot_fits, dossier_questions, DossierAccepted, DossierAnswers}
use Rattle.ontology.specs.declared.types.TypeIndex.{TypeIndex}
use Rattle.dossier.specs.declared.dossiers.DossierIndex.{DossierIndex}
use Rattle.dossier.proofs.DossierLayoutLaws.{DossierWritten, dossier-was}
use Rattle.dossier.proofs.DossierSizeLaws.{snapshots-short, versioned-sizes, shape-parts, shape-objects}
use Rattle.dossier.proofs.AskLaws.{all_fit, alike_to, fits_with, shape_is}
use Rattle.std.specs.Prelude.{Result, Ok, Err}

pub record DossierTaken (limits : Limits) (types : Table) (s : List ℕ) (a : TypedDossier) : Type 0 where
  pub read : dossier_of limits s ≡ some a.headed
  pub typed : type_named a.headed.head.type types ≡ some a.type
  pub shape : dossier_shape limits a.type a.headed.snapshots ≡ true
  pub values : each_snapshot (snapshot_values a.type) a.headed.snapshots ≡ true

pub dossier-taken :
    (limits : Limits) (types : Table) (s : List ℕ) (a : TypedDossier) → dossier_asked limits types s ≡ accepted a → DossierTaken limits types s a
unfolding dossier_asked
dossier-taken limits types s a h =
    let (d, r, k) = asked-then (ask 3 (dossier_of limits s)) _ _ h in
    let (t, y, l) = asked-then (ask 4 (type_named d.head.type types)) _ _ k in
    let (b, m) = ensured 5 (dossier_shape limits t d.snapshots) _ _ l in
    let (c, n) = ensured 6 (each_snapshot (snapshot_values t) d.snapshots) _ _ m in
    subst (DossierTaken limits types s) (accepted-same (record { type = t; headed = d }) a n)
    (record { read = ask-some 3 (dossier_of limits s) d r; typed = ask-some 4 (type_named d.head.type types) t y; shape = b; values = c })

-- two dossiers whose types have one name have one type
pub one_type :
    {limits : Limits} {types : Table} {r s : List ℕ} {a b : TypedDossier} → DossierTaken limits types r a → DossierTaken limits types s b →
    a.headed.head.type ≡ b.headed.head.type → a.type ≡ b.type
one_type {limits} {types} {r} {s} {a} {b} x y e =
    let q : some a.type ≡ some b.type = sym x.typed ∙ ap (λ (n : Text). type_named n types) e ∙ y.typed in cc

-- ---- what a caller of `accept` has, whose answer is r

module _
    (p : Asked TypedDossier) (table s ps rows : List ℕ) (r : Result (TypeIndex × DossierIndex) Refusal) (w : DossierAnswers p table s ps rows r) where
  pub asked-refused : {q : Refusal} → r ≡ Err q → p ≡ refused (refusal_number q)
  asked-refused h = subst (DossierAnswers p table s ps rows) h w

  pub asked-accepted : {t : TypeIndex} {d : DossierIndex} → r ≡ Ok (t, d) → DossierAccepted p table s ps rows t d
  asked-accepted h = subst (DossierAnswers p table s ps rows) h w

-- the table and the dossier, where question 2 is asked too
pub record QuestionsTaken (limits : Limits) (table s : List ℕ) (a : TypedDossier) : Type 0 where
  pub types : Table
  pub is : table_of table ≡ some types
  pub asked : dossier_asked limits types s ≡ accepted a
  pub taken : DossierTaken limits types s a

pub questions-taken :
    (limits : Limits) (table s : List ℕ) (a : TypedDossier) → dossier_questions limits table s ≡ accepted a → QuestionsTaken limits table s a
questions-taken limits table s a h =
    let (ts, e, k) = asked-then (ask 2 (table_of table)) _ _ h in
    record { types = ts; is = ask-some 2 (table_of table) ts e; asked = k; taken = dossier-taken limits ts s a k }

-- ---- one of its snapshots, and all of them

-- what is so of each snapshot is so of one
each_at : (f : Snapshot → Bool) (ss : List Snapshot) → each_snapshot f ss ≡ true → (i : ℕ) → i < length ss → f (get_or ss i no_snapshot) ≡ true
unfolding each_snapshot
each_at f [] h i l = absurd (omega arith)
each_at f (s ∷ ss) h zero l = (and_parts (f s) (each_snapshot f ss) h).0
each_at f (s ∷ ss) h (suc i) l = each_at f ss (and_parts (f s) (each_snapshot f ss) h).1 i (omega arith)

module _ {limits : Limits} {types : Table} {s : List ℕ} {a : TypedDossier} (w : DossierTaken limits types s a) where
  abbrev snapshots : List Snapshot
  snapshots = a.headed.snapshots

  pub taken-written : DossierWritten limits a.headed
  taken-written = (dossier-was limits s a.headed w.read).1

  -- the type keeps the rules of its table
  pub taken-kept : (table : List ℕ) → table_of table ≡ some types → TypeKept a.type
  taken-kept table e = table-type table types e a.headed.head.type a.type w.typed

  pub taken-name : (table : List ℕ) → table_of table ≡ some types → length a.headed.head.type ≤ 64
  taken-name table e = subst (λ (v : Text). length v ≤ 64) (named-at a.headed.head.type types a.type w.typed).2 (taken-kept table e).short

  -- question 5, of how many there are and of each
  shape-whole : ((is_versioned a.type || eqb (length snapshots) 1) ≡ true) × (all_fit limits a.type snapshots snapshots ≡ true)
  shape-whole =
      and_parts (is_versioned a.type || eqb (length snapshots) 1) (all_fit limits a.type snapshots snapshots)
      (sym (shape_is limits a.type snapshots) ∙ w.shape)

  pub taken-lone : (is_versioned a.type || eqb (length snapshots) 1) ≡ true
  taken-lone = shape-whole.0

  module _ (i : ℕ) (l : i < length snapshots) where
    abbrev one : Snapshot
    one = get_or snapshots i no_snapshot

    pub taken-fits : snapshot_fits limits a.type one ≡ true
    taken-fits =
        (and_parts (snapshot_fits limits a.type one) (alike_to a.type (get_or snapshots 0 no_snapshot) one)
        (each_at (fits_with limits a.type (get_or snapshots 0 no_snapshot)) snapshots shape-whole.1 i l)).0

    pub taken-values : snapshot_values a.type one ≡ true
    taken-values = each_at (snapshot_values a.type) snapshots w.values i l

  -- ---- sizes

  pub taken-objects : Permitted limits → objects snapshots ≤ 256
  taken-objects permitted = shape-objects permitted a.type snapshots w.shape taken-written.body.within

  pub taken-short : All (λ (z : Snapshot). ValuesShort (map held z.cells)) snapshots
  taken-short = snapshots-short a.type snapshots (shape-parts limits a.type snapshots w.shape).0 w.values

  pub taken-sizes : is_versioned a.type ≡ true → All (λ (z : Snapshot). sizes z.cells ≤ 32) snapshots
  taken-sizes v = versioned-sizes a.type snapshots (rw v at (shape-parts limits a.type snapshots w.shape).1)
