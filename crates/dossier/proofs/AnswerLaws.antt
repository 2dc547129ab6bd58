-- The laws of questions 2 to 7 of dossiers.
use mathlib.Core.Path.{◌≡◌, refl, sym, ap, ap₂, ◌∙◌, subst}
use mathlib.Core.Bool.{Bool, true, false, ◌&&◌}
use mathlib.Core.Option.{none, some}
use mathlib.Core.List.{List, [], ◌∷◌}
use Prim.Native.Nat.{ℕ, ◌≤◌}
use native.Mathlib.Omega.{arith}
use lib.ListN.{length, get_or}
use Rattle.model.specs.Order.{Text, texts, sets, lists, equal}
use Rattle.model.proofs.OrderLaws.{equal-true}
use Rattle.model.specs.Rule.{Snapshot}
use Rattle.model.specs.Limits.{Limits}
use Rattle.model.proofs.Cases.{and_parts}
use Rattle.replies.specs.Questions.{Asked, refused, accepted, ◌>>◌, ensure}
use Rattle.replies.specs.declared.reply.Refusal.{Refusal}
use Rattle.ontology.specs.Table.{EventType, Table, type_named}
use Rattle.ontology.specs.TableLayout.{table_of}
use Rattle.ontology.specs.code.TypeIndex.{TypeSaid, TypeSays, TableSaid}
use Rattle.ontology.specs.declared.types.TypeIndex.{TypeIndex}
use Rattle.ontology.proofs.TypeIndexLaws.{type-absent, type-found}
use Rattle.event.proofs.AskLaws.{table-kinds}
use Rattle.event.specs.Agreement.{agree}
use Rattle.dossier.specs.DossierLayout.{Headed, dossier_of}
use Rattle.dossier.specs.DossierQuestions.{snapshot_match, dossier_shape, each_snapshot, snapshot_values, TypedDossier, dossier_asked}
use Rattle.dossier.specs.DossierQuestions.{dossier_match, dossiers_agree}
use Rattle.dossier.specs.code.DossierIndex.{no_snapshot, DossierStands, DossierReads, shape_asked, dossier_questions, DossierAccepted, DossierAnswers}
use Rattle.dossier.specs.declared.dossiers.DossierIndex.{DossierIndex}
use Rattle.dossier.proofs.AskLaws.{Each, asked_all}
use Rattle.dossier.proofs.DossierReadLaws.{dossier-absent, dossier-known}
use Rattle.std.specs.Prelude.{Some, None, Result}
use Rattle.std.specs.Prelude as std

-- ---- questions 3 to 6, under a table that was read

shape-then : {A : Type 0} (a b : Bool) (p : Asked A) → (ensure 5 a >> (ensure 6 b >> p)) ≡ (shape_asked a b >> p)
shape-then false b p = refl
shape-then true b p = refl

-- r is what the reader of the dossier answers
module _
    (limits : Limits) (table : List ℕ) (ts : Table) (s rows : List ℕ) {r : std.Option DossierIndex}
    (w : DossierReads (dossier_of limits s) s rows r) where
  pub answer-layout : r ≡ None → dossier_asked limits ts s ≡ refused 3
  unfolding dossier_asked
  answer-layout h = rw (dossier-absent _ s rows r w h)

  module _ {d : DossierIndex} (there : r ≡ Some d) where
    it : DossierStands (dossier_of limits s) s rows d
    it = dossier-known _ s rows r w there

    -- what the table has of the dossier's type
    module _
        (ps : List ℕ) {found : std.Option TypeIndex}
        (says : (h : Headed) → dossier_of limits s ≡ some h → TypeSays (type_named h.head.type ts) table ps found) where
      pub answer-type : found ≡ None → dossier_asked limits ts s ≡ refused 4
      unfolding dossier_asked
      answer-type h = rw (it.is, type-absent _ table ps found (says it.what it.is) h)

      -- the type is there
      module _ {t : TypeIndex} (typed : found ≡ Some t) (e : table_of table ≡ some ts) where
        type : TypeSaid (type_named it.what.head.type ts) table ps t
        type = type-found _ table ps found (says it.what it.is) typed

        abbrev taken : TypedDossier
        taken = record { type = type.what; headed = it.what }

        -- and a is what questions 5 and 6 come to
        rest : {a : Asked (Unit {0})} → Each s d rows t ps (λ ty ss. a ≡ asked_all limits ty ss) → dossier_asked limits ts s ≡ (a >> accepted taken)
        unfolding dossier_asked
        rest told =
            let kinds = table-kinds table ts it.what.head.type type.what e type.is in
            rw (it.is, type.is)
            (shape-then (dossier_shape limits type.what it.what.snapshots) (each_snapshot (snapshot_values type.what) it.what.snapshots)
            (accepted taken)
            ∙ ap (λ (b : Asked (Unit {0})). b >> accepted taken) (sym (told table type.what it.what type.typed kinds it.stands it.in_rows)))

        pub answer-refused : {n : ℕ} → Each s d rows t ps (λ ty ss. refused n ≡ asked_all limits ty ss) → dossier_asked limits ts s ≡ refused n
        answer-refused told = rest told

        pub answer-accepted :
            Each s d rows t ps (λ ty ss. accepted tt ≡ asked_all limits ty ss) → DossierAccepted (dossier_asked limits ts s) table s ps rows t d
        answer-accepted told = record { what = taken; is = rest told; typed = type.typed; read = it.stands; in_rows = it.in_rows }

-- ---- questions 2 to 6

pub questions-table : (limits : Limits) (table s : List ℕ) → table_of table ≡ none → dossier_questions limits table s ≡ refused 2
questions-table limits table s e = rw e

-- the table was read for a name
module _
    (limits : Limits) (s : List ℕ) {table : List ℕ} {name : Text} {ps : List ℕ} {found : std.Option TypeIndex}
    (said : TableSaid (table_of table) table name ps found) where
  pub questions-are : dossier_questions limits table s ≡ dossier_asked limits said.what s
  questions-are = rw said.is

  -- that of the dossier's type
  pub says-typed :
      ((h : Headed) → dossier_of limits s ≡ some h → name ≡ h.head.type) →
      (h : Headed) → dossier_of limits s ≡ some h → TypeSays (type_named h.head.type said.what) table ps found
  says-typed named h e = subst (λ (n : Text). TypeSays (type_named n said.what) table ps found) (named h e) said.says

  -- what questions 3 to 6 answer is the answer
  pub questions-answered :
      (rows : List ℕ) (r : Result (TypeIndex × DossierIndex) Refusal) → ((h : Headed) → dossier_of limits s ≡ some h → name ≡ h.head.type) →
      ((t : List ℕ) (ts : Table) → table_of t ≡ some ts →
      ((h : Headed) → dossier_of limits s ≡ some h → TypeSays (type_named h.head.type ts) t ps found) →
      DossierAnswers (dossier_asked limits ts s) t s ps rows r) →
      DossierAnswers (dossier_questions limits table s) table s ps rows r
  questions-answered rows r named told =
      subst (λ (p : Asked TypedDossier). DossierAnswers p table s ps rows r) (sym questions-are) (told table said.what said.is (says-typed named))

-- ---- question 7

first-match : (t : EventType) (ss : List Snapshot) → 1 ≤ length ss → dossier_match t ss ≡ snapshot_match t (get_or ss 0 no_snapshot)
unfolding dossier_match
first-match t [] h = absurd (omega arith)
first-match t (s ∷ ss) h = refl

module _ (ty tz : EventType) (h g : Headed) where
  abbrev both : Bool
  both = dossiers_agree (record { type = ty; headed = h }) (record { type = tz; headed = g })

  abbrev heads : Bool
  heads = equal texts h.head.type g.head.type && equal texts h.head.source g.head.source

  pub agree-heads : {r : Bool} → r ≡ heads → r ≡ false → false ≡ both
  unfolding dossiers_agree agree
  agree-heads e f = sym (ap (λ (b : Bool). b && equal (lists sets) (dossier_match ty h.snapshots) (dossier_match tz g.snapshots)) (sym e ∙ f))

  module _ {a : Bool} (d : a ≡ heads) (e : a ≡ true) (one : 1 ≤ length h.snapshots) (two : 1 ≤ length g.snapshots) where
    pub agree-match :
        (h.head.type ≡ g.head.type → ty ≡ tz) → {r : Bool} →
        r ≡ equal (lists sets) (snapshot_match ty (get_or h.snapshots 0 no_snapshot)) (snapshot_match ty (get_or g.snapshots 0 no_snapshot)) → r ≡ both
    unfolding dossiers_agree agree
    agree-match l n =
        let types = equal texts h.head.type g.head.type in
        let sources = equal texts h.head.source g.head.source in
        let q : ty ≡ tz = l ((equal-true texts h.head.type g.head.type).0 (and_parts types sources (sym d ∙ e)).0) in
        n
        ∙ sym (ap (λ (b : Bool). b && equal (lists sets) (dossier_match ty h.snapshots) (dossier_match tz g.snapshots)) (sym d ∙ e)
        ∙ ap (λ (t : EventType). equal (lists sets) (dossier_match ty h.snapshots) (dossier_match t g.snapshots)) (sym q)
        ∙ ap₂ (equal (lists sets)) (first-match ty h.snapshots one) (first-match ty g.snapshots two))
