-- What the table says of the name that it was read for holds of the dossier's own type name where the two are the same, and where they are not, the table is
-- read for that name.
use Rattle.std.proofs.Common.{refl, Some}
use Rattle.replies.proofs.RefusalLaws.{none-refused, passed-on}
use Rattle.ontology.specs.TableLayout.{table_of}
use Rattle.ontology.specs.code.TypeIndex.{TableSays}
use Rattle.ontology.proofs.TypeIndexLaws.{says_same}
use Rattle.dossier.proofs.DossierLayoutLaws.{dossier-name}
use Rattle.combining.proofs.CombineLaws.{other-layout, other-type, other-refused, other-accepted}
use Rattle.combining.proofs.combine.ask_other.Goals as goal
use Rattle.combining.proofs.combine.ask_other.Goals.{Then-same}

-- the table was read for the name of this dossier's type
read-before :
    (c : Then-same) →
    TableSays (table_of c.args.table.now) c.args.table.now c.type_name-other.result.now c.args.properties.now (Some (Some c.args.t))
read-before c =
    says_same c.args.table.now _ c.args.properties.now (Some (Some c.args.t)) _ c.same.ensures c.if-same.true c.requires.says

pub returns-in_err-e-clause-answers : goal.returns-in_err-e-clause-answers
returns-in_err-e-clause-answers c = λ ts k.
    let told = c.in_err-e.ensures in
    rw (none-refused told.value told.ok_part c.from_residual.ensures.1)
    (other-layout _ _ _ _ c.read_dossier.ensures.dossier_reads ts k told.ok_part)

pub returns-in_err-ask_snapshots-clause-answers : goal.returns-in_err-ask_snapshots-clause-answers
returns-in_err-ask_snapshots-clause-answers c = λ ts k.
    rw (passed-on c.from_residual-in_err-ask_snapshots.ensures.1)
    (other-refused _ _ _ _ c.read_dossier.ensures.dossier_reads ts k (dossier-name _ _ c.type_name-other.ensures _) _ (Some (Some c.args.t))
    (read-before (goal.at.returns-in_err-ask_snapshots-clause-answers c).Then-same) c.in_ok-e.ensures.ok_part refl c.in_err-ask_snapshots.ensures)

pub returns-then-same-clause-answers : goal.returns-then-same-clause-answers
returns-then-same-clause-answers c = λ ts k.
    other-accepted _ _ _ _ c.read_dossier.ensures.dossier_reads ts k (dossier-name _ _ c.type_name-other.ensures _) _ (Some (Some c.args.t))
    (read-before (goal.at.returns-then-same-clause-answers c).Then-same) c.in_ok-e.ensures.ok_part refl c.in_ok-ask_snapshots.ensures

pub returns-in_err-u-clause-answers : goal.returns-in_err-u-clause-answers
returns-in_err-u-clause-answers c = λ ts k.
    let told = c.in_err-u.ensures in
    rw (none-refused told.value told.ok_part c.from_residual-in_err-u.ensures.1)
    (other-type _ _ _ _ c.read_dossier.ensures.dossier_reads ts k (dossier-name _ _ c.type_name-other.ensures _) _ _
    c.read_table.ensures c.in_ok-e.ensures.ok_part (rw c.flatten-found.ensures at told.ok_part))

pub returns-in_err-ask_snapshots-2-clause-answers : goal.returns-in_err-ask_snapshots-2-clause-answers
returns-in_err-ask_snapshots-2-clause-answers c = λ ts k.
    rw (passed-on c.from_residual-in_err-ask_snapshots-2.ensures.1)
    (other-refused _ _ _ _ c.read_dossier.ensures.dossier_reads ts k (dossier-name _ _ c.type_name-other.ensures _) _ _
    c.read_table.ensures c.in_ok-e.ensures.ok_part (rw c.flatten-found.ensures at c.in_ok-u.ensures.ok_part) c.in_err-ask_snapshots-2.ensures)

pub returns-clause-answers : goal.returns-clause-answers
returns-clause-answers c = λ ts k.
    other-accepted _ _ _ _ c.read_dossier.ensures.dossier_reads ts k (dossier-name _ _ c.type_name-other.ensures _) _ _
    c.read_table.ensures c.in_ok-e.ensures.ok_part (rw c.flatten-found.ensures at c.in_ok-u.ensures.ok_part) c.in_ok-ask_snapshots-2.ensures
