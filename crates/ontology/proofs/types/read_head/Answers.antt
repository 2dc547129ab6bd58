-- The rules of a type are asked as its fields are read. After each field and its rule the whole answer is the answer of what is left of the type, read from
-- there, so that a field or a rule that fails fails the whole.
use Rattle.std.proofs.Common.{arith}
use Rattle.packed.specs.Parse.{such_that}
use Rattle.packed.specs.Packed.{read_number, is_within}
use Rattle.packed.proofs.FieldLaws.{got-bounds}
use Rattle.ontology.proofs.OnwardLaws.{any-got, any-fail, on-got, on-fail, on-not, on-passed}
use Rattle.ontology.proofs.TypeLaws.{type-unnamed, TypeNamed, type-named, Left, after-definition, when-defined, after-mark, head-is}
use borrow.Author.Tests.{le-leb, lt-leb}
use Rattle.ontology.proofs.types.read_head.Goals as goal
use Rattle.ontology.proofs.types.read_head.Goals.{In_ok-start, In_ok-definition, Else-definition-eq0, In_ok-mark}

-- what is left after each field and its rule

named : (c : In_ok-start) → TypeNamed c.args.table.now c.args.at c.in_ok-start.field-0.start c.in_ok-start.field-0.end
named c = type-named c.in_ok-start.ensures

numbered :
    (c : In_ok-definition) →
    Left (named (goal.at.In_ok-definition c).In_ok-start) (after-definition c.in_ok-definition.definition) c.in_ok-definition.after_definition
numbered c = on-got read_number _ (named (goal.at.In_ok-definition c).In_ok-start).left (any-got c.in_ok-definition.ensures)

defined :
    (c : Else-definition-eq0) →
    Left (named (goal.at.Else-definition-eq0 c).In_ok-start) (when-defined c.in_ok-definition.definition) c.in_ok-definition.after_definition
defined c = on-passed _ (numbered (goal.at.Else-definition-eq0 c).In_ok-definition) (le-leb 1 c.in_ok-definition.definition (omega arith))

marked :
    (c : In_ok-mark) →
    Left (named (goal.at.In_ok-mark c).In_ok-start) (after-mark c.in_ok-definition.definition c.in_ok-mark.mark) c.in_ok-mark.after_mark
marked c = on-got read_number _ (defined (goal.at.In_ok-mark c).Else-definition-eq0) (any-got c.in_ok-mark.ensures)

pub returns-in_err-start : goal.returns-in_err-start
returns-in_err-start c = rw c.from_residual.ensures (type-unnamed _ c.in_err-start.ensures)

pub returns-in_err-definition : goal.returns-in_err-definition
returns-in_err-definition c =
    rw c.from_residual-in_err-definition.ensures
    (on-fail read_number _ (named (goal.at.returns-in_err-definition c).In_ok-start).left (any-fail _ _ c.in_err-definition.ensures))

pub returns-then-definition-eq0 : goal.returns-then-definition-eq0
returns-then-definition-eq0 c =
    on-not _ (numbered (goal.at.returns-then-definition-eq0 c).In_ok-definition) (lt-leb 1 c.in_ok-definition.definition (omega arith))

pub returns-in_err-mark : goal.returns-in_err-mark
returns-in_err-mark c =
    rw c.from_residual-in_err-mark.ensures
    (on-fail read_number _ (defined (goal.at.returns-in_err-mark c).Else-definition-eq0) (any-fail _ _ c.in_err-mark.ensures))

pub returns-in_err-count : goal.returns-in_err-count
returns-in_err-count c =
    rw c.from_residual-in_err-count.ensures
    (on-fail (such_that (is_within 1 32) read_number) _ (marked (goal.at.returns-in_err-count c).In_ok-mark) c.in_err-count.ensures)

pub returns : goal.returns
returns c =
    let w = goal.at.returns c in
    head-is (named w.In_ok-start) _ _ (on-got (such_that (is_within 1 32) read_number) _ (marked w.In_ok-mark) c.in_ok-count.ensures)
    (got-bounds 1 32 c.in_ok-count.ensures).1
