-- After each field the whole answer is the answer of what is left of the layout, read from there, so that a field that fails fails the whole.
use Rattle.ontology.specs.TableLayout.{read_flag, read_kind, read_strategy}
use Rattle.ontology.proofs.OnwardLaws.{on-got, on-fail}
use Rattle.ontology.proofs.PropertyLaws.{property-unnamed, NameLeft, name-left, KindLeft, kind-left, OptionalLeft, FlagsLeft, property-is}
use Rattle.ontology.proofs.PropertyLaws.{strategy-got, strategy-none}
use Rattle.ontology.proofs.properties.read_property.Goals as goal
use Rattle.ontology.proofs.properties.read_property.Goals.{In_ok-start, In_ok-k, In_ok-optional, In_ok-multivalued}

-- what is left after each field

named : (c : In_ok-start) → NameLeft c.args.table.now c.args.at c.in_ok-start.field-0.start c.in_ok-start.field-0.end
named c = name-left c.in_ok-start.ensures

kinded :
    (c : In_ok-k) →
    let name = c.in_ok-start.field-0 in
    let k = c.in_ok-k.k in
    KindLeft c.args.table.now c.args.at name.start name.end k.kind k.size k.after k.sign c.in_ok-k.after_kind
kinded c = kind-left (named (goal.at.In_ok-k c).In_ok-start) c.in_ok-k.ensures

optional : (c : In_ok-optional) → OptionalLeft (kinded (goal.at.In_ok-optional c).In_ok-k) c.in_ok-optional.optional c.in_ok-optional.after_optional
optional c = on-got read_flag _ (kinded (goal.at.In_ok-optional c).In_ok-k).left c.in_ok-optional.ensures

flags :
    (c : In_ok-multivalued) →
    FlagsLeft (kinded (goal.at.In_ok-multivalued c).In_ok-k) c.in_ok-optional.optional c.in_ok-multivalued.multivalued c.in_ok-multivalued.after_multivalued
flags c = on-got read_flag _ (optional (goal.at.In_ok-multivalued c).In_ok-optional) c.in_ok-multivalued.ensures

pub returns-in_err-start : goal.returns-in_err-start
returns-in_err-start c = rw c.from_residual.ensures (property-unnamed _ c.in_err-start.ensures)

pub returns-in_err-k : goal.returns-in_err-k
returns-in_err-k c =
    rw c.from_residual-in_err-k.ensures (on-fail read_kind _ (named (goal.at.returns-in_err-k c).In_ok-start).left c.in_err-k.ensures)

pub returns-in_err-optional : goal.returns-in_err-optional
returns-in_err-optional c =
    rw c.from_residual-in_err-optional.ensures
    (on-fail read_flag _ (kinded (goal.at.returns-in_err-optional c).In_ok-k).left c.in_err-optional.ensures)

pub returns-in_err-multivalued : goal.returns-in_err-multivalued
returns-in_err-multivalued c =
    rw c.from_residual-in_err-multivalued.ensures
    (on-fail read_flag _ (optional (goal.at.returns-in_err-multivalued c).In_ok-optional) c.in_err-multivalued.ensures)

pub returns-in_err-strategy : goal.returns-in_err-strategy
returns-in_err-strategy c =
    rw c.from_residual-in_err-strategy.ensures
    (on-fail read_strategy _ (flags (goal.at.returns-in_err-strategy c).In_ok-multivalued) (strategy-none _ c.in_err-strategy.ensures))

pub returns : goal.returns
returns c =
    let w = goal.at.returns c in
    property-is (kinded w.In_ok-k) _ _ (flags w.In_ok-multivalued) (strategy-got c.in_ok-strategy.ensures)
