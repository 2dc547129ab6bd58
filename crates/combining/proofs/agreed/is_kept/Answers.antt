-- A mark on either side, or unequal counts, say that the two do not agree; two empty sets agree, and of others the bytes of their values say it.
use Rattle.std.proofs.Common.{sym, ap₂, ◌∙◌, eq-eqb, arith}
use Rattle.model.specs.Order.{texts, equal}
use Rattle.model.specs.Opening.{held}
use Rattle.event.proofs.MatchLaws.{flat-equal, set-short}
use Rattle.combining.proofs.AgreedLaws.{agreed-marked, agreed-sets, agreed-counts, agreed-empty}
use Rattle.combining.proofs.agreed.is_kept.Goals as goal
use Rattle.combining.proofs.agreed.is_kept.Goals.{then-marks-ne0-via-then-marks-ne0, then-marks-ne0-via-else-marks-ne0+then-v-w}

pub returns-then-marks-ne0 : goal.returns-then-marks-ne0
returns-then-marks-ne0 c = λ x y m u v.
    elim c.then-marks-ne0.branch [
      | then-marks-ne0-via-then-marks-ne0 w ↦ agreed-marked x y _ m w.if-marks-ne0.true
      | then-marks-ne0-via-else-marks-ne0+then-v-w w ↦ agreed-counts x y _ m w.if-marks-ne0.false (λ e. w.if-v-w.true (u.count ∙ e ∙ sym v.count))
    ]

pub returns-then-v-eq0 : goal.returns-then-v-eq0
returns-then-v-eq0 c = λ x y m u v.
    eq-eqb _ _ c.if-v-eq0.true
    ∙ agreed-empty x y _ m c.if-marks-ne0.false (sym u.count ∙ c.if-v-eq0.true) (omega (arith, v.count, c.if-v-w.false, c.if-v-eq0.true))

pub returns-else-v-eq0 : goal.returns-else-v-eq0
returns-else-v-eq0 c = λ x y m u v.
    c.same.ensures
    ∙ ap₂ (equal texts) (c.set_part.ensures _ u) (c.set_part-else-v-eq0.ensures _ v)
    ∙ flat-equal (held x) (held y) (set-short _ (held x) _ u (omega arith))
    ∙ agreed-sets x y _ m c.if-marks-ne0.false
