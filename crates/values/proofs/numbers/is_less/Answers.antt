use Rattle.std.proofs.Common.{◌≡◌, ◌∙◌, true, false, refl}
use Rattle.model.specs.Order.{pick}
use Rattle.packed.specs.code.Comparison.{ordering}
use Rattle.std.specs.declared.cmp.Ordering.{Ordering}
use Rattle.std.specs.declared.cmp.Ordering.TheVariants.{Less, Equal, Greater}
use Rattle.values.proofs.NumberStepLaws.{less-told}
use Rattle.values.proofs.numbers.is_less.Goals as goal

pub returns-in-Less : goal.returns-in-Less
returns-in-Less c p q = less-told _ _ c.in-Less.ensures p q

not-less : (o : Ordering) → (o ≡ Less → ⊥) → false ≡ pick (ordering o) true false false
not-less Less n = absurd (n refl)
not-less Equal n = refl
not-less Greater n = refl

pub returns-in_default : goal.returns-in_default
returns-in_default c p q = not-less _ c.in_default.not-Less ∙ less-told _ _ c.by_size.ensures p q
