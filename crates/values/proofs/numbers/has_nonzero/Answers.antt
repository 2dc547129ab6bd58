use Rattle.std.proofs.Common.{◌∙◌, ◌||◌, ltb, rules, tests, refl}
use Rattle.std.specs.List.{list_any}
use Rattle.std.proofs.lemmas.Iterator.{YieldsList-from_slice}
use Rattle.std.proofs.lemmas.Iterator.Search.{any_from_yields_List}
use Rattle.std.proofs.lemmas.List.Recursion.{same_from_clauses}
use Rattle.values.specs.code.NumberAnswer.{has_nonzero}
use Rattle.values.proofs.numbers.has_nonzero.Goals as goal

pub returns : goal.returns
unfolding has_nonzero
returns c =
    any_from_yields_List (ltb 48) _ _ _ c.any.ensures.ran (YieldsList-from_slice c.args.v.now cc) (λ x b q k. search (rules, tests))
    ∙ same_from_clauses (list_any (ltb 48)) has_nonzero (λ b t. ltb 48 b || t) refl (λ _ _. refl) (λ _ _. refl) c.args.v.now
