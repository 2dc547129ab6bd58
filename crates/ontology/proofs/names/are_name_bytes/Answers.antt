use Rattle.std.proofs.Common.{◌∙◌, ◌&&◌, rules, tests, refl}
use Rattle.std.specs.List.{list_all}
use Rattle.std.proofs.lemmas.Iterator.{YieldsList-from_slice}
use Rattle.std.proofs.lemmas.Iterator.Search.{all_from_yields_List}
use Rattle.std.proofs.lemmas.List.Recursion.{same_from_clauses}
use Rattle.ontology.specs.Table.{is_name_byte, are_name_bytes}
use Rattle.ontology.proofs.names.are_name_bytes.Goals as goal

pub returns : goal.returns
unfolding are_name_bytes
returns c =
    all_from_yields_List is_name_byte _ _ _ c.all.ensures.ran (YieldsList-from_slice c.args.v.now cc) (λ x b q k. search (rules, tests))
    ∙ same_from_clauses (list_all is_name_byte) are_name_bytes (λ b t. is_name_byte b && t) refl (λ _ _. refl) (λ _ _. refl) c.args.v.now
