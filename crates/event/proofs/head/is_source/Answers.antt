use Rattle.std.proofs.Common.{ℕ, Bool, ◌&&◌, leb, ◌∙◌, refl, rules, tests}
use Rattle.std.specs.List.{list_all}
use Rattle.std.proofs.lemmas.Iterator.{YieldsList-from_slice}
use Rattle.std.proofs.lemmas.Iterator.Search.{all_from_yields_List}
use Rattle.std.proofs.lemmas.List.Recursion.{same_from_clauses}
use Rattle.event.specs.Head.{are_source_bytes, is_source}
use Rattle.event.proofs.head.is_source.Goals as goal

abbrev is_source_byte : ℕ → Bool
is_source_byte b = leb 0x21 b && leb b 0x7e

pub returns-then-matches : goal.returns-then-matches
unfolding is_source are_source_bytes
returns-then-matches c =
    let v = c.args.v.now in
    all_from_yields_List is_source_byte _ _ _ c.all.ensures.ran (YieldsList-from_slice v cc) (λ x b q k. search (rules, tests))
    ∙ same_from_clauses (list_all is_source_byte) are_source_bytes (λ b t. is_source_byte b && t) refl (λ _ _. refl) (λ _ _. refl) v
    ∙ search (rules, tests)

pub returns-else-matches : goal.returns-else-matches
unfolding is_source
returns-else-matches c = search (rules, tests)
