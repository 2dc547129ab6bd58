use Rattle.std.proofs.Common.{rules, ltb}
use Rattle.std.proofs.lemmas.List.Sorted.{answers_always}
use Rattle.values.specs.declared.versions.EventVersion.{EventVersion}
use Rattle.dossier.proofs.DossierReadLaws.{rise-told}
use Rattle.dossier.proofs.dossiers.versions_rise.Goals as goal

pub returns : goal.returns
returns c = rise-told _ _ (c.is_sorted_by.ensures.cases (λ (a b : EventVersion). ltb a.0 b.0) (answers_always _ _ _ (λ f a r g told. search rules)))
