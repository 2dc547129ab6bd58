use borrow.Author.Rules.{rules}
use Rattle.dossier.proofs.RowLaws.{one-row, all-rows}
use Rattle.combining.proofs.combine.combine_left.Statement.{statement}
use Rattle.combining.proofs.combine.combine_left.Tie as tie

-- ---- the places

abbrev to_start : tie.After-snapshot_count → tie.Start
to_start c = (search)

-- ---- the needs

combine-with-requires : tie.Need-combine_with-requires
combine-with-requires c κs =
    let few : tie.Then-snapshot_count-le1 = search in
    let p = (to_start (search)).requires in
    ((p.0, p.2), (p.1, one-row _ _ _ few.snapshot_count.ensures few.if-snapshot_count-le1.true))

combine-with-requires-2 : tie.Need-combine_with-requires-2
combine-with-requires-2 c κs =
    let several : tie.Else-snapshot_count-le1 = search in
    let p = (to_start (search)).requires in
    ((p.0, p.2), (p.1, all-rows _ _ p.0))

pub combine_left_spec : {M : Type 1} → statement M
combine_left_spec =
    tie.close
    (tie.spec
    (λ c κs. search rules) (λ c. search rules)
    combine-with-requires
    (λ c. search rules) (λ c. search rules) (λ c. search rules) (λ c. search rules)
    combine-with-requires-2
    (λ c. search rules) (λ c. search rules) (λ c. search rules))
