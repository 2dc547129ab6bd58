-- Of the only snapshot, at the marked place and under replace the merged set is the last cell; otherwise it is the chosen value or the union, as the rule of
-- the place says.
use borrow.Author.Rules.{rules}
use mathlib.Core.Logic.{⊎_elim}
use Rattle.opening.proofs.MergeLaws.{stands-only, stands-marked, stands-last, stands-chosen, place-every}
use Rattle.opening.proofs.merge.merged_at.Statement.{statement}
use Rattle.opening.proofs.merge.merged_at.Tie as tie

-- ---- the places

abbrev to_start : tie.After-shared_slice_known-2-1 → tie.Start
to_start c = (search)

abbrev made-to-start : tie.Else-rule → tie.Start
made-to-start c = to_start (search)

-- ---- the needs

returns : tie.Need-returns-then-n-eq1
returns c =
    let p = (to_start (search)).requires in
    let cell = c.cell_at.ensures in
    λ t d m w k.
    ⊎_elim
    (λ only. stands-only _ p.1 m w only.if-n-eq1.true cell)
    (⊎_elim
    (λ marked. stands-marked _ p.1 m w p.2 cell (k marked.if-marked.true))
    (λ last. stands-last _ p.1 m w p.2 cell last.if-rule.true))
    c.then-n-eq1.branch-raw

returns-2 : tie.Need-returns-then-rule-2
returns-2 c =
    let made = c in
    λ t d m w k. stands-chosen _ (made-to-start (search)).requires.1 m w made.if-rule.false c.if-rule-2.true c.extreme_of.ensures

returns-3 : tie.Need-returns
returns-3 c =
    let made = c in
    λ t d m w k. place-every _ (made-to-start (search)).requires.1 m w c.only_set.result made.if-rule.false c.if-rule-2.false c.only_set.ensures

pub merged_at_spec : {M : Type 1} → statement M
merged_at_spec =
    tie.close
    (tie.spec
    (λ c. search rules) (λ c κs. search rules)
    returns
    (λ c κs. search rules)
    returns-2
    (λ c κs. search rules)
    returns-3)
