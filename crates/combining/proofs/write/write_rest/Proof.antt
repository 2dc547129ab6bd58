use borrow.Author.Rules.{rules}
use Rattle.packed.proofs.WriteLaws.{wrote_as}
use Rattle.combining.proofs.MergedLaws.{nothing-wrote, rest-none, rest-there, rest_part}
use Rattle.combining.proofs.write.write_rest.Statement.{statement}
use Rattle.combining.proofs.write.write_rest.Tie as tie

-- ---- the places

abbrev to-left : tie.After-copy_part-arg-1 → tie.Else-d-i
to-left c = (search)

-- ---- the needs

returns : tie.Need-returns-then-d-i
returns c = λ h w. nothing-wrote (rest-none _ _ h w _ c.if-d-i.true)

copy-part-requires : tie.Need-copy_part-requires
copy-part-requires c κs =
    let left = to-left c in
    let p = left.requires in
    rest-there _ _ p.what p.is _ left.if-d-i.false _ _ p.room

returns-2 : tie.Need-returns
returns-2 c = λ h w.
    let copied = c in
    wrote_as (rest_part _ _ h w _ (to-left (search)).if-d-i.false) copied.copy_part.ensures

pub write_rest_spec : {M : Type 1} → statement M
write_rest_spec =
    tie.close
    (tie.spec
    returns
    (λ c. search rules) (λ c. search rules) (λ c. search rules) (λ c. search rules) (λ c. search rules)
    copy-part-requires
    (λ c. search rules)
    returns-2)
