-- `write::write_heads` meets its contract: the union of the parents is made apart, where it has its room since there are 32 at most, and the head is written
-- from the name and the source of the left side and from that union.
use borrow.Author.Rules.{rules}
use Rattle.combining.proofs.MergedLaws.{union-there, union-within, parts-there, heads-wrote}
use Rattle.combining.proofs.write.write_heads.Statement.{statement}
use Rattle.combining.proofs.write.write_heads.Tie as tie

-- ---- the places

abbrev to_start : tie.After-hashes-1 → tie.Start
to_start c = (search)

abbrev to-union : tie.After-hashes-2-1 → tie.After-write_hash_union-size
to-union c = (search)

-- ---- the needs

part-write-dossier-head-end : tie.Need-slice_bounds-write_dossier_head-end
part-write-dossier-head-end c =
    let made = to-union (search) in
    let parents = made in
    union-within parents.hashes_part.ensures parents.hashes_part-2.ensures made.write_hash_union-size.ensures
    (to_start (search)).requires

write-dossier-head-requires : tie.Need-write_dossier_head-requires
write-dossier-head-requires c κs =
    let source : tie.After-text_part-source = search in
    let made = to-union (search) in
    let parents : tie.After-hashes-1 = search in
    parts-there parents.hashes_part.ensures parents.hashes_part-2.ensures made.write_hash_union-size.ensures
    source.text_part-name.ensures source.text_part-source.ensures (to_start parents).requires

returns : tie.Need-returns
returns c =
    let written : tie.After-write_dossier_head = search in
    let at : tie.After-hashes-2-1 = search in
    let source : tie.After-text_part-source = search in
    let made = to-union at in
    let parents : tie.After-hashes-1 = search in
    heads-wrote parents.hashes_part.ensures parents.hashes_part-2.ensures made.write_hash_union-size.ensures
    source.text_part-name.ensures source.text_part-source.ensures written.write_dossier_head.ensures

pub write_heads_spec : {M : Type 1} → statement M
write_heads_spec =
    tie.close
    (tie.spec
    (λ c κs. search rules) (λ c κs. search rules) (λ c. search rules)
    (λ c κs. search union-there)
    (λ c κs. search rules) (λ c κs. search rules) (λ c. search rules) (λ c. search rules)
    part-write-dossier-head-end
    write-dossier-head-requires
    (λ c. search rules)
    returns)
