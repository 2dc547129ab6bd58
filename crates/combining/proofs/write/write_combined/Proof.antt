-- `write::write_combined` meets its contract: the head, how many snapshots there are, and these are written one after the other. Each is a law of the room that
-- the whole has, and of what the writes before it leave.
use borrow.Author.Rules.{rules}
use Rattle.combining.proofs.MergedLaws.{heads-there, number-there, snapshots-there, combined-wrote}
use Rattle.combining.proofs.write.write_combined.Statement.{statement}
use Rattle.combining.proofs.write.write_combined.Tie as tie

-- ---- the needs

write-snapshots-requires : tie.Need-write_snapshots-requires
write-snapshots-requires c κs =
    let written : tie.After-write_number-after_count = search in
    let heads : tie.After-write_heads-after_head = search in
    let start : tie.Start = search in
    let p = start.requires in
    (p.0, p.1, p.2, snapshots-there heads.write_heads-after_head.ensures written.count_versions.ensures p.3 written.write_number-after_count.ensures)

pub write_combined_spec : {M : Type 1} → statement M
write_combined_spec =
    tie.close
    (tie.spec
    (λ c κs. search heads-there)
    (λ c κs. search rules)
    (λ c κs. search number-there)
    write-snapshots-requires
    (λ c. search rules)
    (λ c. search combined-wrote))
