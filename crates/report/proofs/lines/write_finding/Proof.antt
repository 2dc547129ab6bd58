use borrow.Author.Rules.{rules}
use Rattle.report.proofs.LineLaws.{conflict-named, conflict-fits, found-conflict, overfull-named, overfull-fits, found-overfull}
use Rattle.report.proofs.lines.write_finding.Statement.{statement}
use Rattle.report.proofs.lines.write_finding.Tie as tie

write-conflict-requires : tie.Need-write_conflict-requires
write-conflict-requires c κs =
    let s : tie.Start = search in
    let told = c.in-Conflict.is in
    (search, conflict-named _ s.requires.1 told, conflict-fits _ s.requires.1 told s.requires.2)

write-overfull-requires : tie.Need-write_overfull-requires
write-overfull-requires c κs =
    let s : tie.Start = search in
    let told = c.in-Overfull.is in
    (search, overfull-named _ s.requires.1 told, overfull-fits _ s.requires.1 told s.requires.2)

returns : tie.Need-returns-in-Conflict
returns c = λ p. let arm : tie.In-Conflict = search in found-conflict _ p arm.in-Conflict.is c.write_conflict.ensures

returns-2 : tie.Need-returns-in-Overfull
returns-2 c = λ p. let arm : tie.In-Overfull = search in found-overfull _ p arm.in-Overfull.is c.write_overfull.ensures

pub write_finding_spec : {M : Type 1} → statement M
write_finding_spec =
    tie.close
    (tie.spec (λ c. search rules) write-conflict-requires (λ c. search rules) write-overfull-requires (λ c. search rules) returns
    (λ c. search rules) returns-2)
