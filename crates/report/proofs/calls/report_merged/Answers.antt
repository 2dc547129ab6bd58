-- The call `hash` gives the event's hash, and what is read of the table and the event is what `write_merged` asks for.
use Rattle.std.proofs.Common.{rules, refl, sym, ◌∙◌}
use Rattle.report.proofs.ReportLaws.{hash-ok, digest-is, type-had, type-read, event-had, event-read, lines-ready, lines-merged}
use Rattle.report.proofs.calls.report_merged.Goals as goal

pub unwrap-requires : goal.unwrap-requires
unwrap-requires c = hash-ok c.requires.2 _ _ _ refl c.hash.ensures

pub unwrap-t-requires : goal.unwrap-t-requires
unwrap-t-requires c = rw c.flatten.ensures (type-had c.requires.2 _ _ _ c.read_table.ensures c.type_name.ensures)

pub unwrap-e-requires : goal.unwrap-e-requires
unwrap-e-requires c = event-had c.requires.2 _ _ c.read_event.ensures

pub write_merged-requires : goal.write_merged-requires
write_merged-requires c =
    let m = c.requires.2 in
    let typed = type-read m _ _ _ c.read_table.ensures c.type_name.ensures (sym c.flatten.ensures ∙ c.unwrap-t.ensures) in
    let read = event-read m _ _ c.read_event.ensures c.unwrap-e.ensures in
    (search rules, search rules, lines-ready m typed read (digest-is m _ _ _ refl c.hash.ensures))

pub returns : goal.returns
returns c = λ t e m.
    let typed = type-read m _ _ _ c.read_table.ensures c.type_name.ensures (sym c.flatten.ensures ∙ c.unwrap-t.ensures) in
    let read = event-read m _ _ c.read_event.ensures c.unwrap-e.ensures in
    let digest = digest-is m _ _ _ refl c.hash.ensures in
    lines-merged m digest (c.write_merged.ensures (lines-ready m typed read digest))
