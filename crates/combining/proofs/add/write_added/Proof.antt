-- `add::write_added` meets its contract: the head with the parents of both, how many snapshots there are, and these are written one after the other. They are
-- the bytes of the dossier with the event, and the measures are those of its snapshots.
use borrow.Author.Rules.{rules}
use Rattle.combining.proofs.AddLaws.{HasPlace, heads-within, place-there, number-within, with-there, added-wrote, measured-with}
use Rattle.combining.proofs.add.write_added.Statement.{statement}
use Rattle.combining.proofs.add.write_added.Tie as tie

-- ---- the places

abbrev to_start : tie.After-write_heads-arg-1 → tie.Start
to_start c = (search)

abbrev to_heads : tie.After-slice_known-5-1 → tie.After-write_heads-after_head
to_heads c = (search)

abbrev count-to-heads : tie.After-count_with → tie.After-write_heads-after_head
count-to-heads c = to_heads (search)

abbrev to_number : tie.After-write_with-arg-2-1 → tie.After-write_number-at
to_number c = (search)

abbrev to-with : tie.After-slice_known-8-1 → tie.After-write_with-w
to-with c = (search)

-- ---- the facts

placed : (c : tie.Start) → HasPlace c.args.measures.now c.args.p
placed c = place-there c.requires.3

-- ---- the needs

write-with-requires : tie.Need-write_with-w-requires
write-with-requires c κs =
    let written = to_number c in
    let counted = written in
    let heads = count-to-heads (search) in
    let p = (to_start (search)).requires in
    (p.0, p.1, with-there heads.write_heads-after_head.ensures counted.count_with.ensures p.3 written.write_number-at.ensures)

returns : tie.Need-returns
returns c =
    let put : tie.After-put_snapshot = search in
    let wrote = to-with (search) in
    let written = to_number (search) in
    let counted : tie.After-count_with = search in
    let heads = count-to-heads counted in (
      added-wrote heads.write_heads-after_head.ensures counted.count_with.ensures (to_start (search)).requires.3 written.write_number-at.ensures
          wrote.write_with-w.ensures.0,
      λ table h n. measured-with h n (wrote.write_with-w.ensures.1 table _ _ h n) put.put_snapshot.ensures,
    )

pub write_added_spec : {M : Type 1} → statement M
write_added_spec =
    tie.close
    (tie.spec
    (λ c κs. search heads-within)
    (λ c. search rules)
    (λ c κs. (placed (search)).0)
    (λ c κs. search number-within)
    write-with-requires
    (λ c κs. search (placed (search)))
    (λ c. search rules) (λ c. search rules) (λ c. search rules)
    returns)
