-- `check::write_lone` meets its contract: the head, which is copied as it stands in the event, the count of one snapshot and the snapshot are written one after
-- the other. The snapshot is the last write, so that its start and its end say its size.
use borrow.Author.Rules.{rules}
use Rattle.combining.proofs.LoneLaws.{size-within, head-there, one-there, alone-there, lone-wrote, wrote-size}
use Rattle.combining.proofs.check.write_lone.Statement.{statement}
use Rattle.combining.proofs.check.write_lone.Tie as tie

-- ---- the places

abbrev to_start : tie.After-number_size → tie.Start
to_start c = (search)

-- ---- the needs

copy-part-requires : tie.Need-copy_part-after_head-requires
copy-part-requires c κs = let sized = c in head-there sized.number_size.ensures (to_start (search)).requires.1

returns : tie.Need-returns
returns c = let w = c.write_alone-end.ensures in (search (lone-wrote, w), λ e is. wrote-size (w e is))

pub write_lone_spec : {M : Type 1} → statement M
write_lone_spec =
    tie.close
    (tie.spec
    (λ c κs. search rules)
    (λ c. search size-within)
    copy-part-requires
    (λ c κs. search one-there)
    (λ c κs. search alone-there)
    (λ c. search rules)
    returns)
