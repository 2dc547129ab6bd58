-- The values of the union are written after the first byte of its count (`values-room`), and their count before them (`wrote-union`).
use borrow.Author.Rules.{rules}
use mathlib.Core.Path.{refl}
use Rattle.opening.proofs.WriteRoomLaws.{values-room, count_room, wrote-union}
use Rattle.opening.proofs.write.write_joined.Statement.{statement}
use Rattle.opening.proofs.write.write_joined.Tie as tie

-- ---- the places

abbrev to_start : tie.After-runs_of-runs → tie.Start
to_start c = (search)

abbrev to-runs : tie.After-write_merged-joined → tie.After-runs_of-runs
to-runs c = (search)

abbrev to_values : tie.After-write_before-arg-1 → tie.After-write_merged-joined
to_values c = (search)

-- ---- the needs

write-merged-requires : tie.Need-write_merged-joined-requires
write-merged-requires c κs =
    let runs = c in
    let p = (to_start (search)).requires in
    (search rules, values-room p.3 runs.runs_of-runs.ensures)

write-before-requires : tie.Need-write_before-requires
write-before-requires c κs =
    let values = to_values c in
    let runs = to-runs values in
    let e = values.write_merged-joined.ensures in
    count_room (to_start runs).requires.3 runs.runs_of-runs.ensures e.0 e.1 refl

returns : tie.Need-returns
returns c =
    let before = c in
    let values = to_values (search) in
    let e = values.write_merged-joined.ensures in
    λ p. wrote-union p (to-runs values).runs_of-runs.ensures e.0 e.1 before.write_before.ensures

pub write_joined_spec : {M : Type 1} → statement M
write_joined_spec =
    tie.close
    (tie.spec
    (λ c κs. search rules) (λ c. search rules)
    write-merged-requires
    write-before-requires
    (λ c. search rules)
    returns)
