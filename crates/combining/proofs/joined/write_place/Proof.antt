-- `joined::write_place` meets its contract: a place of strategy min or max has one value, the one that is chosen; at any other place all values of both are
-- written. Each need is a law of the place (`PlaceRoom`), of whether it is extreme and of what the calls before it leave.
use borrow.Author.Rules.{rules}
use Rattle.combining.proofs.JoinedLaws.{one-room, value_room, value-wrote, values-there, all-wrote}
use Rattle.combining.proofs.joined.write_place.Statement.{statement}
use Rattle.combining.proofs.joined.write_place.Tie as tie

-- ---- the needs

returns-2 : tie.Need-returns
returns-2 c =
    let values : tie.After-write_values = search in
    let right : tie.After-set_part-2 = search in
    let plain : tie.Else-is_extreme_at = search in
    let start : tie.Start = search in
    all-wrote plain.is_extreme_at.ensures plain.if-is_extreme_at.false right.set_part.ensures right.set_part-2.ensures start.requires.1
    values.write_values.ensures

pub write_place_spec : {M : Type 1} → statement M
write_place_spec =
    tie.close
    (tie.spec
    (λ c κs. search rules)
    (λ c κs. search one-room)
    (λ c κs. search rules) (λ c κs. search rules)
    (λ c κs. search value_room)
    (λ c. search rules)
    (λ c. search value-wrote)
    (λ c κs. search rules) (λ c κs. search rules)
    (λ c κs. search values-there)
    (λ c. search rules)
    returns-2)
