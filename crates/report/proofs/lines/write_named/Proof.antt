use borrow.Author.Rules.{rules}
use native.Mathlib.Omega.{arith}
use mathlib.Core.Path.{ap}
use lib.ListN.{length}
use Rattle.packed.proofs.WriteLaws.{wrote_as}
use Rattle.report.proofs.LineLaws.{place-below, place_is, place-name}
use Rattle.report.proofs.lines.write_named.Statement.{statement}
use Rattle.report.proofs.lines.write_named.Tie as tie

property-at-requires : tie.Need-property_at-requires
property-at-requires c κs = (search rules, place-below c.requires.1)

write-name-requires : tie.Need-write_name-requires
write-name-requires c κs =
    let s : tie.Start = search in
    let same = c.property_at.ensures in
    let property = place_is s.requires.1 same in
    (property.order, property.within, omega (arith, ap length (place-name s.requires.1 same)))

returns : tie.Need-returns
returns c = λ p.
    let taken : tie.After-property_at = search in
    wrote_as (place-name p taken.property_at.ensures) c.write_name.ensures

pub write_named_spec : {M : Type 1} → statement M
write_named_spec = tie.close (tie.spec property-at-requires write-name-requires (λ c. search rules) returns)
