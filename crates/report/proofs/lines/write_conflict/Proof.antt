-- `write_conflict` meets its contract: its five writes are the parts of the line in their order (`wrote-conflict`), and the whole line has room (`fits`).
use borrow.Author.Rules.{rules}
use native.Mathlib.Omega.{arith}
use Prim.Native.Nat.{◌+◌, ◌≤◌}
use lib.ListN.{length}
use Rattle.values.specs.Decimal.{in_decimal}
use Rattle.ontology.specs.Table.{name_at}
use Rattle.report.proofs.LineLaws.{conflict-length, wrote-conflict}
use Rattle.report.proofs.lines.write_conflict.Statement.{statement}
use Rattle.report.proofs.lines.write_conflict.Tie as tie

fits :
    (c : tie.Start) →
    11 + length (in_decimal c.args.version.0) + length (name_at c.requires.1.type c.args.place) ≤ length c.args.out.now
fits c = omega (arith, conflict-length c.requires.1 c.args.version.0)

write-named-requires : tie.Need-write_named-after_name-requires
write-named-requires c κs = (search, search, omega (arith, fits (search)))

write-end-requires : tie.Need-write_end-requires
write-end-requires c κs =
    let s : tie.Start = search in
    omega (arith, fits s, c.write_named-after_name.ensures s.requires.1)

returns : tie.Need-returns
returns c = λ p.
    let word : tie.After-copy-after_word = search in
    let version : tie.After-write_decimal-after_version = search in
    let space : tie.After-copy-after_space = search in
    let name : tie.After-write_named-after_name = search in
    let end : tie.After-write_end = search in
    wrote-conflict p _ word.copy-after_word.ensures version.write_decimal-after_version.ensures space.copy-after_space.ensures
    (name.write_named-after_name.ensures p)
    end.write_end.ensures

pub write_conflict_spec : {M : Type 1} → statement M
write_conflict_spec =
    tie.close
    (tie.spec
    (λ c κs. omega (arith, fits (search)))
    (λ c κs. omega (arith, fits (search)))
    (λ c κs. omega (arith, fits (search)))
    write-named-requires
    write-end-requires
    (λ c. search rules)
    returns)
