-- `write_overfull` meets its contract: its three writes are the parts of the line in their order (`wrote-overfull`), and the whole line has room (`fits`).
use borrow.Author.Rules.{rules}
use native.Mathlib.Omega.{arith}
use Prim.Native.Nat.{◌+◌, ◌≤◌}
use lib.ListN.{length}
use Rattle.ontology.specs.Table.{name_at}
use Rattle.report.proofs.LineLaws.{overfull-length, wrote-overfull}
use Rattle.report.proofs.lines.write_overfull.Statement.{statement}
use Rattle.report.proofs.lines.write_overfull.Tie as tie

fits : (c : tie.Start) → 10 + length (name_at c.requires.1.type c.args.place) ≤ length c.args.out.now
fits c = omega (arith, overfull-length c.requires.1)

write-named-requires : tie.Need-write_named-after_name-requires
write-named-requires c κs = (search, search, omega (arith, fits (search)))

write-end-requires : tie.Need-write_end-requires
write-end-requires c κs =
    let s : tie.Start = search in
    omega (arith, fits s, c.write_named-after_name.ensures s.requires.1)

returns : tie.Need-returns
returns c = λ p.
    let word : tie.After-copy-after_word = search in
    let name : tie.After-write_named-after_name = search in
    let end : tie.After-write_end = search in
    wrote-overfull p word.copy-after_word.ensures (name.write_named-after_name.ensures p) end.write_end.ensures

pub write_overfull_spec : {M : Type 1} → statement M
write_overfull_spec =
    tie.close
    (tie.spec
    (λ c κs. omega (arith, fits (search)))
    write-named-requires
    write-end-requires
    (λ c. search rules)
    returns)
