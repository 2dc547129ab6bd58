-- `write_value` meets its contract: its four writes are the parts of the line in their order (`wrote_value`), and the whole line has room (`fits`).
use borrow.Author.Rules.{rules}
use native.Mathlib.Omega.{arith}
use mathlib.Core.List.{List}
use Prim.Native.Nat.{ℕ, ◌+◌, ◌≤◌}
use lib.ListN.{length}
use Rattle.packed.specs.Packed.{part}
use Rattle.report.proofs.LineLaws.{value-length, wrote_value}
use Rattle.report.proofs.lines.write_value.Statement.{statement}
use Rattle.report.proofs.lines.write_value.Tie as tie

module _ (c : tie.Start) where
  abbrev name : List ℕ
  name = part c.args.table.now c.args.p.start c.args.p.end

  abbrev value : List ℕ
  value = part c.args.event.now c.args.start c.args.end

  fits : c.args.at + length name + 2 + length value ≤ length c.args.out.now
  fits = omega (arith, value-length name value)

pub write_value_spec : {M : Type 1} → statement M
write_value_spec =
    tie.close
    (tie.spec
    (λ c κs. omega (arith, fits (search)))
    (λ c κs. omega (arith, fits (search)))
    (λ c κs. omega (arith, fits (search)))
    (λ c κs. omega (arith, fits (search)))
    (λ c. search rules)
    (λ c. search wrote_value))
