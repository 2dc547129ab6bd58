use borrow.Author.Rules.{rules}
use native.Mathlib.Omega.{arith}
use Prim.Native.Nat.{◌+◌, ◌≤◌}
use lib.ListN.{length, length-append}
use Rattle.packed.specs.Packed.{part}
use Rattle.packed.proofs.WriteLaws.{wrote_then}
use Rattle.hashing.proofs.text.write_line.Statement.{statement}
use Rattle.hashing.proofs.text.write_line.Tie as tie

fits : (c : tie.Start) → c.args.at + length (part c.args.s.now c.args.from c.args.to) + 1 ≤ length c.args.out.now
fits c = omega (arith, simp length-append at c.requires.2)

pub write_line_spec : {M : Type 1} → statement M
write_line_spec =
    tie.close
    (tie.spec
    (λ c κs. omega (arith, fits (search)))
    (λ c κs. omega (arith, fits (search)))
    (λ c. search rules)
    (λ c. search wrote_then))
