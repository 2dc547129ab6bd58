use borrow.Author.Rules.{rules}
use native.Mathlib.Omega.{arith}
use Prim.Native.Nat.{◌+◌, ◌≤◌}
use lib.ListN.{length}
use Rattle.packed.specs.Packed.{part}
use Rattle.hashing.proofs.ObjectLaws.{string-parts, wrote-string}
use Rattle.hashing.proofs.objects.write_object.Statement.{statement}
use Rattle.hashing.proofs.objects.write_object.Tie as tie

fits :
    (c : tie.Start) →
    let a = c.args in
    a.at + length (part a.table.now a.x.first a.x.colon) + 1 + length (part a.event.now a.x.second a.x.end) ≤ length a.out.now
fits c = omega (arith, string-parts c.args.table.now c.args.event.now c.args.x)

pub write_object_spec : {M : Type 1} → statement M
write_object_spec =
    tie.close
    (tie.spec
    (λ c κs. omega (arith, fits (search)))
    (λ c κs. omega (arith, fits (search)))
    (λ c κs. omega (arith, fits (search)))
    (λ c. search rules)
    (λ c. search wrote-string))
