use borrow.Author.Rules.{rules}
use Rattle.packed.proofs.WriteLaws.{wrote_then}
use Rattle.hashing.proofs.objects.write_next.Statement.{statement}
use Rattle.hashing.proofs.objects.write_next.Tie as tie

pub write_next_spec : {M : Type 1} → statement M
write_next_spec =
    tie.close
    (tie.spec
    (λ c κs. search rules) (λ c κs. search rules) (λ c. search rules)
    (λ c. search wrote_then))
