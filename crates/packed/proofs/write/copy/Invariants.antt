use Rattle.packed.proofs.CopyLaws.{Copied}
use Rattle.packed.proofs.write.copy.Given as goal

abbrev pub invariant-loop-i : goal.invariant-loop-i
invariant-loop-i l = Copied l.initial.out l.at l.src l.i l.out
