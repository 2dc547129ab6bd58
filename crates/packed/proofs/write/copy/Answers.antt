use Rattle.std.proofs.Common.{arith, refl, ◌∙◌}
use Rattle.packed.proofs.CopyLaws.{copied_byte, copied_all}
use Rattle.packed.proofs.write.copy.Goals as goal
use Rattle.packed.proofs.write.copy.Goals.{in-4-to-8, in-9-to-16, in-17-to-32, in_default+else-loop-i-test}

pub loop-i-preserved : goal.loop-i-preserved
loop-i-preserved c = copied_byte c.loop-i.invariant (omega arith) refl

pub returns : goal.returns
returns c = record {
  bytes = elim c.if-n-lt4.branch [
    | in-4-to-8 w ↦ w.out-is ∙ w.copy_ends.ensures
    | in-9-to-16 w ↦ w.out-is ∙ w.copy_ends-in-9-to-16.ensures
    | in-17-to-32 w ↦ w.out-is ∙ w.copy_ends-in-17-to-32.ensures
    | in_default+else-loop-i-test w ↦ w.out-is ∙ (copied_all w.loop-i.invariant (omega arith) refl).bytes
  ];
  after = refl;
}
