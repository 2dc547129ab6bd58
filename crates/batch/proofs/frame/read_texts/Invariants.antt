-- The events read so far stand where the index says, and the others stand from here on.
use Rattle.std.proofs.Common.{drop}
use Rattle.packed.specs.Parse.{times}
use Rattle.packed.specs.Packed.{read_text}
use Rattle.batch.proofs.FrameLaws.{Passed}
use Rattle.batch.proofs.frame.read_texts.Given as goal

abbrev pub invariant-loop-i : goal.invariant-loop-i
invariant-loop-i l = Passed (times read_text l.count (drop l.at l.batch)) l.batch l.events l.count l.next l.i
