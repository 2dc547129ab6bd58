-- The whole answer is the answer of going on from here.
use Rattle.std.proofs.Common.{◌≡◌, length}
use Rattle.batch.proofs.AskedLaws.{GoesOn}
use Rattle.batch.proofs.asked.ask_events.Given as goal

abbrev pub invariant-loop-i : goal.invariant-loop-i
invariant-loop-i l =
    (length l.left ≡ 96) × (length l.right ≡ 96) × GoesOn l.table l.batch l.x l.head l.left l.d l.t l.properties l.i l.apart
