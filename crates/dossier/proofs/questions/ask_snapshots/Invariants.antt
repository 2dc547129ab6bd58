-- The answer reached is that of the snapshots before, and going on from it gives the answer of all.
use Rattle.replies.specs.ChosenLimits.{limits_of}
use Rattle.replies.specs.Replies.{asked_of}
use Rattle.dossier.proofs.AskLaws.{AskedFrom}
use Rattle.dossier.proofs.questions.ask_snapshots.Given as goal

abbrev pub invariant-loop-j : goal.invariant-loop-j
invariant-loop-j l = AskedFrom (limits_of l.limits) l.s l.d l.rows l.t l.properties (asked_of l.answer) l.j
