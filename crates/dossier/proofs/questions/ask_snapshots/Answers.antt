-- The masks are those of the type, and so serve for each snapshot. A snapshot's 5 is the answer, and a 6 stays while others follow.
use Rattle.std.proofs.Common.{rules, sym}
use denote.Enum.Bare.{same_true, same_false}
use Rattle.replies.specs.contracts.reply.Refusal.{the_type}
use Rattle.dossier.proofs.AskLaws.{not-lone, is-lone, asked-here, asked-five, asked-fine, asked-six, asked-end}
use Rattle.dossier.proofs.questions.ask_snapshots.Goals as goal
use Rattle.dossier.proofs.questions.ask_snapshots.Goals.{in-Err+else-eq, in_default}

pub returns-then-not-is_lone : goal.returns-then-not-is_lone
returns-then-not-is_lone c = not-lone _ _ _ _ _ _ c.is_lone.ensures c.if-not-is_lone.true

pub loop-j-init : goal.loop-j-init
loop-j-init c = is-lone _ _ _ _ _ _ c.is_lone.ensures c.if-not-is_lone.false

pub returns-then-eq : goal.returns-then-eq
returns-then-eq c =
    asked-five c.loop-j.invariant c.loop-j-test.true (asked-here _ c.loop-j-test.true c.masks_of-m.ensures c.in-Err.ensures)
    (same_true the_type (search rules) _ _ (sym c.if-eq.ensures))

pub loop-j-preserved : goal.loop-j-preserved
loop-j-preserved c = elim c.match-ask_snapshot.branch [
  | in-Err+else-eq v ↦
      rw v.answer-is
      (asked-six c.loop-j.invariant c.loop-j-test.true (asked-here _ c.loop-j-test.true c.masks_of-m.ensures v.in-Err.ensures)
      (same_false the_type _ _ (sym v.if-eq.ensures)))
  | in_default v ↦
      rw v.answer-is
      (asked-fine c.loop-j.invariant c.loop-j-test.true (asked-here _ c.loop-j-test.true c.masks_of-m.ensures v.in_default.ensures))
]

pub returns : goal.returns
returns c = asked-end c.loop-j.invariant c.loop-j-test.false
