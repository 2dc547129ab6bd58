-- Each return before the comparison is that run j has no value, or that nothing was found before; each of the others is how the first value of run j compares
-- with the least so far.
use Rattle.std.proofs.Common.{refl, get_or, arith}
use Rattle.unions.proofs.MergeLaws.{HeadOf, answer-end, answer-no-head, first-answer, less-answer, both-answer, kept-answer}
use Rattle.unions.proofs.many.lesser.Goals as goal
use Rattle.unions.proofs.many.lesser.Goals.{In-Some}

-- the value that stands first in run j
head : (c : In-Some) → HeadOf c.args.s.now c.args.at.now c.args.j c.args.end (record { start = get_or c.args.at.now c.args.j 0; text = c.in-Some.text })
head c = record { short = omega arith; start = refl; some = omega arith; inside = omega arith; head = c.in-Some.ensures }

pub returns-then-end-start : goal.returns-then-end-start
returns-then-end-start c = answer-end c.requires.right_least c.if-end-start.true

pub returns-in_default : goal.returns-in_default
returns-in_default c = answer-no-head c.requires.right_least (omega arith) c.in_default.ensures

pub returns-in_default-best : goal.returns-in_default-best
returns-in_default-best c =
    rw c.in_default-best.is
    (first-answer (head (goal.at.returns-in_default-best c).In-Some) _ (rw c.in_default-best.is at c.requires.right_least))

pub returns-in-Less : goal.returns-in-Less
returns-in-Less c = rw c.in-Some-best.is (less-answer (head (goal.at.returns-in-Less c).In-Some) c.in-Less.ensures)

pub returns-in-Equal : goal.returns-in-Equal
returns-in-Equal c =
    rw c.in-Some-best.is
    (both-answer (head (goal.at.returns-in-Equal c).In-Some) (rw c.in-Some-best.is at c.requires.right_least) (omega arith) c.in-Equal.ensures)

pub returns-in-Greater : goal.returns-in-Greater
returns-in-Greater c =
    rw c.in-Some-best.is
    (kept-answer (head (goal.at.returns-in-Greater c).In-Some) (rw c.in-Some-best.is at c.requires.right_least) c.in-Greater.ensures)
