use Rattle.values.proofs.InstantLaws.{datetime-short, stamp-less, stamp-more, stamp-same}
use Rattle.values.proofs.calendar.compare_moments.Goals as goal
use Rattle.values.proofs.calendar.compare_moments.Goals.{then-a-lt20-via-then-a-lt20, then-a-lt20-via-else-a-lt20+then-b-lt20}

pub returns-then-a-lt20 : goal.returns-then-a-lt20
returns-then-a-lt20 c p q =
    elim c.then-a-lt20.branch [
      | then-a-lt20-via-then-a-lt20 w ↦ absurd (datetime-short _ w.if-a-lt20.true p)
      | then-a-lt20-via-else-a-lt20+then-b-lt20 w ↦ absurd (datetime-short _ w.if-b-lt20.true q)
    ]

pub returns-then-x-y : goal.returns-then-x-y
returns-then-x-y c = stamp-less _ _ c.stamp-x.ensures c.stamp-y.ensures c.if-x-y.true

pub returns-then-y-x : goal.returns-then-y-x
returns-then-y-x c = stamp-more _ _ c.stamp-x.ensures c.stamp-y.ensures c.if-y-x.true

pub returns : goal.returns
returns c =
    stamp-same _ _ c.stamp-x.ensures c.stamp-y.ensures c.if-x-y.false c.if-y-x.false c.fraction.ensures c.fraction-2.ensures c.compare_fractions.ensures
