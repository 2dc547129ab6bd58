-- Each event that is refused ends the loop. After the last, the answer is the position of the first event that does not agree with the first one.
use Rattle.std.proofs.Common.{rules, arith}
use Rattle.replies.proofs.RefusalLaws.{passed-on}
use Rattle.batch.proofs.AskedLaws.{first-refuses, goes_first, none-asked, next-refuses, goes-past, goes-alike, goes-apart, none-refuses, apart-refuses}
use Rattle.batch.proofs.asked.ask_events.Goals as goal
use Rattle.batch.proofs.asked.ask_events.Goals.{then-is_none+then-not-events_agree, else-is_none}
use Rattle.batch.proofs.asked.ask_events.Goals.{else-is_none-via-then-is_none+else-not-events_agree, else-is_none-via-else-is_none}

pub returns-in_err-found : goal.returns-in_err-found
returns-in_err-found c = none-asked c.requires.0 c.in_err-found.ensures.ok_part _

pub returns-in_err-t : goal.returns-in_err-t
returns-in_err-t c = first-refuses c.event_part-head.ensures _ _ (passed-on c.from_residual-in_err-t.ensures.1) c.in_err-t.ensures

pub loop-i-init : goal.loop-i-init
loop-i-init c = (search rules, search rules, goes_first c.event_part-head.ensures c.requires.0 c.in_ok-t.ensures)

pub returns-in-Err : goal.returns-in-Err
returns-in-Err c = next-refuses c.loop-i.invariant.2 (omega arith) c.event_part-event.ensures _ c.in-Err.ensures

pub loop-i-preserved : goal.loop-i-preserved
loop-i-preserved c =
    let inv = c.loop-i.invariant.2 in
    let asked = c.in-Ok.ensures in
    let is = c.event_part-event.ensures in
    let more = c.loop-i-test.true in (
      search rules,
      search rules,
      elim c.if-is_none.branch [
        | then-is_none+then-not-events_agree w ↦
            goes-apart inv more is asked w.events_agree.ensures w.if-is_none.ensures w.if-not-events_agree.true w.apart-is
        | else-is_none w ↦ elim w.else-is_none.branch [
          | else-is_none-via-then-is_none+else-not-events_agree v ↦
              goes-alike inv more is asked v.events_agree.ensures v.if-not-events_agree.false w.apart-is
          | else-is_none-via-else-is_none v ↦ goes-past inv more is asked v.if-is_none.ensures w.apart-is
        ]
      ],
    )

pub returns-in-Some : goal.returns-in-Some
returns-in-Some c = apart-refuses c.loop-i.invariant.2 (omega arith) c.in-Some.is

pub returns-in-None : goal.returns-in-None
returns-in-None c = none-refuses c.loop-i.invariant.2 (omega arith) c.in-None.is
