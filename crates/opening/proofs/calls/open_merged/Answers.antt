-- The plan tells the overfull place. Where there is none, the event that is written is what the dossier opens as.
use lib.ListN.{get_or-replicate}
use Rattle.opening.proofs.OpenLaws.{writable, replies-overfull, replies-merged}
use Rattle.opening.proofs.calls.open_merged.Goals as goal

pub plan_sets-requires-clause-by_index : goal.plan_sets-requires-clause-by_index
plan_sets-requires-clause-by_index c = λ i h. get_or-replicate 128 i 0 0 h

pub write_event-requires : goal.write_event-requires
write_event-requires c =
    let p = c.requires.count_in_bounds in
    let o = c.requires.openable in
    (p.0, c.plan_sets.auto.plan, o.typed.are.few, writable o c.plan_sets.ensures p.2)

pub returns-in-Some : goal.returns-in-Some
returns-in-Some c = λ o free. replies-overfull o c.plan_sets.ensures c.find_overfull.ensures free c.in-Some.is _

pub returns-in-None : goal.returns-in-None
returns-in-None c =
    λ o free.
    replies-merged o c.plan_sets.ensures c.find_overfull.ensures free c.in-None.is c.requires.count_in_bounds.2 c.write_event.ensures
