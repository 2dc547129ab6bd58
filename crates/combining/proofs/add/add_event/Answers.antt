-- The event and the head of the dossier are read, and the event's snapshot has its place among those of the dossier: that is all that is asked for to add it
-- (`ReadFor`). Then question 8 is asked, and the dossier with the event is written, as combining both would write it.
use Rattle.std.proofs.Common.{rules, arith}
use Rattle.replies.specs.ChosenLimits.{limits_of}
use Rattle.combining.proofs.CheckLaws.{known-some, known-checked, checkable}
use Rattle.combining.proofs.CombineLaws.{combine-full, combine-done}
use Rattle.combining.proofs.AddLaws.{has-head, head-stops, measured-in, body-begins, ReadFor, version-known, is-adding, permitted, added-inside, added-there}
use Rattle.combining.proofs.add.add_event.Goals as goal
use Rattle.combining.proofs.add.add_event.Goals.{After-place_of-p}

read-for :
    (c : After-place_of-p) →
    ReadFor (limits_of c.args.limits) c.args.sofar.now c.args.measures.now c.args.event.now c.unwrap-e.result c.read_event.new.sets
    c.unwrap-after_head.result.0 c.unwrap-after_head.result.1 c.place_of-p.result c.args.t c.version_of-version.result
read-for c = record {
  found = c.read_event.result;
  reads = c.read_event.ensures;
  there = c.unwrap-e.ensures;
  versioned = c.version_of-version.ensures;
  stops = head-stops c.read_dossier_head.ensures c.unwrap-after_head.ensures;
  placed = c.place_of-p.ensures;
}

pub unwrap-e-requires : goal.unwrap-e-requires
unwrap-e-requires c = known-some c.requires.addable_under.0.added.new _ _ c.read_event.ensures

pub version_of-version-requires : goal.version_of-version-requires
version_of-version-requires c =
    (search rules, checkable (known-checked c.requires.addable_under.0.added.new _ _ c.read_event.ensures c.unwrap-e.ensures))

pub unwrap-after_head-requires : goal.unwrap-after_head-requires
unwrap-after_head-requires c = let a = c.requires.addable_under.0 in has-head a.added a.under _ c.read_dossier_head.ensures

pub overflow_add-body : goal.overflow_add-body
overflow_add-body c =
    let a = c.requires.addable_under.0 in
    omega (arith, (body-begins a.added a.under (head-stops c.read_dossier_head.ensures c.unwrap-after_head.ensures)).0)

pub place_of-p-requires : goal.place_of-p-requires
place_of-p-requires c = (measured-in c.requires.addable_under.0.added, c.requires.addable_under.2)

pub added_fits-requires-clause-adding_in : goal.added_fits-requires-clause-adding_in
added_fits-requires-clause-adding_in c = record {
  table = _;
  is = is-adding (read-for (goal.at.added_fits-requires-clause-adding_in c).After-place_of-p) c.requires.addable_under.0;
}

pub returns-then-not-added_fits-clause-out_after : goal.returns-then-not-added_fits-clause-out_after
returns-then-not-added_fits-clause-out_after c = λ a.
    let r = read-for (goal.at.returns-then-not-added_fits-clause-out_after c).After-place_of-p in
    combine-full (permitted r a) _ _ _ _ c.requires.dossier_capacity_in_bounds.1 a.added.both a.under (c.added_fits.ensures _ (is-adding r a) a.under)
    c.if-not-added_fits.true

pub write_added-requires : goal.write_added-requires
write_added-requires c =
    let r = read-for (goal.at.write_added-requires c).After-place_of-p in
    let p = c.requires.addable_under in
    let room = c.requires.dossier_capacity_in_bounds in
    let inside = added-inside r p.0 c.added_fits.ensures c.if-not-added_fits.false in
    (search rules, p.1, p.2, added-there r p.0 inside room.0 room.1)

pub returns-clause-out_after : goal.returns-clause-out_after
returns-clause-out_after c = λ a.
    let r = read-for (goal.at.returns-clause-out_after c).After-place_of-p in
    let h = is-adding r a in
    let fits = c.added_fits.ensures _ h a.under in
    let yes-all = c.if-not-added_fits.false in
    let written = c.write_added.ensures.by_index _ h (version-known r a) (added-inside r a c.added_fits.ensures yes-all) in
    combine-done (permitted r a) _ _ _ _ c.requires.dossier_capacity_in_bounds.1 a.added.both a.under fits yes-all _ _ written

pub returns-clause-measured : goal.returns-clause-measured
returns-clause-measured c = λ a n z.
    let r = read-for (goal.at.returns-clause-measured c).After-place_of-p in
    c.write_added.ensures.measured _ (is-adding r a) (version-known r a)
