-- Question 8 in its three parts, the parents of both together, how many snapshots there are then, and the objects of an unversioned dossier, which always has a
-- snapshot of the event's version.
use Rattle.std.proofs.Common.{◌≡◌, ℕ, List, ◌∙◌}
use borrow.Author.Tests.{not-true, not-false, lt-ltb}
use Rattle.replies.specs.ChosenLimits.{limits_of}
use Rattle.combining.specs.code.AddIndex.{Adding}
use Rattle.combining.proofs.FitLaws.{ToVersions, ToObjects, fits-parents, to-versions, fits-versioned, fits-objects}
use Rattle.combining.proofs.AddLaws.{right-head-is, met-to-objects, fits-unmet, promised-first, first-joined}
use Rattle.combining.proofs.add.added_fits.Goals as goal
use Rattle.combining.proofs.add.added_fits.Goals.{Else-not-parents_fit, Else-not-p}

few-parents :
    (c : Else-not-parents_fit) {table : List ℕ}
    (h : Adding table c.args.sofar.now c.args.measures.now c.args.event.now c.args.e c.args.sets.now c.args.x c.args.body c.args.p c.args.t
    c.args.properties.now) →
    ToVersions h.added.both (limits_of c.args.limits)
few-parents c h = to-versions h.added.both _ c.parents_fit.ensures h.head.hashes (right-head-is h).hashes c.if-not-parents_fit.false

few-snapshots :
    (c : Else-not-p) {table : List ℕ}
    (h : Adding table c.args.sofar.now c.args.measures.now c.args.event.now c.args.e c.args.sets.now c.args.x c.args.body c.args.p c.args.t
    c.args.properties.now) →
    h.added.both.limits ≡ limits_of c.args.limits → ToObjects h.added.both (limits_of c.args.limits)
few-snapshots c h u = met-to-objects h u (few-parents (goal.at.Else-not-p c).Else-not-parents_fit h) (not-false _ c.if-not-p.false)

pub returns-then-not-parents_fit : goal.returns-then-not-parents_fit
returns-then-not-parents_fit c = λ table h u.
    fits-parents h.added.both _ c.parents_fit.ensures h.head.hashes (right-head-is h).hashes c.if-not-parents_fit.true

pub returns-then-not-p : goal.returns-then-not-p
returns-then-not-p c = λ table h u.
    fits-unmet h u (few-parents (goal.at.returns-then-not-p c).Else-not-parents_fit h) (not-true _ c.if-not-p.true)

pub objects_added-requires-clause-at_in_bounds : goal.objects_added-requires-clause-at_in_bounds
objects_added-requires-clause-at_in_bounds c = promised-first c.requires.adding_in.is c.if-t-gt0.false

pub returns-then-t-gt0 : goal.returns-then-t-gt0
returns-then-t-gt0 c = λ table h u.
    let more = c.if-t-gt0.true in
    lt-ltb _ _ more ∙ fits-versioned h.added.both _ (few-snapshots (goal.at.returns-then-t-gt0 c).Else-not-p h u) more

pub returns-else-t-gt0 : goal.returns-else-t-gt0
returns-else-t-gt0 c = λ table h u.
    let none = c.if-t-gt0.false in
    fits-objects h.added.both _ (few-snapshots (goal.at.returns-else-t-gt0 c).Else-not-p h u) none (first-joined h none _ c.objects_added.ensures)
