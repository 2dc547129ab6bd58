-- Question 8 is asked of the parents, then of the versions and then of the objects, and once one of these is answered yes, the whole answer is that of going on
-- (`ToVersions`, `ToObjects`).
use Rattle.std.proofs.Common.{ℕ, List, ◌∙◌}
use borrow.Author.Tests.{lt-ltb}
use Rattle.replies.specs.ChosenLimits.{limits_of}
use Rattle.combining.specs.code.CombineIndex.{Combinable}
use Rattle.combining.proofs.FitLaws.{ToObjects, fits-parents, to-versions, versions-over, versions-few}
use Rattle.combining.proofs.FitLaws.{fits-versioned, fits-objects, firsts-counted}
use Rattle.combining.proofs.limits.limits_fit.Goals as goal
use Rattle.combining.proofs.limits.limits_fit.Goals.{Else-limits-count_versions}
use Rattle.combining.proofs.limits.limits_fit.Goals.{then-not-parents_fit-via-then-not-parents_fit}
use Rattle.combining.proofs.limits.limits_fit.Goals.{then-not-parents_fit-via-else-not-parents_fit+then-limits-count_versions}

few-versions :
    (c : Else-limits-count_versions) {table : List ℕ}
    (h : Combinable table c.args.a.now c.args.d c.args.left.now c.args.b.now c.args.e c.args.right.now c.args.t c.args.properties.now) →
    ToObjects h.known (limits_of c.args.limits)
few-versions c h =
    versions-few h _ (to-versions h.known _ c.parents_fit.ensures h.left-read.head.hashes h.right-read.head.hashes c.if-not-parents_fit.false)
    c.count_versions.ensures c.if-limits-count_versions.false

pub returns-then-not-parents_fit : goal.returns-then-not-parents_fit
returns-then-not-parents_fit c = λ table h.
    elim c.then-not-parents_fit.branch [
      | then-not-parents_fit-via-then-not-parents_fit w ↦
          fits-parents h.known _ c.parents_fit.ensures h.left-read.head.hashes h.right-read.head.hashes w.if-not-parents_fit.true
      | then-not-parents_fit-via-else-not-parents_fit+then-limits-count_versions w ↦
          versions-over h _ (to-versions h.known _ c.parents_fit.ensures h.left-read.head.hashes h.right-read.head.hashes w.if-not-parents_fit.false)
          w.count_versions.ensures w.if-limits-count_versions.true
    ]

pub returns-then-t-gt0 : goal.returns-then-t-gt0
returns-then-t-gt0 c = λ table h.
    let more = c.if-t-gt0.true in
    lt-ltb _ _ more ∙ fits-versioned h.known _ (few-versions (goal.at.returns-then-t-gt0 c).Else-limits-count_versions h) more

pub returns-else-t-gt0 : goal.returns-else-t-gt0
returns-else-t-gt0 c = λ table h.
    let none = c.if-t-gt0.false in
    fits-objects h.known _ (few-versions (goal.at.returns-else-t-gt0 c).Else-limits-count_versions h) none (firsts-counted h none _ c.objects_fit.ensures)
