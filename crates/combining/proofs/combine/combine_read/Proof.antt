-- `combine::combine_read` meets its contract: question 8 is asked of two dossiers of which the others are answered yes, and what is written of them is what the
-- call answers (`combine-done`), for which there is room since no limit is passed.
use borrow.Author.Rules.{rules}
use borrow.Author.Tests.{not-true, not-false}
use mathlib.Core.Path.{◌≡◌, subst}
use mathlib.Core.Bool.{true}
use native.Mathlib.Omega.{arith}
use Rattle.model.specs.Limits.{Permitted}
use Rattle.replies.specs.ChosenLimits.{limits_of}
use Rattle.combining.proofs.CombineLaws.{Within, combine-inside, combine-full, combine-room, combine-done}
use Rattle.combining.proofs.combine.combine_read.Statement.{statement}
use Rattle.combining.proofs.combine.combine_read.Tie as tie

-- ---- the places

abbrev to_start : tie.After-slice_known-1 → tie.Start
to_start c = (search)

abbrev asked-to-start : tie.After-limits_fit → tie.Start
asked-to-start c = to_start (search)

-- ---- the facts

answered :
    (c : tie.After-limits_fit) → let s = asked-to-start c in
    c.limits_fit.result ≡ Within (limits_of s.args.limits) s.requires.1.both.known
answered c = c.limits_fit.ensures _ (asked-to-start c).requires.1.both

permitted : (c : tie.Start) → Permitted (limits_of c.args.limits)
permitted c = let h = c.requires.1 in subst Permitted h.under h.both.known.permitted

-- no limit is passed
inside : (c : tie.Else-not-limits_fit) → c.limits_fit.result ≡ true
inside c = not-false _ c.if-not-limits_fit.false-raw

-- ---- the needs

returns : tie.Need-returns-then-not-limits_fit
returns c =
    let asked = c in
    let ((_, _, _, room), h) = (asked-to-start (search)).requires in
    combine-full (permitted (asked-to-start (search))) _ _ _ _ room h.both.known h.under (answered (search)) (not-true _ c.if-not-limits_fit.true-raw)

write-combined-requires : tie.Need-write_combined-requires
write-combined-requires c κs =
    let asked = c in
    let ok = permitted (asked-to-start (search)) in
    let ((left, right, long, room), h) = (asked-to-start (search)).requires in
    let yes-all = inside (search) in (
      left,
      right,
      long,
      record {
        table = _;
        both = h.both;
        inside = λ u z. combine-inside ok z.known (asked.limits_fit.ensures u z) yes-all;
        room = combine-room h.both.known (combine-inside ok h.both.known (answered (search)) yes-all) _ room;
      },
    )

returns-2 : tie.Need-returns
returns-2 c =
    let wrote : tie.After-write_combined = search in
    let fitted : tie.Else-not-limits_fit = search in
    let asked : tie.After-limits_fit = search in
    let ((_, _, _, room), h) = (asked-to-start asked).requires in
    combine-done (permitted (asked-to-start asked)) _ _ _ _ room h.both.known h.under (answered asked) (inside fitted) _ _
    (wrote.write_combined.ensures _ h.both)

pub combine_read_spec : {M : Type 1} → statement M
combine_read_spec =
    tie.close
    (tie.spec
    (λ c κs. search (rules, arith))
    returns
    write-combined-requires
    (λ c. search rules)
    returns-2)
