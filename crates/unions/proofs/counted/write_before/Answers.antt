-- The bytes that stand already have moved up by what the number takes over one byte, in both ways of the branch, and the number is then written from `at` up
-- to where they stand.
use Rattle.std.proofs.Common.{◌≡◌, ◌+◌, ◌-◌, length, sym, ◌∙◌, subst, arith}
use Rattle.packed.specs.Packed.{number}
use Rattle.packed.proofs.LayoutLaws.{number-bounds}
use Rattle.packed.proofs.WriteLaws.{wrote-length}
use Rattle.unions.proofs.CountedLaws.{MovedFrom, moved_by, moved-not, wrote-before}
use Rattle.unions.proofs.counted.write_before.Goals as goal
use Rattle.unions.proofs.counted.write_before.Goals.{then-more-gt0, else-more-gt0}

pub overflow_sub-more : goal.overflow_sub-more
overflow_sub-more c = omega (arith, c.number_size-more.ensures, number-bounds c.args.n)

pub returns : goal.returns
returns c = λ l bytes w.
    let size : length (number c.args.n) ≡ c.number_size-more.result - 1 + 1 = omega (arith, c.number_size-more.ensures, number-bounds c.args.n) in
    let moved : MovedFrom c.args.out.now c.args.end (c.number_size-more.result - 1) (c.args.at + 1) c.if-more-gt0.out =
    elim c.if-more-gt0.branch [
      | then-more-gt0 v ↦ moved_by (v.out-is ∙ v.move_up.ensures)
      | else-more-gt0 v ↦ subst (MovedFrom _ _ _ _) (sym v.out-is) (moved-not _ _ _ _ (omega arith) (omega arith) (omega (arith, size)))
    ] in
    wrote-before size (omega (arith, wrote-length w)) w moved c.write_number.ensures
