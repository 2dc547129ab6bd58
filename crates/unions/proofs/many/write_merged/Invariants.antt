use Rattle.std.proofs.Common.{◌-◌, length}
use Rattle.unions.proofs.MergeLaws.{Merges}
use Rattle.unions.proofs.many.write_merged.Given as goal

abbrev pub invariant-loop-least : goal.invariant-loop-least
invariant-loop-least l = Merges l.s l.fn.starts l.ends l.n l.fn.out l.at l.out l.left l.next l.count

abbrev pub decreases-loop-least : goal.decreases-loop-least
decreases-loop-least l = length l.initial.out - l.next
