-- So many values stand there that none fails to be read.
use Rattle.std.proofs.Common.{◌≡◌, ◌+◌, ◌-◌, arith, sym, ◌∙◌}
use Rattle.packed.proofs.ReadLaws.{text-stops, text-none}
use Rattle.hashing.proofs.GatherLaws.{standing-bad, set-start, set_more, set_all}
use Rattle.hashing.proofs.gather.gather_set.Goals as goal

pub loop-n-init : goal.loop-n-init
loop-n-init c =
    let all : c.args.count + c.args.set.count - c.args.count ≡ c.args.set.count = omega arith in
    rw all (set-start c.requires.4 c.requires.0 c.requires.3)

pub returns-in_default : goal.returns-in_default
returns-in_default c =
    let inv = c.loop-n.invariant in
    let none = text-none _ _ (sym c.read_text.ensures ∙ c.in_default.is) in
    record { fit = inv.fit; gathered = λ vs w. absurd (standing-bad (inv.so_far vs _ w).stand (omega arith) (omega arith) none) }

pub insert_string-requires : goal.insert_string-requires
insert_string-requires c =
    let t = text-stops _ _ _ (sym c.read_text.ensures ∙ c.in-Some.is) in
    (c.loop-n.invariant.fit, omega (arith, t), omega arith, c.loop-n.invariant.size)

pub loop-n-preserved : goal.loop-n-preserved
loop-n-preserved c =
    let n = c.loop-n.n in
    let all = c.args.count + c.args.set.count in
    let left : all - (n + 1) ≡ all - n - 1 = omega arith in
    rw left
    (set_more c.loop-n.invariant (omega arith) (omega arith) (text-stops _ _ _ (sym c.read_text.ensures ∙ c.in-Some.is)) (omega arith)
    c.insert_string.ensures)

pub returns : goal.returns
returns c = let (fit, all) = set_all c.loop-n.invariant (omega arith) (omega arith) in record { fit = fit; gathered = all }
