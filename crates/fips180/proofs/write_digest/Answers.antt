-- Writing a part is storing its elements.
use Rattle.std.proofs.Common.{◌+◌, List, ℕ, ◌++◌, length, take, drop, arith, sym, ap, ◌∙◌, take_all}
use Rattle.std.proofs.lemmas.List.Edits.{sets-eq}
use Rattle.std.proofs.lemmas.Slice.{put_mid-paste}
use Rattle.fips180.specs.Fips.{sha1_of}
use Rattle.fips180.proofs.Laws.{length-sha1_of}
use Rattle.fips180.proofs.write_digest.Goals as goal

pub returns : goal.returns
returns c =
    let out = c.args.out.now in
    let at = c.args.at in
    let d = sha1_of c.args.message.now in
    let long = length-sha1_of c.args.message.now in
    put_mid-paste at _ out _ d (length d) (c.copy_from_slice.ensures.after ∙ c.sha1.ensures) (omega arith) (omega arith)
    ∙ ap (λ (l : List ℕ). take at out ++ l ++ drop (at + length d) out) (take_all (length d) d (omega arith)) ∙ sym (sets-eq d out at (omega arith))
