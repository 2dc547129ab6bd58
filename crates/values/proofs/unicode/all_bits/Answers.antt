use Rattle.std.proofs.Common.{◌≡◌, rules, tests, bit_or}
use Rattle.std.specs.List.{fold}
use Rattle.std.proofs.lemmas.Iterator.{YieldsList-from_slice}
use Rattle.std.proofs.lemmas.Iterator.Consumers.{fold_from_yields_List}
use Rattle.values.proofs.UnicodeLaws.{joined-low}
use Rattle.values.proofs.unicode.all_bits.Goals as goal

pub returns : goal.returns
returns c h =
    let e : c.fold.result ≡ fold bit_or 0 c.args.v.now =
    fold_from_yields_List _ bit_or 0 _ c.fold.ensures.ran (YieldsList-from_slice c.args.v.now cc) (λ a x b q k. search (rules, tests)) in
    joined-low _ (rw e at h)
