-- Each quarter of the rounds finds its words written.
use Rattle.std.proofs.Common.{sym, refl, ap, ◌∙◌}
use Rattle.fips180.specs.Fips.{schedule, rounds, sum, compressed}
use Rattle.fips180.specs.code.StateWords.{words_of}
use Rattle.fips180.proofs.Laws.{schedule-take}
use Rattle.fips180.proofs.compress.Goals as goal

pub returns : goal.returns
unfolding compressed rounds
returns c =
    let m = c.args.m.now in
    let s = words_of c.args.s in
    let ws = schedule m 80 in
    let w20 = c.extend.ensures m c.block_words.ensures in
    let w40 = c.extend-2.ensures m w20 in
    let w60 = c.extend-3.ensures m w40 in
    let w80 = c.extend-4.ensures m w60 in
    let r20 = c.twenty-r.ensures ws s (w20 ∙ sym (schedule-take m 20 60)) refl in
    let r40 = c.twenty-r-2.ensures ws s (w40 ∙ sym (schedule-take m 40 40)) r20 in
    let r60 = c.twenty-r-3.ensures ws s (w60 ∙ sym (schedule-take m 60 20)) r40 in
    let r80 = c.twenty-r-4.ensures ws s (w80 ∙ sym (schedule-take m 80 0)) r60 in
    c.sum_of.ensures ∙ ap (sum s) r80
