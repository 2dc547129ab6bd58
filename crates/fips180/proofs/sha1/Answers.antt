-- The blocks that the code reads are those of the padded message.
use Rattle.std.proofs.Common.{◌≡◌, ◌/◌, length, arith, ap, ◌∙◌, refl}
use Rattle.fips180.specs.Fips.{H0, hash, padded, digest, sha1_of}
use Rattle.fips180.proofs.Laws.{blocks_of, hash-more}
use Rattle.fips180.proofs.sha1.Goals as goal

pub loop-i-init : goal.loop-i-init
unfolding hash H0
loop-i-init c = refl

pub add_block-s-requires : goal.add_block-s-requires
add_block-s-requires c = omega (arith, blocks_of c.args.message.now, c.div_ceil-blocks.ensures)

pub loop-i-preserved : goal.loop-i-preserved
loop-i-preserved c = hash-more _ _ _ _ c.loop-i.invariant c.add_block-s.ensures

pub returns : goal.returns
unfolding sha1_of
returns c =
    let all : c.loop-i.i ≡ length (padded c.args.message.now) / 64 = omega (arith, blocks_of c.args.message.now, c.div_ceil-blocks.ensures) in
    c.digest_of.ensures ∙ ap digest (c.loop-i.invariant ∙ ap (hash (padded c.args.message.now)) all)
