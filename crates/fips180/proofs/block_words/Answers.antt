-- A word that the library reads from its four bytes is the block's.
use Rattle.std.proofs.Common.{rules, arith}
use Rattle.fips180.specs.Fips.{schedule, word_at}
use Rattle.fips180.proofs.Laws.{schedule_low}
use Rattle.fips180.proofs.block_words.Goals as goal

pub loop-t-init : goal.loop-t-init
unfolding schedule
loop-t-init c = search rules

pub loop-t-preserved : goal.loop-t-preserved
unfolding word_at
loop-t-preserved c = schedule_low _ _ _ _ (omega arith) (omega arith) c.loop-t.invariant c.from_be_bytes.ensures
