-- A round more.
use Rattle.std.proofs.Common.{arith}
use Rattle.fips180.proofs.Laws.{rounds-more}
use Rattle.fips180.proofs.twenty.Goals as goal

pub loop-t-preserved : goal.loop-t-preserved
loop-t-preserved c = λ ws h words held.
    rounds-more _ ws _ _ h _ _ (omega arith) words (c.loop-t.invariant ws h words held) c.round_of-r.ensures
