-- Without a count from 1 to 16 there is no batch, and with one its events are the texts after it.
use Rattle.packed.proofs.FieldLaws.{got-bounds}
use Rattle.batch.proofs.FrameLaws.{no-count, count-read}
use Rattle.batch.proofs.frame.read_batch.Goals as goal

pub returns-in_err-count : goal.returns-in_err-count
returns-in_err-count c = rw c.from_residual.ensures (no-count _ c.in_err-count.ensures)

pub read_texts-requires : goal.read_texts-requires
read_texts-requires c = let (some, few) = got-bounds 1 16 c.in_ok-count.ensures in (c.in_ok-count.ensures.within, some, few)

pub returns : goal.returns
returns c = count-read c.in_ok-count.ensures _ c.read_texts.ensures
