use Rattle.interface.proofs.PackingLaws.{batch-done, batch-refused}
use Rattle.interface.proofs.pack.pack_batch.Goals as goal

pub returns-in-Ok : goal.returns-in-Ok
returns-in-Ok c = batch-done c.in-Ok.is c.low_bits.ensures

pub returns-in-Err : goal.returns-in-Err
returns-in-Err c = batch-refused c.in-Err.is c.number.ensures c.pack_refusal.ensures
