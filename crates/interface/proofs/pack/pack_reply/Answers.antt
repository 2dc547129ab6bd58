use Rattle.interface.proofs.PackingLaws.{reply-done, reply-refused}
use Rattle.interface.proofs.pack.pack_reply.Goals as goal

pub returns-in-Ok : goal.returns-in-Ok
returns-in-Ok c = reply-done c.in-Ok.is c.low_bits.ensures

pub returns-in-Err : goal.returns-in-Err
returns-in-Err c = reply-refused c.in-Err.is c.number.ensures c.pack_refusal.ensures
