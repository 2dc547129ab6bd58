use Rattle.interface.proofs.PackingLaws.{refusal_is}
use Rattle.interface.proofs.pack.pack_refusal.Goals as goal

pub returns : goal.returns
returns c = refusal_is c.args.number c.args.position
