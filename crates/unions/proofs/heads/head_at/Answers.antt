use Rattle.std.proofs.Common.{arith}
use Rattle.unions.proofs.RunLaws.{texts-head, hash-within, no-hash}
use Rattle.unions.proofs.heads.head_at.Goals as goal

pub returns-in-Texts : goal.returns-in-Texts
returns-in-Texts c = texts-head _ _ _ c.in-Texts.is c.read_text.ensures

-- a slice has fewer bytes than a position that is not there
pub returns-in_err-end-in-Hashes : goal.returns-in_err-end-in-Hashes
returns-in_err-end-in-Hashes c = rw c.from_residual.ensures (no-hash c.in-Hashes.is (omega (arith, c.in_err-end-in-Hashes.ensures)))

pub returns-in_ok-end-in-Hashes : goal.returns-in_ok-end-in-Hashes
returns-in_ok-end-in-Hashes c = rw c.then_some.ensures (hash-within _ _ c.in-Hashes.is c.in_ok-end-in-Hashes.ensures.1)
