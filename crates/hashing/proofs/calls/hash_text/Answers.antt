-- The questions refuse the event, or accept it with its type: then its hash text is written.
use Rattle.replies.proofs.RefusalLaws.{passed-on}
use Rattle.hashing.proofs.CallLaws.{hashable, text-small, text-refused, text-done}
use Rattle.hashing.proofs.calls.hash_text.Goals as goal

pub returns-then-out-lt-HASH_TEXT_CAPACITY : goal.returns-then-out-lt-HASH_TEXT_CAPACITY
returns-then-out-lt-HASH_TEXT_CAPACITY c = text-small _ _ _ c.if-out-lt-HASH_TEXT_CAPACITY.true

pub returns-in_err-t : goal.returns-in_err-t
returns-in_err-t c =
    text-refused _ _ _ c.if-out-lt-HASH_TEXT_CAPACITY.false c.in_err-t.ensures (passed-on c.from_residual.ensures.1)

pub write_hash_text-requires : goal.write_hash_text-requires
write_hash_text-requires c = (hashable c.in_ok-t.ensures, c.if-out-lt-HASH_TEXT_CAPACITY.false, c.accept.auto.properties, c.accept.auto.sets)

pub returns : goal.returns
returns c = text-done _ c.in_ok-t.ensures c.if-out-lt-HASH_TEXT_CAPACITY.false (c.write_hash_text.ensures (hashable c.in_ok-t.ensures))
