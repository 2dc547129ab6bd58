-- It hashes what `hash_text` wrote. After question 1, for which each has its own room, both calls ask the same questions.
use native.Mathlib.Omega.{arith}
use Rattle.std.proofs.lemmas.List.{length-take-le}
use Rattle.replies.proofs.RefusalLaws.{passed-on}
use Rattle.hashing.proofs.CallLaws.{hash-small, hash-refused, text-within, hash-done}
use Rattle.hashing.proofs.calls.hash.Goals as goal

pub returns-then-out-lt-HASH_CAPACITY : goal.returns-then-out-lt-HASH_CAPACITY
returns-then-out-lt-HASH_CAPACITY c = hash-small _ _ _ c.if-out-lt-HASH_CAPACITY.true

pub returns-in_err-n : goal.returns-in_err-n
returns-in_err-n c =
    let told = c.hash_text in
    hash-refused _ _ _ _ told.result told.ensures _ c.if-out-lt-HASH_CAPACITY.false (omega arith) c.in_err-n.was
    (passed-on c.from_residual.ensures.1)

pub slice_bounds-text-end : goal.slice_bounds-text-end
slice_bounds-text-end c = omega (arith, text-within _ _ _ _ c.hash_text.result c.hash_text.ensures c.in_ok-n.was)

pub slice_bounds-write_digest-end : goal.slice_bounds-write_digest-end
slice_bounds-write_digest-end c =
    let told = c.hash_text in
    omega (arith, length-take-le c.in_ok-n.n told.new.out (text-within _ _ _ _ told.result told.ensures c.in_ok-n.was))

pub returns : goal.returns
returns c =
    let told = c.hash_text in
    hash-done _ _ _ _ told.result told.ensures _ c.if-out-lt-HASH_CAPACITY.false (omega arith) c.in_ok-n.was c.write_digest.ensures
