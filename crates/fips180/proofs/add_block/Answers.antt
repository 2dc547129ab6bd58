-- A block in the message is a part of it.
use Rattle.std.proofs.Common.{arith}
use Rattle.fips180.proofs.Laws.{padded-most, block_in, compressed-of}
use Rattle.fips180.proofs.add_block.Goals as goal

pub overflow_mul-start : goal.overflow_mul-start
overflow_mul-start c = omega (arith, padded-most c.args.message.now)

pub overflow_add-end : goal.overflow_add-end
overflow_add-end c = omega (arith, padded-most c.args.message.now)

pub returns-then-end-message : goal.returns-then-end-message
returns-then-end-message c = search (compressed-of, block_in)
