-- Each way is a law of the block as it is made.
use Rattle.std.proofs.Common.{arith, ◌∙◌}
use Rattle.fips180.proofs.Laws.{padded-most, begun-message, begun-zeros, ended-last, ended-before}
use Rattle.fips180.proofs.padded_block.Goals as goal
use Rattle.fips180.proofs.padded_block.Goals.{then-start-n, else-start-n}

pub overflow_mul-start : goal.overflow_mul-start
overflow_mul-start c = omega (arith, padded-most c.args.message.now)

pub overflow_add-start : goal.overflow_add-start
overflow_add-start c = omega (arith, padded-most c.args.message.now)

pub returns-then-n-start : goal.returns-then-n-start
returns-then-n-start c =
    let bytes = c.copy_from_slice-then-n-start.ensures.after ∙ c.to_be_bytes.ensures in
    elim c.if-start-n.branch [
      | then-start-n w ↦ search (ended-last, begun-message, bytes)
      | else-start-n w ↦ search (ended-last, begun-zeros, bytes)
    ]

pub returns-else-n-start : goal.returns-else-n-start
returns-else-n-start c = elim c.if-start-n.branch [
  | then-start-n w ↦ search (ended-before, begun-message)
  | else-start-n w ↦ search (ended-before, begun-zeros)
]
