-- `head::write_head` meets its contract: the four parts are written one after the other, each has its room, and the writes join to the head's bytes.
use borrow.Author.Rules.{rules}
use Rattle.event.proofs.HeadLayoutLaws.{room-name, room-source, room-count, room-hashes, wrote-head}
use Rattle.event.proofs.head.write_head.Statement.{statement}
use Rattle.event.proofs.head.write_head.Tie as tie

pub write_head_spec : {M : Type 1} → statement M
write_head_spec =
    tie.close
    (tie.spec
    (λ c κs. search room-name)
    (λ c κs. search room-source)
    (λ c κs. search room-count)
    (λ c κs. search room-hashes)
    (λ c. search rules)
    (λ c. search wrote-head))
