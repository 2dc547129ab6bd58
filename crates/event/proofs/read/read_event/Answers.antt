-- Head, presence number and sets are read in the order of the layout, and each return is a law of the first that fails or breaks a limit, or of them all.
use Rattle.event.specs.code.EventIndex.{counts_of}
use Rattle.event.proofs.AnswerLaws.{number-within, number-not}
use Rattle.event.proofs.SetLaws.{not-promised, sets-refused}
use Rattle.event.proofs.EventReadLaws.{BodyAt, body_at, no-head, no-presence, presence-large, no-sets, early, many, event-found}
use Rattle.event.proofs.read.read_event.Goals as goal
use Rattle.event.proofs.read.read_event.Goals.{Else-presence-ge4294967296, then-next-s-via-then-next-s, then-next-s-via-else-next-s+then-most_objects-objects}

body : (c : Else-presence-ge4294967296) → BodyAt (counts_of c.args.counts) c.args.s.now
    c.in_ok-head.head c.in_ok-presence.presence c.in_ok-presence.after_presence
body c =
    body_at _ _ c.most_parents.ensures _ c.read_head.ensures c.in_ok-head.was c.read_number.ensures c.in_ok-presence.was
    c.if-presence-ge4294967296.false

pub returns-in_err-head : goal.returns-in_err-head
returns-in_err-head c = rw c.from_residual.ensures (no-head _ _ c.most_parents.ensures _ c.read_head.ensures c.in_err-head.was)

pub returns-in_err-presence : goal.returns-in_err-presence
returns-in_err-presence c =
    rw c.from_residual-in_err-presence.ensures
    (no-presence _ _ c.most_parents.ensures _ c.read_head.ensures c.in_ok-head.was (number-not _ _ c.read_number.ensures c.in_err-presence.was))

pub returns-then-presence-ge4294967296 : goal.returns-then-presence-ge4294967296
returns-then-presence-ge4294967296 c =
    presence-large _ _ c.most_parents.ensures _ c.read_head.ensures c.in_ok-head.was c.read_number.ensures c.in_ok-presence.was
    c.if-presence-ge4294967296.true

pub read_sets-requires : goal.read_sets-requires
read_sets-requires c = (number-within _ _ c.read_number.ensures c.in_ok-presence.was, c.requires, not-promised _)

pub returns-in_err-next : goal.returns-in_err-next
returns-in_err-next c =
    rw c.from_residual-in_err-next.ensures
    (no-sets (body (goal.at.returns-in_err-next c).Else-presence-ge4294967296) (sets-refused _ _ c.in_err-next.was c.read_sets.ensures))

pub returns-then-next-s : goal.returns-then-next-s
returns-then-next-s c =
    let b = body (goal.at.returns-then-next-s c).Else-presence-ge4294967296 in
    elim c.then-next-s.branch [
      | then-next-s-via-then-next-s w ↦ early b _ c.read_sets.ensures c.in_ok-next.was w.if-next-s.true
      | then-next-s-via-else-next-s+then-most_objects-objects w ↦
          many b _ c.read_sets.ensures c.in_ok-next.was w.if-next-s.false w.most_objects.ensures w.if-most_objects-objects.true
    ]

pub returns : goal.returns
returns c =
    event-found (body (goal.at.returns c).Else-presence-ge4294967296) _ c.read_sets.ensures c.in_ok-next.was c.if-next-s.false
    c.most_objects.ensures c.if-most_objects-objects.false
