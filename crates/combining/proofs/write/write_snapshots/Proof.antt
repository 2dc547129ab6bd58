-- `write::write_snapshots` meets its contract. The invariant (`Merging`) says what is still to be written when the two sides have come to their i-th and their
-- j-th snapshots. Each of the three ways of going on is a law from one turn to the next, and the rest of one side is a law from the invariant to the end.
use Prim.Native.Nat.{◌+◌, ◌-◌, ◌*◌, ◌≤◌}
use native.Mathlib.Omega.{arith}
use borrow.Author.Rules.{rules}
use lib.ListN.{length}
use Rattle.combining.proofs.MergedLaws.{row-long}
use Rattle.combining.proofs.TurnLaws.{Merging, merging-none, left-rest, right-rest, left_end, right_end, Turn, turn_at}
use Rattle.combining.proofs.TurnLaws.{left-copied, right-copied, turn-left, turn-right, shared-there, turn-both}
use Rattle.combining.proofs.write.write_snapshots.Statement.{statement}
use Rattle.combining.proofs.write.write_snapshots.Tie as tie

abbrev invariant-loop-i : tie.invariant-loop-i
invariant-loop-i a left b right t ps out₀ at d e i₀ j₀ next₀ out i j next = Merging a left b right t ps out₀ at d e out i j next

abbrev decreases-loop-i : tie.decreases-loop-i
decreases-loop-i a left b right t ps out₀ at d e i₀ j₀ next₀ out i j next = d.count + e.count - (i + j)

-- ---- the places

abbrev to_start : tie.At-loop-i invariant-loop-i decreases-loop-i → tie.Start invariant-loop-i decreases-loop-i
to_start c = (search)

-- the versions of the two that are left are read
abbrev to-turn : tie.After-struct_known-in-loop-i-1 invariant-loop-i decreases-loop-i → tie.Else-e-j invariant-loop-i decreases-loop-i
to-turn c = (search)

abbrev other-turn : tie.After-struct_known-else-v-w-2-1 invariant-loop-i decreases-loop-i → tie.Else-e-j invariant-loop-i decreases-loop-i
other-turn c = to-turn (search)

-- both are of one version
abbrev one-turn : tie.Else-w-v invariant-loop-i decreases-loop-i → tie.Else-e-j invariant-loop-i decreases-loop-i
one-turn c = other-turn (search)

abbrev parts-to-one : tie.After-part_of-else-w-v invariant-loop-i decreases-loop-i → tie.Else-w-v invariant-loop-i decreases-loop-i
parts-to-one c = (search)

-- ---- a snapshot of each side is left

module _ (c : tie.Else-e-j invariant-loop-i decreases-loop-i) where
  abbrev start : tie.Start invariant-loop-i decreases-loop-i
  start = to_start (search)

  turn :
      let a = start.args in
      let l = c.loop-i in
      Turn a.a.now a.left.now a.b.now a.right.now a.t a.properties.now a.out.now a.at a.d a.e
      l.out l.i l.j l.next
  turn = search turn_at

  -- their rows are there
  left-row : 96 * c.loop-i.i + 96 ≤ length start.args.left.now
  left-row = omega (arith, start.requires.0, turn.left_in)

  right-row : 96 * c.loop-i.j + 96 ≤ length start.args.right.now
  right-row = omega (arith, start.requires.1, turn.right-in)

-- ---- the needs

write-shared-requires : tie.Need-write_shared-next-requires invariant-loop-i decreases-loop-i
write-shared-requires c κs =
    let one : tie.Else-w-v invariant-loop-i decreases-loop-i = search in
    let at = one-turn one in
    let not_left = one.if-v-w.false in
    (row-long _ _ (left-row at), row-long _ _ (right-row at), search rules, search (shared-there (turn at) not_left one.if-w-v.false))

loop-again-3 : tie.Need-loop-i-preserved invariant-loop-i decreases-loop-i
loop-again-3 c =
    let shared : tie.After-write_shared-next invariant-loop-i decreases-loop-i = search in
    let parts : tie.After-part_of-else-w-v invariant-loop-i decreases-loop-i = search in
    let one = parts-to-one parts in
    turn-both (turn (one-turn one)) one.if-v-w.false one.if-w-v.false parts.part_of.ensures
    parts.part_of-else-w-v.ensures shared.write_shared-next.ensures

pub write_snapshots_spec : {M : Type 1} → statement M
write_snapshots_spec =
    tie.close
    (tie.spec
    invariant-loop-i
    decreases-loop-i
    (λ c. merging-none)
    (λ c κs. search left-rest)
    (λ c. search rules)
    (λ c. search left_end)
    (λ c. search rules) (λ c. search rules) (λ c. search rules) (λ c. search rules) (λ c. search rules)
    (λ c. search rules) (λ c. search rules) (λ c. search rules)
    (λ c κs. search (left-copied, turn search))
    (λ c. search rules) (λ c. search rules)
    (λ c. search (turn-left, turn search))
    (λ c. search rules) (λ c. search rules) (λ c. search rules) (λ c. search rules)
    (λ c κs. search (right-copied, turn search))
    (λ c. search rules) (λ c. search rules)
    (λ c. search (turn-right, turn search))
    (λ c. omega (arith, turn search))
    (λ c. omega (arith, turn search))
    (λ c. omega (arith, turn search))
    (λ c. search rules) (λ c. search rules) (λ c. search rules)
    (λ c. search left-row)
    (λ c. search rules) (λ c. search rules)
    (λ c. omega (arith, turn search))
    (λ c. omega (arith, turn search))
    (λ c. omega (arith, turn search))
    (λ c. search rules) (λ c. search rules) (λ c. search rules)
    (λ c. search right-row)
    (λ c. search rules) (λ c. search rules) (λ c. search rules) (λ c. search rules) (λ c. search rules)
    (λ c. search rules) (λ c κs. search rules) (λ c. search rules) (λ c. search rules) (λ c. search rules)
    (λ c. search rules) (λ c κs. search rules)
    write-shared-requires
    (λ c. omega (arith, turn (one-turn search)))
    (λ c. omega (arith, turn (one-turn search)))
    (λ c. search rules)
    loop-again-3
    (λ c κs. search right-rest)
    (λ c. search rules)
    (λ c. search right_end))
