-- `add::write_with` meets its contract by three writes, one after the other: the snapshots of lower versions as they stand, the one of the event's version, and
-- those of higher versions as they stand.
use borrow.Author.Rules.{rules}
use native.Mathlib.Omega.{arith}
use Prim.Native.Nat.{◌+◌, ◌≤◌}
use lib.ListN.{length}
use Rattle.combining.proofs.AddLaws.{ends-within, lower-there, new-there, new-follows, higher-room, wrote-parts}
use Rattle.combining.proofs.add.write_with.Statement.{statement}
use Rattle.combining.proofs.add.write_with.Tie as tie

-- ---- the places

abbrev to_start : tie.After-struct_known-1 → tie.Start
to_start c = (search)

abbrev lower-to-start : tie.After-copy_part-from → tie.Start
lower-to-start c = to_start (search)

-- ---- the facts

-- the place of the event's version stands in the dossier
place-within : (c : tie.After-struct_known-1) → let a = (to_start c).args in a.body + a.p.before + a.p.size ≤ length a.sofar.now
place-within c = ends-within (to_start c).requires.2.in_some

-- ---- the needs

sub-size : tie.Need-overflow_sub-size
sub-size c =
    let new : tie.After-write_new-to = search in
    let lower : tie.After-copy_part-from = search in
    new-follows lower.copy_part-from.ensures (lower-to-start lower).requires.2 new.write_new-to.ensures

copy-part-requires-2 : tie.Need-copy_part-requires
copy-part-requires-2 c κs =
    let new : tie.After-write_new-to = search in
    let lower : tie.After-copy_part-from = search in
    higher-room lower.copy_part-from.ensures (lower-to-start lower).requires.2 new.write_new-to.ensures

returns : tie.Need-returns
returns c =
    let higher = c in
    let new : tie.After-write_new-to = search in
    let lower : tie.After-copy_part-from = search in (
      λ table m x h n. wrote-parts h lower.copy_part-from.ensures (new.write_new-to.ensures table m x h n) higher.copy_part.ensures,
      λ table m x h n. omega (arith, (new.write_new-to.ensures table m x h n).after),
    )

pub write_with_spec : {M : Type 1} → statement M
write_with_spec =
    tie.close
    (tie.spec
    (λ c. omega (arith, place-within search))
    (λ c. omega (arith, place-within search))
    (λ c κs. search lower-there)
    (λ c κs. search new-there)
    sub-size
    copy-part-requires-2
    (λ c. search rules) (λ c. search rules)
    returns)
