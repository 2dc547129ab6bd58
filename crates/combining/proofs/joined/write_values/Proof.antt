-- `joined::write_values` meets its contract: the union is written one byte after where its count is to stand, which takes a byte at least, and the count, which
-- is known then, is put before it.
use native.Mathlib.Omega.{arith}
use mathlib.Core.Path.{◌∙◌}
use Rattle.combining.proofs.JoinedLaws.{values-few, at-within, union-there, shared-within, before-there, union-written}
use Rattle.combining.proofs.joined.write_values.Statement.{statement}
use Rattle.combining.proofs.joined.write_values.Tie as tie

-- ---- the places

abbrev to_start : tie.After-write_union-arg-1 → tie.Start
to_start c = (search)

abbrev counted-union : tie.After-write_before-arg-1 → tie.After-write_union-joined
counted-union c = (search)

abbrev to-union : tie.After-struct_known-1 → tie.After-write_union-joined
to-union c = counted-union (search)

-- ---- the needs

add-write-before : tie.Need-overflow_add-m
add-write-before c = omega (arith, values-few (to_start (search)).requires.are)

sub-write-before : tie.Need-overflow_sub-m
sub-write-before c = let u = to-union c in shared-within u.write_union-joined.ensures (to_start (search)).requires

write-before-requires : tie.Need-write_before-requires
write-before-requires c κs = let u = to-union c in before-there u.write_union-joined.ensures (to_start (search)).requires

same_length : tie.Need-shape_of-out
same_length c =
    let before = c in
    before.write_before.auto.out ∙ (to-union (search)).write_union-joined.auto.out

returns : tie.Need-returns
returns c =
    let before = c in
    let u = to-union (search) in
    union-written u.write_union-joined.ensures (to_start (search)).requires before.write_before.ensures

pub write_values_spec : {M : Type 1} → statement M
write_values_spec =
    tie.close
    (tie.spec
    (λ c. omega (arith, at-within (to_start c).requires))
    (λ c κs. search union-there)
    add-write-before
    sub-write-before
    write-before-requires
    same_length
    returns)
