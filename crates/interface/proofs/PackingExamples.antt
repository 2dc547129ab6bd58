-- The numbers that include/merger.h tells of, computed.
use mathlib.Core.Path.{◌≡◌, refl}
use mathlib.Core.List.{[], ◌∷◌}
use Rattle.model.specs.Opening.{conflict_at, overfull_at}
use Rattle.replies.specs.Answers.{Reply}
use Rattle.interface.specs.Packing.{kinded, packed_refusal, packed_finding, packed_as, packed, packed_opened, version_or, version_after, packed_part}

-- 42 bytes were written
done-42 : packed (Reply.done 42) ≡ 0x2a
unfolding packed_as kinded
done-42 = refl

-- a merged event of 42 bytes
merged-42 : packed_opened (Reply.done 42) ≡ 0x010000000000002a
unfolding packed_as kinded
merged-42 = refl

-- a conflict of the version 7 in place 3
conflict-3 : packed_opened (Reply.found (conflict_at 7 3)) ≡ 0x0200000000000003
unfolding packed_as packed_finding kinded
conflict-3 = refl

version-7 : version_after (Reply.found (conflict_at 7 3)) 77 ≡ 7
unfolding version_after version_or
version-7 = refl

-- the place 31 is overfull
overfull-31 : packed_opened (Reply.found (overfull_at 31)) ≡ 0x030000000000001f
unfolding packed_as packed_finding kinded
overfull-31 = refl

-- question 7 is answered no for the event at position 2 of a batch
refused-7-2 : packed (Reply.refused_at 7 2) ≡ 0x0400000000000207
unfolding packed_as packed_refusal kinded
refused-7-2 = refl

-- two bytes that stand after 46 others
part-46 : packed_part (record { bytes = 117 ∷ 112 ∷ []; start = 46 }) ≡ 0x2e0000002
unfolding packed_part
part-46 = refl
