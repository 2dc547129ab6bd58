-- How a reply is handed to C: one number of 64 bits. Bits 56 to 63 tell what it is, the others have its numbers. Limits are handed over as three numbers.
use Rattle.std.specs.Prelude.{ℕ, ◌+◌, ◌*◌, ◌^◌, ◌%◌, length}
use Rattle.model.specs.Limits.{Limits}
use Rattle.model.specs.Opening.{Finding, conflict_at, overfull_at}
use Rattle.replies.specs.Answers.{Reply}
use Rattle.event.specs.Value.{Part}

-- The limits of a call, as C hands them over
abbrev pub chosen : ℕ → ℕ → ℕ → Limits
chosen versions parents objects = record { versions = versions; parents = parents; objects = objects }

-- 0 done, 1 merged, 2 conflict, 3 overfull, 4 refused
unfoldable pub kinded : ℕ → ℕ → ℕ
kinded kind numbers = kind * 2 ^ 56 + numbers

-- bits 0 to 31 have the length of what was written, or a place
abbrev pub low : ℕ → ℕ
low n = n % 2 ^ 32

-- bits 0 to 7 have the number of a refusal, bits 8 to 31 the position of its event
unfoldable pub packed_refusal : ℕ → ℕ → ℕ
packed_refusal number position = kinded 4 (position % 2 ^ 24 * 2 ^ 8 + number)

-- what opening finds in place of a merged event
unfoldable pub packed_finding : Finding → ℕ
packed_finding (conflict_at v p) = kinded 2 (low p)
packed_finding (overfull_at p) = kinded 3 (low p)

-- a reply whose bytes are told by this kind
unfoldable pub packed_as : ℕ → Reply → ℕ
packed_as kind (Reply.done n) = kinded kind (low n)
packed_as kind (Reply.found f) = packed_finding f
packed_as kind (Reply.refused n) = packed_refusal n 0
packed_as kind (Reply.refused_at n i) = packed_refusal n i

abbrev pub packed : Reply → ℕ
packed r = packed_as 0 r

-- what is done by opening is a merged event
abbrev pub packed_opened : Reply → ℕ
packed_opened r = packed_as 1 r

-- the event version of a conflict, or what was there before
unfoldable pub version_or : Finding → ℕ → ℕ
version_or (conflict_at v p) old = v
version_or (overfull_at p) old = old

unfoldable pub version_after : Reply → ℕ → ℕ
version_after (Reply.done n) old = old
version_after (Reply.found f) old = version_or f old
version_after (Reply.refused n) old = old
version_after (Reply.refused_at n i) old = old

-- a part of the caller's event: bits 0 to 27 have its length, bits 28 to 55 its start
unfoldable pub packed_part : Part → ℕ
packed_part x = length x.bytes % 2 ^ 28 + x.start % 2 ^ 28 * 2 ^ 28
