-- Bytes below 0x80, each of which is a scalar value by itself.
use Rattle.std.specs.Prelude.{ℕ, ◌≤◌, ◌<◌, List, length, get_or}

-- the bytes from `at` up to i are below 0x80
unfoldable pub Low : List ℕ → ℕ → ℕ → Type 0
Low v at i = (k : ℕ) → at ≤ k → k < i → get_or v k 0 < 0x80

-- all bytes are
abbrev pub AllLow : List ℕ → Type 0
AllLow v = Low v 0 (length v)
