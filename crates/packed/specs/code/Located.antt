-- What the readers answer: positions in the bytes that they were given, in place of the bytes after what was read.
use Rattle.std.specs.Prelude.{ℕ, ◌-◌, ◌≤◌, ◌<◌, ◌≡◌, List, length, drop, Option, Some, None}
use Rattle.packed.specs.declared.read.TextAt.{TextAt}
use Rattle.packed.specs.Parse.{Parse, fail, got}
use Rattle.packed.specs.Packed.{read_number, read_text, part}

-- the bytes that are left are the last of s, so that they start as far from its end as they are long
unfoldable pub located_number : List ℕ → Parse ℕ → Option (ℕ × ℕ)
located_number s (got n r) = Some (n, length s - length r)
located_number s fail = None

unfoldable pub number_at : List ℕ → ℕ → Option (ℕ × ℕ)
number_at s at = located_number s (read_number (drop at s))

abbrev pub text_from : ℕ → ℕ → TextAt
text_from a e = record { start = a; end = e }

unfoldable pub located_text : List ℕ → Parse (List ℕ) → Option TextAt
located_text s (got v r) = Some (text_from (length s - length r - length v) (length s - length r))
located_text s fail = None

unfoldable pub text_at : List ℕ → ℕ → Option TextAt
text_at s at = located_text s (read_text (drop at s))

-- A layout at position `at` got a, and what is left starts at `next`.
pub record Got {A : Type 0} (p : Parse A) (s : List ℕ) (at : ℕ) (a : A) (next : ℕ) : Type 0 where
  pub is : p ≡ got a (drop next s)
  pub after : at < next
  pub within : next ≤ length s

abbrev pub NumberReads : Parse ℕ → List ℕ → ℕ → Option (ℕ × ℕ) → Type 0
NumberReads p s at (Some (n, next)) = Got p s at n next
NumberReads p s at None = p ≡ fail

-- the same of a text, which stands from `start` up to `end`
pub record NameStops (p : Parse (List ℕ)) (s : List ℕ) (at start end : ℕ) : Type 0 where
  pub stops : Got p s at (part s start end) end
  pub order : start ≤ end

abbrev pub NameReads : Parse (List ℕ) → List ℕ → ℕ → Option TextAt → Type 0
NameReads p s at (Some x) = NameStops p s at x.start x.end
NameReads p s at None = p ≡ fail
