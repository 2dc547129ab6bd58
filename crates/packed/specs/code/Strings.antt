-- What the code holds of strings whose two parts stand in two slices, and what it stands for.
use Rattle.std.specs.Prelude.{ℕ, zero, suc, ◌+◌, ◌*◌, ◌≤◌, ◌<◌, ◌≡◌, List, [], ◌∷◌, ◌++◌, map, length, take, get_or}
use Rattle.model.specs.Order.{Text, texts}
use Rattle.model.specs.Sorting.{insert, sorted}
use Rattle.packed.specs.Packed.{part}
use Rattle.packed.specs.declared.strings.StringAt.{StringAt}

-- a part, a colon and a part
abbrev pub joined : List ℕ → List ℕ → List ℕ
joined first second = first ++ (58 ∷ second)

-- a string: its first part stands in a, its second in b
unfoldable pub string_of : List ℕ → List ℕ → StringAt → Text
string_of a b x = joined (part a x.first x.colon) (part b x.second x.end)

-- the first n of xs
unfoldable pub strings_of : List ℕ → List ℕ → List StringAt → ℕ → List Text
strings_of a b xs n = map (string_of a b) (take n xs)

-- a string's positions lie in a and b
pub record StringFits (a b : List ℕ) (x : StringAt) : Type 0 where
  pub first : x.first ≤ x.colon
  pub in_a : x.colon ≤ length a
  pub second : x.second ≤ x.end
  pub in_b : x.end ≤ length b

abbrev pub no_string : StringAt
no_string = record { first = 0; colon = 0; second = 0; end = 0 }

-- the string at place k of strings that are lent as four numbers each
abbrev pub string_in : List ℕ → ℕ → StringAt
string_in xs k = record { first = get_or xs (4 * k) 0; colon = get_or xs (4 * k + 1) 0; second = get_or xs (4 * k + 2) 0; end = get_or xs (4 * k + 3) 0 }

-- what stands at m places from place k on
unfoldable pub strings_from : List ℕ → ℕ → ℕ → List StringAt
strings_from xs k zero = []
strings_from xs k (suc m) = string_in xs k ∷ strings_from xs (suc k) m

-- what stands at the 32 places of 128 numbers
unfoldable pub strings_in : List ℕ → List StringAt
strings_in xs = strings_from xs 0 32

-- xs are 32 places, and the first n have strings
pub record StringsFit (a b : List ℕ) (xs : List StringAt) (n : ℕ) : Type 0 where
  pub few : n ≤ 32
  pub long : length xs ≡ 32
  pub each : (i : ℕ) → i < n → StringFits a b (get_or xs i no_string)

-- r are the n strings xs with x, in its place among them where they are sorted
pub record Inserted (a b : List ℕ) (xs : List StringAt) (n : ℕ) (x : StringAt) (r : List StringAt) : Type 0 where
  pub fit : StringsFit a b r (n + 1)
  pub is : (ws : List Text) → strings_of a b xs n ≡ sorted texts ws → strings_of a b r (n + 1) ≡ insert texts (string_of a b x) (strings_of a b xs n)
