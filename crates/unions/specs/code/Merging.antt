-- Several runs of one slice, merged: the least of the values that stand first is taken out of every run in which it does.
use Rattle.std.specs.Prelude.{ℕ, ◌+◌, ◌≤◌, ◌<◌, ◌≡◌, Option, Some, None, IfSome, true, cond, length, take, get_or}
use mathlib.Core.List.{List, [], ◌∷◌, map, flatten}
use Rattle.model.specs.Order.{Text, texts, rising, equal}
use Rattle.model.specs.Sets.{canon, smallest}
use Rattle.packed.specs.Packed.{text, part}
use Rattle.unions.specs.declared.heads.Form.TheVariants as form
use Rattle.unions.specs.declared.many.Least.{Least}
use Rattle.unions.specs.code.Runs.{HeadIs}

-- the rising values xs stand in s from `at` up to `end`
pub record SetRun (s : List ℕ) (at end : ℕ) (xs : List Text) : Type 0 where
  pub bytes : part s at end ≡ flatten (map text xs)
  pub order : at ≤ end
  pub within : end ≤ length s
  pub rises : rising texts xs ≡ true

-- n runs
pub record SetRuns (s ats ends : List ℕ) (n : ℕ) (xss : List (List Text)) : Type 0 where
  pub long : length xss ≡ n
  pub each : (j : ℕ) → j < n → SetRun s (get_or ats j 0) (get_or ends j 0) (get_or xss j [])

-- what is left of a run when m has been taken out of its front
unfoldable pub passed : Text → List Text → List Text
passed m [] = []
passed m (x ∷ xs) = cond (equal texts x m) xs (x ∷ xs)

-- The least of some values stands in s. Where there is none, the runs go on as at ats.
abbrev pub RightLeast : List ℕ → List ℕ → Option Least → List ℕ → Type 0
RightLeast s ats (Some x) after = HeadIs form.Texts s x.start x.text.start x.text.end
RightLeast s ats None after = after ≡ ats

abbrev pub least_text : List ℕ → Least → Text
least_text s x = part s x.text.start x.text.end

-- the least of some values, if any
unfoldable pub value_at : List ℕ → Option Least → List Text
value_at s (Some x) = least_text s x ∷ []
value_at s None = []

-- r is the least value of the first j of n runs; it has been passed in these, which go on as `after` says, and the others stand as they are.
pub record LeastTo (s ends : List ℕ) (n : ℕ) (xss : List (List Text)) (j : ℕ) (r : Option Least) (after : List ℕ) : Type 0 where
  pub least : value_at s r ≡ smallest texts (flatten (take j xss))
  pub passes : IfSome r
      (λ x. (i : ℕ) → i < j → i < n → SetRun s (get_or after i 0) (get_or ends i 0) (passed (least_text s x) (get_or xss i [])))
  pub stays : IfSome r (λ x. (i : ℕ) → j ≤ i → i < n → SetRun s (get_or after i 0) (get_or ends i 0) (get_or xss i []))

-- run j, which ends at `end`, is taken in
pub record Lesser (s : List ℕ) (best : Option Least) (before ats : List ℕ) (j end : ℕ) (r : Option Least) (after : List ℕ) : Type 0 where
  pub right : RightLeast s ats r after
  pub more :
      (ends : List ℕ) (n : ℕ) (xss : List (List Text)) → SetRuns s ats ends n xss → j < n → get_or ends j 0 ≡ end →
      LeastTo s ends n xss j best before → LeastTo s ends n xss (j + 1) r after

pub record IsLeast (s ats ends : List ℕ) (n : ℕ) (r : Option Least) (after : List ℕ) : Type 0 where
  pub right : RightLeast s ats r after
  pub is : (xss : List (List Text)) → SetRuns s ats ends n xss → value_at s r ≡ smallest texts (flatten xss)
  pub goes : (xss : List (List Text)) → SetRuns s ats ends n xss → IfSome r (λ x. SetRuns s after ends n (map (passed (least_text s x)) xss))

-- the values of n runs have their room in an output of `size` bytes, from position `at` on
pub record MergedRoom (s starts ends : List ℕ) (n at size : ℕ) : Type 0 where
  pub xss : List (List Text)
  pub runs : SetRuns s starts ends n xss
  pub room : at + length (flatten (map text (canon texts (flatten xss)))) ≤ size
