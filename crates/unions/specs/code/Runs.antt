-- Runs: the values of a set, one after the other in a stretch of bytes; what the steps through two of them answer, and what is written of their union.
use Rattle.std.specs.Prelude.{ℕ, ◌+◌, ◌^◌, ◌≤◌, ◌<◌, ◌≡◌, ◌⊎◌, true, length, drop, get_or}
use mathlib.Core.List.{List, [], ◌∷◌, ◌++◌, map, flatten}
use Rattle.model.specs.Order.{Text, texts, rising}
use Rattle.model.specs.Sets.{Ups, union}
use Rattle.packed.specs.Packed.{text, part}
use Rattle.packed.specs.Parse.{All}
use Rattle.unions.specs.declared.heads.Form.{Form}
use Rattle.unions.specs.declared.heads.Form.TheVariants as form
use Rattle.packed.specs.code.Written.{Wrote}
use Rattle.unions.specs.declared.pair.Joined.{Joined}
use Rattle.std.specs.Prelude.{Option, Some, None}
use Rattle.packed.specs.declared.read.TextAt.{TextAt}

-- a value's bytes in a run
unfoldable pub written : Form → Text → List ℕ
written form.Texts = text
written form.Hashes = λ h. h

-- the values that have such bytes
unfoldable pub fits : Form → Text → Type 0
fits form.Texts v = length v < 2 ^ 64
fits form.Hashes v = length v ≡ 20

abbrev pub run : Form → List Text → List ℕ
run f xs = flatten (map (written f) xs)

-- each is a hash, by its length
abbrev pub Hashes : List Text → Type 0
Hashes hs = (i : ℕ) → i < length hs → length (get_or hs i []) ≡ 20

-- The rising values xs stand at the front of s, and `rest` after them
pub record Run (f : Form) (s : List ℕ) (xs : List Text) (rest : List ℕ) : Type 0 where
  pub bytes : s ≡ run f xs ++ rest
  pub each : All (fits f) xs
  pub rises : Ups texts xs

-- a value stands at position `at`: its own bytes from a up to e, and what follows it from e on
pub record HeadIs (f : Form) (s : List ℕ) (at a e : ℕ) : Type 0 where
  pub order : a ≤ e
  pub after : at < e
  pub within : e ≤ length s
  pub fit : fits f (part s a e)
  pub bytes : drop at s ≡ written f (part s a e) ++ drop e s

-- no value stands there
pub record NoHead (f : Form) (s : List ℕ) (i : ℕ) : Type 0 where
  pub none : (v : Text) (r : List ℕ) → fits f v → drop i s ≡ written f v ++ r → ⊥

abbrev pub Heads : Form → List ℕ → ℕ → Option TextAt → Type 0
Heads f s i (Some x) = HeadIs f s i x.start x.end
Heads f s i None = NoHead f s i

-- of xs and ys one value is taken, with the bytes `head`, out of both where n is 2; what is left of each stands in s and t
pub record Taken (f : Form) (xs ys : List Text) (head : List ℕ) (n : ℕ) (s t : List ℕ) : Type 0 where
  pub value : Text
  pub xs' : List Text
  pub ys' : List Text
  pub is : head ≡ written f value
  pub left : Run f s xs' []
  pub right : Run f t ys' []
  pub first : union texts xs ys ≡ value ∷ union texts xs' ys'
  pub fewer : length xs + length ys ≡ n + (length xs' + length ys')

-- such a step leads from i and j to x and y
pub record StepIs (f : Form) (a : List ℕ) (i : ℕ) (b : List ℕ) (j : ℕ) (head : List ℕ) (n x y : ℕ) : Type 0 where
  pub within : x ≤ length a
  pub within' : y ≤ length b
  pub more : i + j < x + y
  pub takes : (xs ys : List Text) → Run f (drop i a) xs [] → Run f (drop j b) ys [] → Taken f xs ys head n (drop x a) (drop y b)

-- a step, whatever it takes
pub record Stepped (f : Form) (a : List ℕ) (i : ℕ) (b : List ℕ) (j x y : ℕ) : Type 0 where
  pub head : List ℕ
  pub n : ℕ
  pub step : StepIs f a i b j head n x y

pub record IsAlone (f : Form) (a : List ℕ) (i : ℕ) (b : List ℕ) (j : ℕ) : Type 0 where
  pub either : NoHead f a i ⊎ NoHead f b j

abbrev pub Steps : Form → List ℕ → ℕ → List ℕ → ℕ → Option (ℕ × ℕ) → Type 0
Steps f a i b j (Some (x, y)) = Stepped f a i b j x y
Steps f a i b j None = IsAlone f a i b j

-- a union has its room in an output of `size` bytes, from position `at` on
pub record Room (f : Form) (a b : List ℕ) (at size : ℕ) : Type 0 where
  pub xs : List Text
  pub ys : List Text
  pub left : Run f a xs []
  pub right : Run f b ys []
  pub room : at + length (run f (union texts xs ys)) ≤ size

-- the same in the words of the callers
pub record TextsRoom (a b : List ℕ) (at size : ℕ) : Type 0 where
  pub xs : List Text
  pub ys : List Text
  pub left : a ≡ flatten (map text xs)
  pub right : b ≡ flatten (map text ys)
  pub xs-rise : rising texts xs ≡ true
  pub ys-rise : rising texts ys ≡ true
  pub room : at + length (flatten (map text (union texts xs ys))) ≤ size

pub record HashesRoom (a b : List ℕ) (at size : ℕ) : Type 0 where
  pub xs : List Text
  pub ys : List Text
  pub left : a ≡ flatten xs
  pub right : b ≡ flatten ys
  pub xs-each : Hashes xs
  pub ys-each : Hashes ys
  pub xs-rise : rising texts xs ≡ true
  pub ys-rise : rising texts ys ≡ true
  pub room : at + length (flatten (union texts xs ys)) ≤ size

-- the bytes of the union of xs and ys are written, and it is told how many values both have
pub record WroteUnion (l : List ℕ) (at : ℕ) (bytes l' : List ℕ) (xs ys : List Text) (r : Joined) : Type 0 where
  pub wrote : Wrote l at bytes l' r.next
  pub counts : r.shared + length (union texts xs ys) ≡ length xs + length ys
