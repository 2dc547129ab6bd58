-- Document 01, "Questions in order, and the number when the answer is no". A call's questions are written with `do`, in their order: the first that is
-- answered no ends it with its number.
use Rattle.std.specs.Prelude.{ℕ, Bool, true, false}
use Rattle.std.proofs.Math.Option.{Option, none, some}

infixl 10 ◌>>=◌ ◌>>◌
-- What the questions come to: the number of the first one that is answered no, or what was asked for
pub data Asked (A : Type 0) : Type 0 where
  refused : ℕ → Asked A
  accepted : A → Asked A

abbrev pub ◌>>=◌ : {A B : Type 0} → Asked A → (A → Asked B) → Asked B
refused n >>= k = refused n
accepted a >>= k = k a

abbrev pub ◌>>◌ : {A B : Type 0} → Asked A → Asked B → Asked B
refused n >> k = refused n
accepted a >> k = k

-- is there one?
abbrev pub ask : {A : Type 0} → ℕ → Option A → Asked A
ask n none = refused n
ask n (some a) = accepted a

-- is it so?
abbrev pub ensure : ℕ → Bool → Asked (Unit {0})
ensure n true = accepted tt
ensure n false = refused n
