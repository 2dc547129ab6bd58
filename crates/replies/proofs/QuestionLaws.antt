-- What is known where the questions of a call are answered yes.
use mathlib.Core.Path.{◌≡◌, refl}
use mathlib.Core.Bool.{Bool, true, false}
use mathlib.Core.Option.{Option, none, some}
use Prim.Native.Nat.{ℕ}
use Rattle.model.proofs.Cases.{never}
use Rattle.replies.specs.Questions.{Asked, refused, accepted, ◌>>=◌, ◌>>◌, ask, ensure}

-- the first was answered yes, and the others after it
pub asked-then : {A B : Type 0} (m : Asked A) (k : A → Asked B) (b : B) → (m >>= k) ≡ accepted b → (a : A) × (m ≡ accepted a) × (k a ≡ accepted b)
asked-then (refused n) k b h = never (cc)
asked-then (accepted a) k b h = (a, refl, h)

-- there is one
pub ask-some : {A : Type 0} (n : ℕ) (m : Option A) (a : A) → ask n m ≡ accepted a → m ≡ some a
ask-some n none a h = never (cc)
ask-some n (some b) a h = cc

-- it is so
pub ensured : {A : Type 0} (n : ℕ) (b : Bool) (k : Asked A) (a : A) → (ensure n b >> k) ≡ accepted a → (b ≡ true) × (k ≡ accepted a)
ensured n true k a h = (refl, h)
ensured n false k a h = never (cc)

-- one thing was asked for
pub accepted-same : {A : Type 0} (a b : A) → accepted a ≡ accepted b → a ≡ b
accepted-same a b h = cc
