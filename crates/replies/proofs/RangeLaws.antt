-- Question 18: limits that are permitted, and limits that are not.
use mathlib.Core.Path.{◌≡◌, refl}
use mathlib.Core.Bool.{Bool, true, false}
use Prim.Native.Nat.{◌≤◌}
use lib.Dec.{leb}
use borrow.Author.Tests.{le-leb}
use Rattle.model.specs.Limits.{Limits, is_permitted, Permitted}
use Rattle.model.proofs.LimitLaws.{permitted, is-permitted}
use Rattle.replies.specs.Questions.{refused, accepted}
use Rattle.replies.specs.ChosenLimits.{in_range}

pub in-range : (l : Limits) → Permitted l → in_range l ≡ accepted tt
in-range l h = rw (is-permitted l h)

pub out_of_range : (l : Limits) → is_permitted l ≡ false → in_range l ≡ refused 18
out_of_range l h = rw h

-- a limit that is outside its range
pub not-permitted : (l : Limits) → (Permitted l → ⊥) → false ≡ is_permitted l
not-permitted l h = go (is_permitted l) refl
  where
    go : (b : Bool) → is_permitted l ≡ b → false ≡ b
    go true e = absurd (h (permitted l e))
    go false e = refl

-- all are inside their ranges but the last, which is asked now
pub permitted-by :
    (l : Limits) → 1 ≤ l.versions → l.versions ≤ 8 → 8 ≤ l.parents → l.parents ≤ 32 → 32 ≤ l.objects →
    leb l.objects 256 ≡ is_permitted l
unfolding is_permitted
permitted-by l a b c d e = rw (le-leb _ _ a, le-leb _ _ b, le-leb _ _ c, le-leb _ _ d, le-leb _ _ e)
