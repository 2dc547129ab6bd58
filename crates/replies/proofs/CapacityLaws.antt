-- Question 1: an output that has room, and one that is too small.
use Prim.Native.Nat.{ℕ, ◌≤◌, ◌<◌}
use mathlib.Core.Path.{◌≡◌}
use borrow.Author.Tests.{le-leb, lt-leb}
use Rattle.replies.specs.Questions.{refused, accepted}
use Rattle.replies.specs.Capacities.{has_room}

pub has_room_lem : (least size : ℕ) → least ≤ size → has_room least size ≡ accepted tt
has_room_lem least size h = rw (le-leb least size h)

pub too_small : (least size : ℕ) → size < least → has_room least size ≡ refused 1
too_small least size h = rw (lt-leb least size h)
