use Rattle.event.specs.code.EventIndex.{set_in}
use Rattle.combining.specs.code.JoinedIndex.{have_objects}
use Rattle.combining.proofs.PlaceLaws.{FilledOnly}
use Rattle.combining.proofs.joined.joined_places.Given as goal

-- the places up to k have what is said of them, and the others are still false
abbrev pub invariant-loop-k : goal.invariant-loop-k
invariant-loop-k l = FilledOnly (λ p. have_objects (set_in l.left p) (set_in l.right p)) l.present l.k
