-- Document 02, Q-13: the limits that a call takes, and the question that is asked of them.
use Rattle.model.specs.Limits.{Limits, is_permitted}
use Rattle.replies.specs.Questions.{Asked, ensure}
use Rattle.replies.specs.declared.limits.Limits as declared

-- the limits that a call is handed
abbrev pub limits_of : declared.Limits → Limits
limits_of l = record { versions = l.versions; parents = l.parents; objects = l.objects }

-- "18 for a parameter outside its range, before everything else"
abbrev pub in_range : Limits → Asked (Unit {0})
in_range l = ensure 18 (is_permitted l)
