-- `write::write_shared` meets its contract. Two snapshots of the same bytes are one, and together with itself a snapshot is itself. Of others the type's mark
-- says by which of the two rules they are joined; each needs the count of the type's properties, past which both sides are vacant.
use borrow.Author.Rules.{rules}
use mathlib.Core.Path.{◌≡◌, sym, ◌∙◌}
use mathlib.Core.Bool.{true}
use Rattle.model.specs.Order.{texts, equal}
use Rattle.packed.proofs.WriteLaws.{wrote_as}
use Rattle.combining.proofs.MergedLaws.{same-written, same-room, agreed-room, joined-room, agreed-wrote, joined-wrote}
use Rattle.combining.proofs.write.write_shared.Statement.{statement}
use Rattle.combining.proofs.write.write_shared.Tie as tie

-- ---- the places

abbrev to_start : tie.After-same → tie.Start
to_start c = (search)

-- ---- the facts

alike : (c : tie.Then-same) → let a = (to_start (search)).args in equal texts a.left.now a.right.now ≡ true
alike c = sym c.same.ensures ∙ c.if-same.true

-- ---- the needs

returns : tie.Need-returns-then-same
returns c = λ u ty x y w s p q.
    let copied : tie.After-copy = search in
    wrote_as (same-written s.meet p q (alike (search))) copied.copy.ensures

pub write_shared_spec : {M : Type 1} → statement M
write_shared_spec =
    tie.close
    (tie.spec
    (λ c κs. search rules)
    (λ c κs. search (same-room, alike search))
    (λ c. search rules)
    returns
    (λ c κs. search agreed-room)
    (λ c. search rules)
    (λ c. λ u ty x y w s p q. agreed-wrote w s c.write_agreed.ensures search)
    (λ c κs. search joined-room)
    (λ c. search rules)
    (λ c. λ u ty x y w s p q. joined-wrote w s c.write_joined.ensures search))
