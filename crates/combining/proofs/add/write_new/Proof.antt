-- `add::write_new` meets its contract: where no snapshot of the dossier has the event's version, the event's own is written; where one has it, both together.
use borrow.Author.Rules.{rules}
use borrow.Author.Tests.{not-true, not-false}
use native.Mathlib.Omega.{arith}
use mathlib.Core.Path.{sym, ap}
use Prim.Native.Nat.{◌+◌, ◌≤◌}
use lib.ListN.{length}
use Rattle.packed.proofs.WriteLaws.{wrote_as}
use Rattle.dossier.specs.DossierBody.{snapshot_bytes}
use Rattle.combining.proofs.AddLaws.{ends-within, alone-there, new-alone-bytes, both-there, met-both, new-met}
use Rattle.combining.proofs.add.write_new.Statement.{statement}
use Rattle.combining.proofs.add.write_new.Tie as tie

-- ---- the places

abbrev to_start : tie.After-struct_known-1 → tie.Start
to_start c = (search)

abbrev met-to-start : tie.Else-not-p → tie.Start
met-to-start c = to_start (search)

abbrev to-met : tie.After-write_met-arg-2-1 → tie.Else-not-p
to-met c = (search)

abbrev written : tie.After-slice_known-4-1 → tie.After-write_met
written c = (search)

-- ---- the facts

-- the snapshot of the event's version stands in the dossier
stands-within : (c : tie.Else-not-p) → let a = (met-to-start c).args in a.body + a.p.before + a.p.size ≤ length a.sofar.now
stands-within c = ends-within (met-to-start c).requires.2.in_some

-- ---- the needs

returns : tie.Need-returns-then-not-p
returns c = λ table m x h n.
    let wrote : tie.After-write_alone = search in
    wrote_as (sym (new-alone-bytes h (not-true _ wrote.if-not-p.true) _ n)) (wrote.write_alone.ensures _ h.read)

returns-2 : tie.Need-returns
returns-2 c = λ table m x h n.
    let wrote = written c in
    let q = not-false _ (to-met (search)).if-not-p.false in
    wrote_as (ap snapshot_bytes (sym (new-met h q))) (wrote.write_met.ensures (met-both h q _ n))

pub write_new_spec : {M : Type 1} → statement M
write_new_spec =
    tie.close
    (tie.spec
    (λ c κs. search (alone-there, not-true))
    (λ c. search rules)
    returns
    (λ c. omega (arith, stands-within search))
    (λ c. omega (arith, stands-within search))
    (λ c κs. search (both-there, not-false))
    (λ c. search rules) (λ c. search rules)
    returns-2)
