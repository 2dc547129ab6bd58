-- `check::version_of` meets its contract: an event of a type with no mark has version 0, and of any other the one value at the mark is its version in decimal.
use mathlib.Core.Path.{◌≡◌, ◌∙◌}
use mathlib.Core.List.{[]}
use Prim.Native.Nat.{◌-◌, ◌≤◌}
use lib.ListN.{get_or}
use Rattle.event.specs.Event.{set_at}
use Rattle.event.proofs.SetLaws.{set-read}
use Rattle.combining.specs.code.CheckIndex.{Checkable}
use Rattle.combining.proofs.LoneLaws.{no-version, mark-low, marked-set, version-is, version-digits}
use native.Mathlib.Omega.{arith}
use borrow.Author.Rules.{rules}
use Rattle.combining.proofs.check.version_of.Statement.{statement}
use Rattle.combining.proofs.check.version_of.Tie as tie

-- ---- the places

abbrev to_start : tie.Else-mark-eq0 → tie.Start
to_start c = (search)

abbrev to-marked : tie.After-value_in → tie.Else-mark-eq0
to-marked c = (search)

-- ---- the facts

low : (c : tie.Else-mark-eq0) → let mark = (to_start c).args.t.mark in (1 ≤ mark) × (mark ≤ 32)
low c = mark-low (to_start c).requires.1 c.if-mark-eq0.false

-- the value that is (search) is the first one at the mark
marked-value :
    (c : tie.After-value_in) → let a = (to_start (to-marked c)).args in
    (h : Checkable a.event.now a.t a.sets.now) → c.value_in.result.now ≡ get_or (set_at h.event (a.t.mark - 1)) 0 []
marked-value c h =
    let marked = to-marked c in
    let read = c in
    let stands = set-read read.set_at-x.ensures (marked-set h marked.if-mark-eq0.false) in
    c.value_in.ensures (set_at h.event ((to_start marked).args.t.mark - 1)) (c.set_part.ensures _ stands)

-- ---- the needs

set-at-requires : tie.Need-set_at-x-requires
set-at-requires c κs = (search rules, omega (arith, low c))

numeral-of-requires : tie.Need-numeral_of-requires
numeral-of-requires c κs =
    let marked = to-marked c in
    let h = (to_start marked).requires.1 in
    version-digits h _ marked.if-mark-eq0.false (marked-value c h)

returns-2 : tie.Need-returns
returns-2 c = λ h. c.numeral_of.ensures ∙ version-is h _ (to-marked (search)).if-mark-eq0.false (marked-value (search) h)

pub version_of_spec : {M : Type 1} → statement M
version_of_spec =
    tie.close
    (tie.spec
    (λ c. λ h. search (no-version h))
    (λ c. (low c).0)
    set-at-requires
    (λ c κs. search rules) (λ c κs. search rules)
    numeral-of-requires
    returns-2)
