-- `limits::count_versions` meets its contract: the invariant (`Counting`) says that as many versions of both are counted, and those from i and from j on are
-- left. Each turn counts the lower one of two, and passes it on each side that has it.
use borrow.Author.Rules.{rules}
use mathlib.Core.Logic.{⊎_elim, inl, inr}
use Prim.Native.Nat.{◌+◌, ◌-◌}
use Rattle.combining.proofs.CountLaws.{Passed, version_at, Counting, counting-none, counting-left, counting-right, counting_more, counting-less}
use Rattle.combining.proofs.limits.count_versions.Statement.{statement}
use Rattle.combining.proofs.limits.count_versions.Tie as tie

abbrev invariant-loop-i : tie.invariant-loop-i
invariant-loop-i m n v w i₀ j₀ count₀ i j count = Counting m n v w i j count

abbrev decreases-loop-i : tie.decreases-loop-i
decreases-loop-i m n v w i₀ j₀ count₀ i j count = (m - i) + (n - j)

-- ---- the places

abbrev left-joined : tie.Joined-b-a invariant-loop-i decreases-loop-i → tie.Joined-a-b invariant-loop-i decreases-loop-i
left-joined c = (search)

-- ---- where each side goes on

module _ (c : tie.Joined-b-a invariant-loop-i decreases-loop-i) where
  abbrev at-loop : tie.At-loop-i invariant-loop-i decreases-loop-i
  at-loop = (search)

  left_passed :
      let a = at-loop.args in let l = at-loop.loop-i in
      Passed (version_at a.v l.i) (version_at a.w l.j) l.i (left-joined c).if-a-b.i
  left_passed = ⊎_elim (λ w. inl (w.if-a-b.true, w.i-is)) (λ w. inr (w.if-a-b.false, w.i-is)) (left-joined c).if-a-b.branch-raw

  right-passed :
      let a = at-loop.args in let l = at-loop.loop-i in
      Passed (version_at a.w l.j) (version_at a.v l.i) l.j c.if-b-a.j
  right-passed = ⊎_elim (λ w. inl (w.if-b-a.true, w.j-is)) (λ w. inr (w.if-b-a.false, w.j-is)) c.if-b-a.branch-raw

pub count_versions_spec : {M : Type 1} → statement M
count_versions_spec =
    tie.close
    (tie.spec
    invariant-loop-i
    decreases-loop-i
    (λ c. search (counting-none, rules))
    (λ c. search rules) (λ c. search rules)
    (λ c. search counting-left)
    (λ c. search rules) (λ c. search rules) (λ c. search rules) (λ c. search rules) (λ c. search rules)
    (λ c. search rules) (λ c. search rules)
    (λ c. search (counting-less, left_passed c, right-passed c))
    (λ c. search (counting_more, left_passed c, right-passed c))
    (λ c. search rules) (λ c. search rules)
    (λ c. search counting-right))
