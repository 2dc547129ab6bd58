-- What a call answers where `?` passes on a refusal.
use mathlib.Core.Path.{◌≡◌, ◌∙◌, ap}
use Rattle.std.specs.Prelude.{Option, None, Result, Err}
use Rattle.std.specs.Option.{ok_or}
use Rattle.std.specs.Result.{IsErrAnd}
use Rattle.std.proofs.lemmas.Result.{err_from_is_err_and}

-- as it was
pub passed-on : {B E : Type 0} {r : Result B E} {e : E} → IsErrAnd r (λ y. y ≡ e) → r ≡ Err e
passed-on {B} {E} {r} h = let p = err_from_is_err_and r h in p.1 ∙ ap (λ (y : E). Err y) p.2

-- the one that `ok_or` named, where nothing was found
pub none-refused :
    {A B E : Type 0} {o : Option A} {q e : E} {r : Result B E} → Err e ≡ ok_or o q → o ≡ None → IsErrAnd r (λ y. y ≡ e) → r ≡ Err q
none-refused {A} {B} {E} {o} {q} {e} {r} told n h =
    let s : ◌≡◌ {A = Result A E} (Err e) (Err q) = told ∙ ap (λ (x : Option A). ok_or x q) n in
    passed-on h ∙ let i : e ≡ q = cc in ap (λ (y : E). Err y) i
