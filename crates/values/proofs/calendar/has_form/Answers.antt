use Rattle.std.proofs.Common.{◌∙◌, ℕ, Bool, rules, tests}
use Rattle.std.proofs.lemmas.Iterator.{YieldsList-from_slice, YieldsList-from_zip}
use Rattle.std.proofs.lemmas.Iterator.Search.{all_from_yields_List}
use Rattle.values.proofs.CalendarLaws.{fits_form, form-other, form-pairs}
use Rattle.values.proofs.calendar.has_form.Goals as goal

pub returns-then-form-v : goal.returns-then-form-v
returns-then-form-v c =
    let test : ℕ × ℕ → Bool = λ p. fits_form p.0 p.1 in
    all_from_yields_List test c.all.new.self _ _ c.all.ensures.ran
    (YieldsList-from_zip (YieldsList-from_slice c.args.form.now cc) (YieldsList-from_slice c.args.v.now cc)) (λ x b q k. search (rules, tests))
    ∙ form-pairs _ _ c.if-form-v.true

pub returns-else-form-v : goal.returns-else-form-v
returns-else-form-v c = search (rules, tests, form-other)
