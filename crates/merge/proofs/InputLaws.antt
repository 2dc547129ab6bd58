-- The report of what was read is that of the whole input: where that is longer than the buffer holds, both are too long.
use Rattle.std.proofs.Common.{◌≡◌, ℕ, ◌+◌, ◌≤◌, ◌<◌, List, ◌++◌, Bool, true, false, length, take}
use Rattle.std.specs.Prelude.{Option, None, Some, IfSome}
use Rattle.std.proofs.Common.{ap, sym, refl, ◌∙◌, subst, arith, length-take-le}
use Rattle.std.specs.Io.KnownBytes.{Consumes, IsAtEnd}
use Rattle.std.proofs.lemmas.List.{append-nil, length-append}
use Rattle.std.proofs.lemmas.Bool.{ltb-true, ltb-false}
use Rattle.std.proofs.Math.Dec.{ltb}
use borrow.Author.Tests.{lt-leb}
use Rattle.report.specs.Report.{report, refused_line, most_input}

report-over : (s : List ℕ) → most_input < length s → report s ≡ refused_line 9 0
unfolding report
report-over s h = rw (lt-leb (length s) most_input h) refl

pub report-read : (a b : Option (List ℕ)) (n : ℕ) (buf : List ℕ) → 65537 ≡ length buf → n ≤ length buf → Consumes a b (take n buf) →
    (n < length buf → IsAtEnd b) → IfSome a (λ xs. report (take n buf) ≡ report xs)
report-read None b n buf room within told end = tt
report-read (Some xs) None n buf room within told end = absurd told
report-read (Some xs) (Some ys) n buf room within told end = go (ltb n (length buf)) refl
  where
    long : length (take n buf) ≡ n
    long = length-take-le n buf within

    longer : length xs ≡ length (take n buf) + length ys
    longer = ap length told ∙ length-append (take n buf) ys

    go : (b : Bool) → ltb n (length buf) ≡ b → report (take n buf) ≡ report xs
    go true h = ap report (sym (told ∙ ap (λ l. take n buf ++ l) (end (ltb-true n (length buf) h)) ∙ append-nil (take n buf)))
    go false h =
        let full = ltb-false n (length buf) h in
        report-over (take n buf) (omega (arith, full, long, room)) ∙ sym (report-over xs (omega (arith, full, long, room, longer)))

pub report-told : (a : Option (List ℕ)) (s : List ℕ) (P : List ℕ → Type 0) → IfSome a (λ xs. report s ≡ report xs) → P (report s) →
    IfSome a (λ xs. P (report xs))
report-told None s P same p = tt
report-told (Some xs) s P same p = subst P same p
