-- Demand 1's last sentence of the report, and the bounds of its reply.
use mathlib.Core.Path.{◌≡◌, refl}
use mathlib.Core.Logic.{◌⊎◌, inl, inr, ⊎_elim}
use mathlib.Core.Bool.{Bool, true, false, cond}
use mathlib.Core.List.{List}
use Prim.Native.Nat.{ℕ, ◌≤◌}
use native.Mathlib.Omega.{arith}
use lib.ListN.{length, drop}
use lib.Dec.{leb}
use lib.Seq.{take-append_seam}
use borrow.Author.Tests.{leb-true}
use Rattle.model.specs.Limits.{standard}
use Rattle.model.proofs.Cases.{truth}
use Rattle.packed.specs.Parse.{Parse, fail, got}
use Rattle.packed.specs.Packed.{read_text}
use Rattle.replies.specs.Capacities.{report_capacity}
use Rattle.replies.specs.Answers.{gives, refuses, reply_of, outcome}
use Rattle.dossier.specs.DossierQuestions.{TypedDossier}
use Rattle.batch.specs.Batch.{AskedAt, refused_at, accepted}
use Rattle.batch.specs.Taken.{IsNumber, TakesIn, Takes, Bounded}
use Rattle.batch.proofs.TakenLaws.{AsksAt, asks-batch, takes-given}
use Rattle.report.specs.Report.{refused_line, asked_lines, framed_lines, most_input, report, report_answer, report_call}
use Rattle.report.specs.ReportDemand1.{InputReads, Refusal, PrintsRefusal, ReportDemand1, ReportBounded}
use Rattle.report.proofs.ReportLaws.{report-short}

-- the report of an input that is not read is one line
input-told : (input : List ℕ) → InputReads input ⊎ Refusal (report input)
unfolding report framed_lines asked_lines
input-told input = truth (leb (length input) most_input)
    (λ l. rw l (framed (leb-true (length input) most_input l) (read_text input) refl))
    (λ l. rw l (inr unread))
  where
    unread : Refusal (refused_line 9 0)
    unread = (9, 0, refl, (omega arith, omega arith), omega arith)

    asked : {P : Type 0} {q : AskedAt TypedDossier} → AsksAt (λ d. P) q → P ⊎ Refusal (asked_lines q)
    asked {q = refused_at n i} h = inr (n, i, refl, h.answers.0, h.answers.1)
    asked {q = accepted d} h = inl h.answers

    framed : length input ≤ most_input → (p : Parse (List ℕ)) → read_text input ≡ p → InputReads input ⊎ Refusal (framed_lines p)
    framed l fail e = inr unread
    framed l (got table batch) e = ⊎_elim (λ r. inl (l, table, batch, e, r.0, r.1)) inr (asked (asks-batch standard table batch))

takes-report : {P : Type 0} (b : Bool) (x old : List ℕ) → P ⊎ Refusal x →
    Takes IsNumber (P ⊎ PrintsRefusal (outcome (cond b (gives x) (refuses 1)) old)) (outcome (cond b (gives x) (refuses 1)) old) old
unfolding TakesIn
takes-report true x old h = takes-given x old (⊎_elim inl (λ r. inr (x, (refl, take-append_seam x (drop (length x) old)), r)) h)
takes-report false x old h = record { replied = ((omega arith, omega arith), refl) }

pub report-demand1 : ReportDemand1
unfolding report_call report_answer
report-demand1 = record { report = λ input old. takes-report (leb report_capacity (length old)) (report input) old (input-told input) }

bounded-report : (b : Bool) (input : List ℕ) → Bounded IsNumber report_capacity (reply_of (cond b (gives (report input)) (refuses 1)))
unfolding Bounded
bounded-report true input = report-short input
bounded-report false input = (omega arith, omega arith)

pub report-bounded : ReportBounded
unfolding report_call report_answer
report-bounded = record { report = λ input old. bounded-report (leb report_capacity (length old)) input }
