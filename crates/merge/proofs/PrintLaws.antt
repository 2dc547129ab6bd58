-- In room for any report the call replies its length, and lays it at the front.
use Rattle.std.proofs.Common.{◌≡◌, ℕ, ◌≤◌, List, length, take, drop, Result, Ok, Err, sym, subst, arith}
use lib.Seq.{take-append_seam}
use borrow.Author.Tests.{le-leb}
use Rattle.replies.specs.Capacities.{report_capacity}
use Rattle.replies.specs.Answers as answers
use Rattle.replies.specs.Answers.{Outcome}
use Rattle.replies.specs.Replies.{replies}
use Rattle.replies.specs.declared.reply.Refusal.{Refusal}
use Rattle.report.specs.Report.{report, report_answer, report_call}
use Rattle.report.proofs.ReportLaws.{report-short}

-- a reply that gives these lines, at the front of the output
abbrev Gives : answers.Reply → List ℕ → List ℕ → Type 0
Gives (answers.done n) bytes lines = (n ≤ 65536) × (take n bytes ≡ lines)
Gives (answers.found f) bytes lines = ⊥
Gives (answers.refused n) bytes lines = ⊥
Gives (answers.refused_at n i) bytes lines = ⊥

abbrev Prints : List ℕ → Outcome → Type 0
Prints lines o = Gives o.reply o.bytes lines

report-prints : (input old : List ℕ) → report_capacity ≤ length old → Prints (report input) (report_call input old)
unfolding report_call report_answer
report-prints input old h =
    rw (le-leb report_capacity (length old) h)
    (omega (arith, report-short input), take-append_seam (report input) (drop (length (report input)) old))

prints : (input old bytes : List ℕ) (r : Result ℕ Refusal) → report_capacity ≤ length old → replies r bytes ≡ report_call input old →
    Prints (report input) (replies r bytes)
prints input old bytes r h e = subst (Prints (report input)) (sym e) (report-prints input old h)

-- a reply that is done
pub prints-done : (input old bytes : List ℕ) (n : ℕ) → report_capacity ≤ length old → replies (Ok n) bytes ≡ report_call input old →
    (n ≤ 65536) × (take n bytes ≡ report input)
prints-done input old bytes n h e = prints input old bytes (Ok n) h e

-- and there is no other
pub never-refused : (input old bytes : List ℕ) (q : Refusal) → report_capacity ≤ length old → replies (Err q) bytes ≡ report_call input old → ⊥
never-refused input old bytes q h e = prints input old bytes (Err q) h e
