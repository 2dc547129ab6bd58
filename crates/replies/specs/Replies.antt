-- Document 01: "When an answer is an enum, a definition gives this paper's number and values for each of its cases, and the promises use that definition."
use Rattle.std.specs.Prelude.{ℕ, List, Result, Ok, Err}
use Rattle.model.specs.Opening as model
use Rattle.replies.specs.Questions.{Asked, accepted, refused}
use Rattle.replies.specs.Answers as answers
use Rattle.replies.specs.Answers.{Outcome}
use Rattle.replies.specs.declared.reply.Refusal.{Refusal}
use Rattle.replies.specs.declared.reply.Refusal.TheVariants.{SmallBuffer, BadTable, BadInput, UnknownType, BadShape}
use Rattle.replies.specs.declared.reply.Refusal.TheVariants.{BadValue, Disagreement, OverLimits, BadBatch, BadLimits}
use Rattle.replies.specs.declared.reply.Finding.{Finding}
use Rattle.replies.specs.declared.reply.Finding.TheVariants.{Conflict, Overfull}
use Rattle.replies.specs.declared.reply.Opened.{Opened}
use Rattle.replies.specs.declared.reply.Opened.TheVariants.{Merged, Found}
use Rattle.replies.specs.declared.reply.BatchRefusal.{BatchRefusal}

-- "Questions in order, and the number when the answer is no"; document 02, Q-13: "18 for a parameter outside its range"
abbrev pub refusal_number : Refusal → ℕ
refusal_number SmallBuffer = 1
refusal_number BadTable = 2
refusal_number BadInput = 3
refusal_number UnknownType = 4
refusal_number BadShape = 5
refusal_number BadValue = 6
refusal_number Disagreement = 7
refusal_number OverLimits = 8
refusal_number BadBatch = 9
refusal_number BadLimits = 18

-- what some questions came to
abbrev pub asked_of : {A : Type 0} → Result A Refusal → Asked A
asked_of (Ok a) = accepted a
asked_of (Err q) = refused (refusal_number q)

-- check a table, which has no output
unfoldable pub table_replied : Result (Unit {0}) Refusal → answers.Reply
table_replied (Ok u) = answers.Reply.done 0
table_replied (Err q) = answers.Reply.refused (refusal_number q)

-- check an event, combine, hash text, hash, and the report
abbrev pub replied : Result ℕ Refusal → answers.Reply
replied (Ok n) = answers.Reply.done n
replied (Err q) = answers.Reply.refused (refusal_number q)

-- a reply with the output after it
abbrev pub replies : Result ℕ Refusal → List ℕ → Outcome
replies r bytes = record { reply = replied r; bytes = bytes }

-- open
abbrev pub finding_of : Finding → model.Finding
finding_of (Conflict v p) = model.conflict_at v.0 p
finding_of (Overfull p) = model.overfull_at p

abbrev pub open_replied : Result Opened Refusal → answers.Reply
open_replied (Ok (Merged n)) = answers.Reply.done n
open_replied (Ok (Found f)) = answers.Reply.found (finding_of f)
open_replied (Err q) = answers.Reply.refused (refusal_number q)

abbrev pub open_replies : Result Opened Refusal → List ℕ → Outcome
open_replies r bytes = record { reply = open_replied r; bytes = bytes }

-- batch
abbrev pub batch_replied : Result ℕ BatchRefusal → answers.Reply
batch_replied (Ok n) = answers.Reply.done n
batch_replied (Err b) = answers.Reply.refused_at (refusal_number b.refusal) b.position

abbrev pub batch_replies : Result ℕ BatchRefusal → List ℕ → Outcome
batch_replies r bytes = record { reply = batch_replied r; bytes = bytes }

-- "0 for 1, 2, 8, 9": a question of the whole batch
abbrev pub at_first : Refusal → BatchRefusal
at_first q = record { refusal = q; position = 0 }
