-- What a call answers, what it replies, and what it leaves in its output.
use Rattle.std.specs.Prelude.{ℕ, List, ◌++◌, length, drop}
use Rattle.model.specs.Opening.{Finding}
use Rattle.replies.specs.Questions as questions
use Rattle.replies.specs.Questions.{Asked}

-- What a call answers, which no buffer but its size changes: the bytes that it lays at the front of its output; or what opening finds in place of a merged
-- event, or the question that is answered no (in a batch with the event's position)
pub data Answer : Type 0 where
  gives : List ℕ → Answer
  finds : Finding → Answer
  refuses : ℕ → Answer
  refuses_at : ℕ → ℕ → Answer

-- What a call replies: the same in numbers, with the length of the bytes that it laid
pub data Reply : Type 0 where
  done : ℕ → Reply
  found : Finding → Reply
  refused : ℕ → Reply
  refused_at : ℕ → ℕ → Reply

abbrev pub answer : Asked (List ℕ) → Answer
answer (questions.refused n) = refuses n
answer (questions.accepted d) = gives d

abbrev pub reply_of : Answer → Reply
reply_of (gives d) = Reply.done (length d)
reply_of (finds f) = Reply.found f
reply_of (refuses n) = Reply.refused n
reply_of (refuses_at n i) = Reply.refused_at n i

-- "A refusal leaves the output unchanged; success leaves bytes past the returned length unchanged"; "Conflict and overfull leave the output unchanged."
abbrev pub laid : Answer → List ℕ → List ℕ
laid (gives d) old = d ++ drop (length d) old
laid (finds f) old = old
laid (refuses n) old = old
laid (refuses_at n i) old = old

-- A call with its output: what it replies, and every byte of the output after it
pub record Outcome : Type 0 where
  pub reply : Reply
  pub bytes : List ℕ

abbrev pub outcome : Answer → List ℕ → Outcome
outcome a old = record { reply = reply_of a; bytes = laid a old }
