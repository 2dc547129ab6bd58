-- Document 01: the calls hash text and hash.
use Rattle.std.specs.Prelude.{ℕ, List, length}
use Rattle.replies.specs.Questions.{Asked, accepted, ◌>>=◌, ◌>>◌, ask}
use Rattle.replies.specs.Answers.{Answer, answer, Outcome, outcome}
use Rattle.replies.specs.Capacities.{hash_text_capacity, hash_capacity, has_room}
use Rattle.ontology.specs.TableLayout.{table_of}
use Rattle.event.specs.EventLayout.{wide}
use Rattle.event.specs.EventQuestions.{event_asked}
use Rattle.fips180.specs.Fips.{sha1_of}
use Rattle.hashing.specs.HashText.{event_text}

-- the hash text of an event under a table, after the questions that both calls ask; `least` is the output's least size, `room` its size
unfoldable pub hash_text_asked : ℕ → ℕ → List ℕ → List ℕ → Asked (List ℕ)
hash_text_asked least room table event = do
  has_room least room
  ts ← ask 2 (table_of table)
  a ← event_asked wide ts event
  accepted (event_text a.type a.event)

-- "Has the output at least .. bytes (hash text 8,192 ..)"
unfoldable pub hash_text_answer : ℕ → List ℕ → List ℕ → Answer
hash_text_answer room table event = answer (hash_text_asked hash_text_capacity room table event)

-- "The hash is SHA-1 of the hash text (FIPS 180-4; sums modulo 2^32), 20 bytes."
unfoldable pub hash_answer : ℕ → List ℕ → List ℕ → Answer
hash_answer room table event = answer (hash_text_asked hash_capacity room table event >>= λ m. accepted (sha1_of m))

-- The two calls with their output
unfoldable pub hash_text_call : List ℕ → List ℕ → List ℕ → Outcome
hash_text_call table event out = outcome (hash_text_answer (length out) table event) out

unfoldable pub hash_call : List ℕ → List ℕ → List ℕ → Outcome
hash_call table event out = outcome (hash_answer (length out) table event) out
