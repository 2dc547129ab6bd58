-- What a reply says of what a call was handed, and how large its numbers can be: the words of demand 1's last sentence and of the bounds of replies, which the
-- report's statements use too.
use Rattle.std.specs.Prelude.{ℕ, ◌≤◌, ◌<◌, ◌≡◌, ◌⊎◌, drop}
use Rattle.std.proofs.Math.Option.{Option, some}
use mathlib.Core.List.{List, Memᴰ}
use Rattle.model.specs.Opening.{place_of}
use Rattle.replies.specs.Answers.{Reply, Outcome}
use Rattle.event.specs.EventLayout.{narrow, event_of}
use Rattle.batch.specs.Batch.{batch_of}

-- "a number from 1 to 9"
abbrev pub IsNumber : ℕ → Type 0
IsNumber n = (1 ≤ n) × (n ≤ 9)

-- the same of a call that takes limits, document 02, Q-13: "18 for a parameter outside its range". "Demand 1's numbers .. take in these and later ones."
abbrev pub IsNumberOr18 : ℕ → Type 0
IsNumberOr18 n = IsNumber n ⊎ (n ≡ 18)

-- the position of an event in a batch: "a count 1 to 16", "the event's position from 0"
abbrev pub IsPosition : ℕ → Type 0
IsPosition i = i < 16

-- bytes that a layout reads
abbrev pub Reads : {A : Type 0} → Option A → Type 0
Reads {A} m = (a : A) × (m ≡ some a)

-- What each reply says of the call's input and of the output's bytes after it and before it; each call has its own numbers. "Nothing outside document 01's
-- layouts is taken: it gets a number from 1 to 9 .., and the output buffer keeps its old bytes"; document 01: "success leaves bytes past the returned length
-- unchanged", "Conflict and overfull leave the output unchanged." That the number comes "in 01's order" is how the calls' definitions ask.
unfoldable pub TakesIn : (ℕ → Type 0) → Type 0 → Reply → List ℕ → List ℕ → Type 0
TakesIn Number InLayout (Reply.done n) bytes old = InLayout × (drop n bytes ≡ drop n old)
TakesIn Number InLayout (Reply.found f) bytes old = InLayout × (bytes ≡ old)
TakesIn Number InLayout (Reply.refused n) bytes old = Number n × (bytes ≡ old)
TakesIn Number InLayout (Reply.refused_at n i) bytes old = Number n × (bytes ≡ old)

pub record Takes (Number : ℕ → Type 0) (InLayout : Type 0) (o : Outcome) (old : List ℕ) : Type 0 where
  pub replied : TakesIn Number InLayout o.reply o.bytes old

-- a batch that is read, and so each of its events
abbrev pub BatchReads : List ℕ → Type 0
BatchReads batch = (ss : List (List ℕ)) × (batch_of batch ≡ some ss) × ((s : List ℕ) → Memᴰ s ss → Reads (event_of narrow s))

-- "property count 1 to 32 .. A property's place is its position from 0."
abbrev pub IsPlace : ℕ → Type 0
IsPlace p = p < 32

-- a reply of a call that has these numbers and gives at most `size` bytes
unfoldable pub Bounded : (ℕ → Type 0) → ℕ → Reply → Type 0
Bounded Number size (Reply.done n) = n ≤ size
Bounded Number size (Reply.found f) = IsPlace (place_of f)
Bounded Number size (Reply.refused n) = Number n
Bounded Number size (Reply.refused_at n i) = Number n × IsPosition i
