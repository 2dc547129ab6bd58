-- Document 01's ways to check events and combine their dossiers, and what a way answers. The calls are a parameter: on bytes, and on values.
use Rattle.std.specs.Prelude.{cond, List, [], ◌∷◌, ◌++◌, ℕ, zero, suc}
use Rattle.model.specs.Order.{Order}
use Rattle.model.specs.Sets.{canon}
use Rattle.model.specs.Rule.{TypeView, Dossier}
use Rattle.model.specs.Limits.{Limits, fits}

-- "A way is a tree of calls with at least one event. A leaf checks one accepted event. Any other call combines the dossiers that its two sides returned".
-- "output buffers may hold anything before": each call has its buffer.
pub data Way (Event Buffer : Type 0) : Type 0 where
  leaf : Buffer → Event → Way Event Buffer
  node : Buffer → Way Event Buffer → Way Event Buffer → Way Event Buffer

-- What a call answers: the dossier that it wrote, or the number of the question whose answer is no
pub data Reply (D : Type 0) : Type 0 where
  wrote : D → Reply D
  said : ℕ → Reply D

module _ {Event Buffer : Type 0} where
  -- "The events of the leaves are the way's events"
  unfoldable pub events : Way Event Buffer → List Event
  events (leaf b e) = e ∷ []
  events (node b l r) = events l ++ events r

  unfoldable pub buffers : Way Event Buffer → List Buffer
  buffers (leaf b e) = b ∷ []
  buffers (node b l r) = b ∷ (buffers l ++ buffers r)

  -- "the set of its distinct events"; "Events with equal bytes are one"
  unfoldable pub event_set : Order Event → Way Event Buffer → List Event
  event_set distinct w = canon distinct (events w)

-- "The first refused call ends the way, and its number is the way's answer", "left side first"
unfoldable pub next : {D : Type 0} → (D → D → Reply D) → Reply D → Reply D → Reply D
next join (said n) r = said n
next join (wrote a) (said n) = said n
next join (wrote a) (wrote b) = join a b

module _ {Event Buffer D : Type 0} (check : Buffer → Event → Reply D) (join : Buffer → D → D → Reply D) where
  -- "Else the answer is the dossier of the last call"
  unfoldable pub calls : Way Event Buffer → Reply D
  calls (leaf b e) = check b e
  calls (node b l r) = next (join b) (calls l) (calls r)

-- "Is the rule over both sides together .. inside the limits? 8", and else the dossier
unfoldable pub limited : {D : Type 0} → Limits → TypeView → (Dossier → D) → Dossier → Reply D
limited l t encode d = cond (fits l t d) (wrote (encode d)) (said 8)

-- "A batch gives one dossier: all its events but the last are combined first, then the last is added".
-- The batch of n + 1 events is a way; `checked` and `combined` are the buffers of its calls.
module _ {Event Buffer : Type 0} (at : ℕ → Event) (checked combined : ℕ → Buffer) where
  unfoldable pub batch : ℕ → Way Event Buffer
  batch zero = leaf (checked zero) (at zero)
  batch (suc n) = node (combined (suc n)) (batch n) (leaf (checked (suc n)) (at (suc n)))
