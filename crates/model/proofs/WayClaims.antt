-- What the model claims of every way, for calls that are a parameter (`Calls`, `HashCalls`): demand 3 of the calls' own equations follows from it.
use mathlib.Core.Path.{◌≡◌}
use mathlib.Core.Logic.{◌↔◌}
use mathlib.Core.Bool.{true, false}
use mathlib.Core.List.{List, [], ◌∷◌, ◌++◌, Memᴰ}
use Prim.Native.Nat.{ℕ, zero, suc}
use Rattle.model.specs.Order.{Order, Text}
use Rattle.model.specs.Sets.{Same}
use Rattle.model.specs.Rule.{View, Dossier, rule, combine}
use Rattle.model.specs.Limits.{Limits, fits}
use Rattle.model.specs.Opening.{finds, Opened, conflict_at, merged, opening}
use Rattle.model.specs.Clashes.{FirstClash, NoClash}
use Rattle.model.specs.Ways.{Way, Reply, wrote, said, events, buffers, event_set, calls, limited}

-- each of them is so; there is one
abbrev pub Each : {A : Type 0} → (A → Type 0) → List A → Type 0
Each {A} S xs = (a : A) → Memᴰ a xs → S a

abbrev pub Has : {A : Type 0} → List A → Type 0
Has {A} xs = (a : A) × Memᴰ a xs

-- What the calls have to do, for events in S (accepted under the table, of one type, source and match values) and buffers with room (question 1).
-- `join` and `opens` are asked only for what a way meets: the rule over such events, inside the limits.
-- `shown` gives the answer of opening for the dossier and an `Opened`; the answers tell a conflict, its version and its place.
pub record Calls {Event : Type 0} (l : Limits) (t : View Event) (Buffer D O : Type 0) (Room : Buffer → Type 0) (S : Event → Type 0) : Type 0 where
  pub encode : Dossier → D
  pub check : Buffer → Event → Reply D
  pub join : Buffer → D → D → Reply D
  pub opens : Buffer → D → O
  pub shown : Dossier → Opened → O
  pub one : (b : Buffer) (e : Event) → Room b → S e → check b e ≡ wrote (encode (rule t (e ∷ [])))
  pub fit : (e : Event) → S e → fits l t.type (rule t (e ∷ [])) ≡ true
  pub two :
      (b : Buffer) (es fs : List Event) → Room b → Has es → Has fs → Each S es → Each S fs → fits l t.type (rule t es) ≡ true →
      fits l t.type (rule t fs) ≡ true →
      join b (encode (rule t es)) (encode (rule t fs)) ≡ limited l t.type encode (combine t.type (rule t es) (rule t fs))
  pub opened :
      (b : Buffer) (es : List Event) → Room b → Has es → Each S es → fits l t.type (rule t es) ≡ true →
      opens b (encode (rule t es)) ≡ shown (rule t es) (opening t.type (rule t es))
  pub tells : (d : Dossier) (o : Opened) (v p : ℕ) → shown d o ≡ shown d (finds (conflict_at v p)) → o ≡ finds (conflict_at v p)

module _
    {Event : Type 0} {l : Limits} {t : View Event} {Buffer D O : Type 0} {Room : Buffer → Type 0} {S : Event → Type 0}
    (c : Calls l t Buffer D O Room S)
  where
    abbrev pub answer : Way Event Buffer → Reply D
    answer = calls c.check c.join

    -- "Demand 3 is a single claim about each whole tree and not one for each call": all its parts, of one way
    pub record Demand3 (distinct : Order Event) (w : Way Event Buffer) : Type 0 where
      -- "the way gives exactly the bytes of 01's rule over the set of its distinct events, or is refused with 8"
      pub result : answer w ≡ limited l t.type c.encode (rule t (event_set distinct w))
      -- "It is refused exactly when that set passes a limit"
      pub refused : (answer w ≡ said 8) ↔ (fits l t.type (rule t (event_set distinct w)) ≡ false)
      pub only_eight : (n : ℕ) → answer w ≡ said n → n ≡ 8
      -- "ways over the same set all give the same bytes or all give 8"
      pub however : (x : Way Event Buffer) → Each Room (buffers x) → Same (events w) (events x) → answer w ≡ answer x
      -- "Opened, the dossier answers what 01's opening says of the rule's bytes"
      pub opened :
          (b : Buffer) (d : D) → Room b → answer w ≡ wrote d →
          c.opens b d ≡ c.shown (rule t (event_set distinct w)) (opening t.type (rule t (event_set distinct w)))
      -- "It is a conflict exactly when two of the events share an event version and differ in a property, and names the lowest such version and the
      -- first such property there"
      pub conflicts :
          (b : Buffer) (d : D) → Room b → answer w ≡ wrote d → (v p : ℕ) →
          (c.opens b d ≡ c.shown (rule t (event_set distinct w)) (finds (conflict_at v p))) ↔ FirstClash t (events w) v p
      pub agrees :
          (b : Buffer) (d : D) → Room b → answer w ≡ wrote d →
          ((v p : ℕ) → c.opens b d ≡ c.shown (rule t (event_set distinct w)) (finds (conflict_at v p)) → ⊥) ↔ NoClash t (events w)

-- What the hash text call has to do, of an event (`of_event`) and of the merged event in an answer of opening (`of_merged`): both give document 01's text of
-- each event, `defined`. It is a record of its own, since ways are claimed of before the hash text runs.
pub record HashCalls
    {Event : Type 0} {l : Limits} {t : View Event} {Buffer D O : Type 0} {Room : Buffer → Type 0} {S : Event → Type 0}
    (c : Calls l t Buffer D O Room S) (H : Type 0) (HashRoom : Buffer → Type 0)
    : Type 0 where
  pub defined : Event → H
  pub of_event : Buffer → Event → H
  pub of_merged : Buffer → O → H
  pub event-hash : (b : Buffer) (e : Event) → HashRoom b → S e → of_event b e ≡ defined e
  pub merged-hash :
      (b : Buffer) (es : List Event) (ss : List (List Text)) (e : Event) → HashRoom b → Each S es → Memᴰ e es →
      fits l t.type (rule t es) ≡ true → opening t.type (rule t es) ≡ merged ss → of_merged b (c.shown (rule t es) (merged ss)) ≡ defined e

module _
    {Event : Type 0} {l : Limits} {t : View Event} {Buffer D O : Type 0} {Room : Buffer → Type 0} {S : Event → Type 0} {H : Type 0}
    {HashRoom : Buffer → Type 0} (c : Calls l t Buffer D O Room S) (k : HashCalls c H HashRoom)
  where
    -- Demand 3 with its hash text
    pub record WholeDemand3 (distinct : Order Event) (w : Way Event Buffer) : Type 0 where
      pub dossier : Demand3 c distinct w
      -- "Where it opens as a merged event, the hash text call gives the same bytes for that event and for each of the way's events: the hash text that
      -- 01 defines for each of them"
      pub hashes :
          (b h : Buffer) (d : D) (ss : List (List Text)) (e : Event) → Room b → HashRoom h → answer c w ≡ wrote d →
          opening t.type (rule t (event_set distinct w)) ≡ merged ss → Memᴰ e (events w) →
          (k.of_merged h (c.opens b d) ≡ k.defined e) × (k.of_event h e ≡ k.defined e)

-- the events 0 to n
unfoldable pub first_events : {Event : Type 0} → (ℕ → Event) → ℕ → List Event
first_events at zero = at zero ∷ []
first_events at (suc n) = first_events at n ++ (at (suc n) ∷ [])
