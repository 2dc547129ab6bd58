-- What the readers of an event answer, as relations between the bytes, what was read and the positions. They are over any bytes, so that a dossier's sets and
-- head are read by them too.
use Rattle.std.specs.Prelude.{ℕ, zero, suc, ◌+◌, ◌-◌, ◌*◌, ◌≤◌, ◌<◌, ◌≡◌, Bool, true, false, length, take, drop, get_or}
use Rattle.std.proofs.Math.Option.{Option, none, some}
use mathlib.Core.List.{List, [], ◌∷◌, ◌++◌, map, flatten}
use Rattle.std.proofs.Math.ListN.{get_elem?}
use Rattle.model.specs.Order.{Text}
use Rattle.packed.specs.Parse.{Parse, fail, got, All}
use Rattle.packed.specs.Packed.{number, text, part}
use Rattle.values.specs.Spaces.{is_kind}
use Rattle.replies.specs.Questions as questions
use Rattle.replies.specs.Questions.{Asked, refused, accepted, ask, ensure}
use Rattle.replies.specs.Replies.{refusal_number}
use Rattle.replies.specs.declared.reply.Refusal.{Refusal}
use Rattle.ontology.specs.Table.{Property, EventType}
use Rattle.ontology.specs.TableLayout.{table_of}
use Rattle.ontology.specs.code.TypeIndex.{TypeIs}
use Rattle.event.specs.Event.{Event, object_count, set_at}
use Rattle.event.specs.EventLayout.{Counts, narrow, wide, set_bytes, sets_bytes, presence_bit, bit_number}
use Rattle.event.specs.Head.{head_bytes, Head}
use Rattle.ontology.specs.declared.types.TypeIndex.{TypeIndex}
use Rattle.event.specs.declared.sets.SetAt.{SetAt}
use Rattle.event.specs.declared.head.HeadAt.{HeadAt}
use Rattle.event.specs.declared.read.EventIndex.{EventIndex}
use Rattle.event.specs.EventQuestions.{Typed, event_asked, event_shape, values_fit}
use Rattle.event.specs.Value.{bytes_before, value_call}
use Rattle.event.specs.declared.read.EventCounts.{EventCounts}
use Rattle.event.specs.declared.read.EventCounts.TheVariants as taken
use Rattle.std.specs.Prelude.{Some, None, Result, Ok, Err}
use Rattle.packed.specs.declared.read.TextAt.{TextAt}
use Rattle.std.specs.Prelude as std
use Rattle.event.specs.declared.sets.SetsRead.{SetsRead}

-- how many bytes a set has before its values: those of its count, and an empty set none
unfoldable pub count_size : ℕ → ℕ
count_size zero = 0
count_size (suc n) = length (number (suc n))

-- The values vs stand in the bytes s where x says: their texts, one after the other, and their count before them
pub record SetIs (s : List ℕ) (vs : List Text) (x : SetAt) : Type 0 where
  pub bytes : part s x.start x.end ≡ flatten (map text vs)
  pub count : x.count ≡ length vs
  pub order : x.start ≤ x.end
  pub within : x.end ≤ length s
  pub counted : count_size x.count ≤ x.start
  pub whole : part s (x.start - count_size x.count) x.end ≡ set_bytes vs

-- no values, at the front
abbrev pub no_set : SetAt
no_set = record { start = 0; end = 0; count = 0 }

-- the set of a place among those of all places, which are lent as three numbers each
abbrev pub set_in : List ℕ → ℕ → SetAt
set_in ats i = record { start = get_or ats (3 * i) 0; end = get_or ats (3 * i + 1) 0; count = get_or ats (3 * i + 2) 0 }

-- each of the 32 places has its set
pub record SetsAre (s : List ℕ) (xs : List (List Text)) (ats : List ℕ) : Type 0 where
  pub long : length xs ≡ 32
  pub each : (i : ℕ) → i < 32 → SetIs s (get_or xs i []) (set_in ats i)

-- a bit of a presence or differ number
unfoldable pub bit_of : Bool → ℕ
bit_of true = 1
bit_of false = 0

-- where something is known to stand, reading finds it
abbrev pub Promised : {A : Type 0} → Bool → Parse A → Type 0
Promised known p = known ≡ true → p ≡ fail → ⊥

-- a set was read, and what is left starts at its end
pub record SetStops (p : Parse (List Text)) (s : List ℕ) (x : SetAt) : Type 0 where
  pub what : List Text
  pub is : p ≡ got what (drop x.end s)
  pub stands : SetIs s what x

-- what the reader of a set answers, where the layout finds p
abbrev pub SetReads : Parse (List Text) → List ℕ → std.Option SetAt → Type 0
SetReads p s (Some x) = SetStops p s x
SetReads p s None = p ≡ fail

-- the sets were read, and what is left starts at `next`; ats are the numbers of all places
pub record SetsStop (p : Parse (List (List Text))) (s ats : List ℕ) (next objects : ℕ) : Type 0 where
  pub what : List (List Text)
  pub is : p ≡ got what (drop next s)
  pub within : next ≤ length s
  pub summed : objects ≡ object_count what
  pub stands : SetsAre s what ats

-- what the reader of sets answers, and leaves in the numbers ats
abbrev pub SetsReads : Parse (List (List Text)) → List ℕ → List ℕ → std.Option SetsRead → Type 0
SetsReads p s ats (Some x) = SetsStop p s ats x.next x.objects
SetsReads p s ats None = p ≡ fail

-- hashes of 20 bytes stand in the bytes where x says
pub record HashesAre (s : List ℕ) (hs : List Text) (x : SetAt) : Type 0 where
  pub bytes : part s x.start x.end ≡ flatten hs
  pub count : x.count ≡ length hs
  pub size : x.end ≡ x.start + 20 * x.count
  pub within : x.end ≤ length s
  pub each : (i : ℕ) → i < length hs → part s (x.start + 20 * i) (x.start + 20 * i + 20) ≡ get_or hs i []

pub record ParentsStop (p : Parse (List Text)) (s : List ℕ) (x : SetAt) : Type 0 where
  pub what : List Text
  pub is : p ≡ got what (drop x.end s)
  pub stands : HashesAre s what x

abbrev pub ParentsReads : Parse (List Text) → List ℕ → std.Option SetAt → Type 0
ParentsReads p s (Some x) = ParentsStop p s x
ParentsReads p s None = p ≡ fail

-- a text stands where x says
pub record TextIs (s : List ℕ) (v : Text) (x : TextAt) : Type 0 where
  pub bytes : part s x.start x.end ≡ v
  pub order : x.start ≤ x.end
  pub within : x.end ≤ length s

pub record HeadIs (s : List ℕ) (h : Head) (x : HeadAt) : Type 0 where
  pub name : TextIs s h.type x.name
  pub uri : TextIs s h.source x.source
  pub hashes : HashesAre s h.parents x.parents

-- the parts of a head, each by itself; the hashes of its parents one after the other
pub record HeadParts (name source hashes : List ℕ) (h : Head) : Type 0 where
  pub type : name ≡ h.type
  pub uri : source ≡ h.source
  pub parents : hashes ≡ flatten h.parents
  pub each : All (λ (p : Text). length p ≡ 20) h.parents

-- the head of these parts has its room in an output of `size` bytes
pub record HeadRoom (name source hashes : List ℕ) (at size : ℕ) : Type 0 where
  pub head : Head
  pub parts : HeadParts name source hashes head
  pub room : at + length (head_bytes head) ≤ size

pub record HeadStops (p : Parse Head) (s : List ℕ) (h : HeadAt) : Type 0 where
  pub what : Head
  pub is : p ≡ got what (drop h.parents.end s)
  pub stands : HeadIs s what h

abbrev pub HeadReads : Parse Head → List ℕ → std.Option HeadAt → Type 0
HeadReads p s (Some h) = HeadStops p s h
HeadReads p s None = p ≡ fail

-- The event e stands in the bytes s as the index says, and its sets where the numbers ats say
pub record EventIs (s : List ℕ) (e : Event) (x : EventIndex) (ats : List ℕ) : Type 0 where
  pub head : HeadIs s e.head x.head
  pub presence : x.presence ≡ bit_number (map presence_bit e.sets)
  pub front : take x.after_presence s ≡ head_bytes e.head ++ number x.presence
  pub rest : drop x.after_presence s ≡ sets_bytes e.sets
  pub within : x.after_presence ≤ length s
  pub objects : x.objects ≡ object_count e.sets
  pub sets : SetsAre s e.sets ats

pub record EventStands (p : Option Event) (s ats : List ℕ) (x : EventIndex) : Type 0 where
  pub what : Event
  pub is : p ≡ some what
  pub stands : EventIs s what x ats

-- what the reader of an event answers, and leaves in the numbers ats
abbrev pub EventReads : Option Event → List ℕ → List ℕ → std.Option EventIndex → Type 0
EventReads p s ats (Some x) = EventStands p s ats x
EventReads p s ats None = p ≡ none

-- an event's counts, or the wider ones
abbrev pub counts_of : EventCounts → Counts
counts_of taken.Narrow = narrow
counts_of taken.Wide = wide

-- ---- finding a value

-- how many places have objects
unfoldable pub present : List (List Text) → ℕ
present [] = 0
present (x ∷ xs) = presence_bit x + present xs

-- the bytes x stand in s at `at`, and r follows them, at `to`
pub record Skipped (s : List ℕ) (at : ℕ) (x r : List ℕ) (to : ℕ) : Type 0 where
  pub rest : drop to s ≡ r
  pub far : to ≡ at + length x
  pub within : to ≤ length s

-- what is answered for `count` texts at `at`: where they stand and r follows them, `to` is where r starts
abbrev pub TextsSkipped : List ℕ → ℕ → ℕ → ℕ → Type 0
TextsSkipped s at count to =
    (vs : List Text) (r : List ℕ) → drop at s ≡ flatten (map text vs) ++ r → at ≤ length s → count ≡ length vs →
    Skipped s at (flatten (map text vs)) r to

-- the same for the sets of `count` places with objects
abbrev pub SetsSkipped : List ℕ → ℕ → ℕ → ℕ → Type 0
SetsSkipped s at count to =
    (xs : List (List Text)) (r : List ℕ) → drop at s ≡ sets_bytes xs ++ r → at ≤ length s → count ≡ present xs →
    Skipped s at (sets_bytes xs) r to

-- the value at a place and an index stands from a up to z
pub record ValueStands (s : List ℕ) (e : Event) (place index a z : ℕ) : Type 0 where
  pub some : get_elem? (set_at e place) index ≡ some (part s a z)
  pub start : a ≡ length (bytes_before e place index)
  pub order : a ≤ z
  pub within : z ≤ length s

abbrev pub ValueFound : List ℕ → Event → ℕ → ℕ → std.Option TextAt → Type 0
ValueFound s e place index (Some x) = ValueStands s e place index x.start x.end
ValueFound s e place index None = get_elem? (set_at e place) index ≡ none

-- a value's bytes stand where x says, and that is what the value call gives
pub record PartTold (table event : List ℕ) (place index : ℕ) (x : TextAt) : Type 0 where
  pub is : value_call table event place index ≡ record { bytes = part event x.start x.end; start = x.start }
  pub order : x.start ≤ x.end
  pub within : x.end ≤ length event

-- what is answered of a place and an index of an event under a table
abbrev pub ValueTold : List ℕ → List ℕ → ℕ → ℕ → std.Option TextAt → Type 0
ValueTold table event place index (Some x) = PartTold table event place index x
ValueTold table event place index None = value_call table event place index ≡ record { bytes = []; start = 0 }

-- ---- the questions

-- each property's kind has its parameters in their ranges, as in every table that is accepted
abbrev pub KindsAre : EventType → Type 0
KindsAre t = (i : ℕ) (q : Property) → get_elem? t.properties i ≡ some q → is_kind q.kind ≡ true

-- questions 2 to 6 of a table and an event
abbrev pub event_questions : Counts → List ℕ → List ℕ → Asked Typed
event_questions counts table event = questions.◌>>=◌ (ask 2 (table_of table)) (λ ts. event_asked counts ts event)

-- questions 5 and 6
abbrev pub places_asked : EventType → Event → Asked (Unit {0})
places_asked t e = questions.◌>>◌ (ensure 5 (event_shape t e)) (ensure 6 (values_fit t e.sets))

-- an event that was accepted, with its type; ps are the numbers of the type's properties, ats those of the event's sets
pub record EventAccepted (p : Asked Typed) (table event ps ats : List ℕ) (t : TypeIndex) (e : EventIndex) : Type 0 where
  pub what : Typed
  pub is : p ≡ accepted what
  pub typed : TypeIs table what.type t ps
  pub read : EventIs event what.event e ats

-- what asking answers, where the questions come to p
abbrev pub EventAnswers : Asked Typed → List ℕ → List ℕ → List ℕ → List ℕ → Result (TypeIndex × EventIndex) Refusal → Type 0
EventAnswers p table event ps ats (Ok (t, e)) = EventAccepted p table event ps ats t e
EventAnswers p table event ps ats (Err q) = p ≡ refused (refusal_number q)
