-- Document 01, "Rule over a set of events" and combining, on values: a byte is a number, a set is a rising list of texts.
use Rattle.std.specs.Prelude.{Bool, true, false, cond, ◌&&◌, ℕ, ◌+◌, length, take}
use mathlib.Core.List.{List, [], ◌∷◌, map, flatten}
use Rattle.model.specs.Order.{Order, Text, numbers, texts, sets, equal}
use Rattle.model.specs.Keyed.{merge}
use Rattle.model.specs.Sets.{canon, union, smallest, only, up_to}

-- What a snapshot has for a property: its set, which may be empty, or the differ mark
pub data Cell : Type 0 where
  holds : List Text → Cell
  differs : Cell

-- Which values a property keeps where values are brought together: all of them, or the first in an order.
-- Min is the order of the values' numbers or instants, max is that order reversed; every other strategy keeps all.
pub data Choice : Type 0 where
  every : Choice
  least : Order Text → Choice

-- What the rule, combining and opening read of a type in the table.
-- `width` is the number of places; `replaces` marks the places of strategy replace, `single` the single-valued ones.
pub record TypeView : Type 0 where
  pub versioned : Bool
  pub width : ℕ
  pub choice : ℕ → Choice
  pub replaces : ℕ → Bool
  pub single : ℕ → Bool

-- What the rule reads of an event.
-- `version` is "the number in its marked property", and 0 for each event of an unversioned type; `set e p` is the event's set at place p.
pub record EventView (Event : Type 0) : Type 0 where
  pub parents : Event → List Text
  pub version : Event → ℕ
  pub set : Event → ℕ → List Text

-- both, of a type and its events
pub record View (Event : Type 0) : Type 0 where
  pub type : TypeView
  pub event : EventView Event

-- the same of something that events are read through, as their bytes
abbrev pub through : {Event Other : Type 0} → (Other → Event) → View Event → View Other
through f v = record {
  type = v.type;
  event = record { parents = λ x. v.event.parents (f x); version = λ x. v.event.version (f x); set = λ x. v.event.set (f x) };
}

-- "A property's place is its position from 0"
unfoldable pub places : TypeView → List ℕ
places t = up_to t.width

-- "A snapshot is: event version (0 for an unversioned type), presence number, differ number .., the sets": a cell for each place, from place 0
pub record Snapshot : Type 0 where
  pub version : ℕ
  pub cells : List Cell

-- The dossier without its type name and source URI, which no rule changes
pub record Dossier : Type 0 where
  pub parents : List Text
  pub snapshots : List Snapshot

-- every set of the list is s
unfoldable pub all_are : List Text → List (List Text) → Bool
all_are s [] = true
all_are s (t ∷ ts) = equal sets s t && all_are s ts

-- "a property in which all events of that version have equal sets (empty counts) has that set, any other has its differ bit"
unfoldable pub agreed : List (List Text) → Cell
agreed [] = holds []
agreed (s ∷ ss) = cond (all_are s ss) (holds s) differs

-- A property's cell, from the sets that the events of a snapshot have there; the first argument tells a versioned type.
-- "Unversioned: one snapshot; min and max have the smallest or largest value, other properties the union"
unfoldable pub cell : Bool → Choice → List (List Text) → Cell
cell true c ss = agreed ss
cell false every ss = holds (canon texts (flatten ss))
cell false (least O) ss = holds (smallest O (flatten ss))

module _ {Event : Type 0} (t : View Event) where
  -- the events of a version
  unfoldable pub of_version : ℕ → List Event → List Event
  of_version = only numbers t.event.version

  -- the cell of a place, from the events of a snapshot
  unfoldable pub cell_of : List Event → ℕ → Cell
  cell_of es p = cell t.type.versioned (t.type.choice p) (map (λ e. t.event.set e p) es)

  -- the snapshot of a version, from the events of that version
  unfoldable pub snapshot : ℕ → List Event → Snapshot
  snapshot v es = record { version = v; cells = map (cell_of es) (places t.type) }

  -- the snapshot of a version, from all the events
  unfoldable pub rule_at : List Event → ℕ → Snapshot
  rule_at es v = snapshot v (of_version v es)

  -- "Rule over a set of events. Parents: the union. Versioned: one snapshot for each event version that occurs".
  -- All events of an unversioned type have version 0, so that it gets one snapshot.
  unfoldable pub rule : List Event → Dossier
  rule es = record {
    parents = canon texts (flatten (map t.event.parents es));
    snapshots = map (rule_at es) (canon numbers (map t.event.version es));
  }

-- "in a shared versioned one two unequal sets (empty counts) or a mark on either side give the mark"
unfoldable pub join_cell : Bool → Choice → Cell → Cell → Cell
join_cell b c differs y = differs
join_cell b c (holds s) differs = differs
join_cell true c (holds s) (holds t) = cond (equal sets s t) (holds s) differs
join_cell false every (holds s) (holds t) = holds (union texts s t)
join_cell false (least O) (holds s) (holds t) = holds (take 1 (union O s t))

module _ (t : TypeView) where
  -- the cells of two snapshots, place by place
  unfoldable pub join_cells : List ℕ → List Cell → List Cell → List Cell
  join_cells [] cs ds = []
  join_cells (p ∷ ps) [] ds = []
  join_cells (p ∷ ps) (c ∷ cs) [] = []
  join_cells (p ∷ ps) (c ∷ cs) (d ∷ ds) = join_cell t.versioned (t.choice p) c d ∷ join_cells ps cs ds

  unfoldable pub join_snapshots : Snapshot → Snapshot → Snapshot
  join_snapshots a b = record { version = a.version; cells = join_cells (places t) a.cells b.cells }

  -- "Combining gives the rule over both sides together; a snapshot of one side only is kept": how, from the two dossiers alone.
  -- That it gives that rule is the law `rule-append`.
  unfoldable pub combine : Dossier → Dossier → Dossier
  combine a b = record {
    parents = union texts a.parents b.parents;
    snapshots = merge numbers (λ s. s.version) join_snapshots a.snapshots b.snapshots;
  }

-- how many objects a cell, a snapshot's cells and all snapshots have
unfoldable pub size : Cell → ℕ
size (holds s) = length s
size differs = 0

unfoldable pub sizes : List Cell → ℕ
sizes [] = 0
sizes (c ∷ cs) = size c + sizes cs

unfoldable pub objects : List Snapshot → ℕ
objects [] = 0
objects (s ∷ ss) = sizes s.cells + objects ss
