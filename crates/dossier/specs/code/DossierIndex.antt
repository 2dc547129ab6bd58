-- What the readers of a dossier answer, as relations between the bytes, what was read and the positions.
use Rattle.std.specs.Prelude.{ℕ, suc, ◌+◌, ◌-◌, ◌*◌, ◌≤◌, ◌<◌, ◌≡◌, Bool, true, false, cond}
use Rattle.std.specs.Prelude.{not, ◌&&◌, ◌||◌, List, [], map, length, take, drop, get_or, leb, eqb}
use Rattle.std.proofs.Math.Option.{Option, none, some}
use Rattle.std.specs.Int.Bits.{bit_and, bit_or}
use Rattle.model.specs.Rule.{Cell, Snapshot, sizes}
use Rattle.model.specs.Limits.{Limits}
use Rattle.model.specs.Opening.{held, is_mark, cell_at}
use Rattle.packed.specs.Parse.{Parse, fail, got, Layout, ◌>>=◌, found_if}
use Rattle.packed.specs.Packed.{part}
use Rattle.values.specs.declared.versions.EventVersion.{EventVersion}
use Rattle.replies.specs.Questions as questions
use Rattle.replies.specs.Questions.{Asked, refused, accepted, ask, ensure}
use Rattle.replies.specs.Replies.{refusal_number}
use Rattle.replies.specs.declared.reply.Refusal.{Refusal}
use Rattle.ontology.specs.TableLayout.{table_of}
use Rattle.ontology.specs.Table.{Property, EventType, is_min, is_max, is_match, is_versioned}
use Rattle.ontology.specs.code.TypeIndex.{TypeIs}
use Rattle.ontology.specs.declared.types.TypeIndex.{TypeIndex}
use Rattle.event.specs.EventQuestions.{match_count}
use Rattle.event.specs.EventLayout.{read_sets, bit_number}
use Rattle.event.specs.code.EventIndex.{SetsAre, HeadIs, HeadParts, bit_of}
use Rattle.event.specs.Head.{Head}
use Rattle.event.specs.declared.head.HeadAt.{HeadAt}
use Rattle.dossier.specs.DossierHead.{read_dossier_head, dossier_head_bytes}
use Rattle.dossier.specs.DossierLayout.{Headed, dossier_of}
use Rattle.dossier.specs.DossierBody.{apart, cells_of, are_small, read_snapshot, differ_bit, snapshot_bytes}
use Rattle.dossier.specs.DossierQuestions.{each_cell, is_vacant, is_present, is_lone_if_single}
use Rattle.dossier.specs.DossierQuestions.{is_lone_if_extreme, is_unmarked_match, holds_version, TypedDossier, dossier_asked}
use Rattle.dossier.specs.declared.shape.ShapeMasks.{ShapeMasks}
use Rattle.dossier.specs.declared.snapshots.SnapshotNumbers.{SnapshotNumbers}
use Rattle.dossier.specs.declared.dossiers.SnapshotsRead.{SnapshotsRead}
use Rattle.dossier.specs.declared.dossiers.DossierIndex.{DossierIndex}
use Rattle.std.specs.Prelude.{Some, None, Result, Ok, Err}
use Rattle.std.specs.Prelude as std
use Rattle.dossier.specs.declared.snapshots.NumbersAt.{NumbersAt}

-- ---- a snapshot

-- what follows the numbers that a snapshot begins with
abbrev pub after_numbers : ℕ → ℕ → ℕ → Layout Snapshot
after_numbers version presence differ =
    read_sets 32 presence >>= λ sets. found_if (are_small sets) (record { version = version; cells = cells_of differ sets })

-- the numbers at `at` were read, and what is left starts after the differ number
pub record NumbersStop (s : List ℕ) (at version presence differ after-differ : ℕ) : Type 0 where
  pub is : read_snapshot (drop at s) ≡ after_numbers version presence differ (drop after-differ s)
  pub within : after-differ ≤ length s
  pub presence-low : presence < 4294967296
  pub differ-low : differ < 4294967296
  pub clear : apart 32 presence differ ≡ true

abbrev pub NumbersRead : List ℕ → ℕ → std.Option NumbersAt → Type 0
NumbersRead s at (Some n) = NumbersStop s at n.version.0 n.presence n.differ n.after_differ
NumbersRead s at None = read_snapshot (drop at s) ≡ fail

-- the snapshot x stands from `start` up to `end`
pub record SnapshotAt (s : List ℕ) (x : Snapshot) (start end : ℕ) : Type 0 where
  pub is : read_snapshot (drop start s) ≡ got x (drop end s)
  pub bytes : part s start end ≡ snapshot_bytes x
  pub order : start ≤ end
  pub within : end ≤ length s

-- the snapshot x has these numbers, and its sets stand in s where ats say
pub record SnapshotIs (s : List ℕ) (x : Snapshot) (n : SnapshotNumbers) (ats : List ℕ) : Type 0 where
  pub version : n.version.0 ≡ x.version
  pub differ : n.differ ≡ bit_number (map differ_bit x.cells)
  pub objects : n.objects ≡ sizes x.cells
  pub sets : SetsAre s (map held x.cells) ats

-- a snapshot was read at `at`, and what is left starts at `next`
pub record SnapshotStops (s : List ℕ) (at : ℕ) (n : SnapshotNumbers) (next : ℕ) (ats : List ℕ) : Type 0 where
  pub what : Snapshot
  pub stands : SnapshotAt s what at next
  pub is : SnapshotIs s what n ats

-- what the reader of a snapshot answers, and leaves in the numbers ats
abbrev pub SnapshotReads : List ℕ → ℕ → List ℕ → std.Option (SnapshotNumbers × ℕ) → Type 0
SnapshotReads s at ats (Some (n, next)) = SnapshotStops s at n next ats
SnapshotReads s at ats None = read_snapshot (drop at s) ≡ fail

-- ---- snapshots, one after the other

abbrev pub no_snapshot : Snapshot
no_snapshot = record { version = 0; cells = [] }

-- event versions as numbers, which rise by size
abbrev pub version_numbers : List EventVersion → List ℕ
version_numbers vs = map (λ (v : EventVersion). v.0) vs

abbrev pub no_version : EventVersion
no_version = record { 0 = 0 }

-- each of the snapshots xs has its place, and the next one starts where it ends
pub record SnapshotsAre (s : List ℕ) (xs : List Snapshot) (starts ends : List ℕ) (versions : List EventVersion) : Type 0 where
  pub each : (j : ℕ) → j < length xs → SnapshotAt s (get_or xs j no_snapshot) (get_or starts j 0) (get_or ends j 0)
  pub follows : (j : ℕ) → suc j < length xs → get_or starts (suc j) 0 ≡ get_or ends j 0
  pub numbers : version_numbers (take (length xs) versions) ≡ map (λ (x : Snapshot). x.version) xs

-- the row of snapshot j among those of all: the 96 numbers that tell where its sets stand
abbrev pub row_of : List ℕ → ℕ → List ℕ
row_of rows j = part rows (96 * j) (96 * j + 96)

-- each of the snapshots xs has its row
pub record RowsAre (s : List ℕ) (xs : List Snapshot) (rows : List ℕ) : Type 0 where
  pub each : (j : ℕ) → j < length xs → SetsAre s (map held (get_or xs j no_snapshot).cells) (row_of rows j)

pub record SnapshotsStop (p : Parse (List Snapshot)) (s rows : List ℕ) (r : SnapshotsRead) : Type 0 where
  pub what : List Snapshot
  pub is : p ≡ got what (drop r.next s)
  pub within : r.next ≤ length s
  pub are : SnapshotsAre s what r.starts r.ends r.versions
  pub differs : take (length what) r.differs ≡ map (λ (x : Snapshot). bit_number (map differ_bit x.cells)) what
  pub objects : take (length what) r.objects ≡ map (λ (x : Snapshot). sizes x.cells) what
  pub stand : RowsAre s what rows

-- what the reader of several snapshots answers, and leaves in the rows
abbrev pub SnapshotsSay : Parse (List Snapshot) → List ℕ → List ℕ → std.Option SnapshotsRead → Type 0
SnapshotsSay p s rows (Some r) = SnapshotsStop p s rows r
SnapshotsSay p s rows None = p ≡ fail

-- ---- the head

-- a head was read, and what is left starts at `end`
pub record DossierHeadStops (p : Parse Head) (s : List ℕ) (x : HeadAt) (end : ℕ) : Type 0 where
  pub what : Head
  pub is : p ≡ got what (drop end s)
  pub stands : HeadIs s what x

abbrev pub DossierHeadReads : Parse Head → List ℕ → std.Option (HeadAt × ℕ) → Type 0
DossierHeadReads p s (Some (x, end)) = DossierHeadStops p s x end
DossierHeadReads p s None = p ≡ fail

-- where the bytes begin with a head, it ends at `end`
pub record HeadEnds (limits : Limits) (s : List ℕ) (end : ℕ) : Type 0 where
  pub rest : (h : Head) (t : List ℕ) → read_dossier_head limits s ≡ got h t → t ≡ drop end s

-- the head of these parts has its room in an output of `size` bytes
pub record DossierHeadRoom (name source hashes : List ℕ) (size : ℕ) : Type 0 where
  pub head : Head
  pub parts : HeadParts name source hashes head
  pub room : length (dossier_head_bytes head) ≤ size

-- ---- a dossier

-- The dossier h stands in the bytes s as the index says
pub record DossierIs (s : List ℕ) (h : Headed) (i : DossierIndex) : Type 0 where
  pub head : HeadIs s h.head i.head
  pub count : i.count ≡ length h.snapshots
  pub one : 1 ≤ i.count
  pub few : i.count ≤ 8
  pub snapshots : SnapshotsAre s h.snapshots i.starts i.ends i.versions
  pub differs : take (length h.snapshots) i.differs ≡ map (λ (x : Snapshot). bit_number (map differ_bit x.cells)) h.snapshots
  pub objects : take (length h.snapshots) i.objects ≡ map (λ (x : Snapshot). sizes x.cells) h.snapshots

-- in n numbers there is a row for each snapshot of the dossier that the bytes are, where they are one
pub record HasRows (limits : Limits) (s : List ℕ) (n : ℕ) : Type 0 where
  pub enough : (h : Headed) → dossier_of limits s ≡ some h → 96 * length h.snapshots ≤ n

pub record DossierStands (p : Option Headed) (s rows : List ℕ) (i : DossierIndex) : Type 0 where
  pub what : Headed
  pub is : p ≡ some what
  pub stands : DossierIs s what i
  pub in_rows : RowsAre s what.snapshots rows

-- what the reader of a dossier answers, and leaves in the rows
abbrev pub DossierReads : Option Headed → List ℕ → List ℕ → std.Option DossierIndex → Type 0
DossierReads p s rows (Some i) = DossierStands p s rows i
DossierReads p s rows None = p ≡ none

-- ---- question 5 of a snapshot, place by place

-- the cells of all places, by the differ number and the sets
pub record CellsAre (s : List ℕ) (cs : List Cell) (differ : ℕ) (ats : List ℕ) : Type 0 where
  pub bits : differ ≡ bit_number (map differ_bit cs)
  pub sets : SetsAre s (map held cs) ats

-- all that is asked of a property's cell
unfoldable pub cell_fits : Bool → Property → Cell → Bool
cell_fits versioned p c =
    is_present p c && cond versioned (is_lone_if_single p c) (not (is_mark c) && is_lone_if_extreme p c) && is_unmarked_match p c

-- what is asked of a versioned snapshot and of an unversioned one, besides its cells
unfoldable pub version_fits : Limits → EventType → Snapshot → Bool
version_fits limits t s =
    cond (is_versioned t) (leb (sizes s.cells) 32 && holds_version s.version (cell_at s (t.mark - 1)))
    (eqb s.version 0 && leb (sizes s.cells) limits.objects)

-- all that is asked of a snapshot alone
unfoldable pub snapshot_fits : Limits → EventType → Snapshot → Bool
snapshot_fits limits t s =
    each_cell (cell_fits (is_versioned t)) is_vacant t.properties s.cells
    && leb (match_count t.properties (map held s.cells)) 32
    && version_fits limits t s

-- questions 5 and 6
abbrev pub shape_asked : Bool → Bool → Asked (Unit {0})
shape_asked shape fits = questions.◌>>◌ (ensure 5 shape) (ensure 6 fits)

-- ---- question 5 of a snapshot, by bit masks

-- the number whose bits say which of xs pass a test, the first by the lowest bit
abbrev pub mask_of : {A : Type 0} → (A → Bool) → List A → ℕ
mask_of test xs = bit_number (map (λ x. bit_of (test x)) xs)

-- at most one object is allowed
unfoldable pub must_be_lone : Bool → Property → Bool
must_be_lone versioned p = cond versioned (not p.multivalued) (is_min p || is_max p || (is_match p && not p.multivalued))

-- no mark is allowed
unfoldable pub must_be_unmarked : Bool → Property → Bool
must_be_unmarked versioned p = not versioned || is_match p

-- the masks of a type's properties
pub record MasksAre (versioned : Bool) (qs : List Property) (m : ShapeMasks) : Type 0 where
  pub all : m.all ≡ mask_of (λ (p : Property). true) qs
  pub mandatory : m.mandatory ≡ mask_of (λ (p : Property). not p.optional) qs
  pub lone : m.lone ≡ mask_of (must_be_lone versioned) qs
  pub unmarked : m.unmarked ≡ mask_of (must_be_unmarked versioned) qs

-- no mark past the last property, the mandatory ones present or marked, the lone ones not several, and the unmarked ones not marked
unfoldable pub masks_fit : ShapeMasks → ℕ → ℕ → ℕ → Bool
masks_fit m present several differ =
    leb differ m.all && eqb (bit_and (bit_or present differ) m.mandatory) m.mandatory
    && eqb (bit_and several m.lone) 0 && eqb (bit_and differ m.unmarked) 0

-- ---- questions 2 to 6

abbrev pub dossier_questions : Limits → List ℕ → List ℕ → Asked TypedDossier
dossier_questions limits table s = questions.◌>>=◌ (ask 2 (table_of table)) (λ ts. dossier_asked limits ts s)

-- a dossier that was accepted, with its type; ps are the numbers of the type's properties, rows those of the dossier's sets
pub record DossierAccepted (p : Asked TypedDossier) (table s ps rows : List ℕ) (t : TypeIndex) (d : DossierIndex) : Type 0 where
  pub what : TypedDossier
  pub is : p ≡ accepted what
  pub typed : TypeIs table what.type t ps
  pub read : DossierIs s what.headed d
  pub in_rows : RowsAre s what.headed.snapshots rows

-- what asking answers, where the questions come to p
abbrev pub DossierAnswers : Asked TypedDossier → List ℕ → List ℕ → List ℕ → List ℕ → Result (TypeIndex × DossierIndex) Refusal → Type 0
DossierAnswers p table s ps rows (Ok (t, d)) = DossierAccepted p table s ps rows t d
DossierAnswers p table s ps rows (Err q) = p ≡ refused (refusal_number q)
