-- The laws of adding an event to a dossier that is known by its measures.
use mathlib.Core.Path.{◌≡◌, refl, sym, ap, ap₂, ◌∙◌, subst}
use mathlib.Core.Logic.{⊎_elim}
use mathlib.Core.Bool.{Bool, true, false, cond}
use mathlib.Core.List.{List, [], ◌∷◌, ◌++◌, map, flatten}
use Prim.Native.Nat.{ℕ, zero, suc, ◌+◌, ◌≤◌, ◌<◌}
use native.Mathlib.Omega.{arith}
use lib.ListN.{length, take, drop, get_or, length-append, length-drop}
use lib.Dec.{leb, ltb}
use borrow.Author.Tests.{lt-ltb, le-ltb}
use lib.Seq.{take_at}
use Rattle.model.specs.Order.{Text, texts, numbers, equal}
use Rattle.model.specs.Keyed.{merge}
use Rattle.model.specs.Rule.{Snapshot, join_snapshots, sizes}
use Rattle.model.specs.Opening.{held}
use Rattle.model.specs.Sets.{up_to}
use Rattle.model.specs.Limits.{Limits, Permitted, fits}
use Rattle.model.proofs.Cases.{never}
use Rattle.model.proofs.LimitLaws.{fits-bounds}
use Rattle.packed.specs.Parse.{Parse, All, fail, got}
use Rattle.packed.specs.Packed.{number, part}
use Rattle.packed.specs.code.Written.{Wrote}
use Rattle.packed.proofs.WriteLaws.{wrote-length, wrote-between, wrote_as, wrote_then}
use Rattle.packed.proofs.LayoutLaws.{lt-or-ge, number-length-1}
use Rattle.packed.proofs.ReadLaws.{drop-on, to_end}
use Rattle.values.specs.declared.versions.EventVersion.{EventVersion}
use Rattle.replies.specs.Capacities.{dossier_capacity}
use Rattle.ontology.specs.Table.{EventType, is_versioned}
use Rattle.ontology.specs.code.TypeIndex.{PropertiesAre}
use Rattle.ontology.specs.declared.types.TypeIndex.{TypeIndex}
use Rattle.event.specs.Event.{Event, set_at, object_count, type_view, version_of}
use Rattle.event.specs.Head.{Head}
use Rattle.event.specs.EventLayout.{narrow, event_of}
use Rattle.event.specs.EventQuestions.{Typed}
use Rattle.event.specs.code.EventIndex.{SetsAre, HeadIs, EventIs, EventReads}
use Rattle.std.specs.Prelude.{Some, None}
use Rattle.std.specs.Prelude as std
use Rattle.std.specs.Option.{IsSome}
use Rattle.event.specs.declared.head.HeadAt.{HeadAt}
use Rattle.event.specs.declared.read.EventIndex.{EventIndex}
use Rattle.dossier.specs.DossierBody.{read_snapshot, snapshot_bytes, body_bytes}
use Rattle.dossier.specs.DossierHead.{read_dossier_head, dossier_head_bytes}
use Rattle.dossier.specs.DossierLayout.{Headed, dossier_bytes}
use Rattle.dossier.specs.code.DossierIndex.{no_snapshot, SnapshotAt, SnapshotIs, SnapshotStops, CellsAre, DossierHeadStops, DossierHeadReads}
use Rattle.dossier.specs.declared.snapshots.SnapshotNumbers.{SnapshotNumbers}
use Rattle.dossier.proofs.VersionLaws.{cells_are}
use Rattle.dossier.proofs.DossierBodyLaws.{SnapshotWritten, snapshot-read}
use Rattle.dossier.proofs.DossierHeadLaws.{dossier-head-read}
use Rattle.dossier.proofs.DossierLayoutLaws.{DossierWritten, dossier-was}
use Rattle.dossier.proofs.DossierSizeLaws.{held-objects}
use Rattle.combining.specs.CombineCall.{combined}
use Rattle.combining.specs.code.AddIndex.{bytes_of, Splits, lower_or_same, with_snapshot, Adding, alone, met_with, Met, new_snapshot, AddedInside, added_bytes}
use Rattle.combining.specs.code.AddIndex.{count_in, Addable, AddableUnder, Measured, MeasuredIn, AddingAt, MetRoom, NewRoom, WithRoom, AddedRoom}
use Rattle.combining.specs.code.CheckIndex.{Checkable, alone_bytes, lone_bytes, AloneRoom}
use Rattle.combining.specs.code.CombineIndex.{Known, Meet, Shared}
use Rattle.combining.specs.code.WriteIndex.{HeadsAre, HeadsRoom, both_heads}
use Rattle.combining.specs.declared.measures.Place.{Place}
use Rattle.combining.proofs.InsertLaws.{Stands, stands, join-keeps, merged-with, bytes-split, bytes_next, bytes-with, length-with, written_at}
use Rattle.combining.proofs.CheckLaws.{taken-event, known_read, known-checked, checkable}
use Rattle.combining.proofs.CheckLaws.{Checked, fit, kept, lone-short, none_differ, lone-sets, lone-snapshots, lone-head, alone-bytes}
use Rattle.combining.proofs.MeetLaws.{version_in, taken-rises, left-taken, known-meet}
use Rattle.combining.proofs.PartLaws.{WholeRoom, count_room, body-room}
use Rattle.combining.proofs.RoomLaws.{combined-room}
use Rattle.combining.proofs.MergedLaws.{StandsIn, same-written, known-heads, whole_head, whole_snapshots, whole_length, whole_room}
use Rattle.combining.proofs.MergedLaws.{WritesHeads, whole-wrote}
use Rattle.combining.proofs.FitLaws.{left-written, right-written, whole-snapshots, left_one, same_version, unversioned}
use Rattle.combining.proofs.FitLaws.{ToVersions, ToObjects, to-objects, fits-versions, fits-versioned}

-- ---- a snapshot that was read where one is known to stand

pub read_is :
    {s : List ℕ} {at : ℕ} {n : SnapshotNumbers} {next : ℕ} {ats : List ℕ} {z : Snapshot} {rest : List ℕ} →
    SnapshotStops s at n next ats → read_snapshot (drop at s) ≡ got z rest → SnapshotIs s z n ats
read_is {s} {n = n} {ats = ats} {z = z} w q =
    let both = sym w.stands.is ∙ q in
    let same : w.what ≡ z = cc in
    subst (λ (x : Snapshot). SnapshotIs s x n ats) same w.is

-- ---- a snapshot of a dossier, and that of an event of the same version

-- what is written at the front is the front
front-is : {l xs l₁ : List ℕ} {n : ℕ} → length xs ≤ length l → Wrote l 0 xs l₁ n → take n l₁ ≡ xs
front-is {l} {xs} {l₁} {n} r w =
    let k : n ≡ length xs = omega (arith, w.after) in
    ap (take n) (wrote-between (omega arith) w) ∙ take_at xs (drop n l) n (sym k)

module _
    {version : EventVersion} {sofar : List ℕ} {start end : ℕ} {event : List ℕ} {e : EventIndex} {ats : List ℕ} {t : TypeIndex} {ps : List ℕ} where
  -- the event's snapshot has one form
  same-alone : (g h : Met version sofar start end event e ats t ps) → snapshot_bytes g.right ≡ snapshot_bytes h.right
  same-alone g h =
      g.bytes
      ∙ ap₂ (λ (n : ℕ) (l : List ℕ). number version.0 ++ number n ++ number 0 ++ l)
      (sym g.read.presence ∙ h.read.presence)
      (sym g.read.rest ∙ h.read.rest)
      ∙ sym h.bytes

  -- the event's is written apart
  module _
      {l l₁ : List ℕ} {n : ℕ} (alone-wrote : (x : Event) → EventIs event x e ats → Wrote l 0 (alone_bytes x version.0) l₁ n)
      {at size : ℕ} (r : MetRoom version sofar start end event e ats t ps (length l) at size) where
    apart-is : (h : Met version sofar start end event e ats t ps) → take n l₁ ≡ snapshot_bytes h.right
    apart-is h = front-is (omega (arith, r.lone, ap length (same-alone r.met h))) (wrote_as (sym h.bytes) (alone-wrote h.what h.read))

    -- `same` answers that it has the bytes p, which `part_of` lends, of the one that stands in `sofar`: that one is both together
    module _
        {p : List ℕ} (lent : StandsIn sofar start end p) {alike : Bool} (asked : alike ≡ equal texts p (take n l₁)) (yes-same : alike ≡ true) where
      both_is : (h : Met version sofar start end event e ats t ps) → p ≡ snapshot_bytes (join_snapshots (type_view h.type) h.left h.right)
      both_is h = same-written h.meet (lent h.stands.order h.stands.within ∙ h.stands.bytes) (apart-is h) (sym asked ∙ yes-same)

      pub copy-there : at + length p ≤ size
      copy-there = omega (arith, r.room, ap length (both_is r.met))

      pub both-copied :
          {o o₁ : List ℕ} {next : ℕ} → Wrote o at p o₁ next →
          (h : Met version sofar start end event e ats t ps) → Wrote o at (snapshot_bytes (join_snapshots (type_view h.type) h.left h.right)) o₁ next
      both-copied w h = wrote_as (both_is h) w

  -- the one that stands in `sofar` is read
  module _ {n : SnapshotNumbers} {next : ℕ} {row : List ℕ} (stops : SnapshotStops sofar start n next row) where
    pub met-shared :
        (h : Met version sofar start end event e ats t ps) → Shared version sofar row n.differ event ats 0 h.type h.left h.right
    met-shared h = record {
      meet = h.meet;
      number = h.number;
      left_is = cells_are sofar h.left n row (read_is stops h.stands.is);
      right_is = h.right_is;
    }

-- ---- a dossier that an event can be added to

-- a head that is there
pub head-stops :
    {p : Parse Head} {s : List ℕ} {r : std.Option (HeadAt × ℕ)} {x : HeadAt × ℕ} → DossierHeadReads p s r → r ≡ Some x →
    DossierHeadStops p s x.0 x.1
head-stops {p} {s} w h = subst (DossierHeadReads p s) h w

module _ {table sofar m event : List ℕ} {t : TypeIndex} {ps : List ℕ} (a : Addable table sofar m event t ps) where
  abbrev pub dossier : Headed
  dossier = a.both.left.headed

  is-dossier : (sofar ≡ dossier_bytes dossier) × DossierWritten a.both.limits dossier
  is-dossier = dossier-was a.both.limits sofar dossier (left-taken a.both).read

  -- its head, and what follows it
  head-is : read_dossier_head a.both.limits sofar ≡ got dossier.head (body_bytes dossier.snapshots)
  unfolding dossier_bytes
  head-is =
      let limits = a.both.limits in
      ap (read_dossier_head limits) is-dossier.0 ∙ dossier-head-read limits dossier.head (body_bytes dossier.snapshots) is-dossier.1.head

  -- r is what the reader of a head answers under the same limits
  pub has-head :
      {limits : Limits} → a.both.limits ≡ limits → (r : std.Option (HeadAt × ℕ)) →
      DossierHeadReads (read_dossier_head limits sofar) sofar r → IsSome r
  has-head u (Some x) w = refl
  has-head u None w = let both = sym head-is ∙ ap (λ (l : Limits). read_dossier_head l sofar) u ∙ w in never (cc)

  pub measured-in : MeasuredIn sofar m
  unfolding dossier_bytes body_bytes
  measured-in =
      let ss = dossier.snapshots in
      let n = ap length is-dossier.0 in
      record {
        snapshots = ss;
        measured = a.measured;
        within = omega (
          arith,
          n,
          length-append (dossier_head_bytes dossier.head) (number (length ss) ++ bytes_of ss),
          length-append (number (length ss)) (bytes_of ss),
        );
      }

  -- where the event's snapshot has its place
  pub split_at :
      {version : ℕ} {p : Place} → version ≡ version_of a.new.event.type a.new.event.event →
      ((ss : List Snapshot) → Measured ss m → Splits ss version p) →
      Splits dossier.snapshots (version_of a.new.event.type a.new.event.event) p
  split_at {p = p} n says = subst (λ (v : ℕ). Splits dossier.snapshots v p) n (says dossier.snapshots a.measured)

  module _
      {limits : Limits} (u : a.both.limits ≡ limits) {x : HeadAt} {end : ℕ} (w : DossierHeadStops (read_dossier_head limits sofar) sofar x end) where
    pub follows : (w.what ≡ dossier.head) × (drop end sofar ≡ body_bytes dossier.snapshots)
    follows =
        let both : got w.what (drop end sofar) ≡ got dossier.head (body_bytes dossier.snapshots) =
        sym w.is ∙ ap (λ (l : Limits). read_dossier_head l sofar) (sym u) ∙ head-is in
        (cc, cc)

    -- the count of snapshots is one byte, and these follow it
    pub body-begins : (end + 1 ≤ length sofar) × (drop (end + 1) sofar ≡ bytes_of dossier.snapshots)
    unfolding body_bytes
    body-begins =
        let ss = dossier.snapshots in
        let one : length (number (length ss)) ≡ 1 = number-length-1 (length ss) (omega (arith, a.measured.few)) in
        let left = length-append (number (length ss)) (bytes_of ss) in (
          omega (arith, one, left, ap length follows.1, length-drop end sofar),
          ap (λ (i : ℕ). drop (end + i) sofar) (sym one) ∙ drop-on sofar end (number (length ss)) (bytes_of ss) follows.1,
        )

    abbrev adding :
        {e : EventIndex} {ats : List ℕ} {p : Place} → EventIs event a.new.event.event e ats →
        Splits dossier.snapshots (version_of a.new.event.type a.new.event.event) p → Adding table sofar m event e ats x (end + 1) p t ps
    adding read splits = record {
      added = a;
      read = read;
      head = subst (λ (g : Head). HeadIs sofar g x) follows.0 w.stands;
      begins = body-begins.0;
      rest = body-begins.1;
      splits = splits;
    }

-- ---- an event that is added

-- there is a place for the measures of one more
abbrev pub HasPlace : List ℕ → Place → Type 0
HasPlace m p = (count_in m ≤ 8) × (p.index ≤ count_in m) × (p.meets ≡ true → p.index < count_in m) × (p.meets ≡ false → count_in m < 8)

module _
    {table sofar m event : List ℕ} {e : EventIndex} {ats : List ℕ} {x : HeadAt} {body : ℕ} {p : Place}
    {t : TypeIndex} {ps : List ℕ} (h : Adding table sofar m event e ats x body p t ps) where
  abbrev k : Known table sofar h.added.lone t ps
  k = h.added.both

  abbrev ty : EventType
  ty = k.left.type

  abbrev ss : List Snapshot
  ss = k.left.headed.snapshots

  abbrev typed : Typed
  typed = h.added.new.event

  abbrev y : Snapshot
  y = alone typed

  -- the snapshots of both, and the one of the event's version among them
  abbrev whole : List Snapshot
  whole = (combined k.left k.right).snapshots

  abbrev new : Snapshot
  new = met_with ty ss p y

  abbrev event-version : ℕ
  event-version = version_of typed.type typed.event

  abbrev pub checked : Checked table event t e ats
  checked = taken-event h.added.new h.read

  right-snapshots : k.right.headed.snapshots ≡ y ∷ []
  right-snapshots = ap (λ (d : Headed). d.snapshots) h.added.headed-is ∙ lone-snapshots typed.type typed.event (kept checked) (fit checked)

  right-head : k.right.headed.head ≡ typed.event.head
  right-head = ap (λ (d : Headed). d.head) h.added.headed-is ∙ lone-head typed.type typed.event (kept checked) (fit checked)

  pub right-head-is : HeadIs event k.right.headed.head e.head
  right-head-is = subst (λ (g : Head). HeadIs event g e.head) (sym right-head) h.read.head

  -- the snapshots of both
  whole_with : whole ≡ with_snapshot ss p new
  whole_with =
      whole-snapshots k
      ∙ ap (merge numbers version_in (join_snapshots (type_view ty)) ss) right-snapshots
      ∙ merged-with ty ss y p (taken-rises (left-taken k)) h.splits

  -- ---- how many they are

  many-met : p.meets ≡ true → length whole ≡ length ss
  many-met q =
      ap length whole_with
      ∙ ap (λ (b : Bool). length (take p.index ss ++ (new ∷ drop (cond b (suc p.index) p.index) ss))) q
      ∙ length-with ss p.index (suc p.index) new h.splits.within (omega (arith, (h.splits.met q).0))
      ∙ omega (arith, (h.splits.met q).0)

  many-unmet : p.meets ≡ false → length whole ≡ length ss + 1
  many-unmet q =
      ap length whole_with
      ∙ ap (λ (b : Bool). length (take p.index ss ++ (new ∷ drop (cond b (suc p.index) p.index) ss))) q
      ∙ length-with ss p.index p.index new h.splits.within h.splits.within
      ∙ omega (arith, h.splits.within)

  -- ---- where the others stand

  abbrev start : ℕ
  start = body + p.before

  lower-stands : Stands sofar body (bytes_of (take p.index ss)) (bytes_of (drop p.index ss))
  lower-stands = stands sofar body _ _ h.begins (h.rest ∙ bytes-split p.index ss)

  lower-within : start ≤ length sofar
  lower-within = omega (arith, h.splits.before, lower-stands.within)

  lower-part : part sofar body start ≡ bytes_of (take p.index ss)
  lower-part = ap (λ (n : ℕ). part sofar body (body + n)) h.splits.before ∙ lower-stands.here

  from_start : drop start sofar ≡ bytes_of (drop p.index ss)
  from_start = ap (λ (n : ℕ). drop (body + n) sofar) h.splits.before ∙ lower-stands.then

  met-there :
      (q : p.meets ≡ true) → Stands sofar start (snapshot_bytes (get_or ss p.index no_snapshot)) (bytes_of (drop (suc p.index) ss))
  met-there q = stands sofar start _ _ lower-within (from_start ∙ bytes_next ss p.index (h.splits.met q).0)

  higher-there : (start + p.size ≤ length sofar) × (drop (start + p.size) sofar ≡ bytes_of (drop (lower_or_same p) ss))
  higher-there = go p.meets refl
    where
      go : (b : Bool) → p.meets ≡ b → (start + p.size ≤ length sofar) × (drop (start + p.size) sofar ≡ bytes_of (drop (lower_or_same p) ss))
      go true q =
          let w = met-there q in
          let n = (h.splits.met q).2 in (
            omega (arith, n, w.within),
            ap (λ (n : ℕ). drop (start + n) sofar) n
                ∙ w.then
                ∙ ap (λ (b : Bool). bytes_of (drop (cond b (suc p.index) p.index) ss)) (sym q),
          )
      go false q =
          let n : start + p.size ≡ start = omega (arith, (h.splits.unmet q).0) in (
            omega (arith, n, lower-within),
            ap (λ (n : ℕ). drop n sofar) n ∙ from_start ∙ ap (λ (b : Bool). bytes_of (drop (cond b (suc p.index) p.index) ss)) (sym q),
          )

  higher-part : part sofar (start + p.size) (length sofar) ≡ bytes_of (drop (lower_or_same p) ss)
  higher-part = to_end sofar (start + p.size) ∙ higher-there.1

  -- ---- the snapshot of the event, and the one of its version

  y-written : SnapshotWritten y
  y-written = (subst (λ (zs : List Snapshot). All SnapshotWritten zs) right-snapshots (right-written k).body.snapshots).0

  y-sets : map held y.cells ≡ typed.event.sets
  y-sets = lone-sets typed.type typed.event (kept checked) (fit checked)

  pub y-cells : CellsAre event y.cells 0 ats
  y-cells = record {
    bits = sym (none_differ (set_at typed.event) (up_to 32));
    sets = subst (λ (xs : List (List Text)). SetsAre event xs ats) (sym y-sets) h.read.sets;
  }

  y-objects : e.objects ≡ sizes y.cells
  y-objects = h.read.objects ∙ ap object_count (sym y-sets) ∙ held-objects y.cells

  pub y-bytes : snapshot_bytes y ≡ alone_bytes typed.event event-version
  y-bytes = alone-bytes typed.type typed.event (kept checked) (fit checked)

  module _ (q : p.meets ≡ true) where
    abbrev here : Snapshot
    here = get_or ss p.index no_snapshot

    pub met-stands : SnapshotAt sofar here start (start + p.size)
    met-stands =
        let w = met-there q in
        let n = (h.splits.met q).2 in
        let written = written_at ss (left-written k).body.snapshots p.index (h.splits.met q).0 in
        let follows : drop start sofar ≡ snapshot_bytes here ++ drop (start + p.size) sofar =
        from_start
        ∙ bytes_next ss p.index (h.splits.met q).0
        ∙ ap (λ (l : List ℕ). snapshot_bytes here ++ l) (sym (ap (λ (n : ℕ). drop (start + n) sofar) n ∙ w.then)) in
        record {
          is = ap read_snapshot follows ∙ snapshot-read here (drop (start + p.size) sofar) written;
          bytes = ap (λ (n : ℕ). part sofar start (start + n)) n ∙ w.here;
          order = omega arith;
          within = higher-there.0;
        }

    pub met-meet : Meet ty here y
    met-meet =
        subst (Meet ty here) first-is
        (known-meet k p.index 0 (h.splits.met q).0 some_right _ _ (snapshot_bytes (get_or k.right.headed.snapshots 0 no_snapshot) ++ []) []
        met-stands.is
        (snapshot-read (get_or k.right.headed.snapshots 0 no_snapshot) [] (subst SnapshotWritten (sym first-is) y-written))
        ((h.splits.met q).1 ∙ sym (ap (λ (z : Snapshot). z.version) first-is)))
      where
        first-is : get_or k.right.headed.snapshots 0 no_snapshot ≡ y
        first-is = ap (λ (zs : List Snapshot). get_or zs 0 no_snapshot) right-snapshots

        some_right : 0 < length k.right.headed.snapshots
        some_right = subst (λ (n : ℕ). 0 < n) (sym (ap length right-snapshots)) (omega arith)

    abbrev pub met-both :
        (version : EventVersion) → version.0 ≡ event-version → Met version sofar start (start + p.size) event e ats t ps
    met-both version n = record {
      table = table;
      type = ty;
      typed = k.typed;
      left = here;
      right = y;
      meet = met-meet;
      number = n ∙ sym (h.splits.met q).1;
      stands = met-stands;
      what = typed.event;
      read = h.read;
      bytes = y-bytes ∙ ap (alone_bytes typed.event) (sym n);
      right_is = y-cells;
    }

    pub new-met : new ≡ join_snapshots (type_view ty) here y
    new-met = ap (λ (b : Bool). cond b (join_snapshots (type_view ty) here y) y) q

  new-alone : p.meets ≡ false → new ≡ y
  new-alone q = ap (λ (b : Bool). cond b (join_snapshots (type_view ty) (get_or ss p.index no_snapshot) y) y) q

  -- ---- the snapshots of both, as bytes

  pub whole-bytes :
      bytes_of whole
      ≡ bytes_of (take p.index ss) ++ (snapshot_bytes new ++ bytes_of (drop (lower_or_same p) ss))
  whole-bytes = ap bytes_of whole_with ∙ bytes-with ss p new

  -- ---- what is written of them

  pub new-alone-bytes :
      p.meets ≡ false → (version : ℕ) → version ≡ event-version → snapshot_bytes (new_snapshot h) ≡ alone_bytes typed.event version
  new-alone-bytes q version n = ap snapshot_bytes (new-alone q) ∙ y-bytes ∙ ap (alone_bytes typed.event) (sym n)

  alone-short : length (snapshot_bytes y) ≤ dossier_capacity
  unfolding lone_bytes
  alone-short =
      let v = event-version in
      let g = dossier_head_bytes typed.event.head in
      omega (
        arith,
        lone-short checked,
        ap length y-bytes,
        length-append g (number 1 ++ alone_bytes typed.event v),
        length-append (number 1) (alone_bytes typed.event v),
      )

  -- the lower ones, the new one and the higher ones
  parts-length :
      length (bytes_of whole)
      ≡ length (part sofar body start) + length (snapshot_bytes (new_snapshot h)) + length (part sofar (start + p.size) (length sofar))
  parts-length =
      let lower = bytes_of (take p.index ss) in
      let higher = bytes_of (drop (lower_or_same p) ss) in
      let new = snapshot_bytes (new_snapshot h) in
      omega (arith, ap length whole-bytes, length-append lower (new ++ higher), length-append new higher, ap length lower-part, ap length higher-part)

  pub wrote-parts :
      {l l₁ l₂ l₃ : List ℕ} {a b c d : ℕ} → Wrote l a (part sofar body start) l₁ b → Wrote l₁ b (snapshot_bytes (new_snapshot h)) l₂ c →
      Wrote l₂ c (part sofar (start + p.size) (length sofar)) l₃ d → Wrote l a (bytes_of whole) l₃ d
  wrote-parts u v w = wrote_as (sym whole-bytes) (wrote_then (wrote_as lower-part u) (wrote_then v (wrote_as higher-part w)))

  -- ---- the whole dossier, and its measures

  counted : {n : ℕ} → n ≡ cond p.meets (count_in m) (count_in m + 1) → n ≡ length whole
  counted is = is ∙ go p.meets refl
    where
      go : (b : Bool) → p.meets ≡ b → cond p.meets (count_in m) (count_in m + 1) ≡ length whole
      go true q = ap (λ (b : Bool). cond b (count_in m) (count_in m + 1)) q ∙ h.added.measured.count ∙ sym (many-met q)
      go false q = ap (λ (b : Bool). cond b (count_in m) (count_in m + 1)) q ∙ ap (λ (i : ℕ). i + 1) h.added.measured.count ∙ sym (many-unmet q)

  added-heads : AddedInside h → HeadsAre sofar x event e.head k.left.headed.head k.right.headed.head
  added-heads inside = known-heads k inside h.head right-head-is

  has-place : AddedInside h → HasPlace m p
  has-place inside =
      let c = h.added.measured.count in
      let versions = (fits-bounds inside.limits (type_view ty) (combined k.left k.right) inside.is).1 in (
        omega (arith, c, h.added.measured.few),
        omega (arith, c, h.splits.within),
        λ q. omega (arith, c, (h.splits.met q).0),
        λ q. omega (arith, c, many-unmet q, versions, inside.permitted.few-versions),
      )

  new-version : (new_snapshot h).version ≡ event-version
  new-version = go p.meets refl
    where
      go : (b : Bool) → p.meets ≡ b → (new_snapshot h).version ≡ event-version
      go true q = ap (λ (z : Snapshot). z.version) (new-met q) ∙ join-keeps ty (get_or ss p.index no_snapshot) y ∙ (h.splits.met q).1
      go false q = ap (λ (z : Snapshot). z.version) (new-alone q)

  pub measured-with :
      {version size : ℕ} {r : List ℕ} → version ≡ event-version → length (snapshot_bytes (new_snapshot h)) ≡ size →
      ((zs : List Snapshot) (z : Snapshot) → Measured zs m → z.version ≡ version → length (snapshot_bytes z) ≡ size →
      Measured (with_snapshot zs p z) r) →
      Measured whole r
  measured-with {r = r} n s says =
      subst (λ (zs : List Snapshot). Measured zs r) (sym whole_with) (says ss (new_snapshot h) h.added.measured (new-version ∙ sym n) s)

  -- ---- an unversioned dossier has the event's version

  always-met : t.mark ≤ 0 → p.meets ≡ true
  always-met un = go p.meets refl
    where
      one : length ss ≡ 1
      one = left_one k un

      version : (get_or ss 0 no_snapshot).version ≡ y.version
      version = same_version k un ∙ ap (λ (zs : List Snapshot). (get_or zs 0 no_snapshot).version) right-snapshots

      apart : (i : ℕ) → i ≤ 1 → ((j : ℕ) → j < i → (get_or ss j no_snapshot).version < y.version) →
          (i < length ss → y.version < (get_or ss i no_snapshot).version) → ⊥
      apart zero l lower higher = omega (arith, higher (omega (arith, one)), version)
      apart (suc i) l lower higher = omega (arith, lower 0 (omega arith), version)

      go : (b : Bool) → p.meets ≡ b → p.meets ≡ true
      go true q = q
      go false q = absurd (apart p.index (omega (arith, one, h.splits.within)) h.splits.lower (h.splits.unmet q).1)

  first-place : t.mark ≤ 0 → (p.index ≡ 0) × (start ≡ body)
  unfolding flatten
  first-place un =
      let z : p.index ≡ 0 = omega (arith, left_one k un, (h.splits.met (always-met un)).0) in
      (z, omega (arith, h.splits.before, ap (λ (i : ℕ). length (bytes_of (take i ss))) z))

  -- ---- question 8

  module _ {limits : Limits} (u : k.limits ≡ limits) where
    abbrev asked : Bool
    asked = fits limits (type_view ty) (combined k.left k.right)

    -- the dossier was taken under these limits
    few-before : length ss ≤ limits.versions
    few-before = subst (λ (l : Limits). length ss ≤ l.versions) u (left-written k).body.within

    -- where the event's version is met, there are no more snapshots than the dossier has
    pub met-to-objects : ToVersions k limits → p.meets ≡ true → ToObjects k limits
    met-to-objects go_on q = to-objects k limits go_on (sym (many-met q)) few-before

    -- one snapshot more, of a versioned type
    pub fits-unmet : ToVersions k limits → p.meets ≡ false → ltb (count_in m) limits.versions ≡ asked
    fits-unmet go_on q = ⊎_elim below above (lt-or-ge (count_in m) limits.versions)
      where
        many : count_in m + 1 ≡ length whole
        many = ap (λ (i : ℕ). i + 1) h.added.measured.count ∙ sym (many-unmet q)

        marked : 0 < t.mark
        marked = ⊎_elim (λ (v : 0 < t.mark). v) (λ (un : t.mark ≤ 0). absurd (unlike (sym (always-met un) ∙ q))) (lt-or-ge 0 t.mark)
          where
            unlike : true ≡ false → ⊥
            unlike z = never (cc)

        below : count_in m < limits.versions → ltb (count_in m) limits.versions ≡ asked
        below l = lt-ltb (count_in m) limits.versions l ∙ fits-versioned k limits (to-objects k limits go_on many (omega arith)) marked

        above : limits.versions ≤ count_in m → ltb (count_in m) limits.versions ≡ asked
        above l = le-ltb (count_in m) limits.versions l ∙ fits-versions k limits go_on many (omega arith)

  module _ (un : t.mark ≤ 0) where
    abbrev first : Snapshot
    first = get_or ss 0 no_snapshot

    first_read : read_snapshot (drop body sofar) ≡ got first (drop (start + p.size) sofar)
    first_read =
        let at = first-place un in
        ap (λ (i : ℕ). read_snapshot (drop i sofar)) (sym at.1)
        ∙ (met-stands (always-met un)).is
        ∙ ap (λ (i : ℕ). got (get_or ss i no_snapshot) (drop (start + p.size) sofar)) at.0

    pub promised-first : (body ≤ length sofar) × (read_snapshot (drop body sofar) ≡ fail → ⊥)
    promised-first = (h.begins, λ z. never-read (sym first_read ∙ z))
      where
        never-read : got first (drop (start + p.size) sofar) ≡ fail → ⊥
        never-read z = never (cc)

    -- what counting the objects of both says is what the question asks
    pub first-joined :
        (most : ℕ) {r : Bool} →
        ((u : List ℕ) (tz : EventType) (a b : Snapshot) (rest : List ℕ) → PropertiesAre u tz.properties t.count ps → is_versioned tz ≡ false →
        Meet tz a b → read_snapshot (drop body sofar) ≡ got a rest → e.objects ≡ sizes b.cells → SetsAre event (map held b.cells) ats →
        r ≡ leb (sizes (join_snapshots (type_view tz) a b).cells) most) →
        r ≡ leb (sizes (join_snapshots (type_view ty) first (get_or k.right.headed.snapshots 0 no_snapshot)).cells) most
    first-joined most says =
        says table ty first y _ k.typed.are (unversioned k un)
        (subst (λ (i : ℕ). Meet ty (get_or ss i no_snapshot) y) (first-place un).0 (met-meet (always-met un))) first_read y-objects y-cells.sets
        ∙ ap (λ (zs : List Snapshot). leb (sizes (join_snapshots (type_view ty) first (get_or zs 0 no_snapshot)).cells) most) (sym right-snapshots)

-- ---- writing the snapshot of the event's version

-- the place of that snapshot stands in the bytes of the dossier
pub ends-within :
    {sofar event : List ℕ} {e : EventIndex} {ats : List ℕ} {body : ℕ} {p : Place} {t : TypeIndex} {ps : List ℕ} →
    AddingAt sofar event e ats body p t ps → body + p.before + p.size ≤ length sofar
ends-within i = (higher-there i.is).0

module _
    {sofar event : List ℕ} {e : EventIndex} {ats : List ℕ} {body : ℕ} {p : Place} {version : EventVersion} {t : TypeIndex} {ps : List ℕ}
    {apart at size : ℕ} (r : NewRoom sofar event e ats body p version t ps apart at size) where
  pub alone-there : p.meets ≡ false → AloneRoom event e ats version.0 at size
  alone-there q =
      let h = r.in_some.is in
      record { event = h.added.new.event.event; read = h.read; room = omega (arith, r.room, ap length (new-alone-bytes h q _ r.number)) }

  pub both-there : p.meets ≡ true → MetRoom version sofar (body + p.before) (body + p.before + p.size) event e ats t ps apart at size
  both-there q =
      let h = r.in_some.is in
      record {
        met = met-both h q version r.number;
        lone = omega (arith, r.scratch, alone-short h);
        room = omega (arith, r.room, ap (λ (x : Snapshot). length (snapshot_bytes x)) (new-met h q));
      }

-- ---- writing the snapshots with that one among them

module _
    {sofar event : List ℕ} {e : EventIndex} {ats : List ℕ} {body : ℕ} {p : Place} {version : EventVersion} {t : TypeIndex} {ps : List ℕ}
    {apart at : ℕ} where
  pub lower-there :
      {size : ℕ} → WithRoom sofar event e ats body p version t ps apart at size →
      (body ≤ body + p.before) × (body + p.before ≤ length sofar) × (at + length (part sofar body (body + p.before)) ≤ size)
  lower-there r = let h = r.in_some.is in (omega arith, lower-within h, omega (arith, r.room, parts-length h))

  -- the lower ones are written
  module _
      {l l₁ : List ℕ} {b : ℕ} (lower : Wrote l at (part sofar body (body + p.before)) l₁ b)
      (r : WithRoom sofar event e ats body p version t ps apart at (length l)) where
    pub new-there : NewRoom sofar event e ats body p version t ps apart b (length l₁)
    new-there = record {
      in_some = r.in_some;
      number = r.number;
      scratch = r.scratch;
      room = omega (arith, r.room, parts-length r.in_some.is, lower.after, wrote-length lower);
    }

    -- and the one of the event's version
    module _
        {l₂ : List ℕ} {c : ℕ}
        (new : (table z : List ℕ) (x : HeadAt) (h : Adding table sofar z event e ats x body p t ps) →
        version.0 ≡ version_of h.added.new.event.type h.added.new.event.event → Wrote l₁ b (snapshot_bytes (new_snapshot h)) l₂ c) where
      new_wrote : Wrote l₁ b (snapshot_bytes (new_snapshot r.in_some.is)) l₂ c
      new_wrote = new _ _ _ r.in_some.is r.number

      pub new-follows : b ≤ c
      new-follows = omega (arith, new_wrote.after)

      pub higher-room :
          (body + p.before + p.size ≤ length sofar) × (length sofar ≤ length sofar)
          × (c + length (part sofar (body + p.before + p.size) (length sofar)) ≤ length l₂)
      higher-room =
          let h = r.in_some.is in
          ((higher-there h).0, omega arith, omega (arith, r.room, parts-length h, lower.after, wrote-length lower, new_wrote.after, wrote-length new_wrote))

-- ---- writing the dossier with the event

module _
    {sofar m event : List ℕ} {e : EventIndex} {ats : List ℕ} {x : HeadAt} {body : ℕ} {p : Place} {version : EventVersion}
    {t : TypeIndex} {ps : List ℕ} {apart : ℕ} where
  module _ {size : ℕ} (r : AddedRoom sofar m event e ats x body p version t ps apart size) where
    abbrev is : Adding r.in_some.table sofar m event e ats x body p t ps
    is = r.in_some.is

    whole-short : length (added_bytes is) ≤ size
    whole-short = omega (arith, combined-room is.added.both r.inside, r.room)

    pub heads-within : HeadsRoom sofar x event e.head size
    heads-within = record {
      left = _;
      right = _;
      are = added-heads is r.inside;
      room = omega (arith, whole-short, whole_length is.added.both);
    }

    pub place-there : HasPlace m p
    place-there = has-place is r.inside

  -- what `write_heads` leaves, and what `count_with` answers
  module _
      {l l₁ : List ℕ} {a n : ℕ} (heads : WritesHeads sofar x event e.head l l₁ a)
      (counts : n ≡ cond p.meets (count_in m) (count_in m + 1)) (r : AddedRoom sofar m event e ats x body p version t ps apart (length l)) where
    head-wrote :
        {table : List ℕ} (h : Adding table sofar m event e ats x body p t ps) → AddedInside h → let k = h.added.both in
        Wrote l 0 (dossier_head_bytes (both_heads k.left.headed.head k.right.headed.head)) l₁ a
    head-wrote h inside = heads _ _ (added-heads h inside)

    rooms : let k = (is r).added.both in WholeRoom l (whole_head k) (length (combined k.left k.right).snapshots) (whole_snapshots k)
    rooms = whole_room (is r).added.both (whole-short r)

    pub number-within : a + length (number n) ≤ length l₁
    number-within = count_room rooms (head-wrote (is r) r.inside) (counted (is r) counts)

    module _ {l₂ : List ℕ} {b : ℕ} (number-wrote : Wrote l₁ a (number n) l₂ b) where
      pub with-there : WithRoom sofar event e ats body p version t ps apart b (length l₂)
      with-there = record {
        in_some = record { table = _; measures = _; head = _; is = is r };
        number = r.number;
        scratch = r.scratch;
        room = body-room rooms (head-wrote (is r) r.inside) (counted (is r) counts) number-wrote;
      }

      pub added-wrote :
          {l₃ : List ℕ} {c : ℕ} →
          ((table z : List ℕ) (y : HeadAt) (h : Adding table sofar z event e ats y body p t ps) →
          version.0 ≡ version_of h.added.new.event.type h.added.new.event.event →
          Wrote l₂ b (bytes_of (combined h.added.both.left h.added.both.right).snapshots) l₃ c) →
          (table : List ℕ) (h : Adding table sofar m event e ats x body p t ps) →
          version.0 ≡ version_of h.added.new.event.type h.added.new.event.event → AddedInside h → Wrote l 0 (added_bytes h) l₃ c
      added-wrote wrote table h v inside = whole-wrote h.added.both (counted h counts) (head-wrote h inside) number-wrote (wrote table m x h v)

-- ---- an event is added

-- the event and the head of the dossier are read, and the event's snapshot has its place
pub record ReadFor
    (limits : Limits) (sofar m event : List ℕ) (e : EventIndex) (ats : List ℕ) (x : HeadAt) (end : ℕ) (p : Place) (t : TypeIndex)
    (version : EventVersion) : Type 0 where
  pub found : std.Option EventIndex
  pub reads : EventReads (event_of narrow event) event ats found
  pub there : found ≡ Some e
  pub versioned : (h : Checkable event t ats) → version.0 ≡ version_of h.type h.event
  pub stops : DossierHeadStops (read_dossier_head limits sofar) sofar x end
  pub placed : (zs : List Snapshot) → Measured zs m → Splits zs version.0 p

module _
    {limits : Limits} {sofar m event : List ℕ} {e : EventIndex} {ats : List ℕ} {x : HeadAt} {end : ℕ} {p : Place} {t : TypeIndex}
    {version : EventVersion} (r : ReadFor limits sofar m event e ats x end p t version) {table ps : List ℕ}
    (h : AddableUnder limits table sofar m event t ps) where
  abbrev a : Addable table sofar m event t ps
  a = h.added

  pub version-known : version.0 ≡ version_of a.new.event.type a.new.event.event
  version-known = r.versioned (checkable (known-checked a.new ats r.found r.reads r.there))

  abbrev pub is-adding : Adding table sofar m event e ats x (end + 1) p t ps
  is-adding = adding a h.under r.stops (known_read a.new ats r.found r.reads r.there) (split_at a version-known r.placed)

  pub permitted : Permitted limits
  permitted = subst Permitted h.under a.both.permitted

  -- `added_fits` answers yes
  pub added-inside :
      {fitting : Bool} →
      ((z : List ℕ) (y : Adding z sofar m event e ats x (end + 1) p t ps) → y.added.both.limits ≡ limits →
      fitting ≡ fits limits (type_view y.added.both.left.type) (combined y.added.both.left y.added.both.right)) →
      fitting ≡ true → AddedInside is-adding
  added-inside says true-is = record { limits = limits; permitted = permitted; is = sym (says _ is-adding h.under) ∙ true-is }

  pub added-there :
      AddedInside is-adding → {apart size : ℕ} → dossier_capacity ≤ apart → dossier_capacity ≤ size →
      AddedRoom sofar m event e ats x (end + 1) p version t ps apart size
  added-there inside scratch room = record {
    in_some = record { table = _; is = is-adding };
    number = version-known;
    scratch = scratch;
    room = room;
    inside = inside;
  }
