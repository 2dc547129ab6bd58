-- The laws of reading a dossier: its snapshots one after the other, their versions, and the whole.
use mathlib.Core.Path.{◌≡◌, refl, sym, ap, ap₂, ◌∙◌, subst, subst₂}
use mathlib.Core.Logic.{⊎_elim}
use mathlib.Core.Bool.{Bool, true, false}
use mathlib.Core.Option.{Option, none, some}
use mathlib.Core.List.{List, [], ◌∷◌, ◌++◌, append-nil, map, map-id}
use Prim.Native.Nat.{ℕ, zero, suc, ◌+◌, ◌-◌, ◌*◌, ◌≤◌, ◌<◌}
use native.Mathlib.Omega.{arith}
use native.Mathlib.Numerals.{add-one}
use lib.Dec.{ltb}
use lib.ListN.{length, take, drop, get_or, set, replicate, length-append}
use lib.ListN.{length-drop, take-append-drop, length-set, get_or-append}
use lib.Seq.{drop-length, get_or_at, get_or-set_same, get_or-set_other, length-take-le, take-suc-set, take_at, drop_at, take-append-le}
use lib.Seq.{drop-append-le}
use borrow.Author.Count.{below_more}
use borrow.Author.Tests.{ltb-true, ltb-false}
use borrow.Rule.Slice.PartMut.{mid_of, post_of, put_mid, same_len_mid, mid_len}
use Rattle.model.specs.Order.{numbers, rising}
use Rattle.model.proofs.Cases.{three, never}
use Rattle.model.proofs.OrderLaws.{less-of, less-cmp}
use Rattle.model.specs.Rule.{Snapshot, sizes}
use Rattle.model.specs.Opening.{held}
use Rattle.model.specs.Limits.{Limits, Permitted}
use Rattle.model.proofs.PartLaws.{map-append}
use Rattle.packed.specs.Parse.{Parse, fail, got, Layout, and_then, ◌>>=◌, found_if, such_that, times, whole, found}
use Rattle.packed.specs.Packed.{read_number, is_within}
use Rattle.packed.proofs.LayoutLaws.{lt-or-ge, times-was}
use Rattle.packed.proofs.ReadLaws.{drop-next}
use Rattle.packed.specs.code.Located.{Got}
use Rattle.packed.proofs.FieldLaws.{got-bounds}
use Rattle.values.specs.declared.versions.EventVersion.{EventVersion}
use Rattle.ontology.proofs.RunLaws.{prepend, prepend-nil, prepend-one, times-left}
use Rattle.event.specs.Head.{Head}
use Rattle.event.specs.EventLayout.{bit_number}
use Rattle.event.specs.code.EventIndex.{SetsAre}
use Rattle.event.specs.declared.head.HeadAt.{HeadAt}
use Rattle.dossier.specs.DossierHead.{read_dossier_head}
use Rattle.dossier.specs.DossierLayout.{Headed, read_dossier, dossier_of}
use Rattle.dossier.specs.DossierBody.{read_snapshot, differ_bit, snapshot_bytes, read_body}
use Rattle.dossier.specs.code.DossierIndex.{SnapshotAt, SnapshotStops, SnapshotReads, no_snapshot, version_numbers, no_version, row_of}
use Rattle.dossier.specs.code.DossierIndex.{SnapshotsStop}
use Rattle.dossier.specs.code.DossierIndex.{DossierIs, RowsAre, DossierStands, DossierReads, DossierHeadStops, DossierHeadReads}
use Rattle.dossier.specs.declared.snapshots.SnapshotNumbers.{SnapshotNumbers}
use Rattle.dossier.specs.declared.dossiers.SnapshotsRead.{SnapshotsRead}
use Rattle.dossier.specs.declared.dossiers.DossierIndex.{DossierIndex}
use Rattle.dossier.proofs.DossierBodyLaws.{SnapshotWritten, snapshot-was}
use Rattle.std.specs.Prelude.{Some, None}
use Rattle.std.specs.Prelude as std
use Rattle.std.specs.List.{IsAllAdjacentAnswer}

-- ---- versions that rise

first-not : (a b : ℕ) (l : List ℕ) → b ≤ a → rising numbers (a ∷ b ∷ l) ≡ false
unfolding rising
first-not a b l h = three (numbers.cmp a b) (λ e. let k : a < b = less-of a b e in absurd (omega arith)) (λ e. rw e) (λ e. rw e)

first_on : (a b : ℕ) (l : List ℕ) → a < b → rising numbers (a ∷ b ∷ l) ≡ rising numbers (b ∷ l)
unfolding rising
first_on a b l h = rw (less-cmp a b h)

-- the numbers of a version and of the next one
abbrev Adjacent : List EventVersion → ℕ → Bool
Adjacent vs k = ltb (get_or vs k no_version).0 (get_or vs (suc k) no_version).0

all-rise : (vs : List EventVersion) → ((k : ℕ) → suc k < length vs → Adjacent vs k ≡ true) → rising numbers (version_numbers vs) ≡ true
unfolding rising
all-rise [] h = refl
all-rise (v ∷ []) h = refl
all-rise (v ∷ w ∷ vs) h =
    first_on v.0 w.0 (version_numbers vs) (ltb-true v.0 w.0 (h 0 (omega arith))) ∙ all-rise (w ∷ vs) (λ k l. h (suc k) (omega arith))

not-rise : (vs : List EventVersion) (k : ℕ) → suc k < length vs → Adjacent vs k ≡ false → rising numbers (version_numbers vs) ≡ false
not-rise [] k h e = absurd (omega arith)
not-rise (v ∷ []) k h e = absurd (omega arith)
not-rise (v ∷ w ∷ vs) zero h e = first-not v.0 w.0 (version_numbers vs) (ltb-false v.0 w.0 e)
not-rise (v ∷ w ∷ vs) (suc k) h e =
    ⊎_elim (λ (l : v.0 < w.0). first_on v.0 w.0 (version_numbers vs) l ∙ not-rise (w ∷ vs) k (omega arith) e)
    (λ (l : w.0 ≤ v.0). first-not v.0 w.0 (version_numbers vs) l) (lt-or-ge v.0 w.0)

-- the answer to whether each version is below the next
pub rise-told : (vs : List EventVersion) (r : Bool) → IsAllAdjacentAnswer (λ v w b. b ≡ ltb v.0 w.0) vs r → r ≡ rising numbers (version_numbers vs)
rise-told vs true told = sym (all-rise vs (λ k l. rw (← add-one k) (sym (told k no_version (omega arith)))))
rise-told vs false told =
    sym (not-rise vs told.0 (omega (arith, told.1)) (rw (← add-one told.0) (sym (told.2 no_version))))

-- ---- snapshots, one after the other

-- as many as were asked for
as_many : (n : ℕ) (t : List ℕ) (xs : List Snapshot) (r : List ℕ) → times read_snapshot n t ≡ got xs r → length xs ≡ n
as_many n t xs r e = (times-was read_snapshot snapshot_bytes SnapshotWritten snapshot-was n t xs r e).1

abbrev differ_number : Snapshot → ℕ
differ_number x = bit_number (map differ_bit x.cells)

abbrev objects_of : Snapshot → ℕ
objects_of x = sizes x.cells

-- a row put among the others, as a part of them that was lent
abbrev pub with_row : List ℕ → List ℕ → ℕ → List ℕ
with_row rows ats j = put_mid (96 * j) (96 * j + 96 - 96 * j) rows ats

module _ (rows ats : List ℕ) (j : ℕ) (inside : 96 * j + 96 ≤ length rows) (long : length ats ≡ 96) where
  front_long : length (take (96 * j) rows) ≡ 96 * j
  front_long = length-take-le (96 * j) rows (omega arith)

  row_here : row_of (with_row rows ats j) j ≡ ats
  row_here =
      let after = post_of (96 * j) (96 * j + 96 - 96 * j) rows in
      ap (take (96 * j + 96 - 96 * j)) (drop_at (take (96 * j) rows) (ats ++ after) (96 * j) front_long)
      ∙ take_at ats after (96 * j + 96 - 96 * j) (omega (arith, long))

  -- a row before it
  row-front : (rest : List ℕ) (i : ℕ) → i < j → row_of (take (96 * j) rows ++ rest) i ≡ row_of (take (96 * j) rows) i
  row-front rest i l =
      ap (take (96 * i + 96 - 96 * i)) (drop-append-le (96 * i) (take (96 * j) rows) rest (omega (arith, front_long)))
      ∙ take-append-le (96 * i + 96 - 96 * i) (drop (96 * i) (take (96 * j) rows)) rest
      (omega (arith, length-drop (96 * i) (take (96 * j) rows), front_long))

  row_other : (i : ℕ) → i < j → row_of (with_row rows ats j) i ≡ row_of rows i
  row_other i l =
      row-front (ats ++ post_of (96 * j) (96 * j + 96 - 96 * j) rows) i l
      ∙ sym (row-front (drop (96 * j) rows) i l)
      ∙ ap (λ (xs : List ℕ). row_of xs i) (take-append-drop (96 * j) rows)

  row-length : length (with_row rows ats j) ≡ length rows
  row-length =
      same_len_mid (96 * j) (96 * j + 96 - 96 * j) rows ats
      (sym (mid_len (96 * j) (96 * j + 96) rows inside ∙ omega (arith, long)))

-- what is noted of each snapshot in an array of eight, with one more
noted_more :
    {A : Type 0} (f : Snapshot → ℕ) (g : A → ℕ) (ns : List A) (xs : List Snapshot) (x : Snapshot) (n : A) (j : ℕ) →
    j < length ns → map g (take j ns) ≡ map f xs → g n ≡ f x → map g (take (j + 1) (set ns j n)) ≡ map f (xs ++ (x ∷ []))
noted_more f g ns xs x n j l e h =
    ap (λ (k : ℕ). map g (take k (set ns j n))) (add-one j)
    ∙ ap (map g) (take-suc-set ns j n l)
    ∙ map-append g (take j ns) (n ∷ [])
    ∙ ap₂ (λ (l : List ℕ) (k : ℕ). l ++ (k ∷ [])) e h
    ∙ sym (map-append f xs (x ∷ []))

-- The first j of n snapshots are read: they are xs, and the others stand from the next position on. The rows are as long as they were.
pub record Sofar (p : Parse (List Snapshot)) (s rows : List ℕ) (r : SnapshotsRead) (n j size : ℕ) : Type 0 where
  pub xs : List Snapshot
  pub long : length xs ≡ j
  pub below : j ≤ n
  pub rest : p ≡ prepend xs (times read_snapshot (n - j) (drop r.next s))
  pub within : r.next ≤ length s
  pub each : (i : ℕ) → i < j → SnapshotAt s (get_or xs i no_snapshot) (get_or r.starts i 0) (get_or r.ends i 0)
  pub follows : (i : ℕ) → suc i < j → get_or r.starts (suc i) 0 ≡ get_or r.ends i 0
  pub last : (i : ℕ) → suc i ≡ j → get_or r.ends i 0 ≡ r.next
  pub numbers : version_numbers (take j r.versions) ≡ map (λ (x : Snapshot). x.version) xs
  pub marks : map (λ (k : ℕ). k) (take j r.differs) ≡ map differ_number xs
  pub counts : map (λ (k : ℕ). k) (take j r.objects) ≡ map objects_of xs
  pub stand : (i : ℕ) → i < j → SetsAre s (map held (get_or xs i no_snapshot).cells) (row_of rows i)
  pub starts-long : length r.starts ≡ 8
  pub ends-long : length r.ends ≡ 8
  pub versions-long : length r.versions ≡ 8
  pub differs-long : length r.differs ≡ 8
  pub objects-long : length r.objects ≡ 8
  pub rows_long : 96 * n ≤ size
  pub same : length rows ≡ size

-- where nothing is read yet
abbrev pub none_read : ℕ → SnapshotsRead
none_read at =
    let none : List ℕ = replicate 8 0 in
    record { next = at; starts = none; ends = none; versions = replicate 8 no_version; differs = none; objects = none }

pub sofar-none :
    (s rows : List ℕ) (n at : ℕ) → at ≤ length s → 96 * n ≤ length rows →
    Sofar (times read_snapshot n (drop at s)) s rows (none_read at) n 0 (length rows)
sofar-none s rows n at h l =
    let z : n - 0 ≡ n = omega arith in
    record {
      xs = [];
      long = refl;
      below = omega arith;
      rest = prepend-nil (times read_snapshot n (drop at s)) ∙ ap (λ (m : ℕ). prepend [] (times read_snapshot m (drop at s))) (sym z);
      within = h;
      each = λ i k. absurd (omega arith);
      follows = λ i k. absurd (omega arith);
      last = λ i k. absurd (omega arith);
      numbers = refl;
      marks = refl;
      counts = refl;
      stand = λ i k. absurd (omega arith);
      starts-long = refl;
      ends-long = refl;
      versions-long = refl;
      differs-long = refl;
      objects-long = refl;
      rows_long = l;
      same = refl;
    }

module _ {p : Parse (List Snapshot)} {s rows : List ℕ} {r : SnapshotsRead} {n j size : ℕ} (w : Sofar p s rows r n j size) where
  module _ (h : j < n) where
    pub stopped : read_snapshot (drop r.next s) ≡ fail → p ≡ fail
    stopped e = w.rest ∙ ap (prepend w.xs) (times-left read_snapshot n j (drop r.next s) h e)

    -- the row of a snapshot is among those that are lent
    inside : 96 * j + 96 ≤ length rows
    inside = omega (arith, w.same, w.rows_long)

    -- the next snapshot is read, and its row is put among the others
    module _
        (few : n ≤ 8) {x : SnapshotNumbers} {end : ℕ} {ats : List ℕ} (k : SnapshotStops s r.next x end ats)
        (lent : length ats ≡ length (mid_of (96 * j) (96 * j + 96 - 96 * j) rows)) where
      row-long : length ats ≡ 96
      row-long = lent ∙ mid_len (96 * j) (96 * j + 96) rows inside ∙ omega arith

      abbrev after : List ℕ
      after = with_row rows ats j

      abbrev it : Snapshot
      it = k.what

      abbrev all : List Snapshot
      all = w.xs ++ (it ∷ [])

      old : (m : ℕ) → m < j → m ≡ j → ⊥
      old m l e = omega arith

      abbrev pub with-one : SnapshotsRead
      with-one = record {
        next = end;
        starts = set r.starts j r.next;
        ends = set r.ends j end;
        versions = set r.versions j x.version;
        differs = set r.differs j x.differ;
        objects = set r.objects j x.objects;
      }

      was : (m : ℕ) → m < j → get_or all m no_snapshot ≡ get_or w.xs m no_snapshot
      was m l = get_or-append w.xs (it ∷ []) no_snapshot m (omega (arith, w.long))

      is_last : get_or all j no_snapshot ≡ it
      is_last = get_or_at w.xs it [] no_snapshot j w.long

      each-old : (m : ℕ) → m < j → SnapshotAt s (get_or all m no_snapshot) (get_or with-one.starts m 0) (get_or with-one.ends m 0)
      each-old m l = rw (get_or-set_other r.starts j m r.next 0 (old m l), get_or-set_other r.ends j m end 0 (old m l), was m l) (w.each m l)

      each_last : SnapshotAt s (get_or all j no_snapshot) (get_or with-one.starts j 0) (get_or with-one.ends j 0)
      each_last =
          let a : j < length r.starts = omega (arith, w.starts-long) in
          let b : j < length r.ends = omega (arith, w.ends-long) in
          rw (get_or-set_same r.starts j r.next 0 a, get_or-set_same r.ends j end 0 b, is_last) k.stands

      -- the sets of a snapshot stand where a row says
      abbrev StandIn : Snapshot → List ℕ → Type 0
      StandIn y row = SetsAre s (map held y.cells) row

      stand-old : (m : ℕ) → m < j → StandIn (get_or all m no_snapshot) (row_of after m)
      stand-old m l =
          subst₂ StandIn (sym (was m l)) (sym (row_other rows ats j inside row-long m l)) (w.stand m l)

      stand-last : StandIn (get_or all j no_snapshot) (row_of after j)
      stand-last = subst₂ StandIn (sym is_last) (sym (row_here rows ats j inside row-long)) k.is.sets

      follows_on : (m : ℕ) → suc m < j + 1 → get_or with-one.starts (suc m) 0 ≡ get_or with-one.ends m 0
      follows_on m l =
          let ne : m ≡ j → ⊥ = λ e. omega arith in
          let a : j < length r.starts = omega (arith, w.starts-long) in
          ⊎_elim
          (λ (b : suc m < j). get_or-set_other r.starts j (suc m) r.next 0 (old (suc m) b) ∙ w.follows m b ∙ sym (get_or-set_other r.ends j m end 0 ne))
          (λ (b : j ≤ suc m).
          let e : suc m ≡ j = omega arith in
          ap (λ (i : ℕ). get_or with-one.starts i 0) e
          ∙ get_or-set_same r.starts j r.next 0 a
          ∙ sym (get_or-set_other r.ends j m end 0 ne ∙ w.last m e))
          (lt-or-ge (suc m) j)

      last_on : (m : ℕ) → suc m ≡ j + 1 → get_or with-one.ends m 0 ≡ end
      last_on m l =
          let e : m ≡ j = omega arith in
          let a : j < length r.ends = omega (arith, w.ends-long) in
          ap (λ (i : ℕ). get_or with-one.ends i 0) e ∙ get_or-set_same r.ends j end 0 a

      pub sofar-more : Sofar p s after with-one n (j + 1) size
      sofar-more = record {
        xs = all;
        long = length-append w.xs (it ∷ []) ∙ ap (λ (m : ℕ). m + 1) w.long;
        below = omega arith;
        rest =
            w.rest
            ∙ ap (prepend w.xs) (times-left read_snapshot n j (drop r.next s) h k.stands.is)
            ∙ prepend-one w.xs it (times read_snapshot (n - (j + 1)) (drop end s));
        within = k.stands.within;
        each = below_more (λ (m : ℕ). SnapshotAt s (get_or all m no_snapshot) (get_or with-one.starts m 0) (get_or with-one.ends m 0)) j each-old each_last;
        follows = follows_on;
        last = last_on;
        numbers =
            noted_more (λ (y : Snapshot). y.version) (λ (v : EventVersion). v.0) r.versions w.xs it x.version j
            (omega (arith, w.versions-long)) w.numbers k.is.version;
        marks = noted_more differ_number (λ (i : ℕ). i) r.differs w.xs it x.differ j (omega (arith, w.differs-long)) w.marks k.is.differ;
        counts = noted_more objects_of (λ (i : ℕ). i) r.objects w.xs it x.objects j (omega (arith, w.objects-long)) w.counts k.is.objects;
        stand = below_more (λ (m : ℕ). StandIn (get_or all m no_snapshot) (row_of after m)) j stand-old stand-last;
        starts-long = length-set r.starts j r.next ∙ w.starts-long;
        ends-long = length-set r.ends j end ∙ w.ends-long;
        versions-long = length-set r.versions j x.version ∙ w.versions-long;
        differs-long = length-set r.differs j x.differ ∙ w.differs-long;
        objects-long = length-set r.objects j x.objects ∙ w.objects-long;
        rows_long = w.rows_long;
        same = row-length rows ats j inside row-long ∙ w.same;
      }

  module _ (full : n ≤ j) where
    all_read : p ≡ got w.xs (drop r.next s)
    unfolding times
    all_read =
        let z : n - j ≡ 0 = omega arith in
        w.rest ∙ ap (λ (m : ℕ). prepend w.xs (times read_snapshot m (drop r.next s))) z
        ∙ ap (λ (l : List Snapshot). got l (drop r.next s)) (append-nil w.xs)

    -- what is noted of all snapshots
    noted : (ns : List ℕ) (f : Snapshot → ℕ) → map (λ (k : ℕ). k) (take j ns) ≡ map f w.xs → take (length w.xs) ns ≡ map f w.xs
    noted ns f e = ap (λ (k : ℕ). take k ns) w.long ∙ sym (map-id (take j ns)) ∙ e

    pub sofar-all : SnapshotsStop p s rows r
    sofar-all = record {
      what = w.xs;
      is = all_read;
      within = w.within;
      are = record {
        each = λ i l. w.each i (omega (arith, w.long));
        follows = λ i l. w.follows i (omega (arith, w.long));
        numbers = ap (λ (k : ℕ). version_numbers (take k r.versions)) w.long ∙ w.numbers;
      };
      differs = noted r.differs differ_number w.marks;
      objects = noted r.objects objects_of w.counts;
      stand = record { each = λ i l. w.stand i (omega (arith, w.long)) };
    }

-- what is known of a call's answer in the arm of a `match`
pub snapshot-read :
    {s : List ℕ} {at : ℕ} {ats : List ℕ} {r : std.Option (SnapshotNumbers × ℕ)} {x : SnapshotNumbers} {next : ℕ} →
    r ≡ Some (x, next) → SnapshotReads s at ats r → SnapshotStops s at x next ats
snapshot-read {s} {at} {ats} h w = subst (SnapshotReads s at ats) h w

pub snapshot-refused :
    (s : List ℕ) (at : ℕ) (ats : List ℕ) {r : std.Option (SnapshotNumbers × ℕ)} → r ≡ None → SnapshotReads s at ats r →
    read_snapshot (drop at s) ≡ fail
snapshot-refused s at ats h w = subst (SnapshotReads s at ats) h w

-- ---- the whole

-- what follows the head
abbrev under : Head → List Snapshot → Layout Headed
under h ss = found (record { head = h; snapshots = ss })

abbrev risen : List Snapshot → Layout (List Snapshot)
risen ss = found_if (rising numbers (map (λ (s : Snapshot). s.version) ss)) ss

abbrev counted : ℕ → Layout (List Snapshot)
counted count = times read_snapshot count >>= risen

abbrev pub numbered : Limits → Layout ℕ
numbered limits = such_that (is_within 1 limits.versions) read_number

head_first : (limits : Limits) (s : List ℕ) →
    read_dossier limits s ≡ and_then (read_dossier_head limits s) (λ h. (numbered limits >>= counted) >>= under h)
unfolding read_dossier read_body
head_first limits s = refl

no-dossier : (limits : Limits) (s : List ℕ) → read_dossier limits s ≡ fail → dossier_of limits s ≡ none
unfolding dossier_of
no-dossier limits s e = rw e

-- what is known of the head's answer in the arm of a `match`
pub head-reads :
    {p : Parse Head} {s : List ℕ} {r : std.Option (HeadAt × ℕ)} {x : HeadAt} {end : ℕ} → r ≡ Some (x, end) → DossierHeadReads p s r →
    DossierHeadStops p s x end
head-reads {p} {s} h w = subst (DossierHeadReads p s) h w

pub head-refused : {p : Parse Head} (s : List ℕ) {r : std.Option (HeadAt × ℕ)} → r ≡ None → DossierHeadReads p s r → p ≡ fail
head-refused {p} s h w = subst (DossierHeadReads p s) h w

pub head-none : (limits : Limits) (s : List ℕ) → read_dossier_head limits s ≡ fail → dossier_of limits s ≡ none
head-none limits s bad = no-dossier limits s (head_first limits s ∙ rw bad)

-- the head x and the number n of snapshots are read, which stand from `at` on
pub record HeadCount (limits : Limits) (s : List ℕ) (x : HeadAt) (n at : ℕ) : Type 0 where
  pub end : ℕ
  pub head : DossierHeadStops (read_dossier_head limits s) s x end
  pub count : Got (numbered limits (drop end s)) s end n at
  pub one : 1 ≤ n
  pub few : n ≤ 8

module _ (limits : Limits) {s : List ℕ} {x : HeadAt} {end : ℕ} (w : DossierHeadStops (read_dossier_head limits s) s x end) where
  head_step : read_dossier limits s ≡ and_then (and_then (numbered limits (drop end s)) counted) (under w.what)
  head_step = head_first limits s ∙ rw w.is

  pub count_none : numbered limits (drop end s) ≡ fail → dossier_of limits s ≡ none
  count_none e = no-dossier limits s (head_step ∙ ap (λ (p : Parse ℕ). and_then (and_then p counted) (under w.what)) e)

  pub count-read : Permitted limits → {n at : ℕ} → Got (numbered limits (drop end s)) s end n at → HeadCount limits s x n at
  count-read permitted count =
      let bounds = got-bounds 1 limits.versions count in
      record { end = end; head = w; count = count; one = bounds.0; few = omega (arith, bounds.1, permitted.few-versions) }

module _ {limits : Limits} {s : List ℕ} {x : HeadAt} {n at : ℕ} (w : HeadCount limits s x n at) where
  count-step : read_dossier limits s ≡ and_then (and_then (times read_snapshot n (drop at s)) risen) (under w.head.what)
  count-step = head_step limits w.head ∙ ap (λ (p : Parse ℕ). and_then (and_then p counted) (under w.head.what)) w.count.is

  pub snapshots-none : times read_snapshot n (drop at s) ≡ fail → dossier_of limits s ≡ none
  snapshots-none e =
      no-dossier limits s (count-step ∙ ap (λ (p : Parse (List Snapshot)). and_then (and_then p risen) (under w.head.what)) e)

-- the index of a dossier
abbrev pub index_of : HeadAt → ℕ → SnapshotsRead → DossierIndex
index_of x n r = record {
  head = x;
  count = n;
  starts = r.starts;
  ends = r.ends;
  versions = r.versions;
  differs = r.differs;
  objects = r.objects;
}

-- Where the snapshots are read too, as r says, what is left to ask is whether they end with the bytes, and whether their versions rise.
module _
    {limits : Limits} {s : List ℕ} {x : HeadAt} {n at : ℕ} {rows : List ℕ} {r : SnapshotsRead} (w : HeadCount limits s x n at)
    (all : SnapshotsStop (times read_snapshot n (drop at s)) s rows r) where
  abbrev top : Head
  top = w.head.what

  abbrev these : List Snapshot
  these = all.what

  abbrev read-there : Headed
  read-there = record { head = top; snapshots = these }

  last_step : read_dossier limits s ≡ and_then (risen these (drop r.next s)) (under top)
  last_step = count-step w ∙ rw all.is

  pub not-whole : (r.next ≡ length s → ⊥) → dossier_of limits s ≡ none
  unfolding dossier_of
  not-whole ne =
      let l : r.next < length s = omega (arith, all.within, ne) in
      ap whole last_step ∙ go (rising numbers (map (λ (s : Snapshot). s.version) these)) (drop-next s r.next l)
    where
      go : (b : Bool) {y : ℕ} {t u : List ℕ} → t ≡ y ∷ u → whole (and_then (found_if b these t) (under top)) ≡ none
      go true e = rw e
      go false e = refl

  many : length these ≡ n
  many = as_many n (drop at s) these (drop r.next s) all.is

  -- by the answer to whether they rise
  module _ {b : Bool} (a : b ≡ rising numbers (version_numbers (take n r.versions))) where
    rises : {d : Bool} → b ≡ d → rising numbers (map (λ (s : Snapshot). s.version) these) ≡ d
    rises e = ap (rising numbers) (sym all.are.numbers ∙ ap (λ (k : ℕ). version_numbers (take k r.versions)) many) ∙ sym a ∙ e

    pub not-rising : b ≡ false → dossier_of limits s ≡ none
    not-rising e = no-dossier limits s (last_step ∙ rw (rises e))

    stands : DossierIs s read-there (index_of x n r)
    stands = record {
      head = w.head.stands;
      count = sym many;
      one = w.one;
      few = w.few;
      snapshots = all.are;
      differs = all.differs;
      objects = all.objects;
    }

    pub dossier-found : b ≡ true → r.next ≡ length s → DossierStands (dossier_of limits s) s rows (index_of x n r)
    unfolding dossier_of
    dossier-found e z =
        let g : read_dossier limits s ≡ got read-there [] =
        last_step
        ∙ ap (λ (b : Bool). and_then (found_if b these (drop r.next s)) (under top)) (rises e)
        ∙ ap (got read-there) (ap (λ (k : ℕ). drop k s) z ∙ drop-length s) in
        record { what = read-there; is = rw g; stands = stands; in_rows = all.stand }

-- ---- what a caller of `read_dossier` has, whose answer is r

module _ (p : Option Headed) (s rows : List ℕ) (r : std.Option DossierIndex) where
  pub dossier-absent : DossierReads p s rows r → r ≡ None → p ≡ none
  dossier-absent w h = subst (DossierReads p s rows) h w

  pub dossier-known : {d : DossierIndex} → DossierReads p s rows r → r ≡ Some d → DossierStands p s rows d
  dossier-known w h = subst (DossierReads p s rows) h w

  -- a dossier has 8 snapshots at most
  pub reads-few : {d : DossierIndex} → DossierReads p s rows r → r ≡ Some d → d.count ≤ 8
  reads-few w h = (dossier-known w h).stands.few

-- so of the dossier that is known to be there
pub dossier-there :
    (p : Option Headed) (s rows : List ℕ) (r : std.Option DossierIndex) (h : Headed) → p ≡ some h → DossierReads p s rows r →
    (d : DossierIndex) × (r ≡ Some d) × DossierIs s h d × RowsAre s h.snapshots rows
dossier-there p s rows (Some d) h e w =
    let k : w.what ≡ h = cc (w.is) in
    let z : DossierIs s h d × RowsAre s h.snapshots rows =
    subst (λ (g : Headed). DossierIs s g d × RowsAre s g.snapshots rows) k (w.stands, w.in_rows) in
    (d, refl, z.0, z.1)
dossier-there p s rows None h e w = never (cc)
