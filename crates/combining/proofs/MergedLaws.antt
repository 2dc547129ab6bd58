-- The laws of writing a combined dossier: its head, and the snapshots of both sides by rising version.
use mathlib.Core.Path.{◌≡◌, refl, sym, ap, ap₂, ◌∙◌, subst}
use mathlib.Core.Bool.{true, false, cond}
use mathlib.Core.List.{List, [], ◌∷◌, ◌++◌, append_assoc, append-nil, map, flatten}
use Prim.Native.Nat.{Ordering}
use Prim.Native.Nat.{ℕ, zero, suc, ◌+◌, ◌-◌, ◌*◌, ◌≤◌, ◌<◌}
use native.Mathlib.Omega.{arith}
use lib.Dec.{leb}
use lib.ListN.{length, take, drop, get_or, replicate, length-append, length-replicate, drop_of_length-le, get_or-map}
use lib.Seq.{drop-cons, drop-drop, take_at}
use borrow.Author.Tests.{lt-ltb, le-ltb, le-leb, lt-leb}
use Rattle.model.specs.Order.{Text, texts, numbers, pick, equal, rising}
use Rattle.model.proofs.Cases.{three}
use Rattle.model.specs.Keyed.{Rising, merge}
use Rattle.model.specs.Sets.{union}
use Rattle.model.specs.Rule.{Snapshot, join_snapshots, combine}
use Rattle.model.proofs.OrderLaws.{less-of, less-cmp, less-turn, more_turn, equal-true}
use Rattle.model.proofs.KeyedLaws.{merge-left, merge-right, merge-meet, merge-nil, above-trans}
use Rattle.model.specs.Opening.{held}
use Rattle.packed.specs.Packed.{number, part}
use Rattle.packed.specs.code.Written.{Wrote, ToGo}
use Rattle.packed.proofs.WriteLaws.{wrote_then, wrote_as, to-go, all-gone, wrote-between, wrote-length}
use Rattle.packed.proofs.ReadLaws.{part_length, stretch}
use Rattle.values.specs.declared.versions.EventVersion.{EventVersion}
use Rattle.ontology.specs.Table.{EventType, is_versioned}
use Rattle.ontology.specs.code.TypeIndex.{PropertiesAre, TypeIs}
use Rattle.ontology.specs.declared.types.TypeIndex.{TypeIndex}
use Rattle.event.specs.Event.{type_view}
use Rattle.event.specs.Head.{Head}
use Rattle.event.specs.code.EventIndex.{SetsAre, HashesAre, TextIs, HeadIs, HeadParts}
use Rattle.event.specs.declared.head.HeadAt.{HeadAt}
use Rattle.event.proofs.HeadLayoutLaws.{hashes-size}
use Rattle.unions.specs.code.Runs.{Hashes, HashesRoom}
use Rattle.unions.proofs.RunLaws.{part_then}
use Rattle.dossier.specs.DossierLayout.{Headed, dossier_bytes}
use Rattle.dossier.specs.DossierBody.{snapshot_bytes, body_bytes}
use Rattle.dossier.specs.code.DossierIndex.{no_snapshot, no_version, row_of, SnapshotsAre, DossierIs, DossierHeadRoom}
use Rattle.dossier.specs.declared.dossiers.DossierIndex.{DossierIndex}
use Rattle.dossier.proofs.AskLaws.{snapshot-stands}
use Rattle.dossier.proofs.VersionLaws.{cells_are}
use Rattle.dossier.specs.DossierHead.{dossier_head_bytes}
use Rattle.combining.proofs.RoomLaws.{combined-parents}
use Rattle.combining.specs.CombineCall.{headed_as, combined}
use Rattle.combining.specs.code.CombineIndex.{Known, Combinable, Inside, Meet, Shared, AgreedRoom, JoinedRoom}
use Rattle.combining.specs.code.WriteIndex.{SharedRoom, bytes_from, HeadsAre, both_heads, HeadsRoom, SnapshotsRoom, CombinedRoom}
use Rattle.combining.proofs.MeetLaws.{version_in, taken-rises, left-taken, right-taken, meet}
use Rattle.combining.proofs.CountLaws.{version_at, version-at}
use Rattle.combining.proofs.SelfLaws.{same-joined}
use Rattle.combining.proofs.PartLaws.{WholeRoom, count_room, body-room}
use Rattle.combining.proofs.FitLaws.{left-hashes, right-hashes, CountsVersions, versions-counted}

-- ---- writes

pub nothing-wrote : {l xs : List ℕ} {at : ℕ} → xs ≡ [] → Wrote l at xs l at
nothing-wrote e = all-gone to-go e

-- ---- two snapshots of one version

-- two of the same bytes have these bytes together
pub same-written :
    {ty : EventType} {x y : Snapshot} {left right : List ℕ} → Meet ty x y → left ≡ snapshot_bytes x → right ≡ snapshot_bytes y →
    equal texts left right ≡ true → left ≡ snapshot_bytes (join_snapshots (type_view ty) x y)
same-written {ty} {x} {y} {left} {right} m p q e =
    p ∙ ap snapshot_bytes (sym (same-joined m (sym p ∙ (equal-true texts left right).0 e ∙ q)))

module _ {table : List ℕ} {ty : EventType} {t : TypeIndex} {ps : List ℕ} (w : TypeIs table ty t ps) where
  is-versioned : 0 < t.mark → is_versioned ty ≡ true
  is-versioned h = lt-ltb 0 ty.mark (omega (arith, w.mark))

  not-versioned : t.mark ≤ 0 → is_versioned ty ≡ false
  not-versioned h = le-ltb 0 ty.mark (omega (arith, w.mark))

module _
    {version : EventVersion} {a x b y left right : List ℕ} {m n : ℕ} {t : TypeIndex} {ps : List ℕ} {at size : ℕ}
    (r : SharedRoom version a x m b y n left right t ps at size) where
  pub same-room : equal texts left right ≡ true → at + length left ≤ size
  same-room e = omega (arith, r.room, ap length (same-written r.shared.meet r.left-bytes r.right-bytes e))

  pub agreed-room : 0 < t.mark → AgreedRoom version a x m b y n t.count at size
  agreed-room h = record {
    type = r.type;
    counted = r.typed.are.count;
    few = r.typed.are.few;
    left = r.left;
    right = r.right;
    versioned = is-versioned r.typed h;
    shared = r.shared;
    room = r.room;
  }

  pub joined-room : t.mark ≤ 0 → JoinedRoom a x b y t.count ps at size
  joined-room h = record {
    table = r.table;
    type = r.type;
    left = r.left;
    right = r.right;
    typed = r.typed.are;
    unversioned = not-versioned r.typed h;
    meet = r.shared.meet;
    left_is = r.shared.left_is.sets;
    right_is = r.shared.right_is.sets;
    room = r.room;
  }

-- what `write_agreed` and `write_joined` leave of two snapshots of one version
module _
    {version : EventVersion} {a x b y : List ℕ} {m n : ℕ} {t : TypeIndex} {ps : List ℕ} {l l₁ : List ℕ} {at next : ℕ}
    {table : List ℕ} {ty : EventType} {g h : Snapshot} (w : TypeIs table ty t ps) (s : Shared version a x m b y n ty g h) where
  pub agreed-wrote :
      ((tz : EventType) (p q : Snapshot) → is_versioned tz ≡ true → t.count ≡ length tz.properties → Shared version a x m b y n tz p q →
      Wrote l at (snapshot_bytes (join_snapshots (type_view tz) p q)) l₁ next) →
      0 < t.mark → Wrote l at (snapshot_bytes (join_snapshots (type_view ty) g h)) l₁ next
  agreed-wrote says marked = says ty g h (is-versioned w marked) w.are.count s

  pub joined-wrote :
      ((u : List ℕ) (tz : EventType) (p q : Snapshot) → PropertiesAre u tz.properties t.count ps → is_versioned tz ≡ false → Meet tz p q →
      SetsAre a (map held p.cells) x → SetsAre b (map held q.cells) y → Wrote l at (snapshot_bytes (join_snapshots (type_view tz) p q)) l₁ next) →
      t.mark ≤ 0 → Wrote l at (snapshot_bytes (join_snapshots (type_view ty) g h)) l₁ next
  joined-wrote says unmarked = says table ty g h w.are (not-versioned w unmarked) s.meet s.left_is.sets s.right_is.sets

-- ---- the snapshots of one side

-- what `part_of` says of its answer p
abbrev pub StandsIn : List ℕ → ℕ → ℕ → List ℕ → Type 0
StandsIn s start end p = start ≤ end → end ≤ length s → p ≡ part s start end

abbrev Rises : List Snapshot → Type 0
Rises = Rising numbers version_in

rising-drop : (i : ℕ) (ss : List Snapshot) → Rises ss → Rises (drop i ss)
rising-drop zero ss h = h
rising-drop (suc i) [] h = tt
rising-drop (suc i) (s ∷ ss) h = rising-drop i ss h.1

bytes-cons : (ss : List Snapshot) (i : ℕ) → i < length ss → bytes_from ss i ≡ snapshot_bytes (get_or ss i no_snapshot) ++ bytes_from ss (suc i)
unfolding flatten
bytes-cons ss i l = ap (λ (z : List Snapshot). flatten (map snapshot_bytes z)) (drop-cons ss i no_snapshot l)

bytes-none : (ss : List Snapshot) (i : ℕ) → length ss ≤ i → bytes_from ss i ≡ []
unfolding flatten
bytes-none ss i l = ap (λ (z : List Snapshot). flatten (map snapshot_bytes z)) (drop_of_length-le ss l)

module _ (s : List ℕ) (xs : List Snapshot) (starts ends : List ℕ) (versions : List EventVersion) (w : SnapshotsAre s xs starts ends versions) where
  -- from the start of one on they stand one after the other; n others follow it
  run-from :
      (n i last : ℕ) → i + suc n ≡ length xs → last + 1 ≡ length xs → drop (get_or starts i 0) s ≡ bytes_from xs i ++ drop (get_or ends last 0) s
  run-from zero i last e f =
      let a = w.each i (omega arith) in
      let k : i ≡ last = omega arith in
      part_then s (get_or starts i 0) (get_or ends i 0) a.order a.within
      ∙ ap₂ (λ (x y : List ℕ). x ++ y)
      (a.bytes ∙ sym (bytes-cons xs i (omega arith) ∙ rw (bytes-none xs (suc i) (omega arith)) (append-nil (snapshot_bytes (get_or xs i no_snapshot)))))
      (ap (λ (k : ℕ). drop (get_or ends k 0) s) k)
  run-from (suc n) i last e f =
      let a = w.each i (omega arith) in
      let r = run-from n (suc i) last (omega arith) f in
      part_then s (get_or starts i 0) (get_or ends i 0) a.order a.within
      ∙ ap₂ (λ (x y : List ℕ). x ++ y) a.bytes (ap (λ (k : ℕ). drop k s) (sym (w.follows i (omega arith))) ∙ r)
      ∙ sym (append_assoc (snapshot_bytes (get_or xs i no_snapshot)) (bytes_from xs (suc i)) (drop (get_or ends last 0) s))
      ∙ ap (λ (x : List ℕ). x ++ drop (get_or ends last 0) s) (sym (bytes-cons xs i (omega arith)))

  version-is : (i : ℕ) → i < length xs → version_at versions i ≡ (get_or xs i no_snapshot).version
  version-is i l =
      version-at (length xs) versions i l
      ∙ ap (λ (v : List ℕ). get_or v i 0) w.numbers
      ∙ get_or-map version_in xs i no_snapshot

module _ (s : List ℕ) (d : DossierIndex) (h : Headed) (w : DossierIs s h d) (i : ℕ) where
  abbrev these : List Snapshot
  these = h.snapshots

  pub rest-none : d.count ≤ i → bytes_from these i ≡ []
  rest-none l = bytes-none these i (omega (arith, w.count))

  module _ (l : i < d.count) where
    rest-stretch :
        (part s (get_or d.starts i 0) (get_or d.ends (d.count - 1) 0) ≡ bytes_from these i)
        × (get_or d.starts i 0 ≤ get_or d.ends (d.count - 1) 0) × (get_or d.ends (d.count - 1) 0 ≤ length s)
    rest-stretch =
        let a = w.snapshots.each i (omega (arith, w.count)) in
        let z = w.snapshots.each (d.count - 1) (omega (arith, w.count)) in
        let r = run-from s these d.starts d.ends d.versions w.snapshots (length these - suc i) i (d.count - 1) (omega (arith, w.count))
        (omega (arith, w.count)) in
        let q = stretch s (bytes_from these i) (get_or d.starts i 0) (get_or d.ends (d.count - 1) 0) (omega (arith, a.order, a.within)) z.within r in
        (q.0, q.1, z.within)

    pub rest_part : part s (get_or d.starts i 0) (get_or d.ends (d.count - 1) 0) ≡ bytes_from these i
    rest_part = rest-stretch.0

    pub rest-there :
        (at size : ℕ) → at + length (bytes_from these i) ≤ size →
        (get_or d.starts i 0 ≤ get_or d.ends (d.count - 1) 0) × (get_or d.ends (d.count - 1) 0 ≤ length s)
        × (at + length (part s (get_or d.starts i 0) (get_or d.ends (d.count - 1) 0)) ≤ size)
    rest-there at size k = (rest-stretch.1, rest-stretch.2, omega (arith, ap length rest_part))

-- ---- the next snapshot of both sides

-- the first snapshot of two sides that begin with x and y: that of the lower version, or both together
unfoldable pub next_snapshot : EventType → Snapshot → Snapshot → Snapshot
next_snapshot t x y = pick (numbers.cmp x.version y.version) x (join_snapshots (type_view t) x y) y

next-less : (ty : EventType) (x y : Snapshot) → x.version < y.version → next_snapshot ty x y ≡ x
unfolding next_snapshot
next-less ty x y l = rw (less-cmp x.version y.version l)

next_more : (ty : EventType) (x y : Snapshot) → y.version < x.version → next_snapshot ty x y ≡ y
unfolding next_snapshot
next_more ty x y l = rw (less-turn numbers y.version x.version (less-cmp y.version x.version l))

next-same : (ty : EventType) (x y : Snapshot) → x.version ≡ y.version → next_snapshot ty x y ≡ join_snapshots (type_view ty) x y
unfolding next_snapshot
next-same ty x y e = ap (λ (o : _). pick o x (join_snapshots (type_view ty) x y) y) (ap (numbers.cmp x.version) (sym e) ∙ numbers.self x.version)

-- ---- how far the sides go on

-- how many snapshots a side of version v goes on by, where the other one has version w
unfoldable pub step_by : ℕ → ℕ → ℕ
step_by v w = cond (leb v w) 1 0

pub step-on : (v w : ℕ) → v ≤ w → step_by v w ≡ 1
unfolding step_by
step-on v w h = rw (le-leb v w h)

pub step-none : (v w : ℕ) → w < v → step_by v w ≡ 0
unfolding step_by
step-none v w h = rw (lt-leb v w h)

-- ---- the snapshots of both sides

-- the row of one of the snapshots
pub row-long : (rows : List ℕ) (j : ℕ) → 96 * j + 96 ≤ length rows → length (row_of rows j) ≡ 96
row-long rows j l = part_length rows (96 * j) (96 * j + 96) (omega arith) l ∙ omega arith

join-keeps : (ty : EventType) (x y : Snapshot) → x.version ≡ y.version → (join_snapshots (type_view ty) x y).version ≡ x.version
unfolding join_snapshots
join-keeps ty x y e = refl

abbrev merged_of : EventType → List Snapshot → List Snapshot → List Snapshot
merged_of ty xs ys = merge numbers version_in (join_snapshots (type_view ty)) xs ys

-- the sides have come to the snapshots x and y
merge-next : (ty : EventType) (x : Snapshot) (xs : List Snapshot) (y : Snapshot) (ys : List Snapshot) →
    Rises (x ∷ xs) → Rises (y ∷ ys) →
    merged_of ty (x ∷ xs) (y ∷ ys) ≡ next_snapshot ty x y ∷ merged_of ty (drop (step_by x.version y.version) (x ∷ xs))
    (drop (step_by y.version x.version) (y ∷ ys))
merge-next ty x xs y ys hx hy =
    three (numbers.cmp x.version y.version)
    (λ l. less l (less-of x.version y.version l))
    (λ e. same (numbers.same x.version y.version e))
    (λ g. let turned = more_turn numbers x.version y.version g in more turned (less-of y.version x.version turned))
  where
    less :
        numbers.cmp x.version y.version ≡ Ordering.lt → x.version < y.version →
        merged_of ty (x ∷ xs) (y ∷ ys) ≡ next_snapshot ty x y ∷ merged_of ty (drop (step_by x.version y.version) (x ∷ xs))
        (drop (step_by y.version x.version) (y ∷ ys))
    less l h =
        rw (next-less ty x y h, step-on x.version y.version (omega arith), step-none y.version x.version h)
        (merge-left numbers version_in (join_snapshots (type_view ty)) (join-keeps ty) x xs (y ∷ ys) hx.0
        (l, above-trans numbers version_in x.version y.version ys l hy.0))

    same :
        x.version ≡ y.version →
        merged_of ty (x ∷ xs) (y ∷ ys) ≡ next_snapshot ty x y ∷ merged_of ty (drop (step_by x.version y.version) (x ∷ xs))
        (drop (step_by y.version x.version) (y ∷ ys))
    same e =
        rw (next-same ty x y e, step-on x.version y.version (omega arith), step-on y.version x.version (omega arith))
        (merge-meet numbers version_in (join_snapshots (type_view ty)) (join-keeps ty) x xs y ys hx.0 e)

    more :
        numbers.cmp y.version x.version ≡ Ordering.lt → y.version < x.version →
        merged_of ty (x ∷ xs) (y ∷ ys) ≡ next_snapshot ty x y ∷ merged_of ty (drop (step_by x.version y.version) (x ∷ xs))
        (drop (step_by y.version x.version) (y ∷ ys))
    more l h =
        rw (next_more ty x y h, step-none x.version y.version h, step-on y.version x.version (omega arith))
        (merge-right numbers version_in (join_snapshots (type_view ty)) (join-keeps ty) (x ∷ xs) y ys
        (l, above-trans numbers version_in y.version x.version xs l hx.0))

merge-at : (ty : EventType) (xs ys : List Snapshot) (i j : ℕ) → i < length xs → j < length ys →
    Rises (drop i xs) → Rises (drop j ys) →
    let x = get_or xs i no_snapshot in
    let y = get_or ys j no_snapshot in
    merged_of ty (drop i xs) (drop j ys) ≡ next_snapshot ty x y ∷ merged_of ty (drop (i + step_by x.version y.version) xs)
    (drop (j + step_by y.version x.version) ys)
merge-at ty xs ys i j l m hx hy =
    let x = get_or xs i no_snapshot in
    let y = get_or ys j no_snapshot in
    go (drop i xs) (drop j ys) (drop-cons xs i no_snapshot l) (drop-cons ys j no_snapshot m) hx hy
    ∙ ap₂ (λ (u v : List Snapshot). next_snapshot ty x y ∷ merged_of ty u v) (drop-drop (step_by x.version y.version) i xs)
    (drop-drop (step_by y.version x.version) j ys)
  where
    go : (zs ws : List Snapshot) {x y : Snapshot} {us vs : List Snapshot} → zs ≡ x ∷ us → ws ≡ y ∷ vs → Rises zs → Rises ws →
        merged_of ty zs ws ≡ next_snapshot ty x y ∷ merged_of ty (drop (step_by x.version y.version) zs) (drop (step_by y.version x.version) ws)
    go zs ws {x} {y} {us} {vs} e f hx hy = rw (e, f) (merge-next ty x us y vs (rw e at hx) (rw f at hy))

-- ---- the heads of both sides

pub known-heads :
    {table a b : List ℕ} {t : TypeIndex} {ps : List ℕ} (k : Known table a b t ps) →
    Inside k.left.type (combined k.left k.right) → {r s : List ℕ} {x y : HeadAt} →
    HeadIs r k.left.headed.head x → HeadIs s k.right.headed.head y → HeadsAre r x s y k.left.headed.head k.right.headed.head
unfolding combined combine
known-heads k inside p q =
    let x = left-hashes k in
    let y = right-hashes k in
    let both = combined-parents k inside in
    record {
      left = p;
      right = q;
      left-each = x.0;
      right-each = y.0;
      left-rise = x.1;
      right-rise = y.1;
      few = both.within;
      both-each = both.each;
    }

-- ---- a combined dossier: its head, how many snapshots it has, and these

module _ {table a b : List ℕ} {t : TypeIndex} {ps : List ℕ} (k : Known table a b t ps) where
  abbrev pub whole_head : List ℕ
  whole_head = dossier_head_bytes (both_heads k.left.headed.head k.right.headed.head)

  abbrev pub whole_snapshots : List ℕ
  whole_snapshots = flatten (map snapshot_bytes (combined k.left k.right).snapshots)

  abbrev whole : List ℕ
  whole = dossier_bytes (headed_as k.left.headed (combined k.left k.right))

  pub whole_length : length whole ≡ length whole_head + length (number (length (combined k.left k.right).snapshots)) + length whole_snapshots
  unfolding dossier_bytes body_bytes combined combine
  whole_length = simp length-append (omega arith)

  pub whole_room : {l : List ℕ} → length whole ≤ length l → WholeRoom l whole_head (length (combined k.left k.right).snapshots) whole_snapshots
  whole_room r = record { room = omega (arith, whole_length) }

  pub whole-wrote :
      {n : ℕ} → n ≡ length (combined k.left k.right).snapshots → {l l₁ l₂ l₃ : List ℕ} {x y z : ℕ} →
      Wrote l 0 whole_head l₁ x → Wrote l₁ x (number n) l₂ y → Wrote l₂ y whole_snapshots l₃ z → Wrote l 0 whole l₃ z
  unfolding dossier_bytes body_bytes combined combine
  whole-wrote is p q r = wrote_then p (wrote_then (wrote_as (ap number is) q) r)

module _
    {table a left b right : List ℕ} {d e : DossierIndex} {t : TypeIndex} {ps : List ℕ} (c : Combinable table a d left b e right t ps) where
  abbrev lefts : List Snapshot
  lefts = c.known.left.headed.snapshots

  abbrev rights : List Snapshot
  rights = c.known.right.headed.snapshots

  -- the bytes of them all
  abbrev pub snapshots_part : List ℕ
  snapshots_part = flatten (map snapshot_bytes (combined c.known.left c.known.right).snapshots)

  -- what is to be written when the sides have come to their i-th and their j-th
  abbrev pub merged_bytes : ℕ → ℕ → List ℕ
  merged_bytes i j = flatten (map snapshot_bytes (merged_of c.known.left.type (drop i lefts) (drop j rights)))

  merged-all : snapshots_part ≡ merged_bytes 0 0
  unfolding combined combine
  merged-all = refl

  left_rising : (i : ℕ) → Rises (drop i lefts)
  left_rising i = rising-drop i lefts (taken-rises (left-taken c.known))

  right-rising : (j : ℕ) → Rises (drop j rights)
  right-rising j = rising-drop j rights (taken-rises (right-taken c.known))

  -- the bytes of the next snapshot
  abbrev pub next_bytes : ℕ → ℕ → List ℕ
  next_bytes i j = snapshot_bytes (next_snapshot c.known.left.type (get_or lefts i no_snapshot) (get_or rights j no_snapshot))

  -- one side alone is left
  pub merged-left : (i j : ℕ) → e.count ≤ j → merged_bytes i j ≡ bytes_from lefts i
  merged-left i j h =
      ap (λ (ss : List Snapshot). flatten (map snapshot_bytes ss))
      (ap (merged_of c.known.left.type (drop i lefts)) (drop_of_length-le rights {i = j} (omega (arith, c.right-read.count)))
      ∙ merge-nil numbers version_in (join_snapshots (type_view c.known.left.type)) (join-keeps c.known.left.type) (drop i lefts) (left_rising i))

  pub merged-right : (i j : ℕ) → d.count ≤ i → merged_bytes i j ≡ bytes_from rights j
  unfolding merge
  merged-right i j h =
      ap (λ (ss : List Snapshot). flatten (map snapshot_bytes (merged_of c.known.left.type ss (drop j rights))))
      (drop_of_length-le lefts {i = i} (omega (arith, c.left-read.count)))

  left-version : (i : ℕ) → i < d.count → version_at d.versions i ≡ (get_or lefts i no_snapshot).version
  left-version i l = version-is a lefts d.starts d.ends d.versions c.left-read.snapshots i (omega (arith, c.left-read.count))

  right-version : (j : ℕ) → j < e.count → version_at e.versions j ≡ (get_or rights j no_snapshot).version
  right-version j l = version-is b rights e.starts e.ends e.versions c.right-read.snapshots j (omega (arith, c.right-read.count))

  module _ (i j : ℕ) (l : i < d.count) (m : j < e.count) where
    abbrev v : ℕ
    v = version_at d.versions i

    abbrev w : ℕ
    w = version_at e.versions j

    abbrev left_one : Snapshot
    left_one = get_or lefts i no_snapshot

    abbrev right_one : Snapshot
    right_one = get_or rights j no_snapshot

    -- the next one is written, and both sides have gone on
    pub merged-next :
        (x y : ℕ) → x ≡ step_by v w → y ≡ step_by w v → merged_bytes i j ≡ next_bytes i j ++ merged_bytes (i + x) (j + y)
    unfolding flatten
    merged-next x y p q =
        let left_is = left-version i l in
        let right_is = right-version j m in
        ap (λ (ss : List Snapshot). flatten (map snapshot_bytes ss))
        (merge-at c.known.left.type lefts rights i j (omega (arith, c.left-read.count)) (omega (arith, c.right-read.count)) (left_rising i)
        (right-rising j)
        ∙ ap₂ (λ (u v : ℕ). next_snapshot c.known.left.type left_one right_one ∷ merged_of c.known.left.type (drop (i + u) lefts)
        (drop (j + v) rights))
        (sym (p ∙ ap₂ step_by left_is right_is))
        (sym (q ∙ ap₂ step_by right_is left_is)))

    pub next-left : v < w → part a (get_or d.starts i 0) (get_or d.ends i 0) ≡ next_bytes i j
    next-left h =
        (c.left-read.snapshots.each i (omega (arith, c.left-read.count))).bytes
        ∙ ap snapshot_bytes (sym (next-less c.known.left.type left_one right_one (omega (arith, left-version i l, right-version j m))))

    pub next-right : w < v → part b (get_or e.starts j 0) (get_or e.ends j 0) ≡ next_bytes i j
    next-right h =
        (c.right-read.snapshots.each j (omega (arith, c.right-read.count))).bytes
        ∙ ap snapshot_bytes (sym (next_more c.known.left.type left_one right_one (omega (arith, left-version i l, right-version j m))))

    one-version : w ≤ v → v ≤ w → left_one.version ≡ right_one.version
    one-version h k = omega (arith, left-version i l, right-version j m)

    pub next_both :
        w ≤ v → v ≤ w → snapshot_bytes (join_snapshots (type_view c.known.left.type) left_one right_one) ≡ next_bytes i j
    next_both h k = ap snapshot_bytes (sym (next-same c.known.left.type left_one right_one (one-version h k)))

    -- the two of one version, with the numbers of the indexes, stand where their rows say
    pub next-shared :
        w ≤ v → v ≤ w →
        Shared (get_or d.versions i no_version) a (row_of left i) (get_or d.differs i 0) b (row_of right j) (get_or e.differs j 0)
        c.known.left.type left_one right_one
    next-shared h k =
        let x = snapshot-stands a c.known.left.headed d c.left-read left c.left-rows i l in
        let y = snapshot-stands b c.known.right.headed e c.right-read right c.right-rows j m in
        record {
          meet = meet c i j (omega (arith, c.left-read.count)) (omega (arith, c.right-read.count)) (one-version h k);
          number = x.version;
          left_is = cells_are a left_one _ (row_of left i) x;
          right_is = cells_are b right_one _ (row_of right j) y;
        }

    -- the parts of a and b that `part_of` lends are their bytes
    pub left-bytes : {p : List ℕ} → StandsIn a (get_or d.starts i 0) (get_or d.ends i 0) p → p ≡ snapshot_bytes left_one
    left-bytes lent = let s = c.left-read.snapshots.each i (omega (arith, c.left-read.count)) in lent s.order s.within ∙ s.bytes

    pub right-bytes : {q : List ℕ} → StandsIn b (get_or e.starts j 0) (get_or e.ends j 0) q → q ≡ snapshot_bytes right_one
    right-bytes lent = let s = c.right-read.snapshots.each j (omega (arith, c.right-read.count)) in lent s.order s.within ∙ s.bytes

  pub merged-to-go : {l : List ℕ} {at : ℕ} → ToGo l at snapshots_part l at (merged_bytes 0 0)
  merged-to-go {l} {at} = subst (λ (z : List ℕ). ToGo l at snapshots_part l at z) merged-all to-go

  -- ---- the head

  abbrev left_head : Head
  left_head = c.known.left.headed.head

  abbrev right_head : Head
  right_head = c.known.right.headed.head

  heads-are :
      Inside c.known.left.type (combined c.known.left c.known.right) →
      HeadsAre a d.head b e.head left_head right_head
  heads-are inside = known-heads c.known inside c.left-read.head c.right-read.head

-- ---- the whole: the head, how many snapshots there are, and these

-- what `write_heads` leaves
abbrev pub WritesHeads : List ℕ → HeadAt → List ℕ → HeadAt → List ℕ → List ℕ → ℕ → Type 0
WritesHeads a x b y l l₁ n = (g h : Head) → HeadsAre a x b y g h → Wrote l 0 (dossier_head_bytes (both_heads g h)) l₁ n

module _
    {a left b right : List ℕ} {d e : DossierIndex} {t : TypeIndex} {ps : List ℕ} where
  pub heads-there : {size : ℕ} → CombinedRoom a d left b e right t ps size → HeadsRoom a d.head b e.head size
  heads-there r = record {
    left = left_head r.both;
    right = right_head r.both;
    are = heads-are r.both (r.inside _ r.both);
    room = omega (arith, r.room, whole_length r.both.known);
  }

  -- what `write_heads` leaves, and what `count_versions` answers
  module _
      {l l₁ : List ℕ} {x n : ℕ} (heads : WritesHeads a d.head b e.head l l₁ x) (counts : CountsVersions d e n)
      (r : CombinedRoom a d left b e right t ps (length l)) where
    head-wrote :
        {table : List ℕ} (h : Combinable table a d left b e right t ps) → Wrote l 0 (dossier_head_bytes (both_heads (left_head h) (right_head h))) l₁ x
    head-wrote h = heads (left_head h) (right_head h) (heads-are h (r.inside _ h))

    rooms : let k = r.both.known in WholeRoom l (whole_head k) (length (combined k.left k.right).snapshots) (whole_snapshots k)
    rooms = whole_room r.both.known r.room

    pub number-there : x + length (number n) ≤ length l₁
    number-there = count_room rooms (head-wrote r.both) (versions-counted r.both counts)

    module _ {l₂ : List ℕ} {y : ℕ} (number-wrote : Wrote l₁ x (number n) l₂ y) where
      pub snapshots-there : SnapshotsRoom a d left b e right t ps y (length l₂)
      snapshots-there = record {
        table = r.table;
        both = r.both;
        room = body-room rooms (head-wrote r.both) (versions-counted r.both counts) number-wrote;
      }

      pub combined-wrote :
          {l₃ : List ℕ} {z : ℕ} →
          ((table : List ℕ) (h : Combinable table a d left b e right t ps) → Wrote l₂ y (snapshots_part h) l₃ z) →
          (table : List ℕ) (h : Combinable table a d left b e right t ps) →
          Wrote l 0 (dossier_bytes (headed_as h.known.left.headed (combined h.known.left h.known.right))) l₃ z
      combined-wrote wrote table h = whole-wrote h.known (versions-counted h counts) (head-wrote h) number-wrote (wrote table h)

-- ---- the union of the parents, made apart

union-few :
    {a b : List ℕ} {x y : HeadAt} {g h : Head} → HeadsAre a x b y g h →
    length (flatten (union texts g.parents h.parents)) ≤ length {A = ℕ} (replicate 640 0)
union-few {g = g} {h = h} w =
    omega (arith, w.few, hashes-size (union texts g.parents h.parents) w.both-each, length-replicate {A = ℕ} 640 0)

-- the bytes in front of where it ends are the hashes
union-part : {l xs l₁ : List ℕ} {n : ℕ} → length xs ≤ length l → Wrote l 0 xs l₁ n → (n ≤ length l₁) × (part l₁ 0 n ≡ xs)
union-part {l} {xs} {l₁} {n} r w =
    let e = wrote-between (omega arith) w in
    let k : n - 0 ≡ length xs = omega (arith, w.after) in
    (omega (arith, w.after, wrote-length w), ap (take (n - 0)) e ∙ take_at xs (drop n l) (n - 0) (sym k))

-- `hashes_part` lends the parents of both
module _
    {a b : List ℕ} {x y : HeadAt} {p q : List ℕ} (left : (gs : List Text) → HashesAre a gs x.parents → p ≡ flatten gs)
    (right : (hs : List Text) → HashesAre b hs y.parents → q ≡ flatten hs) where
  pub union-there : {size : ℕ} → HeadsRoom a x b y size → HashesRoom p q 0 (length {A = ℕ} (replicate 640 0))
  union-there r = let w = r.are in record {
    xs = r.left.parents;
    ys = r.right.parents;
    left = left _ w.left.hashes;
    right = right _ w.right.hashes;
    xs-each = w.left-each;
    ys-each = w.right-each;
    xs-rise = w.left-rise;
    ys-rise = w.right-rise;
    room = omega (arith, union-few w);
  }

  -- and their union is made
  module _
      {l₁ : List ℕ} {n : ℕ}
      (made : (xs ys : List Text) → p ≡ flatten xs → q ≡ flatten ys → Hashes xs → Hashes ys → rising texts xs ≡ true →
      rising texts ys ≡ true →
      Wrote (replicate 640 0) 0 (flatten (union texts xs ys)) l₁ n) where
    hashes : {g h : Head} → HeadsAre a x b y g h → (n ≤ length l₁) × (part l₁ 0 n ≡ flatten (union texts g.parents h.parents))
    hashes w =
        union-part (union-few w)
        (made _ _ (left _ w.left.hashes) (right _ w.right.hashes) w.left-each w.right-each w.left-rise w.right-rise)

    pub union-within : {size : ℕ} → HeadsRoom a x b y size → n ≤ length l₁
    union-within r = (hashes r.are).0

    -- `text_part` lends the name of the type and the source
    module _
        {name source : List ℕ} (named : (v : Text) → TextIs a v x.name → name ≡ v)
        (sourced : (v : Text) → TextIs a v x.source → source ≡ v) where
      parts : {g h : Head} → HeadsAre a x b y g h → HeadParts name source (part l₁ 0 n) (both_heads g h)
      parts w = record { type = named _ w.left.name; uri = sourced _ w.left.uri; parents = (hashes w).1; each = w.both-each }

      pub parts-there : {size : ℕ} → HeadsRoom a x b y size → DossierHeadRoom name source (part l₁ 0 n) size
      parts-there r = record { head = both_heads r.left r.right; parts = parts r.are; room = r.room }

      pub heads-wrote :
          {l l₂ : List ℕ} {next : ℕ} → ((h : Head) → HeadParts name source (part l₁ 0 n) h → Wrote l 0 (dossier_head_bytes h) l₂ next) →
          WritesHeads a x b y l l₂ next
      heads-wrote wrote g h w = wrote (both_heads g h) (parts w)
