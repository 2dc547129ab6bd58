-- Two dossiers together, inside the limits, have room in the output that document 01 asks for.
use mathlib.Core.Path.{◌≡◌, sym, subst}
use mathlib.Core.Bool.{Bool, true, false, cond}
use mathlib.Core.Option.{some}
use mathlib.Core.List.{List, [], ◌∷◌, ◌++◌, map, flatten}
use Prim.Native.Nat.{ℕ, ◌+◌, ◌*◌, ◌≤◌}
use native.Mathlib.Omega.{arith}
use lib.ListN.{length, take, length-append, length-map}
use Rattle.model.specs.Order.{Order, Text, texts, numbers, sets, equal}
use Rattle.model.specs.Keyed.{put, merge}
use Rattle.model.specs.Sets.{Within, union}
use Rattle.model.specs.Rule.{Cell, holds, differs, Choice, every, least, TypeView}
use Rattle.model.specs.Rule.{places, Snapshot, join_cell, join_cells, join_snapshots, combine, size, sizes}
use Rattle.model.specs.Rule.{objects}
use Rattle.model.specs.Limits.{Limits}
use Rattle.model.specs.Opening.{held}
use Rattle.model.proofs.Cases.{three, truth}
use Rattle.model.proofs.SetLaws.{rising-ups, ups-union, union-of}
use Rattle.model.proofs.LimitLaws.{fits-bounds}
use Rattle.model.proofs.ValidLaws.{take-of}
use Rattle.packed.proofs.LayoutLaws.{All, number-bounds}
use Rattle.replies.specs.Capacities.{dossier_capacity}
use Rattle.ontology.specs.Table.{EventType, Table, is_versioned}
use Rattle.ontology.specs.TableLayout.{table_of}
use Rattle.ontology.specs.declared.types.TypeIndex.{TypeIndex}
use Rattle.event.specs.Event.{object_count, type_view, event_view}
use Rattle.event.specs.EventLayout.{presence_bit, bit_number}
use Rattle.event.proofs.HeadLayoutLaws.{ParentsWritten}
use Rattle.event.proofs.EventSizeLaws.{ValuesShort, sets-size, each_within}
use Rattle.event.proofs.EventQuestionLaws.{all-member, all_append, member-all}
use Rattle.dossier.specs.DossierBody.{differ_bit, snapshot_bytes, body_bytes}
use Rattle.dossier.specs.DossierLayout.{dossier_bytes}
use Rattle.dossier.specs.DossierQuestions.{TypedDossier, dossiers_agree}
use Rattle.dossier.proofs.DossierBodyLaws.{SnapshotWritten, snapshot-cells}
use Rattle.dossier.proofs.DossierSizeLaws.{held-objects, versioned-objects}
use Rattle.dossier.proofs.DossierQuestionLaws.{agree-exact}
use Rattle.dossier.proofs.AcceptedLaws.{DossierTaken, one_type, taken-written, taken-name, taken-short, taken-sizes}
use Rattle.dossier.proofs.DossierHeadLaws.{dossier-head-size}
use Rattle.combining.specs.CombineCall.{headed_as, combined}
use Rattle.combining.specs.code.CombineIndex.{Known, Inside}
use Rattle.combining.proofs.MeetLaws.{left-taken, right-taken}

-- ---- sets with values of at most 120 bytes

abbrev IsShort : Text → Type 0
IsShort v = length v ≤ 120

abbrev Short : List Text → Type 0
Short = All IsShort

all-within : {A : Type 0} (ok : A → Type 0) (xs ys : List A) → Within xs ys → All ok ys → All ok xs
all-within ok xs ys w h = member-all ok xs (λ a m. all-member ok ys h a (w a m))

-- ---- two dossiers together

short-joined : (b : Bool) (c : Choice) (x y : Cell) → Short (held x) → Short (held y) → Short (held (join_cell b c x y))
unfolding join_cell held
short-joined b c differs y h g = tt
short-joined b c (holds s) differs h g = tt
short-joined true c (holds s) (holds t) h g = go (equal sets s t)
  where
    go : (b : Bool) → Short (held (cond b (holds s) differs))
    go true = h
    go false = tt
short-joined false every (holds s) (holds t) h g =
    all-within IsShort (union texts s t) (s ++ t) (union-of texts s t) (all_append IsShort s t h g)
short-joined false (least O) (holds s) (holds t) h g =
    all-within IsShort (take 1 (union O s t)) (s ++ t) (λ v m. union-of O s t v (take-of (union O s t) v m)) (all_append IsShort s t h g)

-- "two unequal sets (empty counts) or a mark on either side give the mark": no more objects than the left side has
size-joined : (c : Choice) (x y : Cell) → size (join_cell true c x y) ≤ size x
unfolding join_cell size
size-joined c differs y = omega arith
size-joined c (holds s) differs = omega arith
size-joined c (holds s) (holds t) = go (equal sets s t)
  where
    go : (b : Bool) → size (cond b (holds s) differs) ≤ length s
    go true = omega arith
    go false = omega arith

-- cells whose sizes are bounded, of a type that is versioned or not
record Small (versioned : Bool) (cs : List Cell) : Type 0 where
  few : length cs ≤ 32
  short : ValuesShort (map held cs)
  objects : versioned ≡ true → sizes cs ≤ 32

module _ (t : TypeView) where
  cells-few : (ps : List ℕ) (cs ds : List Cell) → length (join_cells t ps cs ds) ≤ length cs
  unfolding join_cells
  cells-few [] cs ds = omega arith
  cells-few (p ∷ ps) [] ds = omega arith
  cells-few (p ∷ ps) (c ∷ cs) [] = omega arith
  cells-few (p ∷ ps) (c ∷ cs) (d ∷ ds) = omega (arith, cells-few ps cs ds)

  cells-short :
      (ps : List ℕ) (cs ds : List Cell) → ValuesShort (map held cs) → ValuesShort (map held ds) → ValuesShort (map held (join_cells t ps cs ds))
  unfolding join_cells
  cells-short [] cs ds h g = tt
  cells-short (p ∷ ps) [] ds h g = tt
  cells-short (p ∷ ps) (c ∷ cs) [] h g = tt
  cells-short (p ∷ ps) (c ∷ cs) (d ∷ ds) h g = (short-joined t.versioned (t.choice p) c d h.0 g.0, cells-short ps cs ds h.1 g.1)

  cells-sizes : t.versioned ≡ true → (ps : List ℕ) (cs ds : List Cell) → sizes (join_cells t ps cs ds) ≤ sizes cs
  unfolding join_cells sizes
  cells-sizes v [] cs ds = omega arith
  cells-sizes v (p ∷ ps) [] ds = omega arith
  cells-sizes v (p ∷ ps) (c ∷ cs) [] = omega arith
  cells-sizes v (p ∷ ps) (c ∷ cs) (d ∷ ds) = rw v (omega (arith, size-joined (t.choice p) c d, cells-sizes v ps cs ds))

  snapshots-joined :
      (a b : Snapshot) → Small t.versioned a.cells → Small t.versioned b.cells → Small t.versioned (join_snapshots t a b).cells
  unfolding join_snapshots
  snapshots-joined a b h g = record {
    few = omega (arith, h.few, cells-few (places t) a.cells b.cells);
    short = cells-short (places t) a.cells b.cells h.short g.short;
    objects = λ v. omega (arith, h.objects v, cells-sizes v (places t) a.cells b.cells);
  }

-- what is so of all entries of two lists is so of all that they are together
module _ {E K : Type 0} (O : Order K) (key : E → K) (join : E → E → E) (ok : E → Type 0) (joins : (a b : E) → ok a → ok b → ok (join a b)) where
  all-put : (e : E) (xs : List E) → ok e → All ok xs → All ok (put O key join e xs)
  unfolding put
  all-put e [] a h = (a, tt)
  all-put e (x ∷ xs) a h =
      three (O.cmp (key e) (key x)) (λ l. rw l (a, h)) (λ s. rw s (joins e x a h.0, h.1)) (λ g. rw g (h.0, all-put e xs a h.1))

  all-merge : (xs ys : List E) → All ok xs → All ok ys → All ok (merge O key join xs ys)
  unfolding merge
  all-merge [] ys h g = g
  all-merge (x ∷ xs) ys h g = all-put x (merge O key join xs ys) h.0 (all-merge xs ys h.1 g)

-- 94 = 3 * 10 + 32 * 2
snapshots-size : (versioned : Bool) (ss : List Snapshot) → All (λ (z : Snapshot). Small versioned z.cells) ss → objects ss ≤ 256 →
    length (flatten (map snapshot_bytes ss)) ≤ 94 * length ss + 121 * objects ss
unfolding snapshot_bytes objects flatten
snapshots-size versioned [] h n = omega arith
snapshots-size versioned (z ∷ ss) h n =
    let sets = map held z.cells in
    let counted = held-objects z.cells in
    let most : object_count sets ≤ 256 = omega arith in
    simp length-append
    (omega (
      arith,
      number-bounds z.version,
      number-bounds (bit_number (map presence_bit sets)),
      number-bounds (bit_number (map differ_bit z.cells)),
      sets-size sets h.0.short (each_within 256 sets most),
      counted,
      length-map z.cells held,
      h.0.few,
      snapshots-size versioned ss h.1 (omega arith),
    ))

abbrev SmallIn : EventType → Snapshot → Type 0
SmallIn t z = Small (is_versioned t) z.cells

taken-small :
    {limits : Limits} {types : Table} {s : List ℕ} {a : TypedDossier} → DossierTaken limits types s a → All (SmallIn a.type) a.headed.snapshots
taken-small {limits} {types} {s} {a} w =
    let ss = a.headed.snapshots in
    member-all (SmallIn a.type) ss λ z i. record {
      few = omega (arith, snapshot-cells z (all-member SnapshotWritten ss (taken-written w).body.snapshots z i));
      short = all-member (λ (z : Snapshot). ValuesShort (map held z.cells)) ss (taken-short w) z i;
      objects = λ v. all-member (λ (z : Snapshot). sizes z.cells ≤ 32) ss (taken-sizes w v) z i;
    }

module _
    {limits : Limits} (table r s : List ℕ) (types : Table) (a b : TypedDossier) (t : table_of table ≡ some types)
    (x : DossierTaken limits types r a) (y : DossierTaken limits types s b) (agree : dossiers_agree a b ≡ true) (f : Inside a.type (combined a b)) where
  same-type : a.type ≡ b.type
  unfolding dossiers_agree
  same-type = one_type x y ((agree-exact _ _ _ _ _ _).0 agree).0

  together-small : All (SmallIn a.type) (combined a b).snapshots
  unfolding combined combine type_view event_view
  together-small =
      let v = type_view a.type in
      all-merge numbers (λ (z : Snapshot). z.version) (join_snapshots v) (SmallIn a.type) (snapshots-joined v)
      a.headed.snapshots b.headed.snapshots (taken-small x)
      (subst (λ (u : EventType). All (SmallIn u) b.headed.snapshots) (sym same-type) (taken-small y))

  pub parents-written : ParentsWritten 32 (combined a b).parents
  unfolding combined combine
  parents-written =
      let ps = a.headed.head.parents in
      let qs = b.headed.head.parents in
      let p = (taken-written x).head.parents in
      let q = (taken-written y).head.parents in
      let hash : Text → Type 0 = λ h. length h ≡ 20 in
      let within : length (union texts ps qs) ≤ 32 =
      omega (arith, (fits-bounds f.limits (type_view a.type) (combined a b) f.is).0, f.permitted.few-parents) in record {
        within = within;
        few = omega (arith, within);
        each = all-within hash (union texts ps qs) (ps ++ qs) (union-of texts ps qs) (all_append hash ps qs p.each q.each);
        rises = (rising-ups texts (union texts ps qs)).1 (ups-union texts ps qs ((rising-ups texts qs).0 q.rises));
      }

  -- 827 + 10 + 8 * 94 + 256 * 121 = 32,565
  pub combined-short : length (dossier_bytes (headed_as a.headed (combined a b))) ≤ dossier_capacity
  unfolding dossier_bytes body_bytes type_view event_view
  combined-short =
      let ss = (combined a b).snapshots in
      let (parents, versions, unversioned) = fits-bounds f.limits (type_view a.type) (combined a b) f.is in
      let few : length ss ≤ 8 = omega (arith, versions, f.permitted.few-versions) in
      let each : is_versioned a.type ≡ true → All (λ (z : Snapshot). sizes z.cells ≤ 32) ss =
      λ v. member-all (λ (z : Snapshot). sizes z.cells ≤ 32) ss (λ z i. (all-member (SmallIn a.type) ss together-small z i).objects v) in
      let most : objects ss ≤ 256 = truth (is_versioned a.type) (λ v. versioned-objects ss (each v) few)
      (λ u. omega (arith, unversioned u, f.permitted.few-objects)) in
      let head = (taken-written x).head in
      simp length-append
      (omega (
        arith,
        dossier-head-size (headed_as a.headed (combined a b)).head
            (record { type = head.type; source = head.source; parents = parents-written }) (taken-name x table t),
        number-bounds (length ss),
        snapshots-size (is_versioned a.type) ss together-small most,
      ))

-- the same of two dossiers of which questions 2 to 7 are answered yes
module _
    {table a b : List ℕ} {t : TypeIndex} {ps : List ℕ} (k : Known table a b t ps)
    (f : Inside k.left.type (combined k.left k.right)) where
  pub combined-room : length (dossier_bytes (headed_as k.left.headed (combined k.left k.right))) ≤ dossier_capacity
  combined-room = combined-short table a b k.types k.left k.right k.is (left-taken k) (right-taken k) k.agree f

  pub combined-parents : ParentsWritten 32 (combined k.left k.right).parents
  combined-parents = parents-written table a b k.types k.left k.right k.is (left-taken k) (right-taken k) k.agree f
