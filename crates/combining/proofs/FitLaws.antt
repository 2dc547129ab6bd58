-- The laws of question 8: the limits of two dossiers together.
use mathlib.Core.Path.{◌≡◌, refl, sym, ap, ap₂, ◌∙◌}
use mathlib.Core.Bool.{Bool, true, false, ◌&&◌, ◌||◌}
use mathlib.Core.List.{List, [], ◌∷◌, map}
use Prim.Native.Nat.{ℕ, zero, suc, ◌+◌, ◌≤◌, ◌<◌}
use native.Mathlib.Omega.{arith}
use lib.Dec.{leb, eqb}
use lib.ListN.{length, take, get_or, length-map}
use borrow.Author.Tests.{lt-ltb, le-ltb, le-leb, lt-leb, eqb-true}
use Rattle.model.specs.Order.{Order, Text, numbers, texts, rising}
use Rattle.model.proofs.Cases.{three, or-part}
use Rattle.model.specs.Keyed.{put, merge}
use Rattle.model.specs.Sets.{itself, first, union}
use Rattle.model.specs.Rule.{Snapshot, join_snapshots, Dossier, combine, sizes, objects}
use Rattle.model.specs.Limits.{Limits, fits}
use Rattle.model.specs.Opening.{held}
use Rattle.packed.proofs.LayoutLaws.{All}
use Rattle.ontology.specs.Table.{EventType, Table, is_versioned}
use Rattle.ontology.specs.code.TypeIndex.{PropertiesAre}
use Rattle.ontology.specs.declared.types.TypeIndex.{TypeIndex}
use Rattle.event.specs.Event.{type_view, event_view}
use Rattle.event.specs.code.EventIndex.{SetsAre, HashesAre}
use Rattle.event.specs.declared.sets.SetAt.{SetAt}
use Rattle.unions.specs.code.Runs.{Hashes}
use Rattle.dossier.specs.DossierQuestions.{TypedDossier}
use Rattle.dossier.specs.code.DossierIndex.{no_snapshot, version_numbers, row_of}
use Rattle.dossier.specs.declared.dossiers.DossierIndex.{DossierIndex}
use Rattle.dossier.proofs.DossierLayoutLaws.{DossierWritten}
use Rattle.dossier.proofs.AskLaws.{snapshot-stands}
use Rattle.dossier.proofs.AcceptedLaws.{DossierTaken, taken-written, taken-lone, taken-fits}
use Rattle.combining.specs.CombineCall.{combined}
use Rattle.combining.specs.code.CombineIndex.{Known, Combinable, Meet}
use Rattle.combining.proofs.PlaceLaws.{version-none}
use Rattle.combining.proofs.ObjectLaws.{union-few}
use Rattle.combining.proofs.MeetLaws.{version_in, left-taken, right-taken, same-type, meet}

-- ---- the keys of a merge

module _ {E K : Type 0} (O : Order K) (key : E → K) (join : E → E → E) (kept : (a b : E) → key (join a b) ≡ key a) where
  put-keys : (e : E) (xs : List E) → map key (put O key join e xs) ≡ put O itself first (key e) (map key xs)
  unfolding put
  put-keys e [] = refl
  put-keys e (x ∷ xs) =
      three (O.cmp (key e) (key x))
      (λ l. rw l)
      (λ s. rw (s, kept e x))
      (λ g. rw (g, put-keys e xs))

  merge-keys : (xs ys : List E) → map key (merge O key join xs ys) ≡ union O (map key xs) (map key ys)
  unfolding union merge
  merge-keys [] ys = refl
  merge-keys (x ∷ xs) ys = put-keys x (merge O key join xs ys) ∙ ap (put O itself first (key x)) (merge-keys xs ys)

-- ---- the parts of the question

-- a dossier's snapshots and their versions
abbrev snapshots : TypedDossier → List Snapshot
snapshots a = a.headed.snapshots

abbrev versions : List Snapshot → List ℕ
versions xs = map version_in xs

fits-parts : (limits : Limits) (ty : EventType) (d : Dossier) →
    fits limits (type_view ty) d
    ≡ (leb (length d.parents) limits.parents
    && (leb (length d.snapshots) limits.versions && (is_versioned ty || leb (objects d.snapshots) limits.objects)))
unfolding fits type_view event_view
fits-parts limits ty d = refl

all-hashes : (hs : List Text) → All (λ (h : Text). length h ≡ 20) hs → Hashes hs
all-hashes [] w i l = absurd (omega arith)
all-hashes (h ∷ hs) w zero l = w.0
all-hashes (h ∷ hs) w (suc i) l = all-hashes hs w.1 i (omega arith)

-- two runs of few parents have few together
pub parents-few :
    (gs hs : List Text) (m n most : ℕ) → m ≡ length gs → n ≡ length hs → m + n ≤ most → true ≡ leb (length (union texts gs hs)) most
parents-few gs hs m n most p q h = sym (le-leb (length (union texts gs hs)) most (omega (arith, union-few texts gs hs)))

-- ---- an unversioned dossier has one snapshot, of version 0

one-snapshot :
    {limits : Limits} {types : Table} {s : List ℕ} {a : TypedDossier} → DossierTaken limits types s a → is_versioned a.type ≡ false →
    length (snapshots a) ≡ 1
one-snapshot {limits} {types} {s} {a} w un = eqb-true (length (snapshots a)) 1
    (or-part (is_versioned a.type) (eqb (length (snapshots a)) 1) (taken-lone w) un)

alone : (ss : List Snapshot) → length ss ≡ 1 → ss ≡ get_or ss 0 no_snapshot ∷ []
alone [] h = absurd (omega arith)
alone (s ∷ []) h = refl
alone (s ∷ r ∷ ss) h = absurd (omega arith)

-- two snapshots of one version, merged
merge-alone : (join : Snapshot → Snapshot → Snapshot) (x y : Snapshot) → x.version ≡ y.version →
    merge numbers version_in join (x ∷ []) (y ∷ []) ≡ join x y ∷ []
unfolding merge put
merge-alone join x y e = rw (ap (numbers.cmp x.version) (sym e) ∙ numbers.self x.version)

-- ---- two dossiers of which questions 2 to 7 are answered yes

module _ {table a b : List ℕ} {t : TypeIndex} {ps : List ℕ} (k : Known table a b t ps) where
  abbrev ty : EventType
  ty = k.left.type

  abbrev whole : Dossier
  whole = combined k.left k.right

  pub left-written : DossierWritten k.limits k.left.headed
  left-written = taken-written (left-taken k)

  pub right-written : DossierWritten k.limits k.right.headed
  right-written = taken-written (right-taken k)

  -- the parents of each are hashes and rise
  pub left-hashes : Hashes k.left.headed.head.parents × (rising texts k.left.headed.head.parents ≡ true)
  left-hashes = (all-hashes k.left.headed.head.parents left-written.head.parents.each, left-written.head.parents.rises)

  pub right-hashes : Hashes k.right.headed.head.parents × (rising texts k.right.headed.head.parents ≡ true)
  right-hashes = (all-hashes k.right.headed.head.parents right-written.head.parents.each, right-written.head.parents.rises)

  whole-parents : whole.parents ≡ union texts k.left.headed.head.parents k.right.headed.head.parents
  unfolding combined combine
  whole-parents = refl

  pub whole-snapshots : whole.snapshots ≡ merge numbers version_in (join_snapshots (type_view ty)) (snapshots k.left) (snapshots k.right)
  unfolding combined combine
  whole-snapshots = refl

  -- the first snapshots of an unversioned type
  module _ (un : t.mark ≤ 0) where
    pub unversioned : is_versioned ty ≡ false
    unversioned = le-ltb 0 ty.mark (omega (arith, k.typed.mark))

    pub left_one : length (snapshots k.left) ≡ 1
    left_one = one-snapshot (left-taken k) unversioned

    right-unversioned : is_versioned k.right.type ≡ false
    right-unversioned = ap is_versioned (sym (same-type k)) ∙ unversioned

    pub right-one : length (snapshots k.right) ≡ 1
    right-one = one-snapshot (right-taken k) right-unversioned

    abbrev x : Snapshot
    x = get_or (snapshots k.left) 0 no_snapshot

    abbrev y : Snapshot
    y = get_or (snapshots k.right) 0 no_snapshot

    pub same_version : x.version ≡ y.version
    same_version =
        version-none k.limits ty x (taken-fits (left-taken k) 0 (omega (arith, left_one))) unversioned
        ∙ sym (version-none k.limits k.right.type y (taken-fits (right-taken k) 0 (omega (arith, right-one))) right-unversioned)

    whole-objects : objects whole.snapshots ≡ sizes (join_snapshots (type_view ty) x y).cells
    unfolding objects
    whole-objects =
        ap objects (whole-snapshots
        ∙ ap₂ (merge numbers version_in (join_snapshots (type_view ty))) (alone (snapshots k.left) left_one) (alone (snapshots k.right) right-one)
        ∙ merge-alone (join_snapshots (type_view ty)) x y same_version)
        ∙ omega arith

  -- ---- the answers

  module _ (limits : Limits) where
    abbrev asked : Bool
    asked = fits limits (type_view ty) whole

    -- of few enough objects; and of few enough versions besides
    abbrev few_objects : Bool
    few_objects = is_versioned ty || leb (objects whole.snapshots) limits.objects

    abbrev few_versions : Bool
    few_versions = leb (length whole.snapshots) limits.versions && few_objects

    -- the whole answer is that of going on: with the versions once the parents are few enough, with the objects once the versions are
    abbrev pub ToVersions : Type 0
    ToVersions = asked ≡ few_versions

    abbrev pub ToObjects : Type 0
    ToObjects = asked ≡ few_objects

    -- `parents_fit` answers n of the parents
    module _
        {n : Bool} {s u : List ℕ} {v w : SetAt}
        (says : (gs hs : List Text) → HashesAre s gs v → HashesAre u hs w → Hashes gs → Hashes hs → rising texts gs ≡ true →
        rising texts hs ≡ true →
        n ≡ leb (length (union texts gs hs)) limits.parents)
        (left-are : HashesAre s k.left.headed.head.parents v) (right-are : HashesAre u k.right.headed.head.parents w) where
      then-parents : asked ≡ (n && few_versions)
      then-parents =
          let p = says _ _ left-are right-are left-hashes.0 right-hashes.0 left-hashes.1 right-hashes.1 in
          fits-parts limits ty whole ∙ ap (λ (z : Bool). z && few_versions)
          (ap (λ (hs : List Text). leb (length hs) limits.parents) whole-parents ∙ sym p)

      pub fits-parents : n ≡ false → false ≡ asked
      fits-parents l = sym (then-parents ∙ rw l)

      pub to-versions : n ≡ true → ToVersions
      to-versions l = then-parents ∙ rw l

    -- there are m versions
    module _ (go_on : ToVersions) {m : ℕ} (q : m ≡ length whole.snapshots) where
      pub fits-versions : limits.versions < m → false ≡ asked
      fits-versions h = sym (go_on ∙ ap (λ (z : Bool). z && few_objects) (lt-leb (length whole.snapshots) limits.versions (omega (arith, q))))

      pub to-objects : m ≤ limits.versions → ToObjects
      to-objects h = go_on ∙ ap (λ (z : Bool). z && few_objects) (le-leb (length whole.snapshots) limits.versions (omega (arith, q)))

    module _ (go_on : ToObjects) where
      pub fits-versioned : 0 < t.mark → true ≡ asked
      fits-versioned v =
          sym (go_on ∙ ap (λ (z : Bool). z || leb (objects whole.snapshots) limits.objects) (lt-ltb 0 ty.mark (omega (arith, k.typed.mark))))

      pub fits-objects : (un : t.mark ≤ 0) {r : Bool} → r ≡ leb (sizes (join_snapshots (type_view ty) (x un) (y un)).cells) limits.objects →
          r ≡ asked
      fits-objects un r =
          r
          ∙ sym (go_on
          ∙ ap (λ (z : Bool). z || leb (objects whole.snapshots) limits.objects) (unversioned un)
          ∙ ap (λ (z : ℕ). leb z limits.objects) (whole-objects un))

-- ---- and both are read

-- the versions that an index notes
abbrev pub versions_in : DossierIndex → List ℕ
versions_in d = version_numbers (take d.count d.versions)

-- what `count_versions` answers of two
abbrev pub CountsVersions : DossierIndex → DossierIndex → ℕ → Type 0
CountsVersions d e n =
    rising numbers (versions_in d) ≡ true → rising numbers (versions_in e) ≡ true → n ≡ length (union numbers (versions_in d) (versions_in e))

module _
    {table a : List ℕ} {d : DossierIndex} {left b : List ℕ} {e : DossierIndex} {right : List ℕ} {t : TypeIndex} {ps : List ℕ}
    (c : Combinable table a d left b e right t ps) where
  -- the versions of each rise
  left-versions : versions_in d ≡ versions (snapshots c.known.left)
  left-versions = ap (λ (n : ℕ). version_numbers (take n d.versions)) c.left-read.count ∙ c.left-read.snapshots.numbers

  right-versions : versions_in e ≡ versions (snapshots c.known.right)
  right-versions = ap (λ (n : ℕ). version_numbers (take n e.versions)) c.right-read.count ∙ c.right-read.snapshots.numbers

  left-rises : rising numbers (versions_in d) ≡ true
  left-rises = ap (rising numbers) left-versions ∙ (left-written c.known).body.rises

  right-rises : rising numbers (versions_in e) ≡ true
  right-rises = ap (rising numbers) right-versions ∙ (right-written c.known).body.rises

  whole-versions : length (union numbers (versions_in d) (versions_in e)) ≡ length (combined c.known.left c.known.right).snapshots
  whole-versions =
      ap₂ (λ (v w : List ℕ). length (union numbers v w)) left-versions right-versions
      ∙ sym (ap length (keys (snapshots c.known.left) (snapshots c.known.right)))
      ∙ sym (ap (λ (ss : List Snapshot). length (versions ss)) (whole-snapshots c.known))
      ∙ length-map (combined c.known.left c.known.right).snapshots version_in
    where
      join : Snapshot → Snapshot → Snapshot
      join = join_snapshots (type_view c.known.left.type)

      keys : (ss rs : List Snapshot) → versions (merge numbers version_in join ss rs) ≡ union numbers (versions ss) (versions rs)
      keys = merge-keys numbers version_in join (λ x y. unfold join_snapshots in refl)

  pub versions-counted : {n : ℕ} → CountsVersions d e n → n ≡ length (combined c.known.left c.known.right).snapshots
  versions-counted says = says left-rises right-rises ∙ whole-versions

  module _ (limits : Limits) (go_on : ToVersions c.known limits) {n : ℕ} (says : CountsVersions d e n) where
    pub versions-over : limits.versions < n → false ≡ fits limits (type_view c.known.left.type) (combined c.known.left c.known.right)
    versions-over = fits-versions c.known limits go_on (versions-counted says)

    pub versions-few : n ≤ limits.versions → ToObjects c.known limits
    versions-few = to-objects c.known limits go_on (versions-counted says)

  -- two first snapshots of an unversioned type, which `objects_fit` is asked of
  module _ (un : t.mark ≤ 0) where
    abbrev left-first : Snapshot
    left-first = x c.known un

    abbrev right-first : Snapshot
    right-first = y c.known un

    first-meet : Meet c.known.left.type left-first right-first
    first-meet = meet c 0 0 (omega (arith, left_one c.known un)) (omega (arith, right-one c.known un)) (same_version c.known un)

    pub firsts-counted :
        (most : ℕ) {r : Bool} →
        ((u : List ℕ) (tz : EventType) (g h : Snapshot) → PropertiesAre u tz.properties t.count ps → is_versioned tz ≡ false → Meet tz g h →
        get_or d.objects 0 0 ≡ sizes g.cells → get_or e.objects 0 0 ≡ sizes h.cells →
        SetsAre a (map held g.cells) (row_of left 0) → SetsAre b (map held h.cells) (row_of right 0) →
        r ≡ leb (sizes (join_snapshots (type_view tz) g h).cells) most) →
        r ≡ leb (sizes (join_snapshots (type_view c.known.left.type) left-first right-first).cells) most
    firsts-counted most says =
        let v = snapshot-stands a c.known.left.headed d c.left-read left c.left-rows 0 (omega (arith, c.left-read.one)) in
        let w = snapshot-stands b c.known.right.headed e c.right-read right c.right-rows 0 (omega (arith, c.right-read.one)) in
        says table c.known.left.type left-first right-first c.known.typed.are (unversioned c.known un) first-meet
        v.objects w.objects v.sets w.sets
