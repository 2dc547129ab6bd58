-- The laws of the measures of a dossier's snapshots: finding a place among them, and putting a snapshot there.
use mathlib.Core.Path.{◌≡◌, refl, sym, ap, ◌∙◌, subst}
use mathlib.Core.Bool.{Bool, true, false, cond}
use mathlib.Core.Logic.{⊎_elim}
use mathlib.Core.List.{List, [], ◌∷◌, ◌++◌, flatten}
use Prim.Native.Nat.{ℕ, zero, suc, ◌+◌, ◌-◌, ◌*◌, ◌≤◌, ◌<◌}
use native.Mathlib.Omega.{arith}
use lib.ListN.{length, take, drop, get_or, set, length-append, length-drop}
use lib.Seq.{get_or-set_same, get_or-set_other, get_or-take, get_or-drop, length-take-le}
use Rattle.model.specs.Rule.{Snapshot}
use Rattle.packed.proofs.LayoutLaws.{lt-or-ge}
use Rattle.dossier.specs.DossierBody.{snapshot_bytes}
use Rattle.dossier.specs.code.DossierIndex.{no_snapshot}
use Rattle.combining.specs.code.AddIndex.{bytes_of, count_in, measure_in, measure_of, Measured, MeasuredIn, MovedUp, with_snapshot}
use Rattle.combining.specs.declared.measures.Measure.{Measure}
use Rattle.combining.specs.declared.measures.Place.{Place}

-- ---- the bytes of the first so many snapshots

bytes_next :
    (ss : List Snapshot) (k : ℕ) → k < length ss →
    length (bytes_of (take (suc k) ss)) ≡ length (bytes_of (take k ss)) + length (snapshot_bytes (get_or ss k no_snapshot))
unfolding flatten
bytes_next [] k l = absurd (omega (arith, l))
bytes_next (x ∷ ss) zero l = simp length-append (omega arith)
bytes_next (x ∷ ss) (suc k) l = simp length-append (omega (arith, bytes_next ss k (omega (arith, l))))

bytes-within : (ss : List Snapshot) (k : ℕ) → length (bytes_of (take k ss)) ≤ length (bytes_of ss)
unfolding flatten
bytes-within ss zero = omega arith
bytes-within [] (suc k) = omega arith
bytes-within (x ∷ ss) (suc k) = simp length-append (omega (arith, bytes-within ss k))

-- a measure that has the numbers of a snapshot is its measure
is-measure : (x : Measure) (s : Snapshot) → s.version ≡ x.version.0 → length (snapshot_bytes s) ≡ x.size → x ≡ measure_of s
is-measure x s v z = λ i. record { version = record { 0 = sym v i }; size = sym z i }

-- ---- the place of a version

-- the first k snapshots are of versions below v, and have `before` bytes
pub record Passed (ss : List Snapshot) (v before k : ℕ) : Type 0 where
  pub within : k ≤ length ss
  pub sum : before ≡ length (bytes_of (take k ss))
  pub lower : (j : ℕ) → j < k → (get_or ss j no_snapshot).version < v

-- so of all snapshots whose measures m are
abbrev pub PassedIn : List ℕ → ℕ → ℕ → ℕ → Type 0
PassedIn m v before k = (ss : List Snapshot) → Measured ss m → Passed ss v before k

pub none_passed : {m : List ℕ} {v : ℕ} → PassedIn m v 0 0
unfolding flatten
none_passed ss w = record { within = omega arith; sum = refl; lower = λ j l. absurd (omega (arith, l)) }

module _ {m : List ℕ} {v before k : ℕ} (p : PassedIn m v before k) where
  -- x is the measure of the next one
  module _ (l : k < count_in m) {x : Measure} (here : x ≡ measure_in m k) where
    next-passed :
        (ss : List Snapshot) → Measured ss m →
        (k < length ss) × (x.version.0 ≡ (get_or ss k no_snapshot).version) × (x.size ≡ length (snapshot_bytes (get_or ss k no_snapshot)))
    next-passed ss w =
        let h : k < length ss = omega (arith, w.count) in
        let e : x ≡ measure_of (get_or ss k no_snapshot) = here ∙ w.each k h in
        (h, ap (λ (y : Measure). y.version.0) e, ap (λ (y : Measure). y.size) e)

    -- it has its bytes among those of all
    pub passed-fits : {s : List ℕ} → MeasuredIn s m → before + x.size ≤ length s
    passed-fits {s} i =
        let ss = i.snapshots in
        let (h, _, size) = next-passed ss i.measured in
        omega (arith, (p ss i.measured).sum, size, bytes_next ss k h, bytes-within ss (suc k), i.within)

    pub passed-next : x.version.0 < v → PassedIn m v (before + x.size) (k + 1)
    passed-next below ss w =
        let (h, version, size) = next-passed ss w in
        let u = p ss w in
        record {
          within = omega arith;
          sum = omega (arith, u.sum, size, bytes_next ss k h, ap (λ (n : ℕ). length (bytes_of (take n ss))) one_more);
          lower = λ j g. ⊎_elim
              (λ (b : j < k). u.lower j b)
              (λ (b : k ≤ j). subst (λ (n : ℕ). (get_or ss n no_snapshot).version < v) (at_last j g b) (omega (arith, below, version)))
              (lt-or-ge j k);
        }
      where
        one_more : k + 1 ≡ suc k
        one_more = omega arith

        at_last : (j : ℕ) → j < k + 1 → k ≤ j → k ≡ j
        at_last j g b = omega arith

-- ---- room for one more

-- the count is put
module _ (m : List ℕ) (n : ℕ) where
  pub count-here : length m ≡ 17 → count_in (set m 0 n) ≡ n
  count-here long = get_or-set_same m 0 n 0 (omega arith)

  pub count-others : (j : ℕ) → measure_in (set m 0 n) j ≡ measure_in m j
  count-others j =
      let v = get_or-set_other m 0 (2 * j + 1) n 0 (λ e. omega (arith, e)) in
      let z = get_or-set_other m 0 (2 * j + 2) n 0 (λ e. omega (arith, e)) in
      λ i. record { version = record { 0 = v i }; size = z i }

-- those from k on are moved up by one
pub record Moved (old : List ℕ) (k : ℕ) (new : List ℕ) : Type 0 where
  pub long : length new ≡ 17
  pub lower : (j : ℕ) → j < k → measure_in new j ≡ measure_in old j
  pub higher : (j : ℕ) → k ≤ j → j < count_in old → measure_in new (suc j) ≡ measure_in old j

pub none-moved : (old : List ℕ) → length old ≡ 17 → Moved old (count_in old) old
none-moved old long = record { long = long; lower = λ j l. refl; higher = λ j l h. absurd (omega arith) }

-- `next` has at j + 1 what `new` has at j
pub moved-next :
    (old new next : List ℕ) (j : ℕ) → Moved old (j + 1) new → length next ≡ length new →
    measure_in next (j + 1) ≡ measure_in new j → ((i : ℕ) → (i ≡ j + 1 → ⊥) → measure_in next i ≡ measure_in new i) → Moved old j next
moved-next old new next j w long here others = record {
  long = long ∙ w.long;
  lower = λ i l. others i (λ e. omega (arith, e)) ∙ w.lower i (omega arith);
  higher = λ i l h. ⊎_elim
      (λ (b : i < j + 1). moved_here i (omega arith))
      (λ (b : j + 1 ≤ i). others (suc i) (λ e. omega (arith, e)) ∙ w.higher i b h)
      (lt-or-ge i (j + 1));
}
  where
    moved_here : (i : ℕ) → i ≡ j → measure_in next (suc i) ≡ measure_in old i
    moved_here i e =
        let at : suc i ≡ j + 1 = omega arith in
        ap (measure_in next) at ∙ here ∙ w.lower j (omega arith) ∙ ap (measure_in old) (sym e)

pub moved_up : (old new : List ℕ) (index k : ℕ) → index ≤ k → k ≤ index → Moved old k new → MovedUp old index (set new 0 (count_in old + 1))
moved_up old new index k low high w = record {
  count = count-here new (count_in old + 1) w.long;
  lower = λ j l. count-others new (count_in old + 1) j ∙ w.lower j (omega arith);
  higher = λ j l h. count-others new (count_in old + 1) (suc j) ∙ w.higher j (omega arith) h;
}

-- ---- a snapshot at its place

column-parts :
    (h : ℕ → Measure) (before : List Snapshot) (x : Snapshot) (after : List Snapshot) →
    ((j : ℕ) → j < length before → h j ≡ measure_of (get_or before j no_snapshot)) → h (length before) ≡ measure_of x →
    ((j : ℕ) → j < length after → h (suc (length before + j)) ≡ measure_of (get_or after j no_snapshot)) →
    (j : ℕ) → j < length (before ++ (x ∷ after)) → h j ≡ measure_of (get_or (before ++ (x ∷ after)) j no_snapshot)
column-parts h [] x after lower here higher zero l = here
column-parts h [] x after lower here higher (suc j) l = ap h (omega arith) ∙ higher j (omega (arith, l))
column-parts h (y ∷ before) x after lower here higher zero l = lower 0 (omega arith)
column-parts h (y ∷ before) x after lower here higher (suc j) l =
    column-parts (λ i. h (suc i)) before x after
    (λ i b. lower (suc i) (omega arith)) here (λ i b. ap h (omega arith) ∙ higher i b) j (omega (arith, l))

-- h has the measures of those below i, of x at i, and behind it of those from n on
column-with :
    (h : ℕ → Measure) (ss : List Snapshot) (i n : ℕ) (x : Snapshot) → i ≤ length ss →
    ((j : ℕ) → j < i → h j ≡ measure_of (get_or ss j no_snapshot)) → h i ≡ measure_of x →
    ((j : ℕ) → n + j < length ss → h (suc (i + j)) ≡ measure_of (get_or ss (n + j) no_snapshot)) →
    (j : ℕ) → j < length (take i ss ++ (x ∷ drop n ss)) → h j ≡ measure_of (get_or (take i ss ++ (x ∷ drop n ss)) j no_snapshot)
column-with h ss i n x w lower here higher =
    let long : length (take i ss) ≡ i = length-take-le i ss w in
    column-parts h (take i ss) x (drop n ss)
    (λ j l. lower j (omega arith) ∙ ap measure_of (sym (get_or-take i ss j no_snapshot (omega arith))))
    (ap h long ∙ here)
    (λ j l. ap (λ (k : ℕ). h (suc (k + j))) long ∙ higher j (omega (arith, l, length-drop n ss)) ∙ ap measure_of (sym (get_or-drop n ss j no_snapshot)))

module _
    (m : List ℕ) (ss : List Snapshot) (w : Measured ss m) (x : Measure) (s : Snapshot)
    (v : s.version ≡ x.version.0) (z : length (snapshot_bytes s) ≡ x.size) where
  -- r has what m has below i, x at i, and behind it what m has from n on
  measured-put :
      (r : List ℕ) (i n : ℕ) → i ≤ length ss → count_in r ≡ i + suc (length ss - n) → count_in r ≤ 8 →
      ((j : ℕ) → j < i → measure_in r j ≡ measure_in m j) → measure_in r i ≡ x →
      ((j : ℕ) → n + j < length ss → measure_in r (suc (i + j)) ≡ measure_in m (n + j)) →
      Measured (take i ss ++ (s ∷ drop n ss)) r
  measured-put r i n within count few lower here higher =
      let long : length (take i ss ++ (s ∷ drop n ss)) ≡ count_in r =
      omega (arith, length-append (take i ss) (s ∷ drop n ss), length-take-le i ss within, length-drop n ss, count) in
      record {
        count = sym long;
        few = omega (arith, long, few);
        each =
            column-with (measure_in r) ss i n s within
            (λ j l. lower j l ∙ w.each j (omega arith))
            (here ∙ is-measure x s v z)
            (λ j l. higher j l ∙ w.each (n + j) l);
      }

  -- r is `old` with x put at the place p
  module _
      (p : Place) (old r : List ℕ) (here : measure_in r p.index ≡ x)
      (others : (j : ℕ) → (j ≡ p.index → ⊥) → measure_in r j ≡ measure_in old j) (same : count_in r ≡ count_in old) where
    abbrev i : ℕ
    i = p.index

    at-place : {b : Bool} → p.meets ≡ b → Measured (take i ss ++ (s ∷ drop (cond b (suc i) i) ss)) r → Measured (with_snapshot ss p s) r
    at-place meets put = subst (λ (b : Bool). Measured (take i ss ++ (s ∷ drop (cond b (suc i) i) ss)) r) (sym meets) put

    -- the snapshot is put instead of the one of its version
    pub put-met : p.meets ≡ true → i < count_in m → old ≡ m → Measured (with_snapshot ss p s) r
    put-met meets l e =
        let within : i < length ss = omega (arith, w.count) in
        let count : count_in r ≡ length ss = same ∙ ap count_in e ∙ w.count in
        let kept : (j : ℕ) → (j ≡ i → ⊥) → measure_in r j ≡ measure_in m j = λ j n. others j n ∙ ap (λ (o : List ℕ). measure_in o j) e in
        at-place meets
        (measured-put r i (suc i) (omega arith) (omega (arith, count)) (omega (arith, count, w.few))
        (λ j b. kept j (λ q. omega (arith, q))) here (λ j b. kept (suc (i + j)) (λ q. omega (arith, q)) ∙ ap (measure_in m) (omega arith)))

    -- none has its version: it is put between others, of which the higher ones have moved up
    pub put-unmet : p.meets ≡ false → i ≤ count_in m → count_in m < 8 → MovedUp m i old → Measured (with_snapshot ss p s) r
    put-unmet meets l below up =
        let n : count_in m ≡ length ss = w.count in
        let count : count_in r ≡ count_in m + 1 = same ∙ up.count in
        at-place meets
        (measured-put r i i (omega arith) (omega (arith, count)) (omega (arith, count))
        (λ j b. others j (λ q. omega (arith, q)) ∙ up.lower j b) here
        (λ j b. others (suc (i + j)) (λ q. omega (arith, q)) ∙ up.higher (i + j) (omega arith) (omega arith)))
