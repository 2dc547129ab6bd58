-- The laws of reading sets and hashes: rising texts one after the other, a place's set, and the sets of all places.
use mathlib.Core.Path.{◌≡◌, refl, sym, ap, ap₂, ◌∙◌, subst}
use mathlib.Core.Bool.{Bool, true, false, not}
use mathlib.Core.Logic.{◌⊎◌, inl, inr}
use mathlib.Core.List.{List, [], ◌∷◌, ◌++◌, append_assoc, append-nil, map, flatten}
use Prim.Native.Nat.{ℕ, zero, suc, ◌+◌, ◌-◌, ◌*◌, ◌/◌, ◌%◌, ◌^◌, ◌≤◌, ◌<◌, Ordering}
use native.Mathlib.Nat.{sub_self, le_refl}
use native.Mathlib.Omega.{arith}
use lib.Dec.{eqb}
use borrow.Rule.Slice.PartMut.{put_mid, mid_of, post_of}
use Rattle.std.proofs.lemmas.List.{get_or-append_right}
use lib.ListN.{length, take, drop, get_or, replicate, length-append, length-drop, length-replicate, get_or-append, get_or-replicate, get_or-eq_default}
use lib.Seq.{get_or_at, get_or-take, length-take-le}
use borrow.Author.Tests.{le-leb, eq-eqb, ne_eqb, eqb-true, eqb-false}
use Rattle.model.specs.Order.{Text, texts, rising, pick}
use Rattle.model.proofs.Cases.{never}
use Rattle.packed.specs.Parse.{Parse, fail, got, Layout, and_then, ◌>>=◌, found_if, times, All}
use Rattle.packed.specs.code.Comparison.{precedes}
use Rattle.packed.specs.code.Located.{number_at, text_at}
use Rattle.packed.specs.Packed.{number, read_number, text, read_text, part}
use Rattle.packed.proofs.LayoutLaws.{lt-or-ge, and_then-got, found_if-got, times-was, text-read, text-was, text-length, number-was, number-bounds}
use Rattle.packed.proofs.ReadLaws.{NumberStops, stretch}
pub use Rattle.ontology.proofs.RunLaws.{prepend}
use Rattle.ontology.proofs.RunLaws.{prepend-nil, prepend-one}
use Rattle.ontology.proofs.TripleLaws.{put_three, three-long, three-first, three-second, three_third, three-zero, three-other}
use Rattle.event.specs.Event.{object_count}
use Rattle.event.specs.EventLayout.{read_set, read_place, read_sets, set_bytes}
use Rattle.event.specs.code.EventIndex.{count_size, SetIs, no_set, set_in, SetsAre, Promised, SetStops, SetReads, SetsStop, SetsReads}
use Rattle.event.proofs.AnswerLaws.{number-got, text-got, text-not, told-no, told-yes}
use Rattle.event.proofs.EventLayoutLaws.{set-was, nonempty-was}
use Rattle.event.specs.declared.sets.SetAt.{SetAt}
use Rattle.std.specs.Prelude.{Option, Some, None}
use Rattle.event.specs.declared.sets.SetsRead.{SetsRead}
use Rattle.packed.specs.declared.read.TextAt.{TextAt}

-- ---- rising texts, each read by the layout p

-- all of them, if they rise
unfoldable pub risen : Layout Text → ℕ → Layout (List Text)
risen p count = do
  values ← times p count
  found_if (rising texts values) values

suc-of : (n : ℕ) → 0 < n → suc (n - 1) ≡ n
suc-of n h = omega arith

module _ (p : Layout Text) where
  times-step :
      {B : Type 0} (k : List Text → Layout B) (n : ℕ) (t r : List ℕ) (v : Text) → p t ≡ got v r →
      and_then (times p (suc n) t) k ≡ and_then (times p n r) (λ ws. k (v ∷ ws))
  unfolding times
  times-step {B} k n t r v e = rw e (go (times p n r))
    where
      go : (q : Parse (List Text)) → and_then (and_then q (λ xs u. got (v ∷ xs) u)) k ≡ and_then q (λ ws. k (v ∷ ws))
      go fail = refl
      go (got xs u) = refl

  times-stop : {B : Type 0} (k : List Text → Layout B) (n : ℕ) (t : List ℕ) → p t ≡ fail → and_then (times p (suc n) t) k ≡ fail
  unfolding times
  times-stop k n t e = rw e

  -- for a count that is not 0
  times-suc : {B : Type 0} (k : List Text → Layout B) (n : ℕ) (t : List ℕ) → 0 < n → and_then (times p n t) k ≡ and_then (times p (suc (n - 1)) t) k
  times-suc k n t h = ap (λ (m : ℕ). and_then (times p m t) k) (sym (suc-of n h))

  times-next :
      {B : Type 0} (k : List Text → Layout B) (n : ℕ) (t r : List ℕ) (v : Text) → 0 < n → p t ≡ got v r →
      and_then (times p n t) k ≡ and_then (times p (n - 1) r) (λ ws. k (v ∷ ws))
  times-next k n t r v h e = times-suc k n t h ∙ times-step k (n - 1) t r v e

  times-bad : {B : Type 0} (k : List Text → Layout B) (n : ℕ) (t : List ℕ) → 0 < n → p t ≡ fail → and_then (times p n t) k ≡ fail
  times-bad k n t h e = times-suc k n t h ∙ times-stop k (n - 1) t e

  pub risen-bad : (count : ℕ) (t : List ℕ) → 0 < count → p t ≡ fail → risen p count t ≡ fail
  unfolding risen
  risen-bad count t h e = times-bad (λ ws. found_if (rising texts ws) ws) count t h e

  -- what they were
  pub risen-was : (count : ℕ) (t : List ℕ) (vs : List Text) (r : List ℕ) → risen p count t ≡ got vs r → times p count t ≡ got vs r
  unfolding risen
  risen-was count t vs r e =
      let c = and_then-got (times p count t) _ vs r e in
      let f = found_if-got (rising texts c.value) c.value c.left vs r c.second in
      c.first ∙ ap₂ got f.value f.rest

-- a text stands at `at`, from a up to e
pub record Stands (p : Layout Text) (s : List ℕ) (at a e : ℕ) : Type 0 where
  pub is : p (drop at s) ≡ got (part s a e) (drop e s)
  pub order : a ≤ e
  pub within : e ≤ length s

text-stands : {s : List ℕ} {at : ℕ} {x : TextAt} {r : Option TextAt} → r ≡ text_at s at → r ≡ Some x → Stands read_text s at x.start x.end
text-stands h k = let t = text-got h k in record { is = t.is; order = t.order; within = t.within }

-- The last that was read stands from `from` up to `to`, and `left` more follow; q is what is found of them all
pub record RisingTo (p : Layout Text) (q : Parse (List Text)) (s : List ℕ) (from to left : ℕ) : Type 0 where
  pub order : from ≤ to
  pub within : to ≤ length s
  pub sofar : List Text
  is : q ≡ and_then (times p left (drop to s)) (λ ws r. found_if (rising texts (part s from to ∷ ws)) (sofar ++ ws) r)

pub rising-first :
    {p : Layout Text} {q : Parse (List Text)} {s : List ℕ} (count start : ℕ) {a e : ℕ} →
    q ≡ risen p count (drop start s) → 0 < count → Stands p s start a e → RisingTo p q s a e (count - 1)
unfolding risen
rising-first {p} {s} count start {a} {e} f h t = record {
  order = t.order;
  within = t.within;
  sofar = part s a e ∷ [];
  is = f ∙ times-next p (λ ws. found_if (rising texts ws) ws) count (drop start s) (drop e s) (part s a e) h t.is;
}

module _ {p : Layout Text} {q : Parse (List Text)} {s : List ℕ} {from to left : ℕ} (w : RisingTo p q s from to left) where
  -- what is found, where ws follow
  abbrev with-those : List Text → List ℕ → Parse (List Text)
  with-those ws r = found_if (rising texts (part s from to ∷ ws)) (w.sofar ++ ws) r

  pub rising-all : left ≤ 0 → q ≡ got w.sofar (drop to s)
  unfolding times rising
  rising-all h =
      let z : left ≡ 0 = omega arith in
      w.is ∙ ap (λ (n : ℕ). and_then (times p n (drop to s)) with-those) z ∙ ap (λ (l : List Text). got l (drop to s)) (append-nil w.sofar)

  module _ (h : 0 < left) where
    pub rising-bad : p (drop to s) ≡ fail → q ≡ fail
    rising-bad e = w.is ∙ times-bad p with-those left (drop to s) h e

    -- the next one
    module _ {a e : ℕ} (t : Stands p s to a e) where
      abbrev u : Text
      u = part s a e

      step : q ≡ and_then (times p (left - 1) (drop e s)) (λ ws. with-those (u ∷ ws))
      step = w.is ∙ times-next p with-those left (drop to s) (drop e s) u h t.is

      falling : precedes (part s from to) u ≡ false → q ≡ fail
      unfolding rising
      falling b = step ∙ go (texts.cmp (part s from to) u) b (times p (left - 1) (drop e s))
        where
          go : (o : Ordering) → pick o true false false ≡ false → (m : Parse (List Text)) →
              and_then m (λ ws r. found_if (pick o (rising texts (u ∷ ws)) false false) (w.sofar ++ (u ∷ ws)) r) ≡ fail
          go Ordering.lt b m = cc
          go Ordering.eq b fail = refl
          go Ordering.eq b (got ws r) = refl
          go Ordering.gt b fail = refl
          go Ordering.gt b (got ws r) = refl

      -- where they are promised, the next one comes after
      rising-promised : {known : Bool} → Promised known q → known ≡ true → precedes (part s from to) u ≡ true
      rising-promised m k = go (precedes (part s from to) u) refl
        where
          go : (b : Bool) → precedes (part s from to) u ≡ b → b ≡ true
          go true f = refl
          go false f = absurd (m k (falling f))

      -- as is answered
      pub rising-not : {b : Bool} → b ≡ precedes (part s from to) u → not b ≡ true → q ≡ fail
      rising-not t f = falling (told-no t f)

      pub rising-more : {b : Bool} {more : ℕ} → b ≡ precedes (part s from to) u → not b ≡ false → left ≡ suc more → RisingTo p q s a e more
      unfolding rising
      rising-more {more = more} answered f l = record {
        order = t.order;
        within = t.within;
        sofar = w.sofar ++ (u ∷ []);
        is =
            let one-less : left - 1 ≡ more = omega arith in
            step ∙ go (texts.cmp (part s from to) u) (told-yes answered f) (times p (left - 1) (drop e s))
            ∙ ap (λ (n : ℕ). and_then (times p n (drop e s)) (λ ws r. found_if (rising texts (u ∷ ws)) ((w.sofar ++ (u ∷ [])) ++ ws) r)) one-less;
      }
        where
          go : (o : Ordering) → pick o true false false ≡ true → (m : Parse (List Text)) →
              and_then m (λ ws r. found_if (pick o (rising texts (u ∷ ws)) false false) (w.sofar ++ (u ∷ ws)) r)
              ≡ and_then m (λ ws r. found_if (rising texts (u ∷ ws)) ((w.sofar ++ (u ∷ [])) ++ ws) r)
          go Ordering.lt b fail = refl
          go Ordering.lt b (got ws r) = ap (λ (l : List Text). found_if (rising texts (u ∷ ws)) l r) (sym (append_assoc w.sofar (u ∷ []) ws))
          go Ordering.eq b m = cc
          go Ordering.gt b m = cc

-- where each is a text
module _
    {q : Parse (List Text)} {s : List ℕ} {from to left : ℕ} (w : RisingTo read_text q s from to left) (h : 0 < left)
    {r : Option TextAt} (told : r ≡ text_at s to) where
  pub value-bad : r ≡ None → q ≡ fail
  value-bad is = rising-bad w h (text-not s to told is)

  module _ {x : TextAt} (is : r ≡ Some x) where
    pub value-promised : {known : Bool} → Promised known q → known ≡ true → precedes (part s from to) (part s x.start x.end) ≡ true
    value-promised = rising-promised w h (text-stands told is)

    pub value_not : {b : Bool} → b ≡ precedes (part s from to) (part s x.start x.end) → not b ≡ true → q ≡ fail
    value_not = rising-not w h (text-stands told is)

    pub value-more :
        {b : Bool} {more : ℕ} → b ≡ precedes (part s from to) (part s x.start x.end) → not b ≡ false → left ≡ suc more →
        RisingTo read_text q s x.start x.end more
    value-more = rising-more w h (text-stands told is)

-- ---- a set

pub set-none : (t : List ℕ) → read_number t ≡ fail → read_set t ≡ fail
unfolding read_set
set-none t e = rw e

-- what a set has before its values
pub no-count : (n : ℕ) → n ≡ 0 → count_size n ≡ 0
unfolding count_size
no-count zero e = refl
no-count (suc n) e = absurd (omega arith)

pub some-count : (n : ℕ) → (n ≡ 0 → ⊥) → count_size n ≡ length (number n)
unfolding count_size
some-count zero h = absurd (h refl)
some-count (suc n) h = refl

-- its count stands at `at`, and its values from `start` up to `to`
module _ (s : List ℕ) (at : ℕ) {count start : ℕ} {r : Option (ℕ × ℕ)} (told : r ≡ number_at s at) (is : r ≡ Some (count, start)) where
  n : NumberStops s at count start
  n = number-got told is

  pub set-zero : count ≡ 0 → read_set (drop at s) ≡ fail
  unfolding read_set
  set-zero h = rw (n.is, h)

  there : at ≤ length s
  there = omega (arith, n.after, n.within)

  before-values : length (number count) ≡ start - at
  before-values = (stretch s (number count) at start there n.within (number-was (drop at s) count (drop start s) n.is).0).2

  module _ (not-zero : count ≡ 0 → ⊥) where
    some : 0 < count
    some = omega (arith, not-zero)

    set-some : read_set (drop at s) ≡ risen read_text count (drop start s)
    unfolding read_set risen
    set-some = rw (n.is, le-leb 1 count some)

    pub set-bad : read_text (drop start s) ≡ fail → read_set (drop at s) ≡ fail
    set-bad e = set-some ∙ risen-bad read_text count (drop start s) some e

    pub set_first :
        {x : TextAt} {t : Option TextAt} → t ≡ text_at s start → t ≡ Some x → RisingTo read_text (read_set (drop at s)) s x.start x.end (count - 1)
    set_first h k = rising-first count start set-some some (text-stands h k)

    module _ {from to left : ℕ} (w : RisingTo read_text (read_set (drop at s)) s from to left) (h : left ≤ 0) where
      abbrev vs : List Text
      vs = w.sofar

      values : (drop start s ≡ flatten (map text vs) ++ drop to s) × (length vs ≡ count) × All (λ (v : Text). length v < 2 ^ 64) vs
      values =
          times-was read_text text (λ (v : Text). length v < 2 ^ 64) text-was count (drop start s) vs (drop to s)
          (risen-was read_text count (drop start s) vs (drop to s) (sym set-some ∙ rising-all w h))

      size : count_size count ≡ start - at
      size = some-count count not-zero ∙ before-values

      pub set_found : SetStops (read_set (drop at s)) s (record { start = start; end = to; count = count })
      set_found =
          let read = rising-all w h in
          let p = stretch s (flatten (map text vs)) start to n.within w.within values.0 in
          let whole = stretch s (set_bytes vs) at to there w.within (nonempty-was (drop at s) vs (drop to s) read).bytes in
          let begin : start - count_size count ≡ at = omega (arith, size, n.after) in
          record {
            what = vs;
            is = read;
            stands = record {
              bytes = p.0;
              count = sym values.1;
              order = p.1;
              within = w.within;
              counted = omega (arith, size);
              whole = ap (λ (i : ℕ). part s i to) begin ∙ whole.0;
            };
          }

-- what is known of a call's answer in the arm of a `match`
set_reads : {p : Parse (List Text)} {s : List ℕ} {r : Option SetAt} {x : SetAt} → r ≡ Some x → SetReads p s r → SetStops p s x
set_reads {p} {s} h w = subst (SetReads p s) h w

pub set-refused : {p : Parse (List Text)} (s : List ℕ) {r : Option SetAt} → r ≡ None → SetReads p s r → p ≡ fail
set-refused {p} s h w = subst (SetReads p s) h w

-- ---- a place

place_set : (bit : ℕ) (t : List ℕ) → bit ≡ 1 → read_place bit t ≡ read_set t
unfolding read_place
place_set bit t h = rw (eq-eqb bit 1 h)

pub place-promised : (bit : ℕ) (t : List ℕ) {known : Bool} → bit ≡ 1 → Promised known (read_place bit t) → Promised known (read_set t)
place-promised bit t {known} h = subst (Promised known) (place_set bit t h)

pub place-reads : (bit : ℕ) (t s : List ℕ) (r : Option SetAt) → bit ≡ 1 → SetReads (read_set t) s r → SetReads (read_place bit t) s r
place-reads bit t s r h = subst (λ (p : Parse (List Text)). SetReads p s r) (sym (place_set bit t h))

pub place-clear :
    (bit : ℕ) (s : List ℕ) (at : ℕ) → (bit ≡ 1 → ⊥) → at ≤ length s →
    SetStops (read_place bit (drop at s)) s (record { start = at; end = at; count = 0 })
unfolding read_place flatten count_size set_bytes
place-clear bit s at h k =
    let nothing : part s at at ≡ [] = rw sub_self in
    let begin : at - count_size 0 ≡ at = omega arith in
    record {
      what = [];
      is = rw (ne_eqb bit 1 h);
      stands = record {
        bytes = nothing;
        count = refl;
        order = le_refl at;
        within = k;
        counted = omega arith;
        whole = ap (λ (i : ℕ). part s i at) begin ∙ nothing;
      };
    }

-- ---- the sets of all places

-- place k and those after it
sets-step :
    (k presence : ℕ) (t : List ℕ) → k < 32 → {p : Parse (List Text)} → read_place (presence % 2) t ≡ p →
    read_sets (32 - k) presence t ≡ and_then p (λ x r. and_then (read_sets (32 - (k + 1)) (presence / 2) r) (λ xs u. got (x ∷ xs) u))
unfolding read_sets
sets-step k presence t h e =
    let others = 32 - (k + 1) in
    let one_more : 32 - k ≡ suc others = omega arith in
    rw one_more (ap (λ (p : Parse (List Text)). and_then p (λ x r. and_then (read_sets others (presence / 2) r) (λ xs u. got (x ∷ xs) u))) e)

-- where no bit is left, no place has objects
sets-clear : (n : ℕ) (t : List ℕ) → read_sets n 0 t ≡ got (replicate n []) t
unfolding read_sets read_place
sets-clear zero t = refl
sets-clear (suc n) t = ap (λ (p : Parse (List (List Text))). and_then p (λ xs u. got ([] ∷ xs) u)) (sets-clear n t)

objects-append : (xs ys : List (List Text)) → object_count (xs ++ ys) ≡ object_count xs + object_count ys
unfolding object_count
objects-append [] ys = omega arith
objects-append (x ∷ xs) ys = let h = objects-append xs ys in omega arith

objects-one : (x : List Text) → object_count (x ∷ []) ≡ length x
unfolding object_count
objects-one x = omega arith

objects-clear : (n : ℕ) → object_count (replicate n []) ≡ 0
unfolding object_count
objects-clear zero = refl
objects-clear (suc n) = omega (arith, objects-clear n)

-- defaults after a list are read as its end is, and one more element changes its own place only
module _ {A : Type 0} (d : A) where
  get_d-filled : (xs : List A) (n i : ℕ) → get_or (xs ++ replicate n d) i d ≡ get_or xs i d
  get_d-filled [] zero i = refl
  get_d-filled [] (suc n) zero = refl
  get_d-filled [] (suc n) (suc i) = get_d-filled [] n i
  get_d-filled (x ∷ xs) n zero = refl
  get_d-filled (x ∷ xs) n (suc i) = get_d-filled xs n i

  get_d-other : (xs : List A) (x : A) (i : ℕ) → (i ≡ length xs → ⊥) → get_or (xs ++ (x ∷ [])) i d ≡ get_or xs i d
  get_d-other [] x zero h = absurd (h refl)
  get_d-other [] x (suc i) h = refl
  get_d-other (y ∷ ys) x zero h = refl
  get_d-other (y ∷ ys) x (suc i) h = get_d-other ys x i (λ e. h (ap suc e))

-- a text has a byte at least
pub texts-long : (vs : List Text) → length vs ≤ length (flatten (map text vs))
unfolding flatten
texts-long [] = omega arith
texts-long (v ∷ vs) = omega (arith, texts-long vs, length-append (text v) (flatten (map text vs)), text-length v, number-bounds (length v))

set_long : (vs : List Text) → length vs ≤ length (set_bytes vs)
unfolding set_bytes
set_long [] = omega arith
set_long (v ∷ vs) = omega (arith, texts-long (v ∷ vs), length-append (number (length (v ∷ vs))) (flatten (map text (v ∷ vs))))

-- a set that was taken from the numbers stands where they say
pub set-read : {s : List ℕ} {vs : List Text} {x y : SetAt} → x ≡ y → SetIs s vs y → SetIs s vs x
set-read {s} {vs} e w = subst (SetIs s vs) (sym e) w

-- a set that is put among those of all places
module _ (ats : List ℕ) (k : ℕ) (x : SetAt) where
  set_here : 3 * k + 2 < length ats → set_in (put_three ats k x.start x.end x.count) k ≡ x
  set_here h = rw (
    three-first ats k x.start x.end x.count h,
    three-second ats k x.start x.end x.count h,
    three_third ats k x.start x.end x.count h,
  ) refl

  set_other : (i : ℕ) → (i ≡ k → ⊥) → set_in (put_three ats k x.start x.end x.count) i ≡ set_in ats i
  set_other i n = rw (
    three-zero ats k x.start x.end x.count i n,
    three-other ats k x.start x.end x.count i 1 (omega arith) n,
    three-other ats k x.start x.end x.count i 2 (omega arith) n,
  ) refl

-- The first k places are read: their sets are xs, and the others stand from `next` on
pub record Sofar (p : Parse (List (List Text))) (s ats : List ℕ) (bits next objects k : ℕ) : Type 0 where
  pub xs : List (List Text)
  pub long : length xs ≡ k
  pub few : k ≤ 32
  pub rest : p ≡ prepend xs (read_sets (32 - k) bits (drop next s))
  pub within : next ≤ length s
  pub summed : objects ≡ object_count xs
  pub small : objects ≤ next
  pub each : (i : ℕ) → i < k → SetIs s (get_or xs i []) (set_in ats i)
  pub ats-long : length ats ≡ 96

no-values : (s : List ℕ) → SetIs s [] no_set
unfolding flatten count_size set_bytes
no-values s = record { bytes = refl; count = refl; order = omega arith; within = omega arith; counted = omega arith; whole = refl }

pub sofar-none : {s ats : List ℕ} {bits at : ℕ} → at ≤ length s → length ats ≡ 96 → Sofar (read_sets 32 bits (drop at s)) s ats bits at 0 0
unfolding object_count
sofar-none {s} {bits} {at} h l = record {
  xs = [];
  long = refl;
  few = omega arith;
  rest = prepend-nil (read_sets 32 bits (drop at s));
  within = h;
  summed = refl;
  small = omega arith;
  each = λ i j. absurd (omega arith);
  ats-long = l;
}

module _ {p : Parse (List (List Text))} {s ats : List ℕ} {bits next objects k : ℕ} (w : Sofar p s ats bits next objects k) where
  pub sofar-bad : k < 32 → read_place (bits % 2) (drop next s) ≡ fail → p ≡ fail
  sofar-bad h e = w.rest ∙ ap (prepend w.xs) (sets-step k bits (drop next s) h e)

  module _ {x : SetAt} {r : Option SetAt} (h : k < 32) (told : SetReads (read_place (bits % 2) (drop next s)) s r) (is : r ≡ Some x) where
    t : SetStops (read_place (bits % 2) (drop next s)) s x
    t = set_reads is told

    -- the numbers with the set x at place k
    abbrev after : List ℕ
    after = put_three ats k x.start x.end x.count

    stand-last : SetIs s (get_or (w.xs ++ (t.what ∷ [])) k []) (set_in after k)
    stand-last = rw (set_here ats k x (omega (arith, w.ats-long)), get_or_at w.xs t.what [] [] k w.long) t.stands

    stand : (i : ℕ) → i < k + 1 → SetIs s (get_or (w.xs ++ (t.what ∷ [])) i []) (set_in after i)
    stand i l = go (eqb i k) refl
      where
        go : (b : Bool) → eqb i k ≡ b → SetIs s (get_or (w.xs ++ (t.what ∷ [])) i []) (set_in after i)
        go true e = rw (eqb-true i k e) stand-last
        go false e =
            let ne = eqb-false i k e in
            rw (set_other ats k x i ne, get_d-other [] w.xs t.what i (λ q. ne (q ∙ w.long))) (w.each i (omega (arith, ne)))

    -- the objects of a set are no more than its bytes
    few-more : objects + x.count ≤ x.end
    few-more =
        let b = (set-was (bits % 2) (drop next s) t.what (drop x.end s) (omega arith) t.is).bytes in
        let l = stretch s (set_bytes t.what) next x.end w.within t.stands.within b in
        omega (arith, w.small, t.stands.count, set_long t.what, l.1, l.2)

    pub few-objects : length s < 2 ^ 64 → objects + x.count < 2 ^ 64
    few-objects small = omega (arith, few-more, t.stands.within)

    pub sofar-more : Sofar p s after (bits / 2) x.end (objects + x.count) (k + 1)
    sofar-more = record {
      xs = w.xs ++ (t.what ∷ []);
      long = length-append w.xs (t.what ∷ []) ∙ ap (λ (n : ℕ). n + 1) w.long;
      few = omega arith;
      rest =
          w.rest
          ∙ ap (prepend w.xs) (sets-step k bits (drop next s) h t.is)
          ∙ prepend-one w.xs t.what (read_sets (32 - (k + 1)) (bits / 2) (drop x.end s));
      within = t.stands.within;
      summed = omega (arith, w.summed, t.stands.count, objects-append w.xs (t.what ∷ []), objects-one t.what);
      small = few-more;
      each = stand;
      ats-long = three-long ats k x.start x.end x.count ∙ w.ats-long;
    }

  left-clear : (32 ≤ k) ⊎ (bits ≤ 0) → read_sets (32 - k) bits (drop next s) ≡ got (replicate (32 - k) []) (drop next s)
  unfolding read_sets
  left-clear (inl f) = let z : 32 - k ≡ 0 = omega arith in rw z
  left-clear (inr b) = let z : bits ≡ 0 = omega arith in rw z (sets-clear (32 - k) (drop next s))

  -- the places that are not read have no objects, and are cleared in the numbers `after`
  module _
      (end : (32 ≤ k) ⊎ (bits ≤ 0)) (after : List ℕ)
      (kept : (i : ℕ) → i < k → set_in after i ≡ set_in ats i) (clear : (i : ℕ) → k ≤ i → i < 32 → set_in after i ≡ no_set) where
    abbrev all : List (List Text)
    all = w.xs ++ replicate (32 - k) []

    all-each : (i : ℕ) → i < 32 → (i < k) ⊎ (k ≤ i) → SetIs s (get_or w.xs i []) (set_in after i)
    all-each i h (inl l) = rw (kept i l) (w.each i l)
    all-each i h (inr l) = let e : length w.xs ≤ i = omega (arith, w.long) in rw (clear i l h, get_or-eq_default w.xs [] e) (no-values s)

    all-sets : SetsAre s all after
    all-sets = record {
      long = length-append w.xs (replicate (32 - k) []) ∙ omega (arith, w.long, w.few, length-replicate {A = List Text} (32 - k) []);
      each = λ i h. rw (get_d-filled [] w.xs (32 - k) i) (all-each i h (lt-or-ge i k));
    }

    pub sofar-found : SetsStop p s after next objects
    sofar-found = record {
      what = all;
      is = w.rest ∙ ap (prepend w.xs) (left-clear end);
      within = w.within;
      summed = omega (arith, w.summed, objects-append w.xs (replicate (32 - k) []), objects-clear (32 - k));
      stands = all-sets;
    }

  -- a set that is promised with the others is read
  pub sofar-promised : {known : Bool} → k < 32 → Promised known p → Promised known (read_place (bits % 2) (drop next s))
  sofar-promised h q e f = q e (sofar-bad h f)

-- of what is not known nothing is promised
pub not-promised : {A : Type 0} (p : Parse A) → Promised false p
not-promised p e f = never (cc e)

-- what is known of a call's answer in the arm of a `match`
pub sets-read :
    {p : Parse (List (List Text))} {s ats : List ℕ} {r : Option SetsRead} {x : SetsRead} →
    r ≡ Some x → SetsReads p s ats r → SetsStop p s ats x.next x.objects
sets-read {p} {s} {ats} h w = subst (SetsReads p s ats) h w

pub sets-refused : {p : Parse (List (List Text))} (s ats : List ℕ) {r : Option SetsRead} → r ≡ None → SetsReads p s ats r → p ≡ fail
sets-refused {p} s ats h w = subst (SetsReads p s ats) h w

-- ---- places that are cleared

-- the numbers of the places from k on are 0, and those before stay
module _
    (ats : List ℕ) {zeros : List ℕ} {k : ℕ} (long : length ats ≡ 96) (few : k ≤ 32)
    (clear : zeros ≡ replicate (length (mid_of (3 * k) (length ats - 3 * k) ats)) 0) where
  abbrev after-zeros : List ℕ
  after-zeros = post_of (3 * k) (length ats - 3 * k) ats

  abbrev cleared : List ℕ
  cleared = put_mid (3 * k) (length ats - 3 * k) ats zeros

  how-many : length (mid_of (3 * k) (length ats - 3 * k) ats) ≡ 96 - 3 * k
  how-many = length-take-le (length ats - 3 * k) (drop (3 * k) ats) (omega (arith, length-drop (3 * k) ats)) ∙ omega arith

  all-zeros : zeros ≡ replicate (96 - 3 * k) 0
  all-zeros = clear ∙ ap (λ (n : ℕ). replicate n 0) how-many

  front : length (take (3 * k) ats) ≡ 3 * k
  front = length-take-le (3 * k) ats (omega arith)

  number-kept : (j : ℕ) → j < 3 * k → get_or cleared j 0 ≡ get_or ats j 0
  number-kept j h = get_or-append (take (3 * k) ats) (zeros ++ after-zeros) 0 j (omega (arith, front)) ∙ get_or-take (3 * k) ats j 0 h

  number-clear : (j : ℕ) → 3 * k ≤ j → j < 96 → get_or cleared j 0 ≡ 0
  number-clear j h l =
      get_or-append_right (take (3 * k) ats) (zeros ++ after-zeros) (3 * k) j 0 front h
      ∙ ap (λ (l : List ℕ). get_or (l ++ after-zeros) (j - 3 * k) 0) all-zeros
      ∙ get_or-append (replicate (96 - 3 * k) 0) after-zeros 0 (j - 3 * k) (omega (arith, length-replicate {A = ℕ} (96 - 3 * k) 0))
      ∙ get_or-replicate (96 - 3 * k) (j - 3 * k) 0 0 (omega arith)

  pub cleared-kept : (i : ℕ) → i < k → set_in cleared i ≡ set_in ats i
  cleared-kept i h = rw (number-kept (3 * i) (omega arith), number-kept (3 * i + 1) (omega arith), number-kept (3 * i + 2) (omega arith)) refl

  pub cleared-from : (i : ℕ) → k ≤ i → i < 32 → set_in cleared i ≡ no_set
  cleared-from i h l = rw (
    number-clear (3 * i) (omega arith) (omega arith),
    number-clear (3 * i + 1) (omega arith) (omega arith),
    number-clear (3 * i + 2) (omega arith) (omega arith),
  ) refl

-- ---- the text at an index

-- a text that stands among others is the first of them
record Next (vs : List Text) (v : Text) (r : List ℕ) : Type 0 where
  more : List Text
  all : vs ≡ v ∷ more
  bytes : r ≡ flatten (map text more)

next :
    (t : List ℕ) (v : Text) (r : List ℕ) (vs : List Text) → length t < 2 ^ 64 → read_text t ≡ got v r → t ≡ flatten (map text vs) → Next vs v r
unfolding flatten
next t v r [] l h e =
    let w = (text-was t v r h).0 in
    absurd (omega (arith, ap length w, ap length e, length-append (text v) r, text-length v, number-bounds (length v)))
next t v r (u ∷ us) l h e =
    let k : length u < 2 ^ 64 = omega (arith, ap length e, length-append (text u) (flatten (map text us)), text-length u) in
    let g : got u (flatten (map text us)) ≡ got v r = sym (text-read u (flatten (map text us)) k) ∙ ap read_text (sym e) ∙ h in
    record { more = us; all = cc; bytes = cc }

no-next : (t : List ℕ) (vs : List Text) → length t < 2 ^ 64 → read_text t ≡ fail → t ≡ flatten (map text vs) → vs ≡ []
unfolding flatten
no-next t [] l h e = refl
no-next t (u ∷ us) l h e =
    let k : length u < 2 ^ 64 = omega (arith, ap length e, length-append (text u) (flatten (map text us)), text-length u) in
    let g : got u (flatten (map text us)) ≡ fail = sym (text-read u (flatten (map text us)) k) ∙ ap read_text (sym e) ∙ h in
    let z : ◌≡◌ {A = ℕ} 0 1 = cc in
    absurd (omega arith)

-- x is the text at `index` among those from `at` on, or nothing where there is none
abbrev ValueFrom : List ℕ → ℕ → ℕ → Text → Type 0
ValueFrom s at index x = (vs : List Text) → drop at s ≡ flatten (map text vs) → x ≡ get_or vs index []

-- the text at `index` is the one at `left` from `at` on
pub record WalkedTo (s : List ℕ) (index at left : ℕ) : Type 0 where
  on : (x : Text) → ValueFrom s at left x → ValueFrom s 0 index x

pub walks-none : {s : List ℕ} {index left : ℕ} → left ≡ index → WalkedTo s index 0 left
walks-none e = record { on = λ v f vs h. f vs h ∙ ap (λ (i : ℕ). get_or vs i []) e }

module _ {s : List ℕ} {index at left : ℕ} (w : WalkedTo s index at left) (small : length s < 2 ^ 64) where
  rest-small : length (drop at s) < 2 ^ 64
  rest-small = omega (arith, length-drop at s)

  pub walks-bad : read_text (drop at s) ≡ fail → ValueFrom s 0 index []
  walks-bad e = w.on [] λ vs h. sym (ap (λ (l : List Text). get_or l left []) (no-next (drop at s) vs rest-small e h))

  module _ {x : TextAt} {r : Option TextAt} (told : r ≡ text_at s at) (is : r ≡ Some x) where
    first : (vs : List Text) → drop at s ≡ flatten (map text vs) → Next vs (part s x.start x.end) (drop x.end s)
    first vs h = next (drop at s) (part s x.start x.end) (drop x.end s) vs rest-small (text-got told is).is h

    pub walks_more : {more : ℕ} → left ≡ suc more → WalkedTo s index x.end more
    walks_more k = record {
      on = λ v f. w.on v λ vs h.
          let n = first vs h in
          f n.more n.bytes ∙ sym (ap₂ (λ (l : List Text) (i : ℕ). get_or l i []) n.all k);
    }

    pub walks-found : left ≤ 0 → ValueFrom s 0 index (part s x.start x.end)
    walks-found k = w.on (part s x.start x.end) λ vs h.
        let z : left ≡ 0 = omega arith in
        sym (ap₂ (λ (l : List Text) (i : ℕ). get_or l i []) (first vs h).all z)
