-- The laws of finding a value: skipping texts and sets, and the sets that the ones below a place count.
use mathlib.Core.Path.{◌≡◌, refl, sym, ap, ◌∙◌}
use mathlib.Core.Option.{none, some}
use mathlib.Core.List.{List, [], ◌∷◌, ◌++◌, append_assoc, map, flatten}
use Prim.Native.Nat.{ℕ, zero, suc, ◌+◌, ◌-◌, ◌*◌, ◌/◌, ◌%◌, ◌^◌, ◌≤◌, ◌<◌}
use native.Mathlib.Nat.{mod-one, zero-mod}
use native.Mathlib.Omega.{arith}
use lib.Pow.{mod-pow-add}
use lib.Count.{ones, ones_step, ones-ones}
use lib.ListN.{length, take, drop, get_or, get_elem?, length-append, length-drop}
use lib.Seq.{drop-cons, length-take-le}
use Rattle.model.specs.Order.{Text}
use Rattle.packed.specs.Parse.{fail, got}
use Rattle.packed.specs.Packed.{number, read_number, text, read_text, part}
use Rattle.packed.specs.code.Located.{number_at, text_at}
use Rattle.packed.proofs.LayoutLaws.{fail-got, number_read, text-read, text-length}
use Rattle.packed.proofs.ReadLaws.{part_length, NumberStops, TextStops, stretch}
use Rattle.ontology.proofs.RunLaws.{no-element}
use Rattle.event.specs.Event.{Event, set_at}
use Rattle.event.specs.EventLayout.{set_bytes, sets_bytes, presence_bit, bit_number}
use Rattle.event.specs.Head.{head_bytes}
use Rattle.event.specs.Value.{bytes_before}
use Rattle.event.specs.code.EventIndex.{EventIs, set_in, present, Skipped, TextsSkipped, SetsSkipped, ValueStands, ValueFound}
use Rattle.event.proofs.AnswerLaws.{number-got, number-not, text-got, text-not}
use Rattle.event.proofs.EventLayoutLaws.{presence-small}
use Rattle.event.proofs.SetLaws.{texts-long}
use Rattle.event.specs.declared.read.EventIndex.{EventIndex}
use Rattle.event.specs.declared.sets.SetAt.{SetAt}
use Rattle.std.specs.Prelude.{Option, Some, None}
use Rattle.packed.specs.declared.read.TextAt.{TextAt}

-- ---- the next number and the next text

-- the bytes that follow a position, and what a reader of them got, tell where the rest starts
module _ (s : List ℕ) (small : length s < 2 ^ 64) (at : ℕ) (within : at ≤ length s) where
  front-small : (x r : List ℕ) → drop at s ≡ x ++ r → length x < 2 ^ 64
  front-small x r h = omega (arith, length-drop at s, ap length h, length-append x r)

  module _ (n : ℕ) (r : List ℕ) (fits : n < 2 ^ 64) (h : drop at s ≡ number n ++ r) where
    there : read_number (drop at s) ≡ got n r
    there = ap read_number h ∙ number_read n r fits

    number-there : read_number (drop at s) ≡ fail → ⊥
    number-there e = fail-got (sym e ∙ there)

    number-next : (m to : ℕ) → NumberStops s at m to → (m ≡ n) × Skipped s at (number n) r to
    number-next m to w =
        let g : got m (drop to s) ≡ got n r = sym w.is ∙ there in
        let a : drop to s ≡ r = cc in
        let b = stretch s (number n) at to within w.within (h ∙ ap (λ (l : List ℕ). number n ++ l) (sym a)) in
        (cc, record { rest = a; far = omega (arith, b.1, b.2); within = w.within })

  module _ (v r : List ℕ) (h : drop at s ≡ text v ++ r) where
    fits : length v < 2 ^ 64
    fits = omega (arith, front-small (text v) r h, text-length v)

    pub text-there : read_text (drop at s) ≡ fail → ⊥
    text-there e = fail-got (sym e ∙ ap read_text h ∙ text-read v r fits)

    pub text-next : (a z : ℕ) → TextStops s at a z → (part s a z ≡ v) × (a ≡ at + length (number (length v))) × Skipped s at (text v) r z
    text-next a z w =
        let g : got (part s a z) (drop z s) ≡ got v r = sym w.is ∙ ap read_text h ∙ text-read v r fits in
        let b : part s a z ≡ v = cc in
        let d : drop z s ≡ r = cc in
        let l = stretch s (text v) at z within w.within (h ∙ ap (λ (l : List ℕ). text v ++ l) (sym d)) in
        let m : length v ≡ z - a = ap length (sym b) ∙ part_length s a z w.order w.within in
        (b, omega (arith, w.order, l.1, l.2, text-length v), record { rest = d; far = omega (arith, l.1, l.2); within = w.within })

-- ---- texts

-- skipping `count` texts at `at` ends where skipping `left` texts at pos does
pub record TextsTo (s : List ℕ) (at count pos left : ℕ) : Type 0 where
  on : (to : ℕ) → TextsSkipped s pos left to → TextsSkipped s at count to

pub texts-none : {s : List ℕ} {at count left : ℕ} → left ≡ count → TextsTo s at count at left
texts-none e = record { on = λ to f vs r b k l. f vs r b k (e ∙ l) }

module _ {s : List ℕ} {at count pos left : ℕ} (w : TextsTo s at count pos left) where
  pub texts-all : left ≤ 0 → TextsSkipped s at count pos
  unfolding flatten
  texts-all h = w.on pos here
    where
      here : TextsSkipped s pos left pos
      here [] r b k l = record { rest = b; far = omega arith; within = k }
      here (v ∷ vs) r b k l = absurd (omega arith)

  module _ (small : length s < 2 ^ 64) (h : 0 < left) where
    first-text :
        (v : Text) (vs : List Text) (r : List ℕ) → drop pos s ≡ flatten (map text (v ∷ vs)) ++ r →
        drop pos s ≡ text v ++ (flatten (map text vs) ++ r)
    unfolding flatten
    first-text v vs r b = b ∙ append_assoc (text v) (flatten (map text vs)) r

    pub texts-bad : read_text (drop pos s) ≡ fail → TextsSkipped s at count pos
    texts-bad e = w.on pos here
      where
        here : TextsSkipped s pos left pos
        here [] r b k l = absurd (omega arith)
        here (v ∷ vs) r b k l = absurd (text-there s small pos k v _ (first-text v vs r b) e)

    pub texts-more :
        {x : TextAt} {o : Option TextAt} {more : ℕ} → o ≡ text_at s pos → o ≡ Some x → left ≡ suc more → TextsTo s at count x.end more
    unfolding flatten
    texts-more {x} {more} told is e = record { on = λ to f. w.on to (here to f) }
      where
        here : (to : ℕ) → TextsSkipped s x.end more to → TextsSkipped s pos left to
        here to f [] r b k l = absurd (omega arith)
        here to f (v ∷ vs) r b k l =
            let n = (text-next s small pos k v _ (first-text v vs r b) x.start x.end (text-got told is)).2 in
            let m = f vs r n.rest n.within (omega arith) in
            record { rest = m.rest; far = omega (arith, m.far, n.far, length-append (text v) (flatten (map text vs))); within = m.within }

-- ---- sets

-- the first place with objects, and those after it
record FirstSet (xs : List (List Text)) : Type 0 where
  vs : List Text
  more : List (List Text)
  bytes : sets_bytes xs ≡ number (length vs) ++ (flatten (map text vs) ++ sets_bytes more)
  long : present xs ≡ suc (present more)

first-set : (xs : List (List Text)) → 0 < present xs → FirstSet xs
unfolding present presence_bit sets_bytes set_bytes flatten
first-set [] h = absurd (omega arith)
first-set ([] ∷ xs) h = let f = first-set xs (omega arith) in record { vs = f.vs; more = f.more; bytes = f.bytes; long = omega (arith, f.long) }
first-set ((v ∷ vs) ∷ xs) h = record {
  vs = v ∷ vs;
  more = xs;
  bytes = append_assoc (number (length (v ∷ vs))) (flatten (map text (v ∷ vs))) (flatten (map set_bytes xs));
  long = omega arith;
}

none-present : (xs : List (List Text)) → present xs ≡ 0 → sets_bytes xs ≡ []
unfolding present presence_bit sets_bytes set_bytes flatten
none-present [] h = refl
none-present ([] ∷ xs) h = none-present xs (omega arith)
none-present ((v ∷ vs) ∷ xs) h = absurd (omega arith)

-- the same for the sets of `count` places
pub record SetsTo (s : List ℕ) (at count pos left : ℕ) : Type 0 where
  on : (to : ℕ) → SetsSkipped s pos left to → SetsSkipped s at count to

pub sets-none : {s : List ℕ} {at count left : ℕ} → left ≡ count → SetsTo s at count at left
sets-none e = record { on = λ to f xs r b k l. f xs r b k (e ∙ l) }

module _ {s : List ℕ} {at count pos left : ℕ} (w : SetsTo s at count pos left) where
  pub sets-all : left ≤ 0 → SetsSkipped s at count pos
  sets-all h = w.on pos λ xs r b k l.
      let e = none-present xs (omega arith) in
      record { rest = b ∙ ap (λ (l : List ℕ). l ++ r) e; far = omega (arith, ap length e); within = k }

  module _ (small : length s < 2 ^ 64) (h : 0 < left) where
    -- what stands at pos
    module _ (xs : List (List Text)) (r : List ℕ) (b : drop pos s ≡ sets_bytes xs ++ r) (l : left ≡ present xs) where
      first : FirstSet xs
      first = first-set xs (omega arith)

      values : List ℕ
      values = flatten (map text first.vs)

      others : List ℕ
      others = sets_bytes first.more

      here : drop pos s ≡ number (length first.vs) ++ (values ++ (others ++ r))
      unfolding values others
      here =
          b ∙ ap (λ (l : List ℕ). l ++ r) first.bytes ∙ append_assoc (number (length first.vs)) (values ++ others) r
          ∙ ap (λ (l : List ℕ). number (length first.vs) ++ l) (append_assoc values others r)

      next-few : length first.vs < 2 ^ 64
      unfolding values
      next-few =
          let parts = length-append (number (length first.vs)) (values ++ (others ++ r)) in
          omega (arith, texts-long first.vs, length-drop pos s, ap length here, parts, length-append values (others ++ r))

    pub sets-bad : read_number (drop pos s) ≡ fail → SetsSkipped s at count pos
    sets-bad e = w.on pos λ xs r b k l.
        absurd (number-there s small pos k (length (first xs r b l).vs) _ (next-few xs r b l) (here xs r b l) e)

    pub sets_more :
        {n start to more : ℕ} {o : Option (ℕ × ℕ)} → o ≡ number_at s pos → o ≡ Some (n, start) → TextsSkipped s start n to →
        left ≡ suc more → SetsTo s at count to more
    unfolding values others
    sets_more {n} {start} {to} told is skip e = record {
      on = λ end f. w.on end λ xs r b k l.
          let x = first xs r b l in
          let a = number-next s small pos k (length x.vs) _ (next-few xs r b l) (here xs r b l) n start (number-got told is) in
          let v = skip x.vs (sets_bytes x.more ++ r) a.1.rest a.1.within a.0 in
          let o = f x.more r v.rest v.within (omega (arith, x.long)) in
          let texts = flatten (map text x.vs) in
          let parts = length-append (number (length x.vs)) (texts ++ sets_bytes x.more) in
          record {
            rest = o.rest;
            far = omega (arith, o.far, v.far, a.1.far, ap length x.bytes, parts, length-append texts (sets_bytes x.more));
            within = o.within;
          };
    }

-- ---- the ones below a place

ones-bits : (xs : List (List Text)) → ones (bit_number (map presence_bit xs)) ≡ present xs
unfolding bit_number present
ones-bits [] = ones-ones 0
ones-bits (x ∷ xs) =
    let b = presence-small x in
    let n = bit_number (map presence_bit xs) in
    let l : (presence_bit x + 2 * n) % 2 ≡ presence_bit x = omega arith in
    let h : (presence_bit x + 2 * n) / 2 ≡ n = omega arith in
    ones_step (presence_bit x + 2 * n) ∙ rw (l, h) (ap (λ (m : ℕ). presence_bit x + m) (ones-bits xs))

-- the bits below k + 1 are the lowest and those below k of the rest
digit : (b n k : ℕ) → b < 2 → (b + 2 * n) % 2 ^ suc k ≡ b + 2 * (n % 2 ^ k)
digit b n k h =
    let j : suc k ≡ k + 1 = omega arith in
    let l : (b + 2 * n) % 2 ^ 1 ≡ b = omega arith in
    let u : (b + 2 * n) / 2 ^ 1 ≡ n = omega arith in
    ap (λ (i : ℕ). (b + 2 * n) % 2 ^ i) j ∙ mod-pow-add (b + 2 * n) k 1 ∙ rw (l, u) (turned (n % 2 ^ k))
  where
    turned : (x : ℕ) → x * 2 ^ 1 + b ≡ b + 2 * x
    turned x = omega arith

bits_below : (k : ℕ) (xs : List (List Text)) → bit_number (map presence_bit xs) % 2 ^ k ≡ bit_number (map presence_bit (take k xs))
unfolding bit_number
bits_below zero xs = mod-one (bit_number (map presence_bit xs))
bits_below (suc k) [] = zero-mod (2 ^ suc k)
bits_below (suc k) (x ∷ xs) =
    digit (presence_bit x) (bit_number (map presence_bit xs)) k (presence-small x) ∙ ap (λ (m : ℕ). presence_bit x + 2 * m) (bits_below k xs)

-- the ones below a place are the sets before the place's own
ones_below : (k : ℕ) (xs : List (List Text)) → ones (bit_number (map presence_bit xs) % 2 ^ k) ≡ present (take k xs)
ones_below k xs = ap ones (bits_below k xs) ∙ ones-bits (take k xs)

-- ---- the value

-- what is written one after the other, up to an index and from it on
pub flat-split : {A : Type 0} (w : A → List ℕ) (k : ℕ) (xs : List A) → flatten (map w xs) ≡ flatten (map w (take k xs)) ++ flatten (map w (drop k xs))
unfolding flatten
flat-split w zero xs = refl
flat-split w (suc k) [] = refl
flat-split w (suc k) (x ∷ xs) =
    ap (λ (l : List ℕ). w x ++ l) (flat-split w k xs) ∙ sym (append_assoc (w x) (flatten (map w (take k xs))) (flatten (map w (drop k xs))))

pub set-bytes : (vs : List Text) → 0 < length vs → set_bytes vs ≡ number (length vs) ++ flatten (map text vs)
unfolding set_bytes
set-bytes [] h = absurd (omega arith)
set-bytes (v ∷ vs) h = refl

element : {A : Type 0} (xs : List A) (i : ℕ) (d : A) → i < length xs → get_elem? xs i ≡ some (get_or xs i d)
element [] i d h = absurd (omega arith)
element (x ∷ xs) zero d h = refl
element (x ∷ xs) (suc i) d h = element xs i d (omega arith)

none-past : (xs : List (List Text)) (place index : ℕ) → length xs ≤ place → get_elem? (get_or xs place []) index ≡ none
none-past [] place index h = refl
none-past (x ∷ xs) zero index h = absurd (omega arith)
none-past (x ∷ xs) (suc place) index h = none-past xs place index (omega arith)

-- where there is no such place, and where its set has no such value
module _ {s : List ℕ} {e : Event} {x : EventIndex} {ats : List ℕ} (is : EventIs s e x ats) (place index : ℕ) where
  pub no_place : 31 < place → get_elem? (set_at e place) index ≡ none
  no_place h = none-past e.sets place index (omega (arith, is.sets.long))

  count-here : place ≤ 31 → {v : SetAt} → v ≡ set_in ats place → v.count ≡ length (set_at e place)
  count-here h set = ap (λ (y : SetAt). y.count) set ∙ (is.sets.each place (omega arith)).count

  pub no_index : place ≤ 31 → {v : SetAt} → v ≡ set_in ats place → v.count ≤ index → get_elem? (set_at e place) index ≡ none
  no_index h set l = no-element (set_at e place) index (omega (arith, count-here h set))

-- The value at a place and an index of an event: so many sets stand before the place's own, and skipping them ends at `at`
module _
    {s : List ℕ} {e : Event} {x : EventIndex} {ats : List ℕ} {place index below at : ℕ} {v : SetAt}
    (small : length s < 2 ^ 64) (is : EventIs s e x ats) (place_inside : place ≤ 31) (set : v ≡ set_in ats place) (some-there : index < v.count)
    (ones-are : below ≡ ones (x.presence % 2 ^ place)) (skip : SetsSkipped s x.after_presence below at) where
  inside : index < length (set_at e place)
  inside = omega (arith, count-here is place index place_inside set)

  long : place < length e.sets
  long = omega (arith, is.sets.long)

  skipped : Skipped s x.after_presence (sets_bytes (take place e.sets)) (sets_bytes (drop place e.sets)) at
  unfolding sets_bytes
  skipped =
      skip (take place e.sets) (sets_bytes (drop place e.sets)) (is.rest ∙ flat-split set_bytes place e.sets) is.within
      (ones-are ∙ ap (λ (n : ℕ). ones (n % 2 ^ place)) is.presence ∙ ones_below place e.sets)

  set_here : drop at s ≡ number (length (set_at e place)) ++ (flatten (map text (set_at e place)) ++ sets_bytes (drop (suc place) e.sets))
  unfolding sets_bytes flatten
  set_here =
      skipped.rest
      ∙ ap (λ (l : List (List Text)). sets_bytes l) (drop-cons e.sets place [] long)
      ∙ ap (λ (l : List ℕ). l ++ sets_bytes (drop (suc place) e.sets)) (set-bytes (set_at e place) (omega (arith, inside)))
      ∙ append_assoc (number (length (set_at e place))) (flatten (map text (set_at e place))) (sets_bytes (drop (suc place) e.sets))

  few : length (set_at e place) < 2 ^ 64
  few = omega (
    arith,
    small,
    texts-long (set_at e place),
    length-drop at s,
    ap length set_here,
    length-append (number (length (set_at e place))) (flatten (map text (set_at e place)) ++ sets_bytes (drop (suc place) e.sets)),
    length-append (flatten (map text (set_at e place))) (sets_bytes (drop (suc place) e.sets)),
  )

  pub value-no-count : {r : Option (ℕ × ℕ)} → r ≡ number_at s at → r ≡ None → get_elem? (set_at e place) index ≡ none
  value-no-count h k = absurd (number-there s small at skipped.within (length (set_at e place)) _ few set_here (number-not s at h k))

  module _
      {n start to : ℕ} {r : Option (ℕ × ℕ)} (told : r ≡ number_at s at) (number_is : r ≡ Some (n, start))
      (skip-texts : TextsSkipped s start index to) {o : Option TextAt} (text-told : o ≡ text_at s to) where
    counted : Skipped s at (number (length (set_at e place))) (flatten (map text (set_at e place)) ++ sets_bytes (drop (suc place) e.sets)) start
    counted = (number-next s small at skipped.within (length (set_at e place)) _ few set_here n start (number-got told number_is)).1

    passed :
        Skipped s start (flatten (map text (take index (set_at e place))))
        (flatten (map text (drop index (set_at e place))) ++ sets_bytes (drop (suc place) e.sets)) to
    passed =
        skip-texts (take index (set_at e place)) (flatten (map text (drop index (set_at e place))) ++ sets_bytes (drop (suc place) e.sets))
        (counted.rest ∙ ap (λ (l : List ℕ). l ++ sets_bytes (drop (suc place) e.sets)) (flat-split text index (set_at e place))
        ∙ append_assoc (flatten (map text (take index (set_at e place)))) (flatten (map text (drop index (set_at e place))))
        (sets_bytes (drop (suc place) e.sets)))
        counted.within (sym (length-take-le index (set_at e place) (omega (arith, inside))))

    value-here :
        drop to s ≡ text (get_or (set_at e place) index []) ++
        (flatten (map text (drop (suc index) (set_at e place))) ++ sets_bytes (drop (suc place) e.sets))
    unfolding flatten
    value-here =
        passed.rest
        ∙ ap (λ (l : List Text). flatten (map text l) ++ sets_bytes (drop (suc place) e.sets)) (drop-cons (set_at e place) index [] inside)
        ∙
        append_assoc (text (get_or (set_at e place) index [])) (flatten (map text (drop (suc index) (set_at e place)))) (sets_bytes (drop (suc place) e.sets))

    value-no-text : o ≡ None → get_elem? (set_at e place) index ≡ none
    value-no-text k = absurd (text-there s small to passed.within (get_or (set_at e place) index []) _ value-here (text-not s to text-told k))

    value-stands : {found : TextAt} → o ≡ Some found → ValueStands s e place index found.start found.end
    unfolding bytes_before
    value-stands {found} k =
        let t = text-got text-told k in
        let b = text-next s small to passed.within (get_or (set_at e place) index []) _ value-here found.start found.end t in
        let f : x.after_presence ≡ length (head_bytes e.head) + length (number x.presence) =
        sym (length-take-le x.after_presence s is.within) ∙ ap length is.front
        ∙ length-append (head_bytes e.head) (number x.presence) in
        let g : length (number x.presence) ≡ length (number (bit_number (map presence_bit e.sets))) = ap (λ (n : ℕ). length (number n))
        is.presence in
        record {
          some = element (set_at e place) index [] inside ∙ ap some (sym b.0);
          start = simp length-append (omega (arith, b.1, passed.far, counted.far, skipped.far, f, g));
          order = t.order;
          within = t.within;
        }

    pub value-found : ValueFound s e place index o
    value-found = go o refl
      where
        go : (a : Option TextAt) → o ≡ a → ValueFound s e place index a
        go None k = value-no-text k
        go (Some found) k = value-stands k
