-- The laws of strings whose two parts stand in two slices, and of such strings kept sorted in an array.
use mathlib.Core.Path.{◌≡◌, refl, sym, ap, ap₂, ◌∙◌, subst}
use mathlib.Core.Bool.{true, false}
use mathlib.Core.List.{List, [], ◌∷◌, ◌++◌, append_assoc, map}
use Prim.Native.Nat.{ℕ, zero, suc, ◌+◌, ◌-◌, ◌≤◌, ◌<◌, Ordering}
use native.Mathlib.Omega.{arith}
use native.Mathlib.Numerals.{add-one}
use lib.ListN.{length, take, drop, get_or, set, length-append, length-drop, length-set, drop_of_length-le, length-map, get_or-append, get_or-map}
use lib.Seq.{length-take-le, take-take, get_or-take, get_or-drop, get_or_at, get_or-append-add}
use lib.Seq.{drop-cons, take_at, set_split, take-set-le, drop-set-lt, get_or-set_same}
use Rattle.model.specs.Order.{Text, texts, lists, lex, numbers, pick}
use Rattle.model.specs.Sorting.{insert}
use Rattle.model.proofs.SortLaws.{Ascends, sorted-ascends, past_one}
use Rattle.packed.specs.Packed.{part}
use Rattle.packed.specs.code.Strings.{joined, string_of, strings_of, StringFits, no_string, StringsFit, Inserted}
use Rattle.packed.specs.declared.strings.StringAt.{StringAt}
use Rattle.packed.proofs.LayoutLaws.{All}
use Rattle.packed.proofs.ReadLaws.{part_length}

-- ---- the bytes of a string

module _ (a b : List ℕ) (x : StringAt) (w : StringFits a b x) where
  pub first-length : length (part a x.first x.colon) ≡ x.colon - x.first
  first-length = part_length a x.first x.colon w.first w.in_a

  pub string-length : length (string_of a b x) ≡ x.colon - x.first + 1 + (x.end - x.second)
  unfolding string_of
  string-length =
      omega (
        arith,
        length-append (part a x.first x.colon) (58 ∷ part b x.second x.end),
        first-length,
        part_length b x.second x.end w.second w.in_b,
      )

  pub string-first : (i : ℕ) → i < x.colon - x.first → get_or (string_of a b x) i 0 ≡ get_or a (x.first + i) 0
  unfolding string_of
  string-first i h =
      get_or-append (part a x.first x.colon) (58 ∷ part b x.second x.end) 0 i (omega (arith, first-length))
      ∙ get_or-take (x.colon - x.first) (drop x.first a) i 0 h
      ∙ get_or-drop x.first a i 0

  pub string-colon : (i : ℕ) → i ≡ x.colon - x.first → get_or (string_of a b x) i 0 ≡ 58
  unfolding string_of
  string-colon i e = get_or_at (part a x.first x.colon) 58 (part b x.second x.end) 0 i (first-length ∙ sym e)

  pub string-second :
      (i : ℕ) → x.colon - x.first < i → i < length (string_of a b x) →
      get_or (string_of a b x) i 0 ≡ get_or b (x.second + (i - (x.colon - x.first) - 1)) 0
  unfolding string_of
  string-second i h k =
      let n = x.colon - x.first in
      let j = i - n - 1 in
      let e : i ≡ length (part a x.first x.colon) + suc j = omega (arith, first-length) in
      let l : j < x.end - x.second = omega (arith, string-length) in
      ap (λ (m : ℕ). get_or (part a x.first x.colon ++ (58 ∷ part b x.second x.end)) m 0) e
      ∙ get_or-append-add (part a x.first x.colon) (58 ∷ part b x.second x.end) (suc j) 0
      ∙ get_or-take (x.end - x.second) (drop x.second b) j 0 l
      ∙ get_or-drop x.second b j 0

-- ---- the comparison of two strings

-- plain strings, whose first part is empty, are in the order of their second parts
pub plain-order : (u v : Text) → texts.cmp (joined [] u) (joined [] v) ≡ texts.cmp u v
unfolding texts lists lex numbers
plain-order u v = refl

-- ---- parts of a list

module _ {A : Type 0} where
  pub drop-next : (s : List A) (i : ℕ) (d : A) → i < length s → drop i s ≡ get_or s i d ∷ drop (i + 1) s
  drop-next s i d h = drop-cons s i d h ∙ rw add-one

  all-below : (P : A → Type 0) (d : A) (n : ℕ) (xs : List A) → n ≤ length xs → ((i : ℕ) → i < n → P (get_or xs i d)) → All P (take n xs)
  all-below P d zero xs l h = tt
  all-below P d (suc n) [] l h = absurd (omega arith)
  all-below P d (suc n) (x ∷ xs) l h = (h 0 (omega arith), all-below P d n xs (omega arith) (λ i k. h (suc i) (omega arith)))

  below_all : (P : A → Type 0) (d : A) (n : ℕ) (xs : List A) → n ≤ length xs → All P (take n xs) → (i : ℕ) → i < n → P (get_or xs i d)
  below_all P d zero xs l h i k = absurd (omega arith)
  below_all P d (suc n) [] l h i k = absurd (omega arith)
  below_all P d (suc n) (x ∷ xs) l h zero k = h.0
  below_all P d (suc n) (x ∷ xs) l h (suc i) k = below_all P d n xs (omega arith) h.1 i (omega arith)

  all-put : (P : A → Type 0) (k : ℕ) (xs : List A) (x : A) → All P xs → P x → All P (take k xs ++ (x ∷ drop k xs))
  all-put P zero xs x h p = (p, h)
  all-put P (suc k) [] x h p = (p, tt)
  all-put P (suc k) (y ∷ ys) x h p = (h.0, all-put P k ys x h.1 p)

module _ {A B : Type 0} (f : A → B) where
  map-put : (k : ℕ) (xs : List A) (x : A) → map f (take k xs ++ (x ∷ drop k xs)) ≡ take k (map f xs) ++ (f x ∷ drop k (map f xs))
  map-put zero xs x = refl
  map-put (suc k) [] x = refl
  map-put (suc k) (y ∷ ys) x = ap (λ (l : List B). f y ∷ l) (map-put k ys x)

-- ---- the array of strings

-- Of the first `count` of `old`, those from k on stand one place further in `new`
pub record Moved (old new : List StringAt) (count k : ℕ) : Type 0 where
  pub low : k ≤ count
  pub below : take k new ≡ take k old
  pub above : drop (k + 1) new ≡ drop k (take count old) ++ drop (count + 1) old
  pub long : length new ≡ 32

module _ (old : List StringAt) (count : ℕ) (room : count < 32) (long : length old ≡ 32) where
  taken : length (take count old) ≡ count
  taken = length-take-le count old (omega arith)

  pub moved_none : Moved old old count count
  moved_none =
      let h : length (take count old) ≤ count = omega (arith, taken) in
      record {
        low = omega arith;
        below = refl;
        above = ap (λ (l : List StringAt). l ++ drop (count + 1) old) (sym (drop_of_length-le (take count old) h));
        long = long;
      }

  module _ (new : List StringAt) (k : ℕ) (w : Moved old new count k) where
    -- what has not moved is what it was
    pub moved_same : (j : ℕ) → j < k → get_or new j no_string ≡ get_or old j no_string
    moved_same j h =
        sym (get_or-take k new j no_string h) ∙ ap (λ (l : List StringAt). get_or l j no_string) w.below ∙ get_or-take k old j no_string h

    moved_on : (j : ℕ) → k ≡ j + 1 → Moved old (set new k (get_or new j no_string)) count j
    moved_on j e =
        let y = get_or new j no_string in
        let q = set new k y in
        let ql : length q ≡ 32 = length-set new k y ∙ w.long in
        let y-is : y ≡ get_or (take count old) j no_string = moved_same j (omega arith) ∙ sym (get_or-take count old j no_string (omega (arith, w.low))) in
        record {
          low = omega (arith, w.low);
          below = take-set-le j new k y (omega arith) ∙ sym (take-take j k new (omega arith)) ∙ ap (take j) w.below ∙ take-take j k old (omega arith);
          above =
              ap (λ (i : ℕ). drop i q) (sym e)
              ∙ drop-next q k no_string (omega (arith, w.low))
              ∙ ap₂ (λ (a : StringAt) (l : List StringAt). a ∷ l)
              (get_or-set_same new k y no_string (omega (arith, w.low, w.long)) ∙ y-is)
              (drop-set-lt (k + 1) new k y (omega arith) ∙ w.above)
              ∙ ap (λ (i : ℕ). (get_or (take count old) j no_string ∷ drop i (take count old)) ++ drop (count + 1) old) e
              ∙ ap (λ (l : List StringAt). l ++ drop (count + 1) old) (sym (drop-next (take count old) j no_string (omega (arith, taken, w.low))));
          long = ql;
        }

    pub moved_more : 0 < k → Moved old (set new k (get_or new (k - 1) no_string)) count (k - 1)
    moved_more h = moved_on (k - 1) (omega arith)

    pub moved-put : (x : StringAt) → take (count + 1) (set new k x) ≡ take k (take count old) ++ (x ∷ drop k (take count old))
    moved-put x =
        let lo = take k (take count old) in
        let hi = drop k (take count old) in
        let l : length (lo ++ (x ∷ hi)) ≡ count + 1 =
        omega (
          arith,
          length-append lo (x ∷ hi),
          length-take-le k (take count old) (omega (arith, taken, w.low)),
          length-drop k (take count old),
          taken,
          w.low,
        ) in
        ap (take (count + 1))
        (set_split new k x (omega (arith, w.low, w.long))
        ∙ ap₂ (λ (a b : List StringAt). a ++ (x ∷ b)) (w.below ∙ sym (take-take k count old w.low)) (rw (← add-one) w.above)
        ∙ sym (append_assoc lo (x ∷ hi) (drop (count + 1) old)))
        ∙ take_at (lo ++ (x ∷ hi)) (drop (count + 1) old) (count + 1) l

-- ---- inserting

insert-here : (a y : Text) (l : List Text) → pick (texts.cmp a y) false false true ≡ false → insert texts a (y ∷ l) ≡ a ∷ y ∷ l
unfolding insert
insert-here a y l h = go (texts.cmp a y) h
  where
    go : (o : Ordering) → pick o false false true ≡ false → pick o (a ∷ y ∷ l) (a ∷ y ∷ l) (y ∷ insert texts a l) ≡ a ∷ y ∷ l
    go Ordering.lt e = refl
    go Ordering.eq e = refl
    go Ordering.gt e = cc

after_more : (o : Ordering) → pick o false false true ≡ true → o ≡ Ordering.gt
after_more Ordering.lt e = cc
after_more Ordering.eq e = cc
after_more Ordering.gt e = refl

module _ (a b : List ℕ) (xs : List StringAt) (n : ℕ) where
  pub strings-length : n ≤ length xs → length (strings_of a b xs n) ≡ n
  unfolding strings_of
  strings-length l = length-map (take n xs) (string_of a b) ∙ length-take-le n xs l

  pub string-at : (j : ℕ) → j < n → get_or (strings_of a b xs n) j (string_of a b no_string) ≡ string_of a b (get_or xs j no_string)
  unfolding strings_of
  string-at j h = get_or-map (string_of a b) (take n xs) j no_string ∙ ap (string_of a b) (get_or-take n xs j no_string h)

-- the string x stands before those of the n strings xs from place k on
unfoldable pub Before : List ℕ → List ℕ → List StringAt → ℕ → StringAt → ℕ → Type 0
Before a b xs n x k = insert texts (string_of a b x) (drop k (strings_of a b xs n)) ≡ string_of a b x ∷ drop k (strings_of a b xs n)

module _ (a b : List ℕ) (xs : List StringAt) (n : ℕ) (x : StringAt) (fits : StringsFit a b xs n) (fit : StringFits a b x) (room : n < 32) where
  abbrev ss : List Text
  ss = strings_of a b xs n

  abbrev s : Text
  s = string_of a b x

  count_long : n ≤ length xs
  count_long = omega (arith, fits.long)

  pub before-none : Before a b xs n x n
  unfolding Before insert
  before-none = let h : length ss ≤ n = omega (arith, strings-length a b xs n count_long) in rw (drop_of_length-le ss h)

  module _ (new : List StringAt) (k : ℕ) (w : Moved xs new n k) where
    -- the string before place k
    last-same : 0 < k → get_or xs (k - 1) no_string ≡ get_or new (k - 1) no_string
    last-same h = sym (moved_same xs n room fits.long new k w (k - 1) (omega arith))

    pub last_fits : 0 < k → StringFits a b (get_or new (k - 1) no_string)
    last_fits h =
        let i : k - 1 < n = omega (arith, w.low) in
        subst (StringFits a b) (last-same h) (fits.each (k - 1) i)

    last-string : 0 < k → get_or ss (k - 1) (string_of a b no_string) ≡ string_of a b (get_or new (k - 1) no_string)
    last-string h = string-at a b xs n (k - 1) (omega (arith, w.low)) ∙ ap (string_of a b) (last-same h)

    pub before_more : 0 < k → pick (texts.cmp s (string_of a b (get_or new (k - 1) no_string))) false false true ≡ false → Before a b xs n x (k - 1)
    unfolding Before
    before_more h e =
        let d = drop-next ss (k - 1) (string_of a b no_string) (omega (arith, strings-length a b xs n count_long, w.low)) in
        let q = d ∙ ap (λ (t : Text). t ∷ drop (k - 1 + 1) ss) (last-string h) in
        ap (insert texts s) q ∙ insert-here s (string_of a b (get_or new (k - 1) no_string)) (drop (k - 1 + 1) ss) e ∙
        ap (λ (l : List Text). s ∷ l) (sym q)

    still : StringsFit a b (set new k x) (n + 1)
    still =
        let P = StringFits a b in
        let h : All P (take n xs) = all-below P no_string n xs count_long fits.each in
        let g : All P (take (n + 1) (set new k x)) = subst (All P) (sym (moved-put xs n room fits.long new k w x)) (all-put P k (take n xs) x h fit) in
        let l : length (set new k x) ≡ 32 = length-set new k x ∙ w.long in
        record { few = omega arith; long = l; each = below_all P no_string (n + 1) (set new k x) (omega arith) g }

    strings-put : strings_of a b (set new k x) (n + 1) ≡ take k ss ++ (s ∷ drop k ss)
    unfolding strings_of
    strings-put = ap (map (string_of a b)) (moved-put xs n room fits.long new k w x) ∙ map-put (string_of a b) k (take n xs) x

    placed :
        Before a b xs n x k → (Ascends texts ss → insert texts s ss ≡ take k ss ++ insert texts s (drop k ss)) →
        Inserted a b xs n x (set new k x)
    unfolding Before
    placed u p = record {
      fit = still;
      is =
          λ ws e.
          strings-put
          ∙ ap (λ (l : List Text). take k ss ++ l) (sym u)
          ∙ sym (p (subst (Ascends texts) (sym e) (sorted-ascends texts ws)));
    }

    -- there, after the one before it
    pub inserted-after :
        Before a b xs n x k → 0 < k → pick (texts.cmp s (string_of a b (get_or new (k - 1) no_string))) false false true ≡ true →
        Inserted a b xs n x (set new k x)
    inserted-after u h e =
        let g = ap (texts.cmp s) (last-string h) ∙ after_more (texts.cmp s (string_of a b (get_or new (k - 1) no_string))) e in
        let l : k ≤ length ss = omega (arith, strings-length a b xs n count_long, w.low) in
        placed u (past_one texts s (string_of a b no_string) ss k (k - 1) (omega arith) l g)

    -- at the front
    pub inserted-first : Before a b xs n x k → k ≤ 0 → Inserted a b xs n x (set new k x)
    inserted-first u h =
        let z : k ≡ 0 = omega arith in
        placed u (λ t. ap (λ (i : ℕ). take i ss ++ insert texts s (drop i ss)) (sym z))
