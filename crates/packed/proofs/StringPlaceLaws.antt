-- The laws of strings that are lent as numbers, four for each place.
use mathlib.Core.Path.{◌≡◌, refl, sym, ap, ap₂, ◌∙◌, subst}
use mathlib.Core.Bool.{Bool, true, false}
use mathlib.Core.List.{List, ◌∷◌}
use Prim.Native.Nat.{ℕ, zero, suc, ◌+◌, ◌-◌, ◌*◌, ◌≤◌, ◌<◌}
use native.Mathlib.Omega.{arith}
use lib.ListN.{length, get_or, set, length-set}
use lib.Seq.{get_or-set_same, get_or-set_other}
use Rattle.model.specs.Order.{texts, pick}
use Rattle.packed.specs.code.Strings.{no_string, string_in, strings_from, strings_in, string_of, StringFits, StringsFit, Inserted}
use Rattle.packed.specs.declared.strings.StringAt.{StringAt}
use Rattle.packed.proofs.StringLaws.{Moved, moved_none, moved_more, Before, before-none, before_more, last_fits, inserted-after, inserted-first}

-- ---- the four numbers of a place

-- the numbers with the string x at place k
abbrev pub put_four : List ℕ → ℕ → StringAt → List ℕ
put_four xs k x = set (set (set (set xs (4 * k) x.first) (4 * k + 1) x.colon) (4 * k + 2) x.second) (4 * k + 3) x.end

module _ (xs : List ℕ) (k : ℕ) (x : StringAt) where
  abbrev one : List ℕ
  one = set xs (4 * k) x.first

  abbrev two : List ℕ
  two = set one (4 * k + 1) x.colon

  abbrev three : List ℕ
  three = set two (4 * k + 2) x.second

  one-long : length one ≡ length xs
  one-long = length-set xs (4 * k) x.first

  two-long : length two ≡ length xs
  two-long = length-set one (4 * k + 1) x.colon ∙ one-long

  three-long : length three ≡ length xs
  three-long = length-set two (4 * k + 2) x.second ∙ two-long

  module _ (h : 4 * k + 3 < length xs) where
    four-first : get_or (put_four xs k x) (4 * k) 0 ≡ x.first
    four-first =
        get_or-set_other three (4 * k + 3) (4 * k) x.end 0 (λ e. omega arith)
        ∙ get_or-set_other two (4 * k + 2) (4 * k) x.second 0 (λ e. omega arith)
        ∙ get_or-set_other one (4 * k + 1) (4 * k) x.colon 0 (λ e. omega arith)
        ∙ get_or-set_same xs (4 * k) x.first 0 (omega arith)

    four-second : get_or (put_four xs k x) (4 * k + 1) 0 ≡ x.colon
    four-second =
        get_or-set_other three (4 * k + 3) (4 * k + 1) x.end 0 (λ e. omega arith)
        ∙ get_or-set_other two (4 * k + 2) (4 * k + 1) x.second 0 (λ e. omega arith)
        ∙ get_or-set_same one (4 * k + 1) x.colon 0 (omega (arith, one-long))

    four-third : get_or (put_four xs k x) (4 * k + 2) 0 ≡ x.second
    four-third =
        get_or-set_other three (4 * k + 3) (4 * k + 2) x.end 0 (λ e. omega arith)
        ∙ get_or-set_same two (4 * k + 2) x.second 0 (omega (arith, two-long))

    four-fourth : get_or (put_four xs k x) (4 * k + 3) 0 ≡ x.end
    four-fourth = get_or-set_same three (4 * k + 3) x.end 0 (omega (arith, three-long))

    four-here : string_in (put_four xs k x) k ≡ x
    four-here = rw (four-first, four-second, four-third, four-fourth) refl

  -- number i of another place j, which is number m of all, stays
  number-other : (j i m : ℕ) → m ≡ 4 * j + i → i < 4 → (j ≡ k → ⊥) → get_or (put_four xs k x) m 0 ≡ get_or xs m 0
  number-other j i m e h n =
      get_or-set_other three (4 * k + 3) m x.end 0 (λ f. n (omega (arith, e, f, h)))
      ∙ get_or-set_other two (4 * k + 2) m x.second 0 (λ f. n (omega (arith, e, f, h)))
      ∙ get_or-set_other one (4 * k + 1) m x.colon 0 (λ f. n (omega (arith, e, f, h)))
      ∙ get_or-set_other xs (4 * k) m x.first 0 (λ f. n (omega (arith, e, f, h)))

  four-other : (j : ℕ) → (j ≡ k → ⊥) → string_in (put_four xs k x) j ≡ string_in xs j
  four-other j n =
      rw (
        number-other j 0 (4 * j) (omega arith) (omega arith) n,
        number-other j 1 (4 * j + 1) refl (omega arith) n,
        number-other j 2 (4 * j + 2) refl (omega arith) n,
        number-other j 3 (4 * j + 3) refl (omega arith) n,
      ) refl

-- ---- all places

from-length : (xs : List ℕ) (k m : ℕ) → length (strings_from xs k m) ≡ m
unfolding strings_from
from-length xs k zero = refl
from-length xs k (suc m) = ap suc (from-length xs (suc k) m)

from_at : (xs : List ℕ) (k m j : ℕ) → j < m → string_in xs (k + j) ≡ get_or (strings_from xs k m) j no_string
unfolding strings_from
from_at xs k zero j h = absurd (omega arith)
from_at xs k (suc m) zero h = ap (string_in xs) (omega arith)
from_at xs k (suc m) (suc j) h = ap (string_in xs) (omega arith) ∙ from_at xs (suc k) m j (omega arith)

-- numbers that have the same strings from place k on
from-same : (xs ys : List ℕ) (k m : ℕ) → ((j : ℕ) → k < suc j → string_in ys j ≡ string_in xs j) → strings_from ys k m ≡ strings_from xs k m
unfolding strings_from
from-same xs ys k zero h = refl
from-same xs ys k (suc m) h =
    ap₂ (λ (x : StringAt) (l : List StringAt). x ∷ l) (h k (omega arith)) (from-same xs ys (suc k) m (λ j l. h j (omega arith)))

-- and numbers that have but for one place, which is j places after place k
from-put :
    (xs ys : List ℕ) (x : StringAt) (k m j : ℕ) → j < m → string_in ys (k + j) ≡ x →
    ((i : ℕ) → (i ≡ k + j → ⊥) → string_in ys i ≡ string_in xs i) → strings_from ys k m ≡ set (strings_from xs k m) j x
unfolding strings_from
from-put xs ys x k zero j l here others = absurd (omega arith)
from-put xs ys x k (suc m) zero l here others =
    ap₂ (λ (y : StringAt) (l : List StringAt). y ∷ l) (ap (string_in ys) (omega arith) ∙ here)
    (from-same xs ys (suc k) m (λ i h. others i (λ e. omega arith)))
from-put xs ys x k (suc m) (suc j) l here others =
    ap₂ (λ (y : StringAt) (l : List StringAt). y ∷ l) (others k (λ e. omega arith))
    (from-put xs ys x (suc k) m j (omega arith) (ap (string_in ys) (omega arith) ∙ here) (λ i n. others i (λ e. n (omega arith))))

pub strings-long : (xs : List ℕ) → length (strings_in xs) ≡ 32
unfolding strings_in
strings-long xs = from-length xs 0 32

pub string-taken : (xs : List ℕ) (k : ℕ) → k < 32 → string_in xs k ≡ get_or (strings_in xs) k no_string
unfolding strings_in
string-taken xs k h = ap (string_in xs) (omega arith) ∙ from_at xs 0 32 k h

pub string-put : (xs : List ℕ) (k : ℕ) (x : StringAt) → k < 32 → length xs ≡ 128 → strings_in (put_four xs k x) ≡ set (strings_in xs) k x
unfolding strings_in
string-put xs k x h l =
    from-put xs (put_four xs k x) x 0 32 k h
    (ap (string_in (put_four xs k x)) (omega arith) ∙ four-here xs k x (omega arith))
    (λ i n. four-other xs k x i (λ e. n (omega arith)))

-- ---- inserting a string

-- in `new` the strings of `old` from place k on stand one place further, and x comes before them
pub record Placing (a b old : List ℕ) (count : ℕ) (x : StringAt) (new : List ℕ) (k : ℕ) : Type 0 where
  pub fits : StringsFit a b (strings_in old) count
  pub fit : StringFits a b x
  pub room : count < 32
  pub long : length new ≡ 128
  pub moved : Moved (strings_in old) (strings_in new) count k
  pub before : Before a b (strings_in old) count x k

pub placing-none :
    {a b old : List ℕ} {count : ℕ} {x : StringAt} → StringsFit a b (strings_in old) count → StringFits a b x → count < 32 → length old ≡ 128 →
    Placing a b old count x old count
placing-none {a} {b} {old} {count} {x} f g r l = record {
  fits = f;
  fit = g;
  room = r;
  long = l;
  moved = moved_none _ _ r f.long;
  before = before-none a b (strings_in old) count x f g r;
}

module _ {a b old new : List ℕ} {count k : ℕ} {x : StringAt} (w : Placing a b old count x new k) where
  pub placed_first : k ≤ 0 → {rs : List StringAt} → rs ≡ set (strings_in new) 0 x → Inserted a b (strings_in old) count x rs
  placed_first h put =
      let z : 0 ≡ k = omega arith in
      subst (Inserted a b (strings_in old) count x) (sym (put ∙ ap (λ (i : ℕ). set (strings_in new) i x) z))
      (inserted-first a b (strings_in old) count x w.fits w.fit w.room (strings_in new) k w.moved w.before h)

  -- y is the string before place k
  module _ (h : 0 < k) {y : StringAt} (is : y ≡ string_in new (k - 1)) where
    y-is : y ≡ get_or (strings_in new) (k - 1) no_string
    y-is = is ∙ string-taken new (k - 1) (omega (arith, w.moved.low, w.room))

    pub before-fits : StringFits a b y
    before-fits =
        subst (StringFits a b) (sym y-is)
        (last_fits a b (strings_in old) count x w.fits w.fit w.room (strings_in new) k w.moved h)

  -- y is the string before place k, and t tells whether x comes after it
  pub record Asked (y : StringAt) (t : Bool) : Type 0 where
    pub some : 0 < k
    pub is : y ≡ string_in new (k - 1)
    pub told : t ≡ pick (texts.cmp (string_of a b x) (string_of a b y)) false false true

module _ {a b old new : List ℕ} {count k : ℕ} {x y : StringAt} {t : Bool} {w : Placing a b old count x new k} (v : Asked w y t) where
  answer-is : {u : Bool} → t ≡ u → pick (texts.cmp (string_of a b x) (string_of a b (get_or (strings_in new) (k - 1) no_string))) false false true ≡ u
  answer-is e =
      ap (λ (z : StringAt). pick (texts.cmp (string_of a b x) (string_of a b z)) false false true) (sym (y-is w v.some v.is))
      ∙ sym v.told
      ∙ e

  -- the code counts the strings before place k, and puts one after the last of them
  here : k - 1 + 1 ≡ k
  here = omega (arith, v.some)

  pub placed-after : t ≡ true → {rs : List StringAt} → rs ≡ set (strings_in new) (k - 1 + 1) x → Inserted a b (strings_in old) count x rs
  placed-after e put =
      subst (Inserted a b (strings_in old) count x) (sym (put ∙ ap (λ (i : ℕ). set (strings_in new) i x) here))
      (inserted-after a b (strings_in old) count x w.fits w.fit w.room (strings_in new) k w.moved w.before v.some (answer-is e))

  pub placing-more :
      t ≡ false → {r : List ℕ} → length r ≡ length new → strings_in r ≡ set (strings_in new) (k - 1 + 1) y → Placing a b old count x r (k - 1)
  placing-more e l put = record {
    fits = w.fits;
    fit = w.fit;
    room = w.room;
    long = l ∙ w.long;
    moved =
        subst
        (λ (ys : List StringAt). Moved (strings_in old) ys count (k - 1))
        (sym (put ∙ ap₂ (set (strings_in new)) here (y-is w v.some v.is)))
        (moved_more (strings_in old) count w.room w.fits.long (strings_in new) k w.moved v.some);
    before = before_more a b (strings_in old) count x w.fits w.fit w.room (strings_in new) k w.moved v.some (answer-is e);
  }
