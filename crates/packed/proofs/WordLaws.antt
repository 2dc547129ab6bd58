-- The laws of words of bytes: words of equal length are in the order of their bytes.
-- Assumes nothing.
use mathlib.Core.Path.{◌≡◌, refl, sym, ap, ap₂, ◌∙◌}
use mathlib.Core.List.{List, [], ◌∷◌, ◌++◌}
use mathlib.Core.Logic.{⊎_elim}
use Prim.Native.Nat.{ℕ, zero, suc, ◌+◌, ◌-◌, ◌*◌, ◌^◌, ◌≤◌, ◌<◌, compare, Ordering}
use native.Mathlib.Nat.{add-sub_cancel_left}
use native.Mathlib.Omega.{arith}
use mir.Syntax.{w8}
use mir.Val.{Fits}
use lib.Bits.{bit_and, and_block, and_self, and_zero_r}
use lib.ListN.{length, take, drop, get_or, replicate, length-drop, take-append-drop}
use lib.Seq.{get_or-drop, take-add, take-take}
use Rattle.model.specs.Order.{texts, numbers, lists, lex, pick, nat-self, nat-same}
use Rattle.model.proofs.Cases.{three}
use Rattle.model.proofs.OrderLaws.{lt-compare, gt-compare, eq-compare, compare-lt, compare-gt}
use Rattle.std.specs.Prelude.{min}
use Rattle.std.specs.Ordering.{nat_cmp}
use Rattle.std.specs.declared.cmp.Ordering as std
use Rattle.std.specs.Int.{w32, w64, from_be_bytes}
use Rattle.std.specs.Array.{IsWholeChunk}
use Rattle.packed.specs.code.Comparison.{ordering}
use Rattle.packed.specs.code.Words.{word_after, word_of}
use Rattle.packed.proofs.LayoutLaws.{lt-or-ge}
use Rattle.packed.proofs.ReadLaws.{drop-next}
use Rattle.packed.proofs.OrderLaws.{number-order, order-lengths}

-- each element is a byte
abbrev pub Bytes : List ℕ → Type 0
Bytes s = (k : ℕ) → get_or s k 0 < 256

-- what the check knows of a slice
abbrev pub Known : List ℕ → Type 0
Known s = (k : ℕ) → Fits w8 (get_or s k 0)

known_bytes : (s : List ℕ) → Known s → Bytes s
known_bytes s h k = omega (arith, h k)

bytes_drop : (s : List ℕ) (i : ℕ) → Bytes s → Bytes (drop i s)
bytes_drop s i h k = rw (get_or-drop i s k 0) (h (i + k))

-- ---- order

-- two digits more: the digits before decide, then these, and then what follows
digit-order :
    (m n a b : ℕ) (o : Ordering) → a < 256 → b < 256 →
    pick (compare m n) Ordering.lt (pick (compare a b) Ordering.lt o Ordering.gt) Ordering.gt
    ≡ pick (compare (256 * m + a) (256 * n + b)) Ordering.lt o Ordering.gt
digit-order m n a b o p q =
    let x = 256 * m + a in
    let y = 256 * n + b in
    let less : x < y → Ordering.lt ≡ pick (compare x y) Ordering.lt o Ordering.gt = λ h. rw (lt-compare x y h) in
    let more : y < x → Ordering.gt ≡ pick (compare x y) Ordering.lt o Ordering.gt = λ h. rw (gt-compare x y h) in
    three (compare m n)
    (λ l. let h = compare-lt m n l in rw l (less (omega arith)))
    (λ s. let h = nat-same m n s in
    rw s
    (three (compare a b)
    (λ l. let k = compare-lt a b l in rw l (less (omega arith)))
    (λ t. let k = nat-same a b t in rw (t, eq-compare x y (omega arith)))
    (λ g. let k = compare-gt a b g in rw g (more (omega arith)))))
    (λ g. let h = compare-gt m n g in rw g (more (omega arith)))

-- the order of two lists of bytes is that of the words of their first k bytes, and then that of what is left
pub words-order :
    (k m n : ℕ) (x y : List ℕ) → Bytes x → Bytes y → k ≤ length x → k ≤ length y →
    pick (compare m n) Ordering.lt (lex numbers x y) Ordering.gt
    ≡ pick (compare (word_after m (take k x)) (word_after n (take k y))) Ordering.lt (lex numbers (drop k x) (drop k y)) Ordering.gt
unfolding word_after lex numbers
words-order zero m n x y p q h l = refl
words-order (suc k) m n [] y p q h l = absurd (omega arith)
words-order (suc k) m n (a ∷ x) [] p q h l = absurd (omega arith)
words-order (suc k) m n (a ∷ x) (b ∷ y) p q h l =
    digit-order m n a b (lex numbers x y) (p 0) (q 0)
    ∙ words-order k (256 * m + a) (256 * n + b) x y (λ j. p (suc j)) (λ j. q (suc j)) (omega arith) (omega arith)

-- equal words are of equal bytes
words_same :
    (k m n : ℕ) (x y : List ℕ) → Bytes x → Bytes y → k ≤ length x → k ≤ length y →
    word_after m (take k x) ≡ word_after n (take k y) → (m ≡ n) × (take k x ≡ take k y)
unfolding word_after
words_same zero m n x y p q h l e = (e, refl)
words_same (suc k) m n [] y p q h l e = absurd (omega arith)
words_same (suc k) m n (a ∷ x) [] p q h l e = absurd (omega arith)
words_same (suc k) m n (a ∷ x) (b ∷ y) p q h l e =
    let s = words_same k (256 * m + a) (256 * n + b) x y (λ j. p (suc j)) (λ j. q (suc j)) (omega arith) (omega arith) e in
    let u = p 0 in
    let v = q 0 in
    let d : a ≡ b = omega (arith, s.0) in
    (omega (arith, s.0), ap₂ {C = List ℕ} (λ z zs. z ∷ zs) d s.1)

-- ---- where the first bytes are the same

prefix-order : (x u v : List ℕ) → texts.cmp (x ++ u) (x ++ v) ≡ texts.cmp u v
unfolding texts lists lex numbers
prefix-order [] u v = refl
prefix-order (a ∷ x) u v = rw (nat-self a) (prefix-order x u v)

-- a and b are of bytes, the shorter one has n, and their first i bytes are the same
pub record Alike (a b : List ℕ) (n i : ℕ) : Type 0 where
  pub a-bytes : Bytes a
  pub b-bytes : Bytes b
  pub shorter : n ≡ min (length a) (length b)
  pub within : i ≤ n
  pub same : take i a ≡ take i b

pub alike-none : {a b : List ℕ} {n : ℕ} → Known a → Known b → n ≡ min (length a) (length b) → Alike a b n 0
alike-none {a} {b} p q h = record { a-bytes = known_bytes a p; b-bytes = known_bytes b q; shorter = h; within = omega arith; same = refl }

module _ {a b : List ℕ} {n i : ℕ} (w : Alike a b n i) where
  same-before : (j : ℕ) → j ≤ i → take j a ≡ take j b
  same-before j h = sym (take-take j i a h) ∙ ap (take j) w.same ∙ take-take j i b h

  pub alike-less : {j : ℕ} → j ≤ i → Alike a b n j
  alike-less {j} h = record { a-bytes = w.a-bytes; b-bytes = w.b-bytes; shorter = w.shorter; within = omega (arith, w.within); same = same-before j h }

  order_from : (j : ℕ) → j ≤ i → texts.cmp a b ≡ texts.cmp (drop j a) (drop j b)
  order_from j h =
      ap₂ texts.cmp (sym (take-append-drop j a)) (sym (take-append-drop j b) ∙ ap (λ (x : List ℕ). x ++ drop j b) (sym (same-before j h)))
      ∙ prefix-order (take j a) (drop j a) (drop j b)

  -- one of them is at its end: the lengths decide
  pub alike_all : n ≤ i → {r : std.Ordering} → r ≡ nat_cmp (length a) (length b) → ordering r ≡ texts.cmp a b
  alike_all h e = order-lengths a b i refl refl (omega (arith, w.within, w.shorter)) e ∙ sym (order_from i (omega arith))

  -- x and y are the words of the k bytes from j on, and the bytes before are the same
  pub record WordsAt (j k x y : ℕ) : Type 0 where
    pub low : j ≤ i
    pub fits : j + k ≤ n
    pub a_word : x ≡ word_of (take k (drop j a))
    pub b-word : y ≡ word_of (take k (drop j b))

pub words-at :
    {a b : List ℕ} {n i x y : ℕ} (w : Alike a b n i) (j k : ℕ) → j ≤ i → j + k ≤ n →
    x ≡ word_of (take k (drop j a)) → y ≡ word_of (take k (drop j b)) → WordsAt w j k x y
words-at w j k h f p q = record { low = h; fits = f; a_word = p; b-word = q }

module _ {a b : List ℕ} {n i j k x y : ℕ} {w : Alike a b n i} (v : WordsAt w j k x y) where
  a-left : k ≤ length (drop j a)
  a-left = omega (arith, v.fits, w.shorter, length-drop j a)

  b-left : k ≤ length (drop j b)
  b-left = omega (arith, v.fits, w.shorter, length-drop j b)

  by_word : texts.cmp a b ≡ pick (compare x y) Ordering.lt (lex numbers (drop k (drop j a)) (drop k (drop j b))) Ordering.gt
  unfolding word_of texts lists
  by_word =
      rw v.a_word
      (rw v.b-word
      (order_from w j v.low
      ∙ words-order k 0 0 (drop j a) (drop j b) (bytes_drop a j w.a-bytes) (bytes_drop b j w.b-bytes) a-left b-left))

  pub word_differs : (x ≡ y → ⊥) → {r : std.Ordering} → r ≡ nat_cmp x y → ordering r ≡ texts.cmp a b
  word_differs n e = number-order x y e ∙ sym (by_word ∙
      three (compare x y)
      (λ l. rw l)
      (λ s. absurd (n (nat-same x y s)))
      (λ g. rw g))

  pub word_same : x ≡ y → Alike a b n (j + k)
  unfolding word_of
  word_same e =
      let words = sym v.a_word ∙ e ∙ v.b-word in
      let here = words_same k 0 0 (drop j a) (drop j b) (bytes_drop a j w.a-bytes) (bytes_drop b j w.b-bytes) a-left b-left words in
      record {
        a-bytes = w.a-bytes;
        b-bytes = w.b-bytes;
        shorter = w.shorter;
        within = v.fits;
        same = take-add j k a ∙ ap₂ {C = List ℕ} (λ u t. u ++ t) (same-before w j v.low) here.1 ∙ sym (take-add j k b);
      }

-- ---- reading a word

-- the first bytes from i on
first_byte : (s : List ℕ) (i next k : ℕ) → i < length s → i + 1 ≡ next → take (suc k) (drop i s) ≡ get_or s i 0 ∷ take k (drop next s)
first_byte s i next k h e = rw (drop-next s i h, e)

-- a byte is a word of one byte
one : (s : List ℕ) (i : ℕ) → i < length s → get_or s i 0 ≡ word_of (take 1 (drop i s))
unfolding word_of word_after
one s i h = rw (first_byte s i (i + 1) 0 h refl) (omega arith)

module _ {a b : List ℕ} {n i : ℕ} (w : Alike a b n i) (h : i < n) where
  bytes-at : WordsAt w i 1 (get_or a i 0) (get_or b i 0)
  bytes-at = record {
    low = omega arith;
    fits = omega arith;
    a_word = one a i (omega (arith, w.shorter));
    b-word = one b i (omega (arith, w.shorter));
  }

  pub byte_differs :
      (get_or a i 0 ≡ get_or b i 0 → ⊥) → {r : std.Ordering} → r ≡ nat_cmp (get_or a i 0) (get_or b i 0) → ordering r ≡ texts.cmp a b
  byte_differs = word_differs bytes-at

  pub byte-same : get_or a i 0 ≡ get_or b i 0 → Alike a b n (i + 1)
  byte-same = word_same bytes-at

eight :
    (s : List ℕ) (at : ℕ) → at + 8 ≤ length s →
    take 8 (drop at s)
    ≡ get_or s at 0 ∷ get_or s (at + 1) 0 ∷ get_or s (at + 2) 0 ∷ get_or s (at + 3) 0 ∷ get_or s (at + 4) 0 ∷ get_or s (at + 5) 0 ∷ get_or s
    (at + 6) 0 ∷ get_or s
    (at + 7) 0 ∷ []
eight s at h =
    rw (
      first_byte s at (at + 1) 7 (omega arith) refl,
      first_byte s (at + 1) (at + 2) 6 (omega arith) (omega arith),
      first_byte s (at + 2) (at + 3) 5 (omega arith) (omega arith),
      first_byte s (at + 3) (at + 4) 4 (omega arith) (omega arith),
      first_byte s (at + 4) (at + 5) 3 (omega arith) (omega arith),
      first_byte s (at + 5) (at + 6) 2 (omega arith) (omega arith),
      first_byte s (at + 6) (at + 7) 1 (omega arith) (omega arith),
      first_byte s (at + 7) (at + 8) 0 (omega arith) (omega arith),
    )

four :
    (s : List ℕ) (at : ℕ) → at + 4 ≤ length s →
    take 4 (drop at s) ≡ get_or s at 0 ∷ get_or s (at + 1) 0 ∷ get_or s (at + 2) 0 ∷ get_or s (at + 3) 0 ∷ []
four s at h =
    rw (
      first_byte s at (at + 1) 3 (omega arith) refl,
      first_byte s (at + 1) (at + 2) 2 (omega arith) (omega arith),
      first_byte s (at + 2) (at + 3) 1 (omega arith) (omega arith),
      first_byte s (at + 3) (at + 4) 0 (omega arith) (omega arith),
    )

-- what `try_into` takes of the part of n bytes from `at` on
pub chunk : (s : List ℕ) (at n : ℕ) {bytes : List ℕ} → IsWholeChunk (take (at + n - at) (drop at s)) bytes n → bytes ≡ take n (drop at s)
chunk s at n w = w.same ∙ rw (add-sub_cancel_left at n)

-- and what `from_be_bytes` makes of it
module _ (s : List ℕ) (at : ℕ) {bytes : List ℕ} {r : ℕ} where
  pub eight-word :
      at + 8 ≤ length s → IsWholeChunk (take (at + 8 - at) (drop at s)) bytes 8 → r ≡ from_be_bytes w64 bytes →
      r ≡ word_of (take 8 (drop at s))
  unfolding word_of word_after
  eight-word h w e = e ∙ rw (chunk s at 8 w, eight s at h) (omega arith)

  pub four-word :
      at + 4 ≤ length s → IsWholeChunk (take (at + 4 - at) (drop at s)) bytes 4 → r ≡ from_be_bytes w32 bytes →
      r ≡ word_of (take 4 (drop at s))
  unfolding word_of word_after
  four-word h w e = e ∙ rw (chunk s at 4 w, four s at h) (omega arith)

-- ---- bytes whose top bit is clear

high_bit : (a : ℕ) → a < 256 → bit_and a 128 ≡ 0 → a < 128
high_bit a h e =
    ⊎_elim (λ (l : a < 128). l)
    (λ (g : 128 ≤ a).
    let s : a ≡ 1 * 2 ^ 7 + (a - 128) = omega arith in
    let b : bit_and (1 * 2 ^ 7 + (a - 128)) (1 * 2 ^ 7 + 0) ≡ bit_and 1 1 * 2 ^ 7 + bit_and (a - 128) 0 = and_block 7 1 1 (a - 128) 0 (omega arith)
    (omega arith) in
    let o : bit_and a 128 ≡ 1 * 2 ^ 7 + 0 = ap (λ (x : ℕ). bit_and x 128) s ∙ b ∙ ap₂ (λ x y. x * 2 ^ 7 + y) (and_self 1) (and_zero_r (a - 128)) in
    absurd (omega (arith, o, e)))
    (lt-or-ge a 128)

low-bytes :
    (k m n : ℕ) (x : List ℕ) → Bytes x → k ≤ length x →
    bit_and (word_after m (take k x)) (word_after n (replicate k 128)) ≡ 0 → (bit_and m n ≡ 0) × ((j : ℕ) → j < k → get_or x j 0 < 128)
unfolding word_after
low-bytes zero m n x p h e = (e, λ j l. absurd (omega arith))
low-bytes (suc k) m n [] p h e = absurd (omega arith)
low-bytes (suc k) m n (a ∷ x) p h e =
    let s = low-bytes k (256 * m + a) (256 * n + 128) x (λ j. p (suc j)) (omega arith) e in
    let u : 256 * m + a ≡ m * 2 ^ 8 + a = omega arith in
    let v : 256 * n + 128 ≡ n * 2 ^ 8 + 128 = omega arith in
    let b : bit_and m n * 2 ^ 8 + bit_and a 128 ≡ 0 = sym (and_block 8 m n a 128 (p 0) (omega arith)) ∙ ap₂ bit_and (sym u) (sym v) ∙ s.0 in
    (omega (arith, b), low (high_bit a (p 0) (omega (arith, b))) s.1)
  where
    low : a < 128 → ((j : ℕ) → j < k → get_or x j 0 < 128) → (j : ℕ) → j < suc k → get_or (a ∷ x) j 0 < 128
    low h f zero l = h
    low h f (suc j) l = f j (omega arith)

pub all-low :
    (s : List ℕ) (at w : ℕ) → Known s → at + 8 ≤ length s → w ≡ word_of (take 8 (drop at s)) → bit_and w 0x8080808080808080 ≡ 0 →
    (k : ℕ) → k < 8 → get_or s (at + k) 0 < 128
unfolding word_of word_after
all-low s at w p h q e k l =
    rw (← get_or-drop at s k 0)
    ((low-bytes 8 0 0 (drop at s) (bytes_drop s at (known_bytes s p)) (omega (arith, length-drop at s))
    (ap (λ (x : ℕ). bit_and x 0x8080808080808080) (sym q) ∙ e)).1 k l)
