-- Laws of the definitions of `specs/Fips.antt`. Assumes nothing.
use Rattle.std.proofs.Common.{◌≡◌, ℕ, zero, suc, ◌+◌, ◌-◌, ◌*◌, ◌/◌, ◌%◌, ◌^◌, ◌<◌, ◌≤◌, List, []}
use Rattle.std.proofs.Common.{◌∷◌, ◌++◌, length, get_or, take, drop, set, replicate, sym, refl, ap, ◌∙◌, ap₂, add-zero, add-suc}
use Rattle.std.proofs.Common.{add-one, div-one, arith, append_assoc, length-append, length-drop, take_all}
use Rattle.std.proofs.Common.{get_or-take, take-suc-set, le-ltb, lt-ltb}
use Rattle.std.proofs.lemmas.List.{append-nil, take_at, drop_at, take-append-le, drop-append-le, length-replicate, replicate-append-replicate}
use Rattle.std.proofs.lemmas.List.{take-replicate, drop-replicate}
use Rattle.std.proofs.Math.Seq.{drop-append-add}
use Rattle.std.specs.Int.{w32, w64, div_ceil, to_be_bytes}
use native.Mathlib.Nat.{add-sub_cancel_left}
use borrow.Rule.Slice.PartMut.{put_mid}
use Rattle.std.proofs.lemmas.Nat.Bits.{same_from_bits_below, bit_at-lt, bit_at_and, bit_at_xor, bit_at_not}
use lib.Bits.{bit_and, bit_xor, and_le_l, xor_lt}
use Rattle.fips180.specs.Fips.{HashValue, plus, complement, Ch, zeros, big_endian, padded, block, word_at, W, ROTL, schedule, round, rounds, compressed, hash}
use Rattle.fips180.specs.Fips.{digest, sha1_of}

same_at : (n : ℕ) (a b : List ℕ) → take n a ≡ take n b → (k : ℕ) → k < n → get_or a k 0 ≡ get_or b k 0
same_at n a b e k h = sym (get_or-take n a k 0 h) ∙ ap (λ (l : List ℕ). get_or l k 0) e ∙ get_or-take n b k 0 h

length-big_endian : (k n : ℕ) → length (big_endian k n) ≡ k
unfolding big_endian
length-big_endian zero n = refl
length-big_endian (suc k) n = ap suc (length-big_endian k n)

-- the library's eight bytes of a length
big_endian-length : (n : ℕ) → to_be_bytes w64 n ≡ big_endian 8 n
unfolding big_endian
big_endian-length n = simp div-one

pub length-padded : (m : List ℕ) → length (padded m) ≡ length m + (1 + zeros (length m)) + 8
unfolding padded
length-padded m = simp (length-append, length-big_endian, length-replicate) (omega arith)

-- the message, the byte 0x80 and the zeros
front : List ℕ → List ℕ
front m = m ++ (0x80 ∷ replicate (zeros (length m)) 0)

length_front : (m : List ℕ) → length (front m) ≡ length m + (1 + zeros (length m))
unfolding front
length_front m = simp (length-append, length-replicate) (omega arith)

pub padded-most : (m : List ℕ) → length (padded m) ≤ length m + 72
unfolding zeros
padded-most m = omega (arith, length-padded m)

within : (xs ys : List ℕ) (n : ℕ) → n + 64 ≤ length xs → take 64 (drop n (xs ++ ys)) ≡ take 64 (drop n xs)
within xs ys n h =
    ap (take 64) (drop-append-le n xs ys (omega arith)) ∙ take-append-le 64 (drop n xs) ys (omega (arith, length-drop n xs))

-- a block that lies in the message, as the code takes it
pub block_in : (m : List ℕ) (i : ℕ) → 64 * i + 64 ≤ length m → take (64 * i + 64 - 64 * i) (drop (64 * i) m) ≡ block (padded m) i
unfolding block padded front
block_in m i h =
    ap (λ (n : ℕ). take n (drop (64 * i) m)) (add-sub_cancel_left (64 * i) 64)
    ∙ sym (within (front m) (big_endian 8 (8 * length m)) (64 * i) (omega (arith, length_front m))
    ∙ within m (0x80 ∷ replicate (zeros (length m)) 0) (64 * i) h)

-- a block is taken into the hash value as it is made
pub compressed-of : (s : HashValue) {b m : List ℕ} {r : HashValue} → r ≡ compressed b s → b ≡ m → r ≡ compressed m s
compressed-of s e is = e ∙ ap (λ (x : List ℕ). compressed x s) is

-- the padded message before its length is written
pub unfinished : List ℕ → List ℕ
unfinished m = m ++ (0x80 ∷ replicate (zeros (length m) + 8) 0)

unfinished_block : (m : List ℕ) (i : ℕ) → block (unfinished m) i ≡ take 64 (drop (64 * i) (front m ++ replicate 8 0))
unfolding block unfinished front
unfinished_block m i =
    let z : ℕ = zeros (length m) in
    ap (λ (l : List ℕ). take 64 (drop (64 * i) (m ++ (0x80 ∷ l)))) (sym (replicate-append-replicate z 8 0))
    ∙ ap (λ (l : List ℕ). take 64 (drop (64 * i) l)) (sym (append_assoc m (0x80 ∷ replicate z 0) (replicate 8 0)))

-- the byte 0x80 stored after what is left of the message, where zeros stand
closed :
    (left : List ℕ) (n z : ℕ) → length left < n → n ≤ length left + suc z →
    set (left ++ drop (length left) (replicate n 0)) (length left) 0x80 ≡ take n (left ++ (0x80 ∷ replicate z 0))
closed left zero z room far = absurd (omega arith)
closed [] (suc n) z room far = ap (λ (l : List ℕ). 0x80 ∷ l) (sym (take-replicate n z 0 (omega arith)))
closed (x ∷ left) (suc n) z room far = ap (λ (l : List ℕ). x ∷ l) (closed left n z (omega arith) (omega arith))

-- block i as the code makes it, where it ends past the message: first without the length, then with it where it is the last
module _ (m : List ℕ) (i : ℕ) (room : 64 * i + 64 ≤ length (padded m)) (past : length m < 64 * i + 64) where
  pub begun-message :
      (new made : List ℕ) → 64 * i ≤ length m → new ≡ take (length m - 64 * i) (drop (64 * i) m) →
      made ≡ set (new ++ drop (length m - 64 * i) (replicate 64 0)) (length m - 64 * i) 0x80 → made ≡ block (unfinished m) i
  unfolding block unfinished
  begun-message new made h copied e =
      let left : List ℕ = drop (64 * i) m in
      let z : ℕ = zeros (length m) + 8 in
      let long : length left ≡ length m - 64 * i = length-drop (64 * i) m in
      let whole : new ≡ left = copied ∙ take_all (length m - 64 * i) left (omega arith) in
      e ∙ ap₂ (λ (l : List ℕ) (n : ℕ). set (l ++ drop n (replicate 64 0)) n 0x80) whole (sym long)
      ∙ closed left 64 z (omega arith) (omega (arith, length-padded m))
      ∙ sym (ap (take 64) (drop-append-le (64 * i) m (0x80 ∷ replicate z 0) h))

  pub begun-zeros : (made : List ℕ) → length m < 64 * i → made ≡ replicate 64 0 → made ≡ block (unfinished m) i
  unfolding block unfinished
  begun-zeros made h e =
      let z : ℕ = zeros (length m) + 8 in
      let d : ℕ = 64 * i - length m - 1 in
      let start : 64 * i ≡ length m + suc d = omega arith in
      e ∙ sym (
      ap (λ (n : ℕ). take 64 (drop n (m ++ (0x80 ∷ replicate z 0)))) start
      ∙ ap (take 64) (drop-append-add m (0x80 ∷ replicate z 0) (suc d) ∙ drop-replicate d z 0)
      ∙ take-replicate 64 (z - d) 0 (omega (arith, length-padded m)))

  pub ended-last :
      (made bytes : List ℕ) → length m < 64 * i + 56 → made ≡ block (unfinished m) i → bytes ≡ to_be_bytes w64 (8 * length m) →
      put_mid 56 8 made bytes ≡ block (padded m) i
  unfolding block padded front zeros
  ended-last made bytes h e written =
      let begun : List ℕ = drop (64 * i) (front m) in
      let number : List ℕ = big_endian 8 (8 * length m) in
      let last : 64 * i + 56 ≡ length (front m) = omega (arith, length_front m, length-padded m) in
      let within : 64 * i ≤ length (front m) = omega arith in
      let long : length begun ≡ 56 = omega (arith, length-drop (64 * i) (front m)) in
      let before : made ≡ begun ++ replicate 8 0 =
      e ∙ unfinished_block m i ∙ ap (take 64) (drop-append-le (64 * i) (front m) (replicate 8 0) within)
      ∙ take_all 64 (begun ++ replicate 8 0) (omega (arith, length-append begun (replicate 8 0))) in
      let put : put_mid 56 8 (begun ++ replicate 8 0) number ≡ begun ++ number =
      ap₂ (λ (l r : List ℕ). l ++ (number ++ drop 8 r)) (take_at begun (replicate 8 0) 56 long) (drop_at begun (replicate 8 0) 56 long)
      ∙ ap (λ (l : List ℕ). begun ++ l) (append-nil number) in
      ap₂ (put_mid 56 8) before (written ∙ big_endian-length (8 * length m)) ∙ put
      ∙ sym (ap (take 64) (drop-append-le (64 * i) (front m) number within)
      ∙ take_all 64 (begun ++ number) (omega (arith, length-append begun number, length-big_endian 8 (8 * length m))))

  pub ended-before : (made : List ℕ) → 64 * i + 56 ≤ length m → made ≡ block (unfinished m) i → made ≡ block (padded m) i
  unfolding block padded front zeros
  ended-before made h e =
      let fits : 64 * i + 64 ≤ length (front m) = omega (arith, length_front m, length-padded m) in
      e ∙ unfinished_block m i ∙ within (front m) (replicate 8 0) (64 * i) fits
      ∙ sym (within (front m) (big_endian 8 (8 * length m)) (64 * i) fits)

-- word t stored after those below it
schedule-more :
    (m w : List ℕ) (t v : ℕ) → t < length w → take t w ≡ schedule m t → v ≡ W m (schedule m t) t →
    take (t + 1) (set w t v) ≡ schedule m (t + 1)
unfolding schedule
schedule-more m w t v h e ev =
    rw add-one (take-suc-set w t v h ∙ ap₂ (λ (l : List ℕ) (x : ℕ). l ++ (x ∷ [])) e ev)

pub length-schedule : (m : List ℕ) (n : ℕ) → length (schedule m n) ≡ n
unfolding schedule
length-schedule m zero = refl
length-schedule m (suc n) = simp (length-append, length-schedule m n) (omega arith)

-- the first k words of the schedule do not depend on how many follow
pub schedule-take : (m : List ℕ) (k d : ℕ) → take k (schedule m (k + d)) ≡ schedule m k
unfolding schedule
schedule-take m k zero = ap (λ (n : ℕ). take k (schedule m n)) (add-zero k) ∙ take_all k (schedule m k) (omega (arith, length-schedule m k))
schedule-take m k (suc d) =
    ap (λ (n : ℕ). take k (schedule m n)) (add-suc k d)
    ∙ take-append-le k (schedule m (k + d)) (W m (schedule m (k + d)) (k + d) ∷ []) (omega (arith, length-schedule m (k + d)))
    ∙ schedule-take m k d

W-low : (m ws : List ℕ) (t : ℕ) → t < 16 → word_at m (4 * t) ≡ W m ws t
unfolding W
W-low m ws t h = simp (lt-ltb t 16 h)

W-high : (m w : List ℕ) (t : ℕ) → 16 ≤ t → take t w ≡ schedule m t
    → ROTL 1 (bit_xor (bit_xor (bit_xor (get_or w (t - 3) 0) (get_or w (t - 8) 0)) (get_or w (t - 14) 0)) (get_or w (t - 16) 0)) ≡ W m (schedule m t) t
unfolding W
W-high m w t h e =
    let back : (k : ℕ) → k < t → get_or w k 0 ≡ get_or (schedule m t) k 0 = same_at t w (schedule m t)
    (e ∙ sym (take_all t (schedule m t) (omega (arith, length-schedule m t)))) in
    rw (le-ltb t 16 h, back (t - 3) (omega arith), back (t - 8) (omega arith), back (t - 14) (omega arith), back (t - 16) (omega arith))

-- a word of the block stored, and one that follows from those before it
pub schedule_low :
    (m w : List ℕ) (t v : ℕ) → t < 16 → t < length w → take t w ≡ schedule m t → v ≡ word_at m (4 * t) →
    take (t + 1) (set w t v) ≡ schedule m (t + 1)
schedule_low m w t v low h e ev = schedule-more m w t v h e (ev ∙ W-low m (schedule m t) t low)

pub schedule_high :
    (m w : List ℕ) (t v : ℕ) → 16 ≤ t → t < length w → take t w ≡ schedule m t →
    v ≡ ROTL 1 (bit_xor (bit_xor (bit_xor (get_or w (t - 3) 0) (get_or w (t - 8) 0)) (get_or w (t - 14) 0)) (get_or w (t - 16) 0)) →
    take (t + 1) (set w t v) ≡ schedule m (t + 1)
schedule_high m w t v high h e ev = schedule-more m w t v h e (ev ∙ W-high m w t high e)

-- Ch with one operation less than FIPS 180-4 writes: of each bit, y where x is 1 and z where x is 0. Only those bits of y
-- count that x has, so y need not be a word.
pub Ch_chosen : (x y z : ℕ) → x < 2 ^ 32 → z < 2 ^ 32 → bit_xor z (bit_and x (bit_xor y z)) ≡ Ch x y z
unfolding Ch complement
Ch_chosen x y z hx hz =
    let and_word : (a b : ℕ) → a < 2 ^ 32 → bit_and a b < 2 ^ 32 = λ a b h. omega (arith, and_le_l a b) in
    same_from_bits_below 32 _ _ (xor_lt 32 _ _ hz (and_word _ _ hx)) (xor_lt 32 _ _ (and_word _ _ hx) (and_word _ _ (omega arith))) (λ i h.
    simp (bit_at_xor, bit_at_and, bit_at_not w32 x i hx h) (omega (arith, bit_at-lt x i, bit_at-lt y i, bit_at-lt z i)))

plus-rest : (x y : ℕ) → (x % 2 ^ 32 + y) % 2 ^ 32 ≡ (x + y) % 2 ^ 32
plus-rest x y = omega arith

-- the sum of a round in the order of the code
pub sum_order : (r f e k w : ℕ) → plus (plus (plus (plus e k) w) f) r ≡ plus (plus (plus (plus r f) e) k) w
unfolding plus
sum_order r f e k w = simp plus-rest (ap (λ (n : ℕ). n % 2 ^ 32) (omega arith))

-- a round more, with words of which those below n are known
pub rounds-more :
    (w ws : List ℕ) (n t : ℕ) (s r q : HashValue) → t < n → take n w ≡ take n ws → r ≡ rounds ws t s → q ≡ round t (get_or w t 0) r →
    q ≡ rounds ws (t + 1) s
unfolding rounds
rounds-more w ws n t s r q h words e is = rw add-one (is ∙ ap₂ (round t) (same_at n w ws words t h) e)

-- a block more
pub hash-more : (p : List ℕ) (i : ℕ) (s r : HashValue) → s ≡ hash p i → r ≡ compressed (block p i) s → r ≡ hash p (i + 1)
unfolding hash
hash-more p i s r e is = rw add-one (is ∙ ap (compressed (block p i)) e)

-- how many blocks the code reads
pub blocks_of : (m : List ℕ) → div_ceil (length m + 9) 64 ≡ length (padded m) / 64
unfolding zeros
blocks_of m = omega (arith, length-padded m)

pub length-sha1_of : (m : List ℕ) → length (sha1_of m) ≡ 20
unfolding sha1_of digest big_endian
length-sha1_of m = refl
