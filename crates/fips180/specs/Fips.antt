-- SHA-1 as FIPS 180-4 defines it, on lists of bytes. A byte is a number below 2 ^ 8, a word one below 2 ^ 32.
-- The section numbers are those of FIPS 180-4, and so are the names where it has one. Assumes nothing.
use Rattle.std.specs.Prelude.{ℕ, zero, suc, ◌+◌, ◌-◌, ◌*◌, ◌/◌, ◌%◌, ◌^◌, Bool, true, false}
use Rattle.std.specs.Prelude.{List, [], ◌∷◌, ◌++◌, length, take, drop, replicate, bit_and, bit_or, bit_xor, nat_lt, slice_index}

abbrev pub pick : Bool → ℕ → ℕ → ℕ
pick true x y = x
pick false x y = y

-- FIPS 180-4, 3.2, 2: addition modulo 2 ^ 32
unfoldable pub plus : ℕ → ℕ → ℕ
plus x y = (x + y) % 2 ^ 32

-- FIPS 180-4, 3.2, 1: the bitwise complement of a word
unfoldable pub complement : ℕ → ℕ
complement x = 2 ^ 32 - 1 - x

-- FIPS 180-4, 3.2, 5: the rotation of the word x to the left by n, below 32
unfoldable pub ROTL : ℕ → ℕ → ℕ
ROTL n x = bit_or (x * 2 ^ n % 2 ^ 32) (x / 2 ^ (32 - n))

-- FIPS 180-4, 4.1.1: Ch, Parity and Maj, and the function of round t: Ch for t from 0 to 19, Parity from 20 to 39, Maj from
-- 40 to 59, Parity from 60 to 79
unfoldable pub Ch : ℕ → ℕ → ℕ → ℕ
Ch x y z = bit_xor (bit_and x y) (bit_and (complement x) z)

unfoldable pub Parity : ℕ → ℕ → ℕ → ℕ
Parity x y z = bit_xor (bit_xor x y) z

unfoldable pub Maj : ℕ → ℕ → ℕ → ℕ
Maj x y z = bit_xor (bit_xor (bit_and x y) (bit_and x z)) (bit_and y z)

unfoldable pub f : ℕ → ℕ → ℕ → ℕ → ℕ
f t x y z = pick (nat_lt t 20) (Ch x y z) (pick (nat_lt t 40) (Parity x y z) (pick (nat_lt t 60) (Maj x y z) (Parity x y z)))

-- FIPS 180-4, 4.2.1: the constant of round t
unfoldable pub K : ℕ → ℕ
K t = pick (nat_lt t 20) 0x5a82_7999 (pick (nat_lt t 40) 0x6ed9_eba1 (pick (nat_lt t 60) 0x8f1b_bcdc 0xca62_c1d6))

-- FIPS 180-4, 3.1: the number n as k bytes, the highest first
unfoldable pub big_endian : ℕ → ℕ → List ℕ
big_endian zero n = []
big_endian (suc k) n = n / 2 ^ (8 * k) % 2 ^ 8 ∷ big_endian k n

-- FIPS 180-4, 5.1.1: a message of n bytes, the bit 1 as the byte 0x80, zero bytes and eight bytes of length fill whole blocks of
-- 64 bytes. This is the least count of zero bytes that does.
unfoldable pub zeros : ℕ → ℕ
zeros n = (119 - n % 64) % 64

-- FIPS 180-4, 5.1.1: the padded message; its last eight bytes are the length of m in bits
unfoldable pub padded : List ℕ → List ℕ
padded m = m ++ (0x80 ∷ replicate (zeros (length m)) 0) ++ big_endian 8 (8 * length m)

-- FIPS 180-4, 5.2.1: block i of the padded message p, counted from 0, and the word whose first byte stands at k in a block
unfoldable pub block : List ℕ → ℕ → List ℕ
block p i = take 64 (drop (64 * i) p)

unfoldable pub word_at : List ℕ → ℕ → ℕ
word_at m k = slice_index m k * 2 ^ 24 + slice_index m (k + 1) * 2 ^ 16 + slice_index m (k + 2) * 2 ^ 8 + slice_index m (k + 3)

-- FIPS 180-4, 2.2.1: the five words of a hash value, under the names of the working variables that become it
pub record HashValue : Type 0 where
  pub a : ℕ
  pub b : ℕ
  pub c : ℕ
  pub d : ℕ
  pub e : ℕ

-- FIPS 180-4, 5.3.1: the initial hash value
unfoldable pub H0 : HashValue
H0 = record { a = 0x6745_2301; b = 0xefcd_ab89; c = 0x98ba_dcfe; d = 0x1032_5476; e = 0xc3d2_e1f0 }

-- FIPS 180-4, 6.1.2, step 1: word t of the message schedule of the block m, from the words ws before it
unfoldable pub W : List ℕ → List ℕ → ℕ → ℕ
W m ws t =
    pick (nat_lt t 16) (word_at m (4 * t))
    (ROTL 1 (bit_xor (bit_xor (bit_xor (slice_index ws (t - 3)) (slice_index ws (t - 8))) (slice_index ws (t - 14))) (slice_index ws (t - 16))))

-- the first n words of the message schedule of the block m
unfoldable pub schedule : List ℕ → ℕ → List ℕ
schedule m zero = []
schedule m (suc t) = let ws = schedule m t in ws ++ (W m ws t ∷ [])

-- FIPS 180-4, 6.1.2, step 3: round t, with the word w of the message schedule; its sum is T
unfoldable pub round : ℕ → ℕ → HashValue → HashValue
round t w s =
    record { a = plus (plus (plus (plus (ROTL 5 s.a) (f t s.b s.c s.d)) s.e) (K t)) w; b = s.a; c = ROTL 30 s.b; d = s.c; e = s.d }

-- the rounds below n, with the words ws
unfoldable pub rounds : List ℕ → ℕ → HashValue → HashValue
rounds ws zero s = s
rounds ws (suc t) s = round t (slice_index ws t) (rounds ws t s)

-- FIPS 180-4, 6.1.2, step 4: the sums of the hash value s before the block and the working variables r after its rounds
unfoldable pub sum : HashValue → HashValue → HashValue
sum s r = record { a = plus r.a s.a; b = plus r.b s.b; c = plus r.c s.c; d = plus r.d s.d; e = plus r.e s.e }

-- FIPS 180-4, 6.1.2, steps 1 to 4: the hash value after the block m, from the hash value s before it
unfoldable pub compressed : List ℕ → HashValue → HashValue
compressed m s = sum s (rounds (schedule m 80) 80 s)

-- FIPS 180-4, 6.1.2: the hash value after the blocks below n of the padded message p
unfoldable pub hash : List ℕ → ℕ → HashValue
hash p zero = H0
hash p (suc i) = let s = hash p i in compressed (block p i) s

-- FIPS 180-4, 6.1.2, at its end: the message digest of the last hash value
unfoldable pub digest : HashValue → List ℕ
digest s = big_endian 4 s.a ++ big_endian 4 s.b ++ big_endian 4 s.c ++ big_endian 4 s.d ++ big_endian 4 s.e

-- FIPS 180-4, 6.1: SHA-1 of the message m
unfoldable pub sha1_of : List ℕ → List ℕ
sha1_of m = digest (hash (padded m) (length (padded m) / 64))
