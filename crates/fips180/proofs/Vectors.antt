-- Computed examples of `Fips`: the digests of the empty message and of "abc", and that `zeros` is the least filling. Assumes nothing.
use Rattle.std.proofs.Common.{◌≡◌, ℕ, ◌+◌, ◌%◌, ◌<◌, [], ◌∷◌, refl, arith}
use Rattle.fips180.specs.Fips.{plus, complement, ROTL, Ch, Parity, Maj, f, K, zeros, big_endian, padded, block, word_at, H0, W, schedule, round, rounds, sum}
use Rattle.fips180.specs.Fips.{compressed, hash, digest, sha1_of}

pub zeros-fill : (n : ℕ) → ((n + 1 + zeros n + 8) % 64 ≡ 0) × (zeros n < 64)
unfolding zeros
zeros-fill n = omega arith

pub empty : sha1_of [] ≡
    0xda ∷ 0x39 ∷ 0xa3 ∷ 0xee ∷ 0x5e ∷ 0x6b ∷ 0x4b ∷ 0x0d ∷ 0x32 ∷ 0x55 ∷ 0xbf ∷ 0xef ∷ 0x95 ∷ 0x60 ∷ 0x18 ∷ 0x90 ∷ 0xaf
    ∷ 0xd8 ∷ 0x07 ∷ 0x09 ∷ []
unfolding sha1_of digest hash compressed sum rounds round schedule W H0 word_at block padded big_endian zeros K f Maj Parity Ch ROTL complement plus
empty = refl

pub abc : sha1_of (97 ∷ 98 ∷ 99 ∷ []) ≡
    0xa9 ∷ 0x99 ∷ 0x3e ∷ 0x36 ∷ 0x47 ∷ 0x06 ∷ 0x81 ∷ 0x6a ∷ 0xba ∷ 0x3e ∷ 0x25 ∷ 0x71 ∷ 0x78 ∷ 0x50 ∷ 0xc2 ∷ 0x6c ∷ 0x9c
    ∷ 0xd0 ∷ 0xd8 ∷ 0x9d ∷ []
unfolding sha1_of digest hash compressed sum rounds round schedule W H0 word_at block padded big_endian zeros K f Maj Parity Ch ROTL complement plus
abc = refl
