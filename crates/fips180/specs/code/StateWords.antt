-- The code's struct `State` as the hash value of `Fips`. Assumes nothing.
use Rattle.fips180.specs.Fips.{HashValue}
use Rattle.fips180.specs.declared.State.{State}

abbrev pub words_of : State → HashValue
words_of s = record { a = s.a; b = s.b; c = s.c; d = s.d; e = s.e }
