-- The bytes of each word in turn.
use Rattle.std.proofs.Common.{div-one}
use Rattle.fips180.specs.Fips.{digest, big_endian}
use Rattle.fips180.proofs.digest_of.Goals as goal

pub returns : goal.returns
unfolding digest big_endian
returns c =
    simp (
      c.copy_from_slice.ensures.after,
      c.to_be_bytes.ensures,
      c.copy_from_slice-2.ensures.after,
      c.to_be_bytes-2.ensures,
      c.copy_from_slice-3.ensures.after,
      c.to_be_bytes-3.ensures,
      c.copy_from_slice-4.ensures.after,
      c.to_be_bytes-4.ensures,
      c.copy_from_slice-5.ensures.after,
      c.to_be_bytes-5.ensures,
      div-one,
    )
