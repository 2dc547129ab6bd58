-- The examples of `IdentityExamples`, computed.
use mathlib.Core.Path.{refl}
use Rattle.theorems.specs.IdentityExamples.{IdentityExamples}
use Rattle.theorems.proofs.Computing.{computing}

pub identity-examples : IdentityExamples
unfolding computing
identity-examples = record {
  joined-by_lines = record { makes_of_s = refl; makes_of_r = refl; hash_text_of_s = refl; hash_text_of_r = refl; differ = refl };
  without-names = record { makes_of_s = refl; makes_of_r = refl; hash_text_of_s = refl; hash_text_of_r = refl; differ = refl };
  line-end = refl;
  colon-text = refl;
  colon = refl;
}
