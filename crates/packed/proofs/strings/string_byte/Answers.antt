-- Each return is the law of the part that byte i stands in, before, at or past the colon.
use Rattle.std.proofs.Common.{arith, sym}
use Rattle.packed.proofs.StringLaws.{string-length, string-first, string-colon, string-second}
use Rattle.packed.proofs.strings.string_byte.Goals as goal

pub overflow_add-result-else-i-n-2 : goal.overflow_add-result-else-i-n-2
overflow_add-result-else-i-n-2 c = omega (arith, string-length _ _ _ c.requires.0, c.requires.0, c.requires.1)

pub bounds-b-x : goal.bounds-b-x
bounds-b-x c = omega (arith, string-length _ _ _ c.requires.0, c.requires.0, c.requires.1)

pub returns-then-i-n : goal.returns-then-i-n
returns-then-i-n c = sym (string-first _ _ _ c.requires.0 _ c.if-i-n.true)

pub returns-then-i-n-2 : goal.returns-then-i-n-2
returns-then-i-n-2 c = sym (string-colon _ _ _ c.requires.0 _ c.if-i-n-2.true)

pub returns-else-i-n-2 : goal.returns-else-i-n-2
returns-else-i-n-2 c = sym (string-second _ _ _ c.requires.0 _ (omega arith) c.requires.1)
