use Rattle.std.proofs.Common.{◌≡◌, drop}
use Rattle.model.specs.Order.{texts}
use Rattle.packed.specs.code.Strings.{string_of}
use Rattle.packed.proofs.strings.compare_strings.Given as goal

-- the strings compare as they do from byte i on
abbrev pub invariant-loop-i : goal.invariant-loop-i
invariant-loop-i l =
    let x = string_of l.a l.b l.x in
    let y = string_of l.a l.b l.y in
    texts.cmp x y ≡ texts.cmp (drop l.i x) (drop l.i y)
