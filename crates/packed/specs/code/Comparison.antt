use Rattle.std.specs.Prelude.{Bool, true, false}
use Prim.Native.Nat as nat
use Rattle.model.specs.Order.{Text, texts, pick}
use Rattle.std.specs.declared.cmp.Ordering.{Ordering}
use Rattle.std.specs.declared.cmp.Ordering.TheVariants.{Less, Equal, Greater}

-- the answer of a comparison, as orders give it
abbrev pub ordering : Ordering → nat.Ordering
ordering Less = Prim.Native.Nat.Ordering.lt
ordering Equal = Prim.Native.Nat.Ordering.eq
ordering Greater = Prim.Native.Nat.Ordering.gt

-- the first comes before the second
abbrev pub precedes : Text → Text → Bool
precedes a b = pick (texts.cmp a b) true false false
