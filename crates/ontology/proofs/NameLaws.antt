-- The laws of names: their bytes, how many, and their order.
use mathlib.Core.Path.{◌≡◌, refl, sym, ap, ◌∙◌}
use mathlib.Core.Bool.{Bool, true, false, ◌&&◌}
use mathlib.Core.List.{List, [], ◌∷◌}
use Prim.Native.Nat.{ℕ, ◌+◌, ◌-◌, ◌≤◌, ◌<◌, Ordering}
use native.Mathlib.Omega.{arith}
use lib.ListN.{length, drop, get_or}
use lib.Seq.{get_or-take, get_or-drop}
use lib.Dec.{ltb, leb}
use borrow.Author.Tests.{leb-true, ltb-true, ltb-false}
use Rattle.model.specs.Order.{Text, pick}
use Rattle.model.proofs.Cases.{and_parts}
use Rattle.packed.specs.Parse.{fail, such_that}
use Rattle.packed.specs.Packed.{read_text, part}
use Rattle.packed.specs.code.Located.{text_at, Got, NameReads}
use Rattle.packed.specs.code.Comparison.{precedes}
use Rattle.packed.proofs.OrderLaws.{order-less, order-more}
use Rattle.packed.proofs.ReadLaws.{TextStops, text-stops, text-none, to_end, part_length}
use Rattle.packed.proofs.FieldLaws.{such_got, such-fail, such-none}
use Rattle.ontology.specs.Table.{is_letter, are_name_bytes, is_name, is_name_within}
use Rattle.std.specs.Prelude.{Some, None}
use Rattle.std.specs.Bool.{then_some}
use Rattle.packed.specs.declared.read.TextAt.{TextAt}

-- ---- how long a name is

-- a name has a byte, and at most so many
pub name-length : (most : ℕ) (v : Text) → is_name_within most v ≡ true → (1 ≤ length v) × (length v ≤ most)
unfolding is_name_within is_name
name-length most v e = let b = and_parts (is_name v) (leb (length v) most) e in (go v b.0, leb-true (length v) most b.1)
  where
    go : (v : Text) → is_name v ≡ true → 1 ≤ length v
    go [] e = let z : ◌≡◌ {A = ℕ} 0 1 = cc in absurd (omega arith)
    go (b ∷ v) e = omega arith

-- what `read_text` promises of each of its answers
pub text-read : {s : List ℕ} {at : ℕ} {x : TextAt} → Some x ≡ text_at s at → TextStops s at x.start x.end
text-read {s} {at} {x} h = text-stops s at x (sym h)

pub name-unread : (s : List ℕ) (at most : ℕ) → None ≡ text_at s at → such_that (is_name_within most) read_text (drop at s) ≡ fail
name-unread s at most h = such-none (is_name_within most) read_text s at (text-none s at (sym h))

-- a text that was read is a name, or it is none
pub name-reads :
    {s : List ℕ} {at : ℕ} (most : ℕ) {x : TextAt} {b : Bool} → TextStops s at x.start x.end → b ≡ is_name_within most (part s x.start x.end) →
    NameReads (such_that (is_name_within most) read_text (drop at s)) s at (then_some b x)
name-reads {s} {at} most {x} {b} w told = go b told
  where
    text-got : Got (read_text (drop at s)) s at (part s x.start x.end) x.end
    text-got = record { is = w.is; after = omega (arith, w.after, w.order); within = w.within }

    go :
        (b : Bool) → b ≡ is_name_within most (part s x.start x.end) →
        NameReads (such_that (is_name_within most) read_text (drop at s)) s at (then_some b x)
    go true told = record { stops = such_got (is_name_within most) read_text s at text-got (sym told); order = w.order }
    go false told = such-fail (is_name_within most) read_text s at text-got (sym told)

-- ---- the order of two names

first_byte : (s : List ℕ) (a e : ℕ) → a < e → get_or (part s a e) 0 0 ≡ get_or s a 0
first_byte s a e h =
    get_or-take (e - a) (drop a s) 0 0 (omega arith) ∙ get_or-drop a s 0 0 ∙ ap (λ (i : ℕ). get_or s i 0) (let z : a + 0 ≡ a = omega arith in z)

-- two first bytes that differ decide it
module _ (s : List ℕ) (a e b f : ℕ) (h : a < e) (k : e ≤ length s) (l : b < f) (m : f ≤ length s) where
  abbrev one : List ℕ
  one = part s a e

  abbrev other : List ℕ
  other = part s b f

  some_one : 0 < length one
  some_one = omega (arith, part_length s a e (omega arith) k)

  some-other : 0 < length other
  some-other = omega (arith, part_length s b f (omega arith) m)

  pub first-decides : (get_or s a 0 ≡ get_or s b 0 → ⊥) → ltb (get_or s a 0) (get_or s b 0) ≡ precedes one other
  first-decides n = go (ltb (get_or s a 0) (get_or s b 0)) refl
    where
      go : (t : Bool) → ltb (get_or s a 0) (get_or s b 0) ≡ t → t ≡ precedes one other
      go true q =
          let less = ltb-true (get_or s a 0) (get_or s b 0) q in
          let first : get_or one 0 0 < get_or other 0 0 = omega (arith, less, first_byte s a e h, first_byte s b f l) in
          sym (ap (λ (o : Ordering). pick o true false false) (order-less one other 0 some_one some-other first))
      go false q =
          let more = ltb-false (get_or s a 0) (get_or s b 0) q in
          let first : get_or other 0 0 < get_or one 0 0 = omega (arith, more, n, first_byte s a e h, first_byte s b f l) in
          sym (ap (λ (o : Ordering). pick o true false false) (order-more one other 0 some_one some-other first))

-- ---- names, from their second byte on

module _ (most : ℕ) where
  pub name_empty : (v : List ℕ) → length v ≡ 0 → false ≡ is_name_within most v
  unfolding is_name_within is_name
  name_empty [] h = refl
  name_empty (b ∷ v) h = absurd (omega arith)

  pub name-parts :
      (v : List ℕ) → 0 < length v →
      is_name_within most v ≡ (is_letter (get_or v 0 0) && are_name_bytes (part v 1 (length v)) && leb (length v) most)
  unfolding is_name_within is_name
  name-parts [] h = absurd (omega arith)
  name-parts (b ∷ v) h = rw (to_end (b ∷ v) 1) refl
