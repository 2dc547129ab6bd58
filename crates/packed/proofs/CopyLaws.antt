-- The laws of copying some bytes at a time, where the last may be written over bytes that stand already.
use mathlib.Core.Path.{◌≡◌, refl, sym, ap, ◌∙◌}
use mathlib.Core.List.{List, [], ◌∷◌, ◌++◌, append_assoc, append-nil}
use Prim.Native.Nat.{ℕ, ◌+◌, ◌-◌, ◌*◌, ◌≤◌, ◌<◌}
use native.Mathlib.Nat.{add-sub_cancel_left}
use native.Mathlib.Omega.{arith}
use lib.ListN.{length, take, drop, get_or, set, length-drop, drop_of_length-le}
use lib.Seq.{sets, sets-eq, length-sets, length-take-le, take-add, take_all, drop-drop}
use borrow.Rule.Slice.PartMut.{put_mid}
use Rattle.std.specs.Array.{IsWholeChunk}
use Rattle.packed.specs.code.Written.{Wrote}
use Rattle.packed.proofs.ReadLaws.{drop-next}
use Rattle.packed.proofs.WordLaws.{chunk}
use Rattle.packed.proofs.WriteLaws.{sets-append, stores-under, wrote-between}

-- what `copy_from_slice` leaves, of the n bytes from position `at` on
pub part-copied :
    (l : List ℕ) (at n : ℕ) {ys new : List ℕ} → at + n ≤ length l → length ys ≡ n → new ≡ ys →
    put_mid at (at + n - at) l new ≡ sets l at ys
part-copied l at n {ys} h e is = rw (is, add-sub_cancel_left at n, sets-eq ys l at (omega arith), e, ← drop-drop n at l, append_assoc)

-- where it copies n bytes that `try_into` took
pub chunk-copied :
    (src out : List ℕ) (from to n : ℕ) {bytes new : List ℕ} → to + n ≤ length out →
    IsWholeChunk (take (from + n - from) (drop from src)) bytes n → new ≡ bytes →
    put_mid to (to + n - to) out new ≡ sets out to (take n (drop from src))
chunk-copied src out from to n h w e =
    let is = chunk src from n w in
    part-copied out to n h (ap length (sym is ∙ w.same) ∙ w.long) (e ∙ is)

-- to write the first j + n bytes of s is to write the first j, and then the n from j on
in_two : (l s : List ℕ) (at j n : ℕ) → j + n ≤ length s → sets l at (take (j + n) s) ≡ sets (sets l at (take j s)) (at + j) (take n (drop j s))
in_two l s at j n h =
    ap (sets l at) (take-add j n s)
    ∙ sets-append l at (take j s) (take n (drop j s))
    ∙ ap (λ (k : ℕ). sets (sets l at (take j s)) (at + k) (take n (drop j s))) (length-take-le j s (omega arith))

-- the first i bytes of s stand in l', from position `at` on, and all else is as in l
pub record Copied (l : List ℕ) (at : ℕ) (s : List ℕ) (i : ℕ) (l' : List ℕ) : Type 0 where
  pub within : i ≤ length s
  pub long : length l' ≡ length l
  pub bytes : l' ≡ sets l at (take i s)

module _ {l s : List ℕ} {at : ℕ} where
  pub copied_none : Copied l at s 0 l
  copied_none = record { within = omega arith; long = refl; bytes = refl }

  -- the n bytes from j on are written: j is i, or before it, where those between the two are written again
  pub copied_more :
      {i m : ℕ} {l₁ l₂ : List ℕ} (j n : ℕ) →
      Copied l at s i l₁ → j ≤ i → i ≤ j + n → j + n ≤ length s → m ≡ j + n → l₂ ≡ sets l₁ (at + j) (take n (drop j s)) →
      Copied l at s m l₂
  copied_more {i} {m} {l₁} {l₂} j n c p q h to e =
      let before = sets l at (take j s) in
      let again = take (i - j) (drop j s) in
      let more = take n (drop j s) in
      let from : j + (i - j) ≡ i = omega arith in
      let was : l₁ ≡ sets before (at + j) again =
      c.bytes ∙ ap (λ (k : ℕ). sets l at (take k s)) (sym from) ∙ in_two l s at j (i - j) (omega arith) in
      let left = length-drop j s in
      let short : length again ≡ i - j = length-take-le (i - j) (drop j s) (omega arith) in
      let long : length more ≡ n = length-take-le n (drop j s) (omega arith) in
      record {
        within = omega arith;
        long = ap length e ∙ length-sets l₁ (at + j) more ∙ c.long;
        bytes =
            e
            ∙ ap (λ (x : List ℕ). sets x (at + j) more) was
            ∙ stores-under before (at + j) more (at + j) again (omega arith) (omega (arith, short, long))
            ∙ sym (in_two l s at j n h)
            ∙ ap (λ (k : ℕ). sets l at (take k s)) (sym to);
      }

  pub copied_byte : {i p : ℕ} {l' : List ℕ} → Copied l at s i l' → i < length s → p ≡ at + i → Copied l at s (i + 1) (set l' p (get_or s i 0))
  copied_byte {i} {p} {l'} c h e =
      let one : get_or s i 0 ∷ [] ≡ take 1 (drop i s) = rw (drop-next s i h) in
      copied_more i 1 c (omega arith) (omega arith) (omega arith) refl (rw e (ap (sets l' (at + i)) one))

  pub copied_all : {i next : ℕ} {l' : List ℕ} → Copied l at s i l' → length s ≤ i → next ≡ at + length s → Wrote l at s l' next
  copied_all {i} c h e = record { bytes = c.bytes ∙ ap (sets l at) (take_all i s h); after = e }

-- the first n bytes are written, and then the last n
pub ends-copied :
    (l s : List ℕ) (at n : ℕ) {l₁ l₂ : List ℕ} → n ≤ length s → length s ≤ 2 * n → l₁ ≡ sets l at (take n s) →
    l₂ ≡ sets l₁ (at + (length s - n)) (take n (drop (length s - n) s)) → l₂ ≡ sets l at s
ends-copied l s at n {l₁} {l₂} h k e f =
    let first : Copied l at s n l₁ = record { within = h; long = ap length e ∙ length-sets l at (take n s); bytes = e } in
    let both : Copied l at s (length s) l₂ = copied_more (length s - n) n first (omega arith) (omega arith) (omega arith) (omega arith) f in
    both.bytes ∙ ap (sets l at) (take_all (length s) s (omega arith))

-- all of l is written over
pub copied-over : {l s : List ℕ} {i : ℕ} {l' : List ℕ} → Copied l 0 s i l' → length s ≤ i → length l ≡ length s → l' ≡ s
copied-over {l} {s} {i} {l'} c h e =
    let ended : length l ≤ length s = omega arith in
    let w : Wrote l 0 s l' (length s) = copied_all c h (omega arith) in
    wrote-between (omega arith) w ∙ ap (λ (r : List ℕ). s ++ r) (drop_of_length-le l ended) ∙ append-nil s
