-- The laws of writing the strings of objects.
use mathlib.Core.Path.{◌≡◌, refl, sym, ap, ◌∙◌, subst}
use mathlib.Core.List.{List, [], ◌∷◌, ◌++◌, append_assoc, append-nil}
use Prim.Native.Nat.{ℕ, ◌+◌, ◌≤◌, ◌<◌}
use native.Mathlib.Omega.{arith}
use lib.ListN.{length, drop, get_or, length-append, drop_of_length-le}
use Rattle.model.specs.Order.{Text}
use Rattle.packed.specs.Packed.{part}
use Rattle.packed.specs.code.Strings.{string_of, strings_of, StringFits, no_string, string_in, strings_in, StringsFit}
use Rattle.packed.specs.code.Written.{Wrote, ToGo}
use Rattle.packed.specs.declared.strings.StringAt.{StringAt}
use Rattle.packed.proofs.StringLaws.{drop-next, strings-length, string-at}
use Rattle.packed.proofs.StringPlaceLaws.{string-taken}
use Rattle.packed.proofs.WriteLaws.{wrote-length, wrote_then, to-go, gone, all-gone}
use Rattle.hashing.specs.HashText.{separator, separated}

-- ---- one string

pub string-parts :
    (table event : List ℕ) (x : StringAt) →
    length (string_of table event x) ≡ length (part table x.first x.colon) + 1 + length (part event x.second x.end)
unfolding string_of
string-parts table event x = simp length-append (omega arith)

pub wrote-string :
    (table event : List ℕ) (x : StringAt) {l l₁ l₂ l₃ : List ℕ} {at b c d : ℕ} → Wrote l at (part table x.first x.colon) l₁ b →
    Wrote l₁ b (58 ∷ []) l₂ c → Wrote l₂ c (part event x.second x.end) l₃ d → Wrote l at (string_of table event x) l₃ d
unfolding string_of
wrote-string table event x p q r = wrote_then p (wrote_then q r)

-- ---- all of them

-- strings, each with a separator before it
unfoldable pub following : List Text → List ℕ
following [] = []
following (s ∷ ss) = (separator ++ s) ++ following ss

following-first : (s : Text) (ss : List Text) → separated (s ∷ ss) ≡ s ++ following ss
unfolding separated following
following-first s [] = sym (append-nil s)
following-first s (r ∷ ss) =
    ap (λ (l : List ℕ). s ++ separator ++ l) (following-first r ss)
    ∙ append_assoc s separator (r ++ following ss)
    ∙ ap (λ (l : List ℕ). s ++ l) (sym (append_assoc separator r (following ss)))

-- a part of what is to be written has room where the whole has
pub part_room :
    {l₀ whole l xs : List ℕ} {at p : ℕ} (ys zs : List ℕ) → ToGo l₀ at whole l p xs → at + length whole ≤ length l₀ → xs ≡ ys ++ zs →
    p + length ys ≤ length l
part_room ys zs g h e = omega (arith, g.after, g.long, ap length e, length-append ys zs)

module _ (table event numbers : List ℕ) (count : ℕ) where
  -- the first `count` of the strings that the numbers lend
  abbrev pub lent : List Text
  lent = strings_of table event (strings_in numbers) count

  pub wrote_none : (l : List ℕ) (at : ℕ) → count ≡ 0 → Wrote l at (separated lent) l at
  wrote_none l at e = rw none (record { bytes = refl; after = omega arith })
    where
      none : separated lent ≡ []
      none = unfold separated strings_of in (rw e)

  -- The first string is written, up to `next₀` of out₀, and those from place i on are still to be written
  pub record Following (out₀ : List ℕ) (next₀ : ℕ) (out : List ℕ) (next i : ℕ) : Type 0 where
    pub room : next₀ + length (following (drop 1 lent)) ≤ length out₀
    pub go : ToGo out₀ next₀ (following (drop 1 lent)) out next (following (drop i lent))

module _ {table event : List ℕ} (numbers : List ℕ) {count : ℕ} (fits : StringsFit table event (strings_in numbers) count) where
  abbrev strings : List Text
  strings = lent table event numbers count

  strings-long : length strings ≡ count
  strings-long = strings-length table event (strings_in numbers) count (omega (arith, fits.few, fits.long))

  strings-last : (i : ℕ) → count ≤ i → following (drop i strings) ≡ []
  unfolding following
  strings-last i h =
      let past : length strings ≤ i = omega (arith, strings-long) in
      ap following (drop_of_length-le strings past)

  -- the string of place i, as it was taken from the numbers
  module _ {x : StringAt} (i : ℕ) (same : x ≡ string_in numbers i) (below : i < count) where
    is : x ≡ get_or (strings_in numbers) i no_string
    is = same ∙ string-taken numbers i (omega (arith, fits.few))

    string-fits : StringFits table event x
    string-fits = subst (StringFits table event) (sym is) (fits.each i below)

    strings-drop : drop i strings ≡ string_of table event x ∷ drop (i + 1) strings
    strings-drop =
        drop-next strings i (string_of table event no_string) (omega (arith, strings-long))
        ∙ ap (λ (s : Text). s ∷ drop (i + 1) strings)
        (string-at table event (strings_in numbers) count i below ∙ ap (string_of table event) (sym is))

    strings-next : following (drop i strings) ≡ (separator ++ string_of table event x) ++ following (drop (i + 1) strings)
    unfolding following
    strings-next = ap following strings-drop

    -- the next string, behind its separator
    module _ {out₀ out : List ℕ} {next₀ next : ℕ} (w : Following table event numbers count out₀ next₀ out next i) where
      pub next-ready : StringFits table event x × (next + length (separator ++ string_of table event x) ≤ length out)
      next-ready =
          (string-fits, part_room (separator ++ string_of table event x) (following (drop (i + 1) strings)) w.go w.room strings-next)

      pub next-gone :
          {out₁ : List ℕ} {next₁ : ℕ} → Wrote out next (separator ++ string_of table event x) out₁ next₁ →
          Following table event numbers count out₀ next₀ out₁ next₁ (i + 1)
      next-gone u = record { room = w.room; go = gone (separator ++ string_of table event x) (following (drop (i + 1) strings)) w.go strings-next u }

  -- the first string
  module _ {x : StringAt} (same : x ≡ string_in numbers 0) (some : 0 < count) where
    strings-first : separated strings ≡ string_of table event x ++ following (drop 1 strings)
    strings-first = ap separated (strings-drop 0 same some) ∙ following-first (string_of table event x) (drop 1 strings)

    first-length : length (separated strings) ≡ length (string_of table event x) + length (following (drop 1 strings))
    first-length = ap length strings-first ∙ length-append (string_of table event x) (following (drop 1 strings))

    pub first-ready : (at n : ℕ) → at + length (separated strings) ≤ n → StringFits table event x × (at + length (string_of table event x) ≤ n)
    first-ready at n h = (string-fits 0 same some, omega (arith, first-length))

    module _ {l l₁ : List ℕ} {at b : ℕ} (w : Wrote l at (string_of table event x) l₁ b) where
      pub following-start : at + length (separated strings) ≤ length l → Following table event numbers count l₁ b l₁ b 1
      following-start h = record { room = omega (arith, first-length, w.after, wrote-length w); go = to-go }

      pub wrote-all :
          {out : List ℕ} {next : ℕ} (i : ℕ) → Following table event numbers count l₁ b out next i → count ≤ i →
          Wrote l at (separated strings) out next
      wrote-all i g h = rw strings-first (wrote_then w (all-gone g.go (strings-last i h)))
