-- The laws of where a dossier's head ends, by what is read of it to pass over it.
use mathlib.Core.Path.{◌≡◌, sym, ap, ◌∙◌, subst}
use mathlib.Core.List.{List, map, flatten}
use Prim.Native.Nat.{ℕ, ◌+◌, ◌-◌, ◌*◌, ◌≤◌, ◌<◌}
use native.Mathlib.Omega.{arith}
use lib.Dec.{leb}
use lib.ListN.{length, drop, length-append, length-drop}
use lib.Seq.{drop_at, drop-drop}
use borrow.Author.Tests.{leb-true}
use Rattle.model.specs.Order.{Text, texts, rising}
use Rattle.model.specs.Limits.{Limits}
use Rattle.model.proofs.Cases.{never}
use Rattle.packed.specs.Parse.{Parse, fail, got, such_that, times}
use Rattle.packed.specs.Packed.{read_number, read_text, read_bytes, is_within}
use Rattle.packed.specs.code.Located.{text_at, Got, NumberReads}
use Rattle.packed.proofs.LayoutLaws.{and_then-got, such_that-got, found_if-got, bytes-was, times-was, flat}
use Rattle.packed.proofs.ReadLaws.{text-stops, text-none}
use Rattle.packed.proofs.FieldLaws.{number-got, number-fail, such-never, such-was, is_within_lem}
use Rattle.event.specs.Head.{Head, is_source, read_parents, read_head}
use Rattle.event.specs.declared.head.HeadAt.{HeadAt}
use Rattle.event.proofs.HeadLayoutLaws.{hashes-size}
use Rattle.dossier.specs.DossierHead.{read_dossier_head}
use Rattle.dossier.specs.code.DossierIndex.{DossierHeadStops, HeadEnds}
use Rattle.std.specs.Prelude.{Option, Some, None}
use Rattle.packed.specs.declared.read.TextAt.{TextAt}

-- ---- the parts of a head that was read

-- as many hashes of 20 bytes as were asked for, and what follows them
pub record HashesPassed (n : ℕ) (t r : List ℕ) : Type 0 where
  pub within : 20 * n ≤ length t
  pub rest : r ≡ drop (20 * n) t

hashes-passed : (n : ℕ) (t : List ℕ) (hs : List Text) (r : List ℕ) → times (read_bytes 20) n t ≡ got hs r → HashesPassed n t r
hashes-passed n t hs r e =
    let bytes = flatten (map (λ (h : Text). h) hs) in
    let was = times-was (read_bytes 20) (λ (h : Text). h) (λ (h : Text). length h ≡ 20) (bytes-was 20) n t hs r e in
    let size : length bytes ≡ 20 * n = ap length (flat hs) ∙ hashes-size hs was.2 ∙ ap (λ (k : ℕ). 20 * k) was.1 in
    record {
      within = omega (arith, ap length was.0, length-append bytes r, size);
      rest = sym (ap (drop (20 * n)) was.0 ∙ drop_at bytes r (20 * n) size);
    }

-- name, source and hashes of a head before t
pub record Passed (limits : Limits) (s t : List ℕ) : Type 0 where
  pub name : Text
  pub after-name : List ℕ
  pub named : read_text s ≡ got name after-name
  pub source : Text
  pub after-source : List ℕ
  pub sourced : read_text after-name ≡ got source after-source
  pub count : ℕ
  pub after-count : List ℕ
  pub counted : read_number after-source ≡ got count after-count
  pub few : count ≤ limits.parents
  pub hashes : HashesPassed count after-count t

passed : (limits : Limits) (s : List ℕ) (h : Head) (t : List ℕ) → read_dossier_head limits s ≡ got h t → Passed limits s t
unfolding read_dossier_head read_head read_parents
passed limits s h t e =
    let name = and_then-got (read_text s) _ h t e in
    let source = and_then-got (such_that is_source read_text name.left) _ h t name.second in
    let parents = and_then-got (read_parents limits.parents source.left) _ h t source.second in
    let count = and_then-got (such_that (λ (n : ℕ). leb n limits.parents) read_number source.left) _ parents.value parents.left parents.first in
    let number = such_that-got (λ (n : ℕ). leb n limits.parents) read_number source.left count.value count.left count.first in
    let hashes = and_then-got (times (read_bytes 20) count.value count.left) _ parents.value parents.left count.second in
    let kept = found_if-got (rising texts hashes.value) hashes.value hashes.left parents.value parents.left hashes.second in
    let last : parents.left ≡ t = cc parents.second in
    record {
      name = name.value;
      after-name = name.left;
      named = name.first;
      source = source.value;
      after-source = source.left;
      sourced = (such_that-got is_source read_text name.left source.value source.left source.first).was;
      count = count.value;
      after-count = count.left;
      counted = number.was;
      few = leb-true count.value limits.parents number.test;
      hashes =
          subst (HashesPassed count.value count.left) (kept.rest ∙ last)
          (hashes-passed count.value count.left hashes.value hashes.left hashes.first);
    }

-- ---- where it ends

-- two ways to say what is left
left-same : {A : Type 0} {a b : A} {t u : List ℕ} → got a t ≡ got b u → t ≡ u
left-same e = cc e

-- the end of a head that was read and checked
pub ends_read :
    (limits : Limits) (s : List ℕ) (x : HeadAt) (end : ℕ) → DossierHeadStops (read_dossier_head limits s) s x end → HeadEnds limits s end
ends_read limits s x end w = record { rest = λ h t e. left-same (sym e ∙ w.is) }

-- whatever refutes a head that is read
no-head : (limits : Limits) (s : List ℕ) → ((t : List ℕ) → Passed limits s t → ◌≡◌ {A = ℕ} 0 1) → (end : ℕ) → HeadEnds limits s end
no-head limits s bad end = record { rest = λ h t e. never (bad t (passed limits s h t e)) }

never_both : {A : Type 0} {p : Parse A} {a : A} {t : List ℕ} → p ≡ fail → p ≡ got a t → ◌≡◌ {A = ℕ} 0 1
never_both e f = cc

abbrev parents : Limits → List ℕ → ℕ → Parse ℕ
parents limits s at = such_that (is_within 0 limits.parents) read_number (drop at s)

-- Each part of a head starts where the one before it ends, as the readers answer. Where one reads nothing, no head is read, so that any position will do.
module _ (limits : Limits) (s : List ℕ) {r₁ : Option TextAt} (h₁ : r₁ ≡ text_at s 0) where
  pub no_name : r₁ ≡ None → (end : ℕ) → HeadEnds limits s end
  no_name q = no-head limits s (λ t w. never_both (text-none s 0 (sym h₁ ∙ q)) w.named)

  module _ {name : TextAt} (e₁ : r₁ ≡ Some name) {r₂ : Option TextAt} (h₂ : r₂ ≡ text_at s name.end) where
    source-there : (t : List ℕ) (w : Passed limits s t) → read_text (drop name.end s) ≡ got w.source w.after-source
    source-there t w =
        let at = left-same (sym w.named ∙ (text-stops s 0 name (sym h₁ ∙ e₁)).is) in
        ap read_text (sym at) ∙ w.sourced

    pub no_source : r₂ ≡ None → (end : ℕ) → HeadEnds limits s end
    no_source q = no-head limits s (λ t w. never_both (text-none s name.end (sym h₂ ∙ q)) (source-there t w))

    module _ {source : TextAt} (e₂ : r₂ ≡ Some source) where
      number-there : (t : List ℕ) (w : Passed limits s t) → read_number (drop source.end s) ≡ got w.count w.after-count
      number-there t w =
          let there = left-same (sym (source-there t w) ∙ (text-stops s name.end source (sym h₂ ∙ e₂)).is) in
          ap read_number (sym there) ∙ w.counted

      module _ {r₃ : Option (ℕ × ℕ)} (h₃ : NumberReads (parents limits s source.end) s source.end r₃) where
        pub no-count : r₃ ≡ None → (end : ℕ) → HeadEnds limits s end
        no-count q = no-head limits s (λ t w.
            such-never (is_within 0 limits.parents) read_number s source.end (number-fail s source.end q h₃) (number-there t w)
            (is_within_lem 0 limits.parents w.count (omega arith) w.few))

        -- n hashes follow from e on
        module _ {n e : ℕ} (e₃ : r₃ ≡ Some (n, e)) where
          count : Got (parents limits s source.end) s source.end n e
          count = number-got e₃ h₃

          same : (t : List ℕ) (w : Passed limits s t) → got w.count w.after-count ≡ got n (drop e s)
          same t w = sym (number-there t w) ∙ (such-was (is_within 0 limits.parents) read_number s source.end count).0.is

          hashes-there : (t : List ℕ) → Passed limits s t → HashesPassed n (drop e s) t
          hashes-there t w =
              let number : w.count ≡ n = cc (same t w) in
              subst (λ (k : ℕ). HashesPassed k (drop e s) t) number
              (subst (λ (l : List ℕ). HashesPassed w.count l t) (left-same (same t w)) w.hashes)

          pub ends-short : (end : ℕ) → length s - e < 20 * n → HeadEnds limits s end
          ends-short end less = record { rest = λ h t q. absurd (omega (arith, (hashes-there t (passed limits s h t q)).within, length-drop e s)) }

          pub ends-here : HeadEnds limits s (e + 20 * n)
          ends-here = record { rest = λ h t q. (hashes-there t (passed limits s h t q)).rest ∙ drop-drop (20 * n) e s }
