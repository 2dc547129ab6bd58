-- The laws of the dossier of one event: its version, and its bytes from the event's own.
use mathlib.Core.Path.{◌≡◌, refl, sym, ap, ap₂, ◌∙◌, subst}
use mathlib.Core.Bool.{true}
use mathlib.Core.List.{List, [], ◌∷◌, ◌++◌, append_assoc}
use Prim.Native.Nat.{ℕ, zero, suc, ◌+◌, ◌-◌, ◌^◌, ◌≤◌, ◌<◌}
use native.Mathlib.Omega.{arith}
use lib.ListN.{length, take, drop, get_or, length-append, take-append-drop}
use lib.Seq.{length-take-le, take-append_seam}
use borrow.Author.Tests.{lt-ltb, le-ltb}
use Rattle.model.specs.Order.{Text}
use Rattle.packed.specs.Packed.{number, part}
use Rattle.packed.specs.code.Written.{Wrote}
use Rattle.packed.proofs.WriteLaws.{wrote_then, wrote_as}
use Rattle.values.specs.Decimal.{are_digits, numeral, in_decimal}
use Rattle.values.proofs.NumeralLaws.{natural-digits, natural-in-decimal, numeral-in-decimal}
use Rattle.ontology.specs.Table.{is_versioned}
use Rattle.ontology.specs.declared.types.TypeIndex.{TypeIndex}
use Rattle.event.specs.Event.{Event, set_at, version_of}
use Rattle.event.specs.Head.{head_bytes}
use Rattle.event.specs.EventLayout.{sets_bytes}
use Rattle.event.specs.code.EventIndex.{SetIs, set_in, EventIs}
use Rattle.event.specs.code.SetWriting.{present_bytes}
use Rattle.event.specs.declared.read.EventIndex.{EventIndex}
use Rattle.event.proofs.EventQuestionLaws.{version-none}
use Rattle.event.proofs.SetWriteLaws.{present-own}
use Rattle.dossier.specs.DossierHead.{dossier_head_bytes}
use Rattle.combining.specs.code.CheckIndex.{alone_bytes, lone_bytes, Checkable, AloneRoom, LoneRoom}
use Rattle.combining.proofs.PartLaws.{WholeRoom, count_room, body-room}

-- ---- the version of an event

module _ {bytes : List ℕ} {t : TypeIndex} {ats : List ℕ} (h : Checkable bytes t ats) where
  versioned : (t.mark ≡ 0 → ⊥) → is_versioned h.type ≡ true
  versioned n = lt-ltb 0 h.type.mark (positive t.mark n h.mark)
    where
      positive : (m : ℕ) → (m ≡ 0 → ⊥) → m ≡ h.type.mark → 0 < h.type.mark
      positive zero n e = absurd (n refl)
      positive (suc m) n e = omega arith

  pub no-version : t.mark ≡ 0 → 0 ≡ version_of h.type h.event
  no-version n = sym (version-none h.type h.event (le-ltb 0 h.type.mark (omega (arith, h.mark))))

  pub mark-low : (t.mark ≡ 0 → ⊥) → (1 ≤ t.mark) × (t.mark ≤ 32)
  mark-low n = (one t.mark n, omega (arith, h.mark, (h.marked (versioned n)).0))
    where
      one : (m : ℕ) → (m ≡ 0 → ⊥) → 1 ≤ m
      one zero n = absurd (n refl)
      one (suc m) n = omega arith

  pub marked-set : (t.mark ≡ 0 → ⊥) → SetIs bytes (set_at h.event (t.mark - 1)) (set_in ats (t.mark - 1))
  marked-set n = let (a, b) = mark-low n in h.sets.each (t.mark - 1) (omega arith)

  pub set_there : (t.mark ≡ 0 → ⊥) → set_at h.event (t.mark - 1) ≡ in_decimal (version_of h.type h.event) ∷ []
  set_there n = ap (λ (m : ℕ). set_at h.event (m - 1)) h.mark ∙ (h.marked (versioned n)).1

  module _ (v : Text) (n : t.mark ≡ 0 → ⊥) (is : v ≡ get_or (set_at h.event (t.mark - 1)) 0 []) where
    marked-text : v ≡ in_decimal (version_of h.type h.event)
    marked-text = is ∙ ap (λ (s : List Text). get_or s 0 []) (set_there n)

    small : version_of h.type h.event < 10 ^ 20
    small = omega (arith, h.below)

    pub version-is : numeral v ≡ version_of h.type h.event
    version-is = ap numeral marked-text ∙ numeral-in-decimal _ small

    pub version-digits : (are_digits v ≡ true) × (numeral v < 2 ^ 64)
    version-digits = (
      subst (λ (w : Text). are_digits w ≡ true) (sym marked-text) (natural-digits _ (natural-in-decimal _ small)),
      omega (arith, version-is, h.below),
    )

-- ---- the dossier: its head, one snapshot, and that

lone-length :
    (e : Event) (version : ℕ) → length (lone_bytes e version) ≡ length (dossier_head_bytes e.head) + length (number 1) + length (alone_bytes e version)
unfolding lone_bytes
lone-length e version = simp length-append (omega arith)

-- ---- the head, as it stands in the event

-- `number_size` answers n of the presence number
module _ {s : List ℕ} {x : EventIndex} {n : ℕ} (sized : n ≡ length (number x.presence)) where
  head-size : {e : Event} {ats : List ℕ} → EventIs s e x ats → length (head_bytes e.head) + n ≡ x.after_presence
  head-size {e} w =
      omega (
        arith,
        sized,
        ap length w.front,
        length-append (head_bytes e.head) (number x.presence),
        length-take-le x.after_presence s w.within,
      )

  pub size-within : {ats : List ℕ} {version size : ℕ} → LoneRoom s x ats version size → n ≤ x.after_presence
  size-within r = omega (arith, head-size r.read)

  head-part : {e : Event} {ats : List ℕ} → EventIs s e x ats → part s 0 (x.after_presence - n) ≡ dossier_head_bytes e.head
  unfolding dossier_head_bytes
  head-part {e} w =
      let h = head_bytes e.head in
      let p = number x.presence in
      let rest = drop x.after_presence s in
      let all : s ≡ h ++ (p ++ rest) =
      sym (take-append-drop x.after_presence s) ∙ ap (λ (b : List ℕ). b ++ rest) w.front ∙ append_assoc h p rest in
      let long : x.after_presence - n - 0 ≡ length h = omega (arith, head-size w) in
      ap₂ take long all ∙ take-append_seam h (p ++ rest)

  pub head-there :
      {ats : List ℕ} {version size : ℕ} → LoneRoom s x ats version size →
      (0 ≤ x.after_presence - n) × (x.after_presence - n ≤ length s) × (0 + length (part s 0 (x.after_presence - n)) ≤ size)
  head-there {version = version} r =
      (omega arith, omega (arith, r.read.within), omega (arith, r.room, lone-length r.event version, ap length (head-part r.read)))

  -- the head is copied
  module _ {l l₁ : List ℕ} {a : ℕ} (copied : Wrote l 0 (part s 0 (x.after_presence - n)) l₁ a) {ats : List ℕ} where
    head-wrote : {e : Event} → EventIs s e x ats → Wrote l 0 (dossier_head_bytes e.head) l₁ a
    head-wrote w = wrote_as (head-part w) copied

    module _ {version : ℕ} (r : LoneRoom s x ats version (length l)) where
      rooms : WholeRoom l (dossier_head_bytes r.event.head) 1 (alone_bytes r.event version)
      rooms = record { room = omega (arith, r.room, lone-length r.event version) }

      pub one-there : a + length (number 1) ≤ length l₁
      one-there = count_room rooms (head-wrote r.read) refl

      pub alone-there : {l₂ : List ℕ} {b : ℕ} → Wrote l₁ a (number 1) l₂ b → AloneRoom s x ats version b (length l₂)
      alone-there w = record { event = r.event; read = r.read; room = body-room rooms (head-wrote r.read) refl w }

    pub lone-wrote :
        (version : ℕ) {l₂ l₃ : List ℕ} {b c : ℕ} → Wrote l₁ a (number 1) l₂ b →
        ((e : Event) → EventIs s e x ats → Wrote l₂ b (alone_bytes e version) l₃ c) →
        (e : Event) → EventIs s e x ats → Wrote l 0 (lone_bytes e version) l₃ c
    unfolding lone_bytes
    lone-wrote version p q e w = wrote_then (head-wrote w) (wrote_then p (q e w))

-- ---- the parts of the snapshot

module _ {bytes : List ℕ} {e : Event} {x : EventIndex} {ats : List ℕ} (w : EventIs bytes e x ats) where
  -- all sets, by the event's own presence number
  abbrev sets : List ℕ
  sets = present_bytes x.presence e.sets

  pub sets-are : sets ≡ sets_bytes e.sets
  sets-are = ap (λ (n : ℕ). present_bytes n e.sets) w.presence ∙ present-own e.sets

  pub wrote-alone :
      (version : ℕ) {l l₁ l₂ l₃ l₄ : List ℕ} {at a b c d : ℕ} →
      Wrote l at (number version) l₁ a → Wrote l₁ a (number x.presence) l₂ b → Wrote l₂ b (number 0) l₃ c → Wrote l₃ c sets l₄ d →
      Wrote l at (alone_bytes e version) l₄ d
  wrote-alone version p q r s = wrote_then (wrote_then (wrote_then p (wrote_as (ap number w.presence) q)) r) (wrote_as sets-are s)

-- where bytes were written, their place says how many they are
pub wrote-size : {l xs l₁ : List ℕ} {at next : ℕ} → Wrote l at xs l₁ next → (at ≤ next) × (length xs ≡ next - at)
wrote-size w = (omega (arith, w.after), omega (arith, w.after))
