-- The laws of a conflict: the lowest place with a differ bit, and the lowest snapshot that has one.
use mathlib.Core.Path.{◌≡◌, refl, sym, ap, ap₂, ◌∙◌}
use mathlib.Core.Logic.{⊎_elim}
use mathlib.Core.Bool.{Bool, true, false, cond}
use mathlib.Core.Option.{Option, none, some}
use mathlib.Core.List.{List, [], ◌∷◌, map}
use Prim.Native.Nat.{ℕ, zero, suc, ◌+◌, ◌-◌, ◌/◌, ◌^◌, ◌≤◌, ◌<◌}
use native.Mathlib.Nat.{add-zero, eq-zero-or-pos}
use native.Mathlib.Omega.{arith}
use native.Mathlib.Numerals.{add-one}
use lib.ListN.{length, take, drop, get_or, drop_of_length-le, get_or-map}
use lib.Seq.{drop-cons, get_or-take}
use lib.Count.{trailing_of_zero}
use lib.Dec.{ltb, eqb}
use borrow.Author.Tests.{lt-ltb, le-ltb}
use Rattle.std.specs.Bool.{then_some}
use Rattle.std.specs.Int.{w64, bit_at, trailing_zeros}
use Rattle.std.proofs.lemmas.Nat.Bits.{bit_at_lowest, bit_at-suc, bit_at-zero, bit_at-trailing_zeros}
use Rattle.model.specs.Sets.{up_from, up_to}
use Rattle.model.specs.Rule.{Cell, holds, Snapshot}
use Rattle.model.specs.Opening as model
use Rattle.model.specs.Opening.{lowest, is_mark, cell_at, no_conflict, differs_at, marked, or_later, conflict}
use Rattle.model.proofs.Cases.{never}
use Rattle.packed.proofs.LayoutLaws.{lt-or-ge}
use Rattle.values.specs.declared.versions.EventVersion.{EventVersion}
use Rattle.event.specs.EventLayout.{bit_number}
use Rattle.dossier.specs.DossierLayout.{Headed}
use Rattle.dossier.specs.DossierBody.{differ_bit}
use Rattle.dossier.specs.code.DossierIndex.{no_snapshot, no_version, DossierIs}
use Rattle.dossier.specs.declared.dossiers.DossierIndex.{DossierIndex}
use Rattle.dossier.proofs.CellLaws.{mark-here, bits-next}
use Rattle.dossier.proofs.AskLaws.{in_count, past-count}
use Rattle.opening.specs.code.OpenIndex.{lowest_of, conflict_of}
use Rattle.std.specs.Prelude as std
use Rattle.std.specs.Prelude.{Some, None}

-- ---- the lowest of 32 places

module _ (test : ℕ → Bool) where
  lowest_start : lowest test (up_to 32) ≡ lowest test (up_from 0 (32 - 0))
  unfolding up_to
  lowest_start = refl

  lowest_step :
      (k : ℕ) → k < 32 → {b : Bool} → test k ≡ b →
      lowest test (up_from k (32 - k)) ≡ cond b (some k) (lowest test (up_from (k + 1) (32 - (k + 1))))
  unfolding lowest up_from
  lowest_step k h t = let e : 32 - k ≡ suc (32 - (k + 1)) = omega arith in rw (e, add-one, t)

  pub lowest-here : (k : ℕ) → k < 32 → test k ≡ true → lowest test (up_from k (32 - k)) ≡ some k
  lowest-here k h e = lowest_step k h e

  pub lowest-next : (k : ℕ) → k < 32 → test k ≡ false → lowest test (up_from k (32 - k)) ≡ lowest test (up_from (k + 1) (32 - (k + 1)))
  lowest-next k h e = lowest_step k h e

  -- no place from k on passes
  pub lowest-none : (k : ℕ) → ((i : ℕ) → k ≤ i → test i ≡ false) → lowest test (up_from k (32 - k)) ≡ none
  unfolding lowest up_from
  lowest-none k h = go (32 - k) k h
    where
      go : (n k : ℕ) → ((i : ℕ) → k ≤ i → test i ≡ false) → lowest test (up_from k n) ≡ none
      go zero k h = refl
      go (suc n) k h = rw (h k (omega arith)) (go n (suc k) (λ i l. h i (omega arith)))

  -- the place k is the first that passes, or no place does where it is past the last
  lowest-after : (k : ℕ) → k ≤ 32 → ((i : ℕ) → i < k → test i ≡ false) → lowest test (up_to 32) ≡ lowest test (up_from k (32 - k))
  lowest-after zero h clear = lowest_start
  lowest-after (suc k) h clear =
      lowest-after k (omega arith) (λ i l. clear i (omega arith)) ∙ (rw add-one at (lowest-next k (omega arith) (clear k (omega arith))))

  lowest-first :
      (k : ℕ) → (k < 32 → test k ≡ true) → ((i : ℕ) → i < k → test i ≡ false) →
      lowest_of (then_some (ltb k 32) k) ≡ lowest test (up_to 32)
  unfolding lowest up_from
  lowest-first k set clear =
      ⊎_elim
      (λ (l : k < 32). rw (lt-ltb k 32 l) (sym (lowest-after k (omega arith) clear ∙ lowest-here k l (set l))))
      (λ (l : 32 ≤ k). rw (le-ltb k 32 l) (sym (lowest-after 32 (omega arith) (λ i m. clear i (omega arith)))))
      (lt-or-ge k 32)

-- ---- the differ bit of a place

abbrev mark_at : List Cell → ℕ → Bool
mark_at cs p = is_mark (get_or cs p (holds []))

-- bit i of the places from k on is that of place k + i
mark-from :
    (cs : List Cell) (i k bits : ℕ) → bits ≡ bit_number (map differ_bit (drop k cs)) → (p : ℕ) → p ≡ k + i →
    eqb (bit_at bits i) 1 ≡ mark_at cs p
mark-from cs zero k bits b p e = rw (bit_at_lowest bits, e, add-zero) (mark-here cs k bits b)
mark-from cs (suc i) k bits b p e = rw (bit_at-suc bits i) (mark-from cs i (k + 1) (bits / 2) (bits-next cs k bits b) p (omega (arith, e)))

module _ (cs : List Cell) (differ : ℕ) (b : differ ≡ bit_number (map differ_bit cs)) where
  mark : (p : ℕ) {n : ℕ} → bit_at differ p ≡ n → mark_at cs p ≡ eqb n 1
  mark p e = sym (mark-from cs p 0 differ b p (omega arith)) ∙ ap (λ (n : ℕ). eqb n 1) e

  -- the lowest place with a bit is told by how many zeros the number ends with
  abbrev place : ℕ
  place = trailing_zeros w64 differ

  pub lowest-mark : differ < 2 ^ 64 → lowest_of (then_some (ltb place 32) place) ≡ lowest (mark_at cs) (up_to 32)
  lowest-mark small = ⊎_elim none some_place (eq-zero-or-pos differ)
    where
      none : differ ≡ 0 → lowest_of (then_some (ltb place 32) place) ≡ lowest (mark_at cs) (up_to 32)
      none z =
          let clear : (i : ℕ) → bit_at differ i ≡ 0 = λ i. rw z (bit_at-zero i) in
          let end : place ≡ 64 = rw z (trailing_of_zero 64) in
          lowest-first (mark_at cs) place (λ l. absurd (omega arith)) (λ i l. mark i (clear i))

      some_place : 0 < differ → lowest_of (then_some (ltb place 32) place) ≡ lowest (mark_at cs) (up_to 32)
      some_place h =
          let (within, set, clear) = bit_at-trailing_zeros w64 differ h small in
          lowest-first (mark_at cs) place (λ l. mark place set) (λ i l. mark i (clear i l))

-- ---- a snapshot

module _ (y : Snapshot) (version : EventVersion) (w : version.0 ≡ y.version) where
  pub snapshot-differs :
      (p : ℕ) → some p ≡ lowest (λ q. is_mark (get_or y.cells q (holds []))) (up_to 32) → differs_at version.0 p ≡ conflict (up_to 32) (y ∷ [])
  unfolding conflict or_later marked cell_at
  snapshot-differs p e = ap₂ (λ (v : ℕ) (o : Option ℕ). or_later v o no_conflict) w e

  pub snapshot-clear : none ≡ lowest (λ q. is_mark (get_or y.cells q (holds []))) (up_to 32) → no_conflict ≡ conflict (up_to 32) (y ∷ [])
  unfolding conflict or_later marked cell_at
  snapshot-clear e = ap (λ (o : Option ℕ). or_later y.version o no_conflict) e

-- the numbers of a snapshot, as the index has them
module _ (s : List ℕ) (h : Headed) (d : DossierIndex) (w : DossierIs s h d) (j : ℕ) (l : j < length h.snapshots) where
  version-at : (get_or d.versions j no_version).0 ≡ (get_or h.snapshots j no_snapshot).version
  version-at =
      ap (λ (v : EventVersion). v.0) (sym (get_or-take (length h.snapshots) d.versions j no_version l))
      ∙ sym (get_or-map (λ (v : EventVersion). v.0) (take (length h.snapshots) d.versions) j no_version)
      ∙ ap (λ (v : List ℕ). get_or v j 0) w.snapshots.numbers
      ∙ get_or-map (λ (x : Snapshot). x.version) h.snapshots j no_snapshot

  differ-at : get_or d.differs j 0 ≡ bit_number (map differ_bit (get_or h.snapshots j no_snapshot).cells)
  unfolding bit_number
  differ-at =
      sym (get_or-take (length h.snapshots) d.differs j 0 l)
      ∙ ap (λ (v : List ℕ). get_or v j 0) w.differs
      ∙ get_or-map (λ (x : Snapshot). bit_number (map differ_bit x.cells)) h.snapshots j no_snapshot

-- ---- the snapshots, from one on

module _ (ps : List ℕ) where
  later : (v : ℕ) (o : Option ℕ) (c : model.Conflict) → or_later v o no_conflict ≡ no_conflict → or_later v o c ≡ c
  unfolding or_later
  later v (some p) c e = never (cc)
  later v none c e = refl

  sooner : (v w p : ℕ) (o : Option ℕ) (c : model.Conflict) → differs_at w p ≡ or_later v o no_conflict → differs_at w p ≡ or_later v o c
  unfolding or_later
  sooner v w p (some q) c e = e
  sooner v w p none c e = never (cc)

  module _ (ss : List Snapshot) (j : ℕ) (h : j < length ss) where
    conflict-split : conflict ps (drop j ss) ≡ conflict ps (get_or ss j no_snapshot ∷ drop (j + 1) ss)
    conflict-split = rw (add-one, drop-cons ss j no_snapshot h)

    conflict-later : no_conflict ≡ conflict ps (get_or ss j no_snapshot ∷ []) → conflict ps (drop j ss) ≡ conflict ps (drop (j + 1) ss)
    unfolding conflict
    conflict-later e = conflict-split ∙ later (get_or ss j no_snapshot).version (marked ps (get_or ss j no_snapshot)) (conflict ps (drop (j + 1) ss)) (sym e)

    conflict-here :
        {x : EventVersion × ℕ} → conflict_of (Some x) ≡ conflict ps (get_or ss j no_snapshot ∷ []) → conflict_of (Some x) ≡ conflict ps (drop j ss)
    unfolding conflict
    conflict-here {x} e =
        sooner (get_or ss j no_snapshot).version x.0.0 x.1 (marked ps (get_or ss j no_snapshot)) (conflict ps (drop (j + 1) ss)) e ∙ sym conflict-split

  conflict-end : (ss : List Snapshot) (j : ℕ) → length ss ≤ j → no_conflict ≡ conflict ps (drop j ss)
  unfolding conflict
  conflict-end ss j h = rw (drop_of_length-le ss h)

-- the conflict is that of the snapshots from j on
pub record ConflictFrom (d : DossierIndex) (j : ℕ) : Type 0 where
  pub is : (s : List ℕ) (h : Headed) → DossierIs s h d → conflict (up_to 32) h.snapshots ≡ conflict (up_to 32) (drop j h.snapshots)

pub conflict-start : {d : DossierIndex} → ConflictFrom d 0
conflict-start = record { is = λ s h w. refl }

-- r is the conflict of snapshot j
abbrev pub ConflictAt : DossierIndex → ℕ → std.Option (EventVersion × ℕ) → Type 0
ConflictAt d j r =
    (x : Snapshot) → (get_or d.versions j no_version).0 ≡ x.version → get_or d.differs j 0 ≡ bit_number (map differ_bit x.cells) →
    conflict_of r ≡ conflict (up_to 32) (x ∷ [])

module _ {d : DossierIndex} {j : ℕ} (c : ConflictFrom d j) where
  module _ (l : j < d.count) where
    pub conflict-found :
        {x : EventVersion × ℕ} → ConflictAt d j (Some x) → (s : List ℕ) (h : Headed) → DossierIs s h d →
        conflict_of (Some x) ≡ conflict (up_to 32) h.snapshots
    conflict-found e s h w =
        let k = in_count s h d w j l in
        conflict-here (up_to 32) h.snapshots j k (e _ (version-at s h d w j k) (differ-at s h d w j k)) ∙ sym (c.is s h w)

    pub conflict-next : ConflictAt d j None → ConflictFrom d (j + 1)
    conflict-next e = record {
      is = λ s h w.
          let k = in_count s h d w j l in
          c.is s h w ∙ conflict-later (up_to 32) h.snapshots j k (e _ (version-at s h d w j k) (differ-at s h d w j k));
    }

  pub no-conflict : d.count ≤ j → (s : List ℕ) (h : Headed) → DossierIs s h d → no_conflict ≡ conflict (up_to 32) h.snapshots
  no-conflict l s h w = conflict-end (up_to 32) h.snapshots j (past-count s h d w j l) ∙ sym (c.is s h w)
