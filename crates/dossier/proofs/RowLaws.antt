-- The laws of how many snapshots, and so how many rows, a dossier has.
use mathlib.Core.Path.{◌≡◌, refl, sym, ap, ◌∙◌}
use mathlib.Core.Option.{Option, none, some}
use mathlib.Core.List.{List, [], map}
use Prim.Native.Nat.{ℕ, ◌*◌, ◌≤◌, ◌<◌}
use native.Mathlib.Omega.{arith}
use lib.ListN.{length, drop}
use Rattle.model.specs.Order.{numbers, rising}
use Rattle.model.specs.Rule.{Snapshot}
use Rattle.model.specs.Limits.{Limits, Permitted}
use Rattle.packed.specs.Parse.{fail, got, such_that, times}
use Rattle.packed.specs.Packed.{read_number, is_within}
use Rattle.packed.specs.code.Located.{Got}
use Rattle.packed.proofs.LayoutLaws.{fail-got, and_then-got, found_if-got, whole-some, times-was}
use Rattle.event.specs.Head.{Head}
use Rattle.event.specs.declared.head.HeadAt.{HeadAt}
use Rattle.dossier.specs.DossierHead.{read_dossier_head}
use Rattle.dossier.specs.DossierBody.{read_snapshot, read_body, snapshot_bytes}
use Rattle.dossier.specs.DossierLayout.{Headed, read_dossier, dossier_of}
use Rattle.dossier.specs.code.DossierIndex.{HeadEnds, HasRows}
use Rattle.dossier.proofs.DossierBodyLaws.{SnapshotWritten, snapshot-was}
use Rattle.dossier.proofs.DossierLayoutLaws.{dossier-was}
use Rattle.dossier.proofs.DossierReadLaws.{HeadCount}
use Rattle.dossier.proofs.HeadEndLaws.{ends_read}

-- ---- the count of a dossier

-- the number of snapshots follows the head
record CountStands (limits : Limits) (s : List ℕ) (n : ℕ) : Type 0 where
  head : Head
  after-head : List ℕ
  headed : read_dossier_head limits s ≡ got head after-head
  after-count : List ℕ
  counted : such_that (is_within 1 limits.versions) read_number after-head ≡ got n after-count

count-stands : (limits : Limits) (s : List ℕ) (h : Headed) → dossier_of limits s ≡ some h → CountStands limits s (length h.snapshots)
unfolding dossier_of read_dossier read_body
count-stands limits s h e =
    let all : read_dossier limits s ≡ got h [] = (whole-some (read_dossier limits s) h).0 e in
    let head = and_then-got (read_dossier_head limits s) _ h [] all in
    let body = and_then-got (read_body limits head.left) _ h [] head.second in
    let count = and_then-got (such_that (is_within 1 limits.versions) read_number head.left) _ body.value body.left body.first in
    let snapshots = and_then-got (times read_snapshot count.value count.left) _ body.value body.left count.second in
    let up = rising numbers (map (λ (s : Snapshot). s.version) snapshots.value) in
    let kept = found_if-got up snapshots.value snapshots.left body.value body.left snapshots.second in
    let was =
    times-was read_snapshot snapshot_bytes SnapshotWritten snapshot-was count.value count.left snapshots.value snapshots.left snapshots.first in
    let is : (record { head = head.value; snapshots = body.value }) ≡ h = cc body.second in
    let many : count.value ≡ length h.snapshots =
    sym was.1 ∙ ap length kept.value ∙ ap (λ (h : Headed). length h.snapshots) is in
    record {
      head = head.value;
      after-head = head.left;
      headed = head.first;
      after-count = count.left;
      counted = count.first ∙ ap (λ (n : ℕ). got n count.left) many;
    }

module _ (limits : Limits) (s : List ℕ) where
  -- where the bytes are a dossier, it has n snapshots
  abbrev pub Counted : ℕ → Type 0
  Counted n = (h : Headed) → dossier_of limits s ≡ some h → length h.snapshots ≡ n

  -- its count is read where its head ends
  module _ (end : ℕ) (w : HeadEnds limits s end) where
    count-there :
        (h : Headed) (e : dossier_of limits s ≡ some h) →
        such_that (is_within 1 limits.versions) read_number (drop end s) ≡ got (length h.snapshots) (count-stands limits s h e).after-count
    count-there h e =
        let c = count-stands limits s h e in
        ap (such_that (is_within 1 limits.versions) read_number) (sym (w.rest c.head c.after-head c.headed)) ∙ c.counted

    pub as-counted : (n at : ℕ) → Got (such_that (is_within 1 limits.versions) read_number (drop end s)) s end n at → Counted n
    as-counted n at c h e = let both = sym (count-there h e) ∙ c.is in cc both

    pub counted_none : (n : ℕ) → such_that (is_within 1 limits.versions) read_number (drop end s) ≡ fail → Counted n
    counted_none n bad h e = fail-got (sym bad ∙ count-there h e)

  -- ---- its rows

  -- the rows of one snapshot are enough for a dossier that has no more
  pub one-row : (n : ℕ) → Counted n → n ≤ 1 → HasRows limits s 96
  one-row n counted few = record { enough = λ h e. omega (arith, counted h e) }

  -- a dossier has at most eight snapshots
  pub all-rows : Permitted limits → HasRows limits s 768
  all-rows permitted = record {
    enough = λ h e.
        omega (arith, (dossier-was limits s h e).1.body.within, permitted.few-versions);
  }

-- where there are fewer rows than the count says, the bytes are no dossier
pub rows_short :
    {limits : Limits} {s : List ℕ} {x : HeadAt} {n at size : ℕ} → HeadCount limits s x n at → HasRows limits s size → size < 96 * n →
    dossier_of limits s ≡ none
rows_short {limits} {s} {x} {n} {at} {size} w has less = go (dossier_of limits s) refl
  where
    go : (o : Option Headed) → dossier_of limits s ≡ o → dossier_of limits s ≡ none
    go none e = e
    go (some h) e =
        let counted = as-counted limits s w.end (ends_read limits s x w.end w.head) n at w.count h e in
        let enough = has.enough h e in
        absurd (omega (arith, counted, enough))
