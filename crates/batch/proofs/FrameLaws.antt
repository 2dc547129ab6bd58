-- The laws of reading a batch: its events one after the other, and the whole.
use mathlib.Core.Path.{◌≡◌, refl, sym, ap, ◌∙◌}
use mathlib.Core.Option.{none}
use mathlib.Core.List.{List, [], ◌∷◌, ◌++◌, append-nil}
use mathlib.Core.Logic.{⊎_elim}
use Prim.Native.Nat.{ℕ, ◌+◌, ◌-◌, ◌≤◌, ◌<◌}
use native.Mathlib.Omega.{arith}
use lib.ListN.{length, drop, get_or, set, length-append, length-set, get_or-append}
use lib.Seq.{drop-length, get_or_at, get_or-set_same, get_or-set_other}
use Rattle.packed.specs.Parse.{Parse, fail, got, and_then, such_that, times, whole}
use Rattle.packed.specs.Packed.{read_number, read_text, part, is_within}
use Rattle.packed.specs.code.Located.{text_at, Got}
use Rattle.packed.specs.declared.read.TextAt.{TextAt}
use Rattle.packed.proofs.FieldLaws.{then-none}
use Rattle.packed.proofs.LayoutLaws.{lt-or-ge}
use Rattle.packed.proofs.ReadLaws.{text-none, text-stops, stops-got, stops-early}
use Rattle.ontology.proofs.RunLaws.{prepend, prepend-nil, prepend-one, times-left, times-end}
use Rattle.event.specs.code.EventIndex.{TextIs}
use Rattle.batch.specs.Batch.{read_batch, batch_of}
use Rattle.batch.specs.code.BatchIndex.{no_text, BatchStands, BatchReads}
use Rattle.batch.specs.declared.frame.BatchIndex.{BatchIndex}
use Rattle.std.specs.Prelude.{Some, None}
use Rattle.std.specs.Prelude as std

-- ---- the events, one after the other

-- The first i of n events are read: they are vs, and the others stand from `at` on
pub record Passed (p : Parse (List (List ℕ))) (s : List ℕ) (events : List TextAt) (n at i : ℕ) : Type 0 where
  pub vs : List (List ℕ)
  pub long : length vs ≡ i
  pub below : i ≤ n
  pub few : n ≤ 16
  pub rest : p ≡ prepend vs (times read_text (n - i) (drop at s))
  pub within : at ≤ length s
  pub each : (k : ℕ) → k < i → TextIs s (get_or vs k []) (get_or events k no_text)
  pub sixteen : length events ≡ 16

pub passed_none :
    {s : List ℕ} {events : List TextAt} {n at : ℕ} → at ≤ length s → n ≤ 16 → length events ≡ 16 →
    Passed (times read_text n (drop at s)) s events n at 0
passed_none {s} {events} {n} {at} h few a =
    let z : n - 0 ≡ n = omega arith in
    record {
      vs = [];
      long = refl;
      below = omega arith;
      few = few;
      rest = prepend-nil (times read_text n (drop at s)) ∙ ap (λ (m : ℕ). prepend [] (times read_text m (drop at s))) (sym z);
      within = h;
      each = λ i k. absurd (omega arith);
      sixteen = a;
    }

module _ {p : Parse (List (List ℕ))} {s : List ℕ} {events : List TextAt} {n at i : ℕ} (w : Passed p s events n at i) where
  pub passed-bad : i < n → None ≡ text_at s at → whole p ≡ none
  passed-bad h e = ap whole (w.rest ∙ ap (prepend w.vs) (times-left read_text n i (drop at s) h (text-none s at (sym e))))

  pub passed-more : i < n → {x : TextAt} → Some x ≡ text_at s at → Passed p s (set events i x) n x.end (i + 1)
  passed-more h {x} e =
      let t = text-stops s at x (sym e) in
      let v = part s x.start x.end in
      record {
        vs = w.vs ++ (v ∷ []);
        long = length-append w.vs (v ∷ []) ∙ ap (λ (m : ℕ). m + 1) w.long;
        below = omega arith;
        few = w.few;
        rest =
            w.rest
            ∙ ap (prepend w.vs) (times-left read_text n i (drop at s) h t.is)
            ∙ prepend-one w.vs v (times read_text (n - (i + 1)) (drop x.end s));
        within = t.within;
        each = λ k l. ⊎_elim (old k) (λ (g : i ≤ k). let e : k ≡ i = omega arith in rw e (last t.order t.within)) (lt-or-ge k i);
        sixteen = length-set events i x ∙ w.sixteen;
      }
    where
      last :
          x.start ≤ x.end → x.end ≤ length s →
          TextIs s (get_or (w.vs ++ (part s x.start x.end ∷ [])) i []) (get_or (set events i x) i no_text)
      last o l =
          let b : i < length events = omega (arith, w.sixteen, w.few) in
          rw (get_or-set_same events i x no_text b, get_or_at w.vs (part s x.start x.end) [] [] i w.long)
          (record { bytes = refl; order = o; within = l })

      old : (k : ℕ) → k < i → TextIs s (get_or (w.vs ++ (part s x.start x.end ∷ [])) k []) (get_or (set events i x) k no_text)
      old k l =
          let ne : k ≡ i → ⊥ = λ e. omega arith in
          rw (get_or-set_other events i k x no_text ne, get_or-append w.vs (part s x.start x.end ∷ []) [] k (omega (arith, w.long))) (w.each k l)

  -- all are read
  module _ (all : n ≤ i) where
    all-got : p ≡ got w.vs (drop at s)
    all-got =
        w.rest
        ∙ ap (prepend w.vs) (times-end read_text (n - i) (drop at s) (omega arith))
        ∙ ap (λ (l : List (List ℕ)). got l (drop at s)) (append-nil w.vs)

    -- it is a batch where they end with the bytes
    pub passed-all : 1 ≤ n → at ≡ length s → BatchStands (whole p) s (record { count = n; events = events })
    passed-all one e = record {
      what = w.vs;
      is = rw (all-got, e, drop-length s);
      stands = record {
        count = omega (arith, w.long, w.below);
        one = one;
        few = w.few;
        each = λ k l. w.each k (omega (arith, w.long));
      };
    }

    pub passed-early : (at ≡ length s → ⊥) → whole p ≡ none
    passed-early ne = stops-early (stops-got all-got w.within) (omega (arith, w.within, ne))

-- ---- the whole batch

pub no-count : (s : List ℕ) → such_that (is_within 1 16) read_number s ≡ fail → batch_of s ≡ none
unfolding batch_of read_batch
no-count s e = ap whole (then-none (times read_text) e)

pub count-read :
    {s : List ℕ} {n at : ℕ} → Got (such_that (is_within 1 16) read_number s) s 0 n at → (x : std.Option BatchIndex) →
    BatchReads (whole (times read_text n (drop at s))) s x → BatchReads (batch_of s) s x
unfolding batch_of read_batch
count-read {s} {n} {at} g x w =
    let e : read_batch s ≡ times read_text n (drop at s) = ap (λ (p : Parse ℕ). and_then p (times read_text)) g.is in
    rw e w
