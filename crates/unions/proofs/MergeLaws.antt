-- The laws of merging several runs.
use mathlib.Core.Path.{◌≡◌, refl, sym, ap, ap₂, ◌∙◌, subst}
use mathlib.Core.Logic.{◌⊎◌, inl, inr, ⊎_elim}
use mathlib.Core.Bool.{true}
use mathlib.Core.List.{List, [], ◌∷◌, ◌++◌, append_assoc, map}
use mathlib.Core.List.Memᴰ
use mathlib.Core.List.{flatten, Memᴰ}
use Prim.Native.Nat.{ℕ, zero, suc, ◌+◌, ◌^◌, ◌≤◌, ◌<◌, Ordering}
use native.Mathlib.Omega.{arith}
use native.Mathlib.Numerals.{add-one}
use lib.ListN.{length, take, drop, get_or, set, length-append}
use lib.Seq.{take-suc, take_all, get_or-set_same, get_or-set_other}
use borrow.Author.Count.{below_more}
use Rattle.model.specs.Order.{Text, texts, rising, equal, pick, flip}
use Rattle.model.specs.Keyed.{Above, merge}
use Rattle.model.specs.Sets.{Ups, itself, first, union, canon, smallest}
use Rattle.model.proofs.Cases.{never, truth}
use Rattle.model.proofs.OrderLaws.{equal-true, equal-false}
use Rattle.model.proofs.KeyedLaws.{above-member, merge-left}
use Rattle.model.proofs.SetLaws.{rising-ups, canon-of, canon-in, canon-ups, canon-same, smallest-member, smaller}
use Rattle.model.proofs.StepLaws.{union-left-nil, union-right-nil, smallest-snoc}
use Rattle.packed.specs.Packed.{text, part}
use Rattle.packed.proofs.LayoutLaws.{All, text-length, number-bounds}
use Rattle.packed.proofs.ReadLaws.{part_length, stretch}
use Rattle.packed.specs.code.Written.{Wrote, ToGo}
use Rattle.packed.proofs.WriteLaws.{to-go, all-gone, wrote-length}
use Rattle.std.specs.Prelude.{Option, Some, None, IfSome}
use Rattle.unions.specs.declared.heads.Form.TheVariants as form
use Rattle.unions.specs.code.Runs.{written, run, Run, HeadIs, NoHead}
use Rattle.unions.specs.declared.many.Least.{Least}
use Rattle.unions.specs.code.Merging.{SetRun, SetRuns, passed, RightLeast, least_text, value_at, LeastTo, Lesser, IsLeast, MergedRoom}
use Rattle.unions.proofs.RunLaws.{First, part_then, head-part, run-head, texts-fit, write-room, write-next}

-- ---- the least value of rising lists is the first of their union, and the others follow without it

-- the members of a run that has passed m
member-passed : (m : Text) (xs : List Text) (a : Text) → Memᴰ a xs → (a ≡ m) ⊎ Memᴰ a (passed m xs)
unfolding passed
member-passed m [] a n = inr n
member-passed m (x ∷ xs) a n =
    truth (equal texts x m)
    (λ t. rw t (⊎_elim (λ q. inl (q ∙ (equal-true texts x m).0 t)) (λ k. inr k) (Memᴰ.cases_cons n)))
    (λ f. rw f (inr n))

passed-member : (m : Text) (xs : List Text) (a : Text) → Memᴰ a (passed m xs) → Memᴰ a xs
unfolding passed
passed-member m [] a n = n
passed-member m (x ∷ xs) a n = truth (equal texts x m) (λ t. Memᴰ.tail (rw t at n)) (λ f. rw f at n)

-- where m is no larger than any, it is less than all that are left
above-passed :
    (m : Text) (xs : List Text) → Ups texts xs → ((a : Text) → Memᴰ a xs → (m ≡ a) ⊎ (texts.cmp m a ≡ Ordering.lt)) → (a : Text) →
    Memᴰ a (passed m xs) → texts.cmp m a ≡ Ordering.lt
unfolding passed
above-passed m [] h low a n = absurd (Memᴰ.not-nil n)
above-passed m (x ∷ xs) h low a n =
    truth (equal texts x m)
    (λ t. rw (← (equal-true texts x m).0 t) (above-member texts itself x xs a h.0 (rw t at n)))
    (λ f.
    let l : texts.cmp m x ≡ Ordering.lt = ⊎_elim (λ q. absurd ((equal-false texts x m).0 f (sym q))) (λ k. k) (low x (Memᴰ.head refl)) in
    ⊎_elim (λ q. rw q l) (λ k. texts.step m x a l (above-member texts itself x xs a h.0 k)) (Memᴰ.cases_cons (rw f at n)))

flat-member : (m : Text) (xss : List (List Text)) (a : Text) → Memᴰ a (flatten xss) → (a ≡ m) ⊎ Memᴰ a (flatten (map (passed m) xss))
unfolding flatten
flat-member m [] a n = inr n
flat-member m (xs ∷ xss) a n = ⊎_elim
    (λ k. ⊎_elim inl (λ l. inr (Memᴰ.append_left (flatten (map (passed m) xss)) l)) (member-passed m xs a k))
    (λ k. ⊎_elim inl (λ l. inr (Memᴰ.append_right (passed m xs) l)) (flat-member m xss a k))
    (Memᴰ.append_cases xs n)

member-flat : (m : Text) (xss : List (List Text)) (a : Text) → Memᴰ a (flatten (map (passed m) xss)) → Memᴰ a (flatten xss)
unfolding flatten
member-flat m [] a n = n
member-flat m (xs ∷ xss) a n = ⊎_elim
    (λ k. Memᴰ.append_left (flatten xss) (passed-member m xs a k))
    (λ k. Memᴰ.append_right xs (member-flat m xss a k))
    (Memᴰ.append_cases (passed m xs) n)

above-flat :
    (m : Text) (xss : List (List Text)) → All (Ups texts) xss →
    ((a : Text) → Memᴰ a (flatten xss) → (m ≡ a) ⊎ (texts.cmp m a ≡ Ordering.lt)) →
    (a : Text) → Memᴰ a (flatten (map (passed m) xss)) → texts.cmp m a ≡ Ordering.lt
unfolding flatten
above-flat m [] h low a n = absurd (Memᴰ.not-nil n)
above-flat m (xs ∷ xss) h low a n = ⊎_elim
    (λ k. above-passed m xs h.0 (λ b l. low b (Memᴰ.append_left (flatten xss) l)) a k)
    (λ k. above-flat m xss h.1 (λ b l. low b (Memᴰ.append_right xs l)) a k)
    (Memᴰ.append_cases (passed m xs) n)

above-all : (m : Text) (ys : List Text) → ((a : Text) → Memᴰ a ys → texts.cmp m a ≡ Ordering.lt) → Above texts itself m ys
above-all m [] h = tt
above-all m (y ∷ ys) h = (h y (Memᴰ.head refl), above-all m ys (λ a n. h a (Memᴰ.tail n)))

canon-above :
    (m : Text) (zs : List Text) → ((a : Text) → Memᴰ a zs → texts.cmp m a ≡ Ordering.lt) → canon texts (m ∷ zs) ≡ m ∷ canon texts zs
unfolding canon merge
canon-above m zs h =
    merge-left texts itself first (λ a b e. refl) m [] (canon texts zs) tt (above-all m (canon texts zs) (λ a n. h a (canon-of texts zs a n)))

pub canon-least :
    (xss : List (List Text)) (m : Text) → All (Ups texts) xss → smallest texts (flatten xss) ≡ m ∷ [] →
    canon texts (flatten xss) ≡ m ∷ canon texts (flatten (map (passed m) xss))
canon-least xss m h e =
    let w = smallest-member texts (flatten xss) [] m e in
    canon-same texts (flatten xss) (m ∷ flatten (map (passed m) xss)) (
      λ a n. ⊎_elim (λ q. Memᴰ.head q) (λ k. Memᴰ.tail k) (flat-member m xss a n),
      λ a n. ⊎_elim (λ q. Memᴰ.cast q w.0) (λ k. member-flat m xss a k) (Memᴰ.cases_cons n),
    )
    ∙ canon-above m (flatten (map (passed m) xss)) (above-flat m xss h w.1)

pub canon-none : (xs : List Text) → smallest texts xs ≡ [] → canon texts xs ≡ []
unfolding smallest
canon-none xs e = go (canon texts xs) refl
  where
    go : (c : List Text) → canon texts xs ≡ c → canon texts xs ≡ []
    go [] q = q
    go (x ∷ c) q = let z : x ∷ [] ≡ [] = sym (ap (take 1) q) ∙ e in never (cc)

-- ---- one run of the slice

module _ (s : List ℕ) (at end : ℕ) where
  run_of : (xs : List Text) → length s < 2 ^ 64 → SetRun s at end xs → Run form.Texts (drop at s) xs (drop end s)
  unfolding written
  run_of xs l r = record {
    bytes = part_then s at end r.order r.within ∙ ap (λ (x : List ℕ). x ++ drop end s) r.bytes;
    each = texts-fit xs (omega (arith, ap length r.bytes, part_length s at end r.order r.within, r.within));
    rises = (rising-ups texts xs).0 r.rises;
  }

  run_is : (xs : List Text) → at ≤ length s → end ≤ length s → Run form.Texts (drop at s) xs (drop end s) → SetRun s at end xs
  unfolding written
  run_is xs h k r =
      let w = stretch s (flatten (map text xs)) at end h k r.bytes in
      record { bytes = w.0; order = w.1; within = k; rises = (rising-ups texts xs).1 r.rises }

  -- an empty stretch has no values
  set-end : (xs : List Text) → end ≤ at → SetRun s at end xs → xs ≡ []
  unfolding flatten
  set-end [] h r = refl
  set-end (x ∷ xs) h r =
      absurd (omega (
        arith,
        ap length r.bytes,
        part_length s at end r.order r.within,
        length-append (text x) (flatten (map text xs)),
        text-length x,
        number-bounds (length x),
      ))

  set-no-head : length s < 2 ^ 64 → NoHead form.Texts s at → (xs : List Text) → SetRun s at end xs → xs ≡ []
  unfolding flatten
  set-no-head l w [] r = refl
  set-no-head l w (x ∷ xs) r =
      let q = run_of (x ∷ xs) l r in
      absurd (w.none x (run form.Texts xs ++ drop end s) q.each.0 (q.bytes ∙ append_assoc (written form.Texts x) (run form.Texts xs) (drop end s)))

  module _ (l : length s < 2 ^ 64) (some : at < end) (a e : ℕ) (w : HeadIs form.Texts s at a e) where
    set_first : (xs : List Text) → SetRun s at end xs → First form.Texts xs (part s a e) (drop e s) (drop end s)
    unfolding flatten
    set_first [] r = absurd (omega (arith, ap length r.bytes, part_length s at end r.order r.within))
    set_first (x ∷ xs) r =
        let q = run-head form.Texts (drop at s) x xs (drop end s) (part s a e) (drop e s) (run_of (x ∷ xs) l r) w.bytes w.fit in
        record { more = xs; all = ap (λ (v : Text). v ∷ xs) q.0; left = q.1 }

    set-smallest : (xs : List Text) → SetRun s at end xs → smallest texts xs ≡ part s a e ∷ []
    unfolding smallest
    set-smallest xs r = ap (take 1) (canon-ups texts xs ((rising-ups texts xs).0 r.rises) ∙ (set_first xs r).all)

-- what is left after the first value
set_rest :
    (s : List ℕ) (end e : ℕ) (xs : List Text) (v : Text) → e ≤ length s → end ≤ length s → (w : First form.Texts xs v (drop e s) (drop end s)) →
    SetRun s e end w.more
set_rest s end e xs v h k w = run_is s e end w.more h k w.left

-- ---- one run more is taken in

-- m is less than all of xs
abbrev Low : Text → List Text → Type 0
Low m xs = (a : Text) → Memᴰ a xs → texts.cmp m a ≡ Ordering.lt

-- then it is not passed in them
passed-low : (m : Text) (xs : List Text) → Low m xs → passed m xs ≡ xs
unfolding passed
passed-low m [] h = refl
passed-low m (x ∷ xs) h = rw ((equal-false texts x m).1 (λ q. never (cc (h x (Memᴰ.head refl), texts.self x))))

-- what is less than the least is less than all, and less than all of none
low-less : (m b : Text) (xs : List Text) → smallest texts xs ≡ b ∷ [] → texts.cmp m b ≡ Ordering.lt → Low m xs
low-less m b xs e l a n = ⊎_elim (λ q. rw (← q) l) (λ k. texts.step m b a l k) ((smallest-member texts xs [] b e).1 a n)

low-none : (m : Text) (xs : List Text) → smallest texts xs ≡ [] → Low m xs
low-none m xs e a n = absurd (Memᴰ.not-nil (rw (canon-none xs e) at (canon-in texts xs a n)))

-- the values of a run are among those of the first j
flat-at : (xss : List (List Text)) (i j : ℕ) → i < j → (a : Text) → Memᴰ a (get_or xss i []) → Memᴰ a (flatten (take j xss))
unfolding flatten
flat-at [] i j h a n = absurd (Memᴰ.not-nil n)
flat-at (xs ∷ xss) i zero h a n = absurd (omega arith)
flat-at (xs ∷ xss) zero (suc j) h a n = Memᴰ.append_left (flatten (take j xss)) n
flat-at (xs ∷ xss) (suc i) (suc j) h a n = Memᴰ.append_right xs (flat-at xss i j (omega arith) a n)

value-some : (s : List ℕ) (x : Least) → value_at s (Some x) ≡ least_text s x ∷ []
unfolding value_at
value-some s x = refl

value_none : (s : List ℕ) → value_at s None ≡ []
unfolding value_at
value_none s = refl

value-nil : (s : List ℕ) (r : Option Least) → take 1 (union texts (value_at s r) (smallest texts [])) ≡ value_at s r
unfolding smallest canon value_at
value-nil s (Some x) = ap (take 1) (union-right-nil texts (least_text s x ∷ []) (tt, tt))
value-nil s None = ap (take 1) (union-left-nil texts [])

module _
    (s ats ends : List ℕ) (n : ℕ) (xss : List (List Text)) (w : SetRuns s ats ends n xss) (j : ℕ) (h : j < n) where
  abbrev this : List Text
  this = get_or xss j []

  module _ (best : Option Least) (before : List ℕ) (b : LeastTo s ends n xss j best before) where
    least-next : (v : List Text) → take 1 (union texts (value_at s best) (smallest texts this)) ≡ v → v ≡ smallest texts (flatten (take (j + 1) xss))
    least-next v e =
        let l : j < length xss = omega (arith, w.long) in
        sym e
        ∙ ap (λ (v : List Text). take 1 (union texts v (smallest texts this))) b.least
        ∙ sym (smallest-snoc texts (take j xss) this)
        ∙ ap (λ (z : List (List Text)). smallest texts (flatten z)) (sym (take-suc xss j [] l) ∙ ap (λ (m : ℕ). take m xss) (sym (add-one j)))

    -- the first of run j is less than all before it
    least_first :
        (x : Least) → take 1 (union texts (value_at s best) (smallest texts this)) ≡ least_text s x ∷ [] →
        Low (least_text s x) (flatten (take j xss)) → j < length ats →
        SetRun s x.text.end (get_or ends j 0) (passed (least_text s x) this) → LeastTo s ends n xss (j + 1) (Some x) (set ats j x.text.end)
    unfolding value_at
    least_first x v low long r = record {
      least = least-next (least_text s x ∷ []) v;
      passes = below_more
          (λ (i : ℕ). i < n → SetRun s (get_or (set ats j x.text.end) i 0) (get_or ends i 0) (passed (least_text s x) (get_or xss i [])))
          j
          (λ i l k.
          let ne : i ≡ j → ⊥ = λ e. omega arith in
          rw (get_or-set_other ats j i x.text.end 0 ne, passed-low (least_text s x) (get_or xss i []) (λ a m. low a (flat-at xss i j l a m))) (w.each i k))
          (λ k. rw (get_or-set_same ats j x.text.end 0 long) r);
      stays = λ i k l. let ne : i ≡ j → ⊥ = λ e. omega arith in rw (get_or-set_other ats j i x.text.end 0 ne) (w.each i l);
    }

  -- the least so far is kept, and is not the first of run j
  least_kept :
      (best : Option Least) (before : List ℕ) → LeastTo s ends n xss j best before →
      take 1 (union texts (value_at s best) (smallest texts this)) ≡ value_at s best →
      IfSome best (λ x. passed (least_text s x) this ≡ this) →
      LeastTo s ends n xss (j + 1) best before
  least_kept None before b v p = record { least = least-next None before b (value_at s None) v; passes = tt; stays = tt }
  least_kept (Some x) before b v p = record {
    least = least-next (Some x) before b (value_at s (Some x)) v;
    passes = below_more
        (λ (i : ℕ). i < n → SetRun s (get_or before i 0) (get_or ends i 0) (passed (least_text s x) (get_or xss i [])))
        j
        b.passes
        (λ k. rw p (b.stays j (omega arith) k));
    stays = λ i k. b.stays i (omega arith);
  }

  -- the least so far is the first of run j too
  least-both :
      (x : Least) (before : List ℕ) → LeastTo s ends n xss j (Some x) before → (q : ℕ) →
      take 1 (union texts (value_at s (Some x)) (smallest texts this)) ≡ value_at s (Some x) → j < length before →
      SetRun s q (get_or ends j 0) (passed (least_text s x) this) → LeastTo s ends n xss (j + 1) (Some x) (set before j q)
  least-both x before b q v long r = record {
    least = least-next (Some x) before b (value_at s (Some x)) v;
    passes = below_more
        (λ (i : ℕ). i < n → SetRun s (get_or (set before j q) i 0) (get_or ends i 0) (passed (least_text s x) (get_or xss i [])))
        j
        (λ i l k. let ne : i ≡ j → ⊥ = λ e. omega arith in rw (get_or-set_other before j i q 0 ne) (b.passes i l k))
        (λ k. rw (get_or-set_same before j q 0 long) r);
    stays = λ i k l. let ne : i ≡ j → ⊥ = λ e. omega arith in rw (get_or-set_other before j i q 0 ne) (b.stays i (omega arith) l);
  }

-- ---- the answers of `lesser`

module _ {s : List ℕ} {best : Option Least} {before ats : List ℕ} {j end : ℕ} (right : RightLeast s ats best before) where
  lesser-none : ((xs : List Text) → SetRun s (get_or ats j 0) end xs → xs ≡ []) → Lesser s best before ats j end best before
  unfolding passed
  lesser-none k = record {
    right = right;
    more = λ ends n xss w h e b.
        let z : get_or xss j [] ≡ [] = k (get_or xss j []) (rw e at (w.each j h)) in
        least_kept s ats ends n xss w j h best before b (rw z (value-nil s best)) (kept-nil best z);
  }
    where
      kept-nil : (r : Option Least) {xs : List Text} → xs ≡ [] → IfSome r (λ x. passed (least_text s x) xs ≡ xs)
      kept-nil None e = tt
      kept-nil (Some x) e = rw e

  pub answer-end : end ≤ get_or ats j 0 → Lesser s best before ats j end best before
  answer-end h = lesser-none (λ xs r. set-end s (get_or ats j 0) end xs h r)

  pub answer-no-head : length s < 2 ^ 64 → NoHead form.Texts s (get_or ats j 0) → Lesser s best before ats j end best before
  answer-no-head l h = lesser-none (set-no-head s (get_or ats j 0) end l h)

-- the value x stands first in run j
pub record HeadOf (s ats : List ℕ) (j end : ℕ) (x : Least) : Type 0 where
  pub short : length s < 2 ^ 64
  pub start : x.start ≡ get_or ats j 0
  pub some : x.start < end
  pub inside : j < length ats
  pub head : HeadIs form.Texts s x.start x.text.start x.text.end

module _ {s ats : List ℕ} {j end : ℕ} {x : Least} (w : HeadOf s ats j end x) where
  abbrev first-text : Text
  first-text = least_text s x

  run-at : (xs : List Text) → SetRun s (get_or ats j 0) end xs → SetRun s x.start end xs
  run-at xs r = rw w.start r

  run-first : (xs : List Text) → SetRun s (get_or ats j 0) end xs → First form.Texts xs first-text (drop x.text.end s) (drop end s)
  run-first xs r = set_first s x.start end w.short w.some x.text.start x.text.end w.head xs (run-at xs r)

  run-passed : (m : Text) → first-text ≡ m → (xs : List Text) → SetRun s (get_or ats j 0) end xs → SetRun s x.text.end end (passed m xs)
  unfolding passed
  run-passed m e xs r =
      let f = run-first xs r in
      rw (f.all, (equal-true texts first-text m).1 e) (set_rest s end x.text.end xs first-text w.head.within r.within f)

  first-passed : (xs : List Text) → SetRun s (get_or ats j 0) end xs → SetRun s x.text.end end (passed first-text xs)
  first-passed = run-passed first-text refl

  run-least : (xs : List Text) → SetRun s (get_or ats j 0) end xs → smallest texts xs ≡ first-text ∷ []
  run-least xs r = set-smallest s x.start end w.short w.some x.text.start x.text.end w.head xs (run-at xs r)

  pub first-answer : (before : List ℕ) → before ≡ ats → Lesser s None before ats j end (Some x) (set before j x.text.end)
  first-answer before f = rw f record {
    right = w.head;
    more = λ ends n xss v h e b.
        let r : SetRun s (get_or ats j 0) end (get_or xss j []) = rw e at (v.each j h) in
        let none_yet = value_none s in
        least_first s ats ends n xss v j h None ats b x
        (rw (none_yet, run-least (get_or xss j []) r) (ap (take 1) (union-left-nil texts (first-text ∷ []))))
        (low-none first-text (flatten (take j xss)) (sym b.least ∙ none_yet))
        w.inside
        (rw e (first-passed (get_or xss j []) r));
  }

  -- it is compared with the least so far
  picked :
      (least : Least) (o : Ordering) → o ≡ texts.cmp first-text (least_text s least) → (xs : List Text) → SetRun s (get_or ats j 0) end xs →
      take 1 (union texts (value_at s (Some least)) (smallest texts xs))
      ≡ pick (flip o) (least_text s least ∷ []) (least_text s least ∷ []) (first-text ∷ [])
  picked least o c xs r =
      ap₂ (λ (u v : List Text). take 1 (union texts u v)) (value-some s least) (run-least xs r)
      ∙ smaller texts (least_text s least) first-text
      ∙ ap (λ (o : Ordering). pick o (least_text s least ∷ []) (least_text s least ∷ []) (first-text ∷ []))
      (texts.turn first-text (least_text s least) ∙ ap flip (sym c))

  module _ {least : Least} {before : List ℕ} where
    pub less-answer : Ordering.lt ≡ texts.cmp first-text (least_text s least) →
        Lesser s (Some least) before ats j end (Some x) (set ats j x.text.end)
    less-answer c = record {
      right = w.head;
      more = λ ends n xss v h e b.
          let r : SetRun s (get_or ats j 0) end (get_or xss j []) = rw e at (v.each j h) in
          least_first s ats ends n xss v j h (Some least) before b x
          (picked least Ordering.lt c (get_or xss j []) r)
          (low-less first-text (least_text s least) (flatten (take j xss)) (sym b.least ∙ value-some s least) (sym c))
          w.inside
          (rw e (first-passed (get_or xss j []) r));
    }

    pub both-answer : HeadIs form.Texts s least.start least.text.start least.text.end → j < length before →
        Ordering.eq ≡ texts.cmp first-text (least_text s least) →
        Lesser s (Some least) before ats j end (Some least) (set before j x.text.end)
    both-answer right long c = record {
      right = right;
      more = λ ends n xss v h e b.
          let r : SetRun s (get_or ats j 0) end (get_or xss j []) = rw e at (v.each j h) in
          least-both s ats ends n xss v j h least before b x.text.end
          (picked least Ordering.eq c (get_or xss j []) r ∙ sym (value-some s least))
          long
          (rw e (run-passed (least_text s least) (texts.same first-text (least_text s least) (sym c)) (get_or xss j []) r));
    }

    pub kept-answer : HeadIs form.Texts s least.start least.text.start least.text.end →
        Ordering.gt ≡ texts.cmp first-text (least_text s least) →
        Lesser s (Some least) before ats j end (Some least) before
    unfolding passed
    kept-answer right c = record {
      right = right;
      more = λ ends n xss v h e b.
          let r : SetRun s (get_or ats j 0) end (get_or xss j []) = rw e at (v.each j h) in
          let ne : first-text ≡ least_text s least → ⊥ = λ q. never (cc (c, texts.self first-text)) in
          least_kept s ats ends n xss v j h (Some least) before b
          (picked least Ordering.gt c (get_or xss j []) r ∙ sym (value-some s least))
          (rw ((run-first (get_or xss j []) r).all, (equal-false texts first-text (least_text s least)).1 ne));
    }

-- ---- the least of the first values of all runs

-- nothing is found in no runs
least-none : (s ends : List ℕ) (n : ℕ) (xss : List (List Text)) (after : List ℕ) → LeastTo s ends n xss 0 None after
unfolding smallest canon flatten
least-none s ends n xss after = record { least = value_none s; passes = tt; stays = tt }

get_d-passed : (m : Text) (xss : List (List Text)) (j : ℕ) → get_or (map (passed m) xss) j [] ≡ passed m (get_or xss j [])
unfolding passed
get_d-passed m [] j = refl
get_d-passed m (xs ∷ xss) zero = refl
get_d-passed m (xs ∷ xss) (suc j) = get_d-passed m xss j

length-map : (m : Text) (xss : List (List Text)) → length (map (passed m) xss) ≡ length xss
length-map m [] = refl
length-map m (xs ∷ xss) = ap suc (length-map m xss)

-- the first j of n runs are looked at
pub record LeastSofar (s ats ends : List ℕ) (n j : ℕ) (r : Option Least) (after : List ℕ) : Type 0 where
  pub right : RightLeast s ats r after
  pub least : (xss : List (List Text)) → SetRuns s ats ends n xss → LeastTo s ends n xss j r after

pub sofar-none : {s ats ends : List ℕ} {n : ℕ} → LeastSofar s ats ends n 0 None ats
sofar-none {s} {ats} {ends} {n} = record { right = refl; least = λ xss v. least-none s ends n xss ats }

module _ {s ats ends : List ℕ} {n j : ℕ} {r : Option Least} {before : List ℕ} (w : LeastSofar s ats ends n j r before) where
  pub sofar-on :
      {t : Option Least} {after : List ℕ} → j < n → Lesser s r before ats j (get_or ends j 0) t after → LeastSofar s ats ends n (j + 1) t after
  sofar-on h v = record { right = v.right; least = λ xss k. v.more ends n xss k h refl (w.least xss k) }

pub sofar-all :
    {s ats ends : List ℕ} {n j : ℕ} {r : Option Least} {after : List ℕ} → LeastSofar s ats ends n j r after → n ≡ j → IsLeast s ats ends n r after
sofar-all {s} {ats} {ends} {n} {j} {r} {after} w h = record {
  right = w.right;
  is = λ xss v. (w.least xss v).least ∙ ap (λ (z : List (List Text)). smallest texts (flatten z)) (take_all j xss (omega (arith, v.long)));
  goes = λ xss v. goes-on r xss v ((w.least xss v).passes);
}
  where
    goes-on :
        (r : Option Least) (xss : List (List Text)) → SetRuns s ats ends n xss →
        IfSome r (λ x. (i : ℕ) → i < j → i < n → SetRun s (get_or after i 0) (get_or ends i 0) (passed (least_text s x) (get_or xss i []))) →
        IfSome r (λ x. SetRuns s after ends n (map (passed (least_text s x)) xss))
    goes-on None xss v k = tt
    goes-on (Some x) xss v k = record {
      long = length-map (least_text s x) xss ∙ v.long;
      each = λ i l. rw (get_d-passed (least_text s x) xss i) (k i (omega arith) l);
    }

-- ---- the union of all runs from here on

-- The values xss are left in the runs; what is still to be done with their union is P
pub record Merging (s ats ends : List ℕ) (n : ℕ) (P : List Text → Type 0) : Type 0 where
  pub xss : List (List Text)
  pub runs : SetRuns s ats ends n xss
  pub so : P (canon texts (flatten xss))

all-ups : (xss : List (List Text)) → ((j : ℕ) → j < length xss → rising texts (get_or xss j []) ≡ true) → All (Ups texts) xss
all-ups [] h = tt
all-ups (xs ∷ xss) h = ((rising-ups texts xs).0 (h 0 (omega arith)), all-ups xss (λ j l. h (suc j) (omega arith)))

module _ {s ats ends : List ℕ} {n : ℕ} {P : List Text → Type 0} (g : Merging s ats ends n P) {after : List ℕ} where
  merging-first :
      {x : Least} → IsLeast s ats ends n (Some x) after → P (least_text s x ∷ canon texts (flatten (map (passed (least_text s x)) g.xss)))
  merging-first {x} w =
      let ups = all-ups g.xss (λ j l. (g.runs.each j (omega (arith, g.runs.long))).rises) in
      subst P (canon-least g.xss (least_text s x) ups (sym (w.is g.xss g.runs) ∙ value-some s x)) g.so

  merging-on :
      {x : Least} → IsLeast s ats ends n (Some x) after → (Q : List Text → Type 0) → ((zs : List Text) → P (least_text s x ∷ zs) → Q zs) →
      Merging s after ends n Q
  merging-on {x} w Q k = record {
    xss = map (passed (least_text s x)) g.xss;
    runs = w.goes g.xss g.runs;
    so = k (canon texts (flatten (map (passed (least_text s x)) g.xss))) (merging-first w);
  }

  merging-none : IsLeast s ats ends n None after → P []
  merging-none w = subst P (canon-none (flatten g.xss) (sym (w.is g.xss g.runs) ∙ value_none s)) g.so

-- ---- the steps of writing the union

-- `count` of the values `all` are written: zs are still to be written from p on
pub record Written (l₀ : List ℕ) (at : ℕ) (all : List Text) (l : List ℕ) (p count : ℕ) (zs : List Text) : Type 0 where
  pub go : ToGo l₀ at (flatten (map text all)) l p (flatten (map text zs))
  pub counted : length all ≡ count + length zs

written_none : (l : List ℕ) (at : ℕ) (zs : List Text) → Written l at zs l at 0 zs
written_none l at zs = record { go = to-go; counted = omega arith }

module _ {s ats ends : List ℕ} {n : ℕ} {l₀ l : List ℕ} {all : List Text} {at p count : ℕ}
    (g : Merging s ats ends n (Written l₀ at all l p count)) {after : List ℕ} where
  merged-wrote : IsLeast s ats ends n None after → Wrote l₀ at (flatten (map text all)) l p
  unfolding flatten
  merged-wrote w = all-gone (merging-none g w).go refl

  merged-counted : IsLeast s ats ends n None after → count ≡ length all
  merged-counted w = omega (arith, (merging-none g w).counted)

  module _ {x : Least} (w : IsLeast s ats ends n (Some x) after) where
    head_bytes : part s x.start x.text.end ≡ written form.Texts (least_text s x)
    head_bytes = head-part form.Texts s x.start x.text.start x.text.end w.right

    least-room : at + length (flatten (map text all)) ≤ length l₀ → p + length (part s x.start x.text.end) ≤ length l
    unfolding written
    least-room h =
        let rest = canon texts (flatten (map (passed (least_text s x)) g.xss)) in
        write-room form.Texts (least_text s x) rest (part s x.start x.text.end) h head_bytes (merging-first g w).go

    least-wrote :
        {l₁ : List ℕ} {p₁ : ℕ} → Wrote l p (part s x.start x.text.end) l₁ p₁ →
        Merging s after ends n (Written l₀ at all l₁ p₁ (count + 1))
    unfolding written
    least-wrote {l₁} {p₁} o = merging-on g w (Written l₀ at all l₁ p₁ (count + 1)) (λ zs h. record {
      go = write-next form.Texts (least_text s x) zs (part s x.start x.text.end) o head_bytes h.go;
      counted = omega (arith, h.counted);
    })

-- ---- the loop that writes the union

-- `out` has the first `count` values of the union, each of a byte at least
pub record Merges (s starts ends : List ℕ) (n : ℕ) (out₀ : List ℕ) (at : ℕ) (out left : List ℕ) (next count : ℕ) : Type 0 where
  pub wanted : MergedRoom s starts ends n at (length out₀)
  pub long : length out ≡ length out₀
  pub few : at + count ≤ next
  pub merging :
      (xss : List (List Text)) → SetRuns s starts ends n xss → Merging s left ends n (Written out₀ at (canon texts (flatten xss)) out next count)

pub merges-none :
    {s starts ends : List ℕ} {n : ℕ} {out₀ : List ℕ} {at : ℕ} → MergedRoom s starts ends n at (length out₀) →
    Merges s starts ends n out₀ at out₀ starts at 0
merges-none h = record {
  wanted = h;
  long = refl;
  few = omega arith;
  merging = λ xss v. record { xss = xss; runs = v; so = written_none _ _ _ };
}

module _ {s starts ends : List ℕ} {n : ℕ} {out₀ : List ℕ} {at : ℕ} {out left : List ℕ} {next count : ℕ}
    (w : Merges s starts ends n out₀ at out left next count) {after : List ℕ} where
  -- no run has a value left
  module _ (l : IsLeast s left ends n None after) where
    pub merges-wrote : (xss : List (List Text)) → SetRuns s starts ends n xss → Wrote out₀ at (flatten (map text (canon texts (flatten xss)))) out next
    merges-wrote xss v = merged-wrote (w.merging xss v) l

    pub merges-counted : (xss : List (List Text)) → SetRuns s starts ends n xss → count ≡ length (canon texts (flatten xss))
    merges-counted xss v = merged-counted (w.merging xss v) l

  -- the least is found: it has its room, and takes a byte at least
  module _ {x : Least} (l : IsLeast s left ends n (Some x) after) where
    pub least-fits : (x.start ≤ x.text.end) × (x.text.end ≤ length s) × (next + length (part s x.start x.text.end) ≤ length out)
    least-fits =
        let head = l.right in
        (omega (arith, head.after), head.within, least-room (w.merging w.wanted.xss w.wanted.runs) l w.wanted.room)

    pub least-some : 1 ≤ length (part s x.start x.text.end)
    least-some = let head = l.right in omega (arith, head.after, part_length s x.start x.text.end (omega (arith, head.after)) head.within)

    pub merges-on :
        {out₁ : List ℕ} {p₁ : ℕ} → Wrote out next (part s x.start x.text.end) out₁ p₁ →
        Merges s starts ends n out₀ at out₁ after p₁ (count + 1)
    merges-on o = record {
      wanted = w.wanted;
      long = wrote-length o ∙ w.long;
      few = omega (arith, w.few, least-some, o.after);
      merging = λ xss h. least-wrote (w.merging xss h) l o;
    }
