-- The laws of runs: their heads, and the steps through two of them.
use mathlib.Core.Path.{◌≡◌, refl, sym, ap, ◌∙◌, subst, subst₂}
use mathlib.Core.Logic.{⊎_elim}
use mathlib.Core.Bool.{true}
use mathlib.Core.List.{List, [], ◌∷◌, ◌++◌, append_assoc, append-nil, map, flatten}
use Prim.Native.Nat.{Ordering}
use Prim.Native.Nat.{ℕ, suc, ◌+◌, ◌-◌, ◌^◌, ◌≤◌, ◌<◌}
use native.Mathlib.Omega.{arith}
use lib.ListN.{length, take, drop, length-append, length-drop, take-append-drop}
use lib.Seq.{drop-drop, take_at, drop_at}
use lib.Dec.{leb}
use borrow.Author.Tests.{leb-true, leb-false}
use Rattle.model.proofs.Cases.{truth}
use Rattle.model.specs.Order.{Text, texts, rising, pick}
use Rattle.model.specs.Sets.{Ups, union}
use Rattle.model.proofs.SetLaws.{rising-ups}
use Rattle.model.proofs.StepLaws.{union-step, union-left-nil, union-right-nil}
use Rattle.packed.specs.Parse.{fail, got}
use Rattle.packed.specs.Packed.{text, read_text, part}
use Rattle.packed.specs.code.Located.{text_at}
use Rattle.packed.proofs.LayoutLaws.{All, text-read, text-was, text-length, number-bounds, flat}
use Rattle.packed.proofs.ReadLaws.{text-stops, text-none, part_length, to_end, stretch}
use Rattle.packed.specs.code.Written.{Wrote, ToGo}
use Rattle.packed.proofs.WriteLaws.{to-go, gone, all-gone, wrote-length}
use Rattle.unions.specs.declared.heads.Form.{Form}
use Rattle.unions.specs.declared.heads.Form.TheVariants as form
use Rattle.unions.specs.declared.pair.Joined.{Joined}
use Rattle.unions.specs.code.Runs.{written, fits, run, Hashes, Run, HeadIs, NoHead, Heads, Room, TextsRoom, HashesRoom}
use Rattle.unions.specs.code.Runs.{StepIs, Stepped, IsAlone, WroteUnion}
use Rattle.std.specs.Prelude.{Option, Some, None}
use Rattle.std.specs.Bool.{then_some}
use Rattle.packed.specs.declared.read.TextAt.{TextAt}

-- ---- a value's bytes: never none, and where one value's bytes end the next one's begin

written-long : (f : Form) (v : Text) → fits f v → 1 ≤ length (written f v)
unfolding written fits
written-long form.Texts v h = omega (arith, text-length v, number-bounds (length v))
written-long form.Hashes v h = omega arith

written_apart : (f : Form) (u v : Text) (r t : List ℕ) → fits f u → fits f v → written f u ++ r ≡ written f v ++ t → (u ≡ v) × (r ≡ t)
unfolding written fits
written_apart form.Texts u v r t h k e =
    let g : got u r ≡ got v t = sym (text-read u r h) ∙ ap read_text e ∙ text-read v t k in
    (cc, cc)
written_apart form.Hashes u v r t h k e =
    (sym (take_at u r 20 h) ∙ ap (take 20) e ∙ take_at v t 20 k, sym (drop_at u r 20 h) ∙ ap (drop 20) e ∙ drop_at v t 20 k)

-- ---- heads

-- a part, and what stands after it
pub part_then : (s : List ℕ) (a e : ℕ) → a ≤ e → e ≤ length s → drop a s ≡ part s a e ++ drop e s
part_then s a e h k =
    let n : a + (e - a) ≡ e = omega arith in
    sym (take-append-drop (e - a) (drop a s)) ∙ ap (λ (r : List ℕ). part s a e ++ r) (drop-drop (e - a) a s ∙ ap (λ (i : ℕ). drop i s) n)

text_head : (s : List ℕ) (i : ℕ) (r : Option TextAt) → r ≡ text_at s i → Heads form.Texts s i r
unfolding written fits
text_head s i (Some x) h =
    let t = text-stops s i x (sym h) in
    let w = text-was (drop i s) (part s x.start x.end) (drop x.end s) t.is in
    record { order = t.order; after = omega (arith, t.after, t.order); within = t.within; fit = w.1; bytes = w.0 }
text_head s i None h = record {
  none = λ v r k e.
      let g : got v r ≡ fail = sym (text-read v r k) ∙ ap read_text (sym e) ∙ text-none s i (sym h) in
      let z : ◌≡◌ {A = ℕ} 0 1 = cc in
      absurd (omega arith);
}

-- the steps of finding a head, each for a return of `head_at`
pub texts-head : (f : Form) (s : List ℕ) (i : ℕ) {r : Option TextAt} → f ≡ form.Texts → r ≡ text_at s i → Heads f s i r
texts-head f s i {r} e h = rw e (text_head s i r h)

hash-head : {f : Form} {s : List ℕ} {i : ℕ} → f ≡ form.Hashes → i + 20 ≤ length s → HeadIs f s i i (i + 20)
unfolding written fits
hash-head {f} {s} {i} e h =
    let k : i + 20 - i ≡ 20 = omega arith in
    rw e record {
      order = omega arith;
      after = omega arith;
      within = h;
      fit = part_length s i (i + 20) (omega arith) h ∙ k;
      bytes = part_then s i (i + 20) (omega arith) h;
    }

pub no-hash : {f : Form} {s : List ℕ} {i : ℕ} → f ≡ form.Hashes → length s < i + 20 → NoHead f s i
unfolding written fits
no-hash {f} {s} {i} e h = rw e record { none = λ v r k q. omega (arith, ap length q, length-drop i s, length-append v r) }

pub hash-within :
    {f : Form} (s : List ℕ) (i : ℕ) {e : ℕ} → f ≡ form.Hashes → e ≡ i + 20 →
    Heads f s i (then_some (leb e (length s)) (record { start = i; end = e }))
hash-within {f} s i {e} h q =
    truth (leb e (length s))
    (λ t. rw (t, q) (hash-head h (omega (arith, leb-true _ _ t))))
    (λ t. rw t (no-hash h (omega (arith, leb-false _ _ t))))

-- the value that a run begins with is the one whose bytes stand there
pub run-head : (f : Form) (s : List ℕ) (u : Text) (us : List Text) (rest : List ℕ) (v : Text) (t : List ℕ) →
    Run f s (u ∷ us) rest → s ≡ written f v ++ t → fits f v → (u ≡ v) × Run f t us rest
unfolding flatten
run-head f s u us rest v t r e h =
    let q = written_apart f u v (run f us ++ rest) t r.each.0 h (sym (append_assoc (written f u) (run f us) rest) ∙ sym r.bytes ∙ e) in
    (q.0, record { bytes = sym q.1; each = r.each.1; rises = r.rises.1 })

-- xs begins with v, and what is left of it stands in t
pub record First (f : Form) (xs : List Text) (v : Text) (t rest : List ℕ) : Type 0 where
  pub more : List Text
  pub all : xs ≡ v ∷ more
  pub left : Run f t more rest

module _ (f : Form) (s : List ℕ) (i : ℕ) where
  first_of : (a e : ℕ) → HeadIs f s i a e → (xs : List Text) → Run f (drop i s) xs [] → First f xs (part s a e) (drop e s) []
  unfolding flatten
  first_of a e w [] r =
      let v = part s a e in
      absurd (omega (arith, ap length (sym w.bytes ∙ r.bytes), length-append (written f v) (drop e s), written-long f v w.fit))
  first_of a e w (u ∷ us) r =
      let q = run-head f (drop i s) u us [] (part s a e) (drop e s) r w.bytes w.fit in
      record { more = us; all = ap (λ (v : Text). v ∷ us) q.0; left = q.1 }

  first-none : NoHead f s i → (xs : List Text) → Run f (drop i s) xs [] → xs ≡ []
  unfolding flatten
  first-none w [] r = refl
  first-none w (u ∷ us) r = absurd (w.none u (run f us ++ []) r.each.0 (r.bytes ∙ append_assoc (written f u) (run f us) []))

  -- where a head starts its run
  pub head-part : (a e : ℕ) → HeadIs f s i a e → part s i e ≡ written f (part s a e)
  head-part a e w =
      let h : i ≤ length s = omega (arith, w.after, w.within) in
      (stretch s (written f (part s a e)) i e h w.within w.bytes).0

-- ---- counting one run

-- n values are counted of `all`, and the others stand in s
pub record Left (f : Form) (s : List ℕ) (all n : ℕ) : Type 0 where
  pub more : List Text
  pub left : Run f s more []
  pub counted : all ≡ n + length more

-- n values are counted from `at` up to i, each of a byte at least
pub record CountingOne (f : Form) (s : List ℕ) (at i n : ℕ) : Type 0 where
  pub low : at ≤ i
  pub high : i ≤ length s
  pub few : n ≤ i - at
  pub going : (xs : List Text) → Run f (drop at s) xs [] → Left f (drop i s) (length xs) n

pub one_none : {f : Form} {s : List ℕ} {at : ℕ} → at ≤ length s → CountingOne f s at at 0
one_none h = record { low = omega arith; high = h; few = omega arith; going = λ xs r. record { more = xs; left = r; counted = omega arith } }

module _ {f : Form} {s : List ℕ} {at i n : ℕ} (w : CountingOne f s at i n) where
  pub one_on : {a e : ℕ} → HeadIs f s i a e → CountingOne f s at e (n + 1)
  one_on {a} {e} h = record {
    low = omega (arith, w.low, h.after);
    high = h.within;
    few = omega (arith, w.low, w.few, h.after);
    going = λ xs r.
        let g = w.going xs r in
        let q = first_of f s i a e h g.more g.left in
        record { more = q.more; left = q.left; counted = omega (arith, g.counted, ap length q.all) };
  }

  pub one-all : NoHead f s i → (xs : List Text) → Run f (drop at s) xs [] → n ≡ length xs
  one-all h xs r = let g = w.going xs r in omega (arith, g.counted, ap length (first-none f s i h g.more g.left))

-- ---- a step through two runs, by the comparison of their heads

module _ {f : Form} {a : List ℕ} {i p x : ℕ} {b : List ℕ} {j q y : ℕ} (hx : HeadIs f a i p x) (hy : HeadIs f b j q y) where
  joined : (xs ys : List Text) (rx : Run f (drop i a) xs []) (ry : Run f (drop j b) ys []) →
      let u = (first_of f a i p x hx xs rx).more in
      let v = (first_of f b j q y hy ys ry).more in
      let m = part a p x in
      let n = part b q y in
      union texts xs ys ≡ pick (texts.cmp m n) (m ∷ union texts u ys) (m ∷ union texts u v) (n ∷ union texts xs v)
  joined xs ys rx ry = go xs ys (first_of f a i p x hx xs rx).all (first_of f b j q y hy ys ry).all rx.rises ry.rises
    where
      go : {us vs : List Text} {u v : Text} (xs ys : List Text) → xs ≡ u ∷ us → ys ≡ v ∷ vs → Ups texts xs → Ups texts ys →
          union texts xs ys ≡ pick (texts.cmp u v) (u ∷ union texts us ys) (u ∷ union texts us vs) (v ∷ union texts xs vs)
      go {us} {vs} {u} {v} xs ys e g h k = rw (e, g) (union-step texts u us v vs (subst (Ups texts) e h) (subst (Ups texts) g k))

  by_less : texts.cmp (part a p x) (part b q y) ≡ Ordering.lt → StepIs f a i b j (part a i x) 1 x j
  by_less o = record {
    within = hx.within;
    within' = omega (arith, hy.after, hy.within);
    more = omega (arith, hx.after);
    takes = λ xs ys rx ry.
        let u = first_of f a i p x hx xs rx in
        record {
          value = part a p x;
          xs' = u.more;
          ys' = ys;
          is = head-part f a i p x hx;
          left = u.left;
          right = ry;
          first = joined xs ys rx ry ∙ rw o;
          fewer = omega (arith, ap length u.all);
        };
  }

  by-same : texts.cmp (part a p x) (part b q y) ≡ Ordering.eq → StepIs f a i b j (part a i x) 2 x y
  by-same o = record {
    within = hx.within;
    within' = hy.within;
    more = omega (arith, hx.after, hy.after);
    takes = λ xs ys rx ry.
        let u = first_of f a i p x hx xs rx in
        let v = first_of f b j q y hy ys ry in
        record {
          value = part a p x;
          xs' = u.more;
          ys' = v.more;
          is = head-part f a i p x hx;
          left = u.left;
          right = v.left;
          first = joined xs ys rx ry ∙ rw o;
          fewer = omega (arith, ap length u.all, ap length v.all);
        };
  }

  by-more : texts.cmp (part a p x) (part b q y) ≡ Ordering.gt → StepIs f a i b j (part b j y) 1 i y
  by-more o = record {
    within = omega (arith, hx.after, hx.within);
    within' = hy.within;
    more = omega (arith, hy.after);
    takes = λ xs ys rx ry.
        let v = first_of f b j q y hy ys ry in
        record {
          value = part b q y;
          xs' = xs;
          ys' = v.more;
          is = head-part f b j q y hy;
          left = rx;
          right = v.left;
          first = joined xs ys rx ry ∙ rw o;
          fewer = omega (arith, ap length v.all);
        };
  }

module _ {f : Form} {a : List ℕ} {i : ℕ} {b : List ℕ} {j p x q y : ℕ} (hx : HeadIs f a i p x) (hy : HeadIs f b j q y) where
  pub step_less : Ordering.lt ≡ texts.cmp (part a p x) (part b q y) → StepIs f a i b j (part a i x) 1 x j
  step_less o = by_less hx hy (sym o)

  pub step_same : Ordering.eq ≡ texts.cmp (part a p x) (part b q y) → StepIs f a i b j (part a i x) 2 x y
  step_same o = by-same hx hy (sym o)

  pub step-more : Ordering.gt ≡ texts.cmp (part a p x) (part b q y) → StepIs f a i b j (part b j y) 1 i y
  step-more o = by-more hx hy (sym o)

pub stepped :
    {f : Form} {a : List ℕ} {i : ℕ} {b : List ℕ} {j : ℕ} {head : List ℕ} {n x y : ℕ} → StepIs f a i b j head n x y → Stepped f a i b j x y
stepped {head = head} {n = n} w = record { head = head; n = n; step = w }

-- ---- the union of two runs from here on

-- The values xs and ys are left, in s and t; P says of how many there are, and of their union, what is still to be done
pub record Going (f : Form) (s t : List ℕ) (P : ℕ → List Text → Type 0) : Type 0 where
  pub xs : List Text
  pub ys : List Text
  pub left : Run f s xs []
  pub right : Run f t ys []
  pub so : P (length xs + length ys) (union texts xs ys)

module _ {f : Form} {P : ℕ → List Text → Type 0} (a : List ℕ) (i : ℕ) (b : List ℕ) (j : ℕ) (g : Going f (drop i a) (drop j b) P) where
  going_on : (Q : ℕ → List Text → Type 0) {head : List ℕ} {n x y : ℕ} → StepIs f a i b j head n x y →
      ((v : Text) (m : ℕ) (zs : List Text) → head ≡ written f v → P (n + m) (v ∷ zs) → Q m zs) → Going f (drop x a) (drop y b) Q
  going_on Q w k =
      let t = w.takes g.xs g.ys g.left g.right in
      record {
        xs = t.xs';
        ys = t.ys';
        left = t.left;
        right = t.right;
        so = k t.value (length t.xs' + length t.ys') (union texts t.xs' t.ys') t.is (subst₂ P t.fewer t.first g.so);
      }

  -- one side alone is left
  left_alone : NoHead f b j → (g.ys ≡ []) × P (length g.xs) g.xs
  left_alone w =
      let e = first-none f b j w g.ys g.right in
      let n : length g.xs + length g.ys ≡ length g.xs = omega (arith, ap length e) in
      (e, subst₂ P n (ap (union texts g.xs) e ∙ union-right-nil texts g.xs g.left.rises) g.so)

  right-alone : NoHead f a i → (g.xs ≡ []) × P (length g.ys) g.ys
  right-alone w =
      let e = first-none f a i w g.xs g.left in
      let n : length g.xs + length g.ys ≡ length g.ys = omega (arith, ap length e) in
      (e, subst₂ P n (ap (λ (xs : List Text). union texts xs g.ys) e ∙ union-left-nil texts g.ys) g.so)

-- ---- counting a union

-- n values are counted where i and j are reached, each of a byte at least
pub record Counting (f : Form) (a b : List ℕ) (i j n : ℕ) : Type 0 where
  pub left_in : i ≤ length a
  pub right-in : j ≤ length b
  pub few : n ≤ i + j
  pub going :
      (xs ys : List Text) → Run f a xs [] → Run f b ys [] → Going f (drop i a) (drop j b) (λ m zs. length (union texts xs ys) ≡ n + length zs)

pub counting-none : {f : Form} {a b : List ℕ} → Counting f a b 0 0 0
counting-none = record {
  left_in = omega arith;
  right-in = omega arith;
  few = omega arith;
  going = λ xs ys rx ry. record { xs = xs; ys = ys; left = rx; right = ry; so = omega arith };
}

module _ {f : Form} {a b : List ℕ} {i j n : ℕ} (w : Counting f a b i j n) where
  pub counting-on : {x y : ℕ} → Stepped f a i b j x y → Counting f a b x y (n + 1)
  counting-on v = record {
    left_in = v.step.within;
    right-in = v.step.within';
    few = omega (arith, v.step.more, w.few);
    going = λ xs ys rx ry.
        going_on a i b j (w.going xs ys rx ry) (λ m zs. length (union texts xs ys) ≡ n + 1 + length zs) v.step (λ u m zs e h. omega (arith, h));
  }

  -- one side alone is left, of p or of q values
  pub counting-all :
      {p q : ℕ} → IsAlone f a i b j → ((xs : List Text) → Run f (drop i a) xs [] → p ≡ length xs) →
      ((ys : List Text) → Run f (drop j b) ys [] → q ≡ length ys) →
      (xs ys : List Text) → Run f a xs [] → Run f b ys [] → n + p + q ≡ length (union texts xs ys)
  counting-all v h k xs ys rx ry =
      let g = w.going xs ys rx ry in
      let p-is = h g.xs g.left in
      let q-is = k g.ys g.right in
      ⊎_elim
      (λ l. let r = right-alone a i b j g l in omega (arith, ap length r.0, r.1))
      (λ r. let l = left_alone a i b j g r in omega (arith, ap length l.0, l.1))
      v.either

-- ---- what is written of a union

module _ (f : Form) {l₀ whole l : List ℕ} {at p : ℕ} where
  pub write-room : (v : Text) (zs : List Text) (head : List ℕ) → at + length whole ≤ length l₀ → head ≡ written f v →
      ToGo l₀ at whole l p (run f (v ∷ zs)) → p + length head ≤ length l
  unfolding flatten
  write-room v zs head h e g = omega (arith, g.after, g.long, ap length e, length-append (written f v) (run f zs))

  pub write-next : {l₁ : List ℕ} {p₁ : ℕ} (v : Text) (zs : List Text) (head : List ℕ) → Wrote l p head l₁ p₁ → head ≡ written f v →
      ToGo l₀ at whole l p (run f (v ∷ zs)) → ToGo l₀ at whole l₁ p₁ (run f zs)
  unfolding flatten
  write-next v zs head w e g = gone head (run f zs) g (ap (λ (x : List ℕ). x ++ run f zs) (sym e)) w

-- of the union of xs and ys zs is still to be written, of m values on both sides, and `shared` values were on both so far
pub record ToJoin (f : Form) (l₀ : List ℕ) (at : ℕ) (xs ys : List Text) (l : List ℕ) (p shared m : ℕ) (zs : List Text) : Type 0 where
  pub writes : ToGo l₀ at (run f (union texts xs ys)) l p (run f zs)
  pub counts : shared + m + length (union texts xs ys) ≡ length xs + length ys + length zs

module _ (f : Form) (a : List ℕ) (i : ℕ) (b : List ℕ) (j : ℕ) (l₀ : List ℕ) (at : ℕ) (xs ys : List Text) (l : List ℕ) (p shared : ℕ)
    (g : Going f (drop i a) (drop j b) (ToJoin f l₀ at xs ys l p shared)) where
  head-room :
      {head : List ℕ} {n x y : ℕ} → StepIs f a i b j head n x y → at + length (run f (union texts xs ys)) ≤ length l₀ →
      p + length head ≤ length l
  head-room {head} w h = (going_on a i b j g (λ m zs. p + length head ≤ length l) w (λ v m zs e k. write-room f v zs head h e k.writes)).so

  head-wrote :
      {head l₁ : List ℕ} {n x y p₁ shared₁ : ℕ} → StepIs f a i b j head n x y → shared + n ≡ shared₁ + 1 → Wrote l p head l₁ p₁ →
      Going f (drop x a) (drop y b) (ToJoin f l₀ at xs ys l₁ p₁ shared₁)
  head-wrote {head} {l₁} {n} {x} {y} {p₁} {shared₁} w c o = going_on a i b j g (ToJoin f l₀ at xs ys l₁ p₁ shared₁) w
      (λ v m zs e k. record { writes = write-next f v zs head o e k.writes; counts = omega (arith, k.counts) })

-- the values zs of one side are left, and stand in s from i on
module _ (f : Form) (s : List ℕ) (i : ℕ) {l₀ : List ℕ} {at : ℕ} {xs ys : List Text} {l : List ℕ} {p shared : ℕ} (zs : List Text)
    (g : ToJoin f l₀ at xs ys l p shared (length zs) zs) (r : Run f (drop i s) zs []) where
  rest : run f zs ≡ part s i (length s)
  rest = sym (append-nil (run f zs)) ∙ sym r.bytes ∙ sym (to_end s i)

  rest-room : at + length (run f (union texts xs ys)) ≤ length l₀ → p + length (part s i (length s)) ≤ length l
  rest-room h = omega (arith, g.writes.after, g.writes.long, ap length rest)

  rest-wrote : {l₁ : List ℕ} {p₁ : ℕ} → Wrote l p (part s i (length s)) l₁ p₁ →
      WroteUnion l₀ at (run f (union texts xs ys)) l₁ xs ys (record { next = p₁; shared = shared })
  rest-wrote w = record {
    wrote = all-gone (gone (part s i (length s)) [] g.writes (rest ∙ sym (append-nil (part s i (length s)))) w) refl;
    counts = omega (arith, g.counts);
  }

-- ---- the loop that writes a union

-- `out` has what a up to i and b up to j give, and `shared` values were on both sides, each of a byte of a at least
pub record Joining (f : Form) (a b out₀ : List ℕ) (at : ℕ) (out : List ℕ) (i j next shared : ℕ) : Type 0 where
  pub wanted : Room f a b at (length out₀)
  pub left_in : i ≤ length a
  pub right-in : j ≤ length b
  pub long : length out ≡ length out₀
  pub few : shared ≤ i
  pub going :
      (xs ys : List Text) → Run f a xs [] → Run f b ys [] → Going f (drop i a) (drop j b) (ToJoin f out₀ at xs ys out next shared)

pub joining-none : {f : Form} {a b out₀ : List ℕ} {at : ℕ} → Room f a b at (length out₀) → Joining f a b out₀ at out₀ 0 0 at 0
joining-none h = record {
  wanted = h;
  left_in = omega arith;
  right-in = omega arith;
  long = refl;
  few = omega arith;
  going = λ xs ys rx ry. record { xs = xs; ys = ys; left = rx; right = ry; so = record { writes = to-go; counts = omega arith } };
}

module _ {f : Form} {a b out₀ : List ℕ} {at : ℕ} {out : List ℕ} {i j next shared : ℕ} (w : Joining f a b out₀ at out i j next shared) where
  abbrev asked : Going f (drop i a) (drop j b) (ToJoin f out₀ at w.wanted.xs w.wanted.ys out next shared)
  asked = w.going w.wanted.xs w.wanted.ys w.wanted.left w.wanted.right

  step_room : {head : List ℕ} {n x y : ℕ} → StepIs f a i b j head n x y → next + length head ≤ length out
  step_room v = head-room f a i b j out₀ at w.wanted.xs w.wanted.ys out next shared asked v w.wanted.room

  step-on : {head out₁ : List ℕ} {n x y p₁ shared₁ : ℕ} → StepIs f a i b j head n x y → shared + n ≡ shared₁ + 1 → shared₁ ≤ x →
      Wrote out next head out₁ p₁ → Joining f a b out₀ at out₁ x y p₁ shared₁
  step-on v c l o = record {
    wanted = w.wanted;
    left_in = v.within;
    right-in = v.within';
    long = wrote-length o ∙ w.long;
    few = l;
    going = λ xs ys rx ry. head-wrote f a i b j out₀ at xs ys out next shared (w.going xs ys rx ry) v c o;
  }

  -- the value that stands first in a is written, n is 2 where it stands first in b too
  pub record LeftStep (n x y : ℕ) : Type 0 where
    pub on : i < x
    pub most : n ≤ 2
    pub step : StepIs f a i b j (part a i x) n x y

  -- the value that stands first in b is written
  pub record RightStep (y : ℕ) : Type 0 where
    pub on : j < y
    pub step : StepIs f a i b j (part b j y) 1 i y

  module _ {p x q y : ℕ} (hx : HeadIs f a i p x) (hy : HeadIs f b j q y) where
    pub less-step : Ordering.lt ≡ texts.cmp (part a p x) (part b q y) → LeftStep 1 x j
    less-step o = record { on = hx.after; most = omega arith; step = step_less hx hy o }

    pub same_step : Ordering.eq ≡ texts.cmp (part a p x) (part b q y) → LeftStep 2 x y
    same_step o = record { on = hx.after; most = omega arith; step = step_same hx hy o }

    pub more-step : Ordering.gt ≡ texts.cmp (part a p x) (part b q y) → RightStep y
    more-step o = record { on = hy.after; step = step-more hx hy o }

  -- a has no more values: the rest of b is written
  module _ (v : NoHead f a i) where
    pub right-rest : (j ≤ length b) × (length b ≤ length b) × (next + length (part b j (length b)) ≤ length out)
    right-rest = (w.right-in, omega arith, rest-room f b j asked.ys (right-alone a i b j asked v).1 asked.right w.wanted.room)

    pub right-wrote :
        {out₁ : List ℕ} {p₁ : ℕ} → Wrote out next (part b j (length b)) out₁ p₁ → (xs ys : List Text) → Run f a xs [] → Run f b ys [] →
        WroteUnion out₀ at (run f (union texts xs ys)) out₁ xs ys (record { next = p₁; shared = shared })
    right-wrote o xs ys rx ry =
        let g = w.going xs ys rx ry in
        rest-wrote f b j g.ys (right-alone a i b j g v).1 g.right o

  module _ (v : NoHead f b j) where
    pub left-rest : (i ≤ length a) × (length a ≤ length a) × (next + length (part a i (length a)) ≤ length out)
    left-rest = (w.left_in, omega arith, rest-room f a i asked.xs (left_alone a i b j asked v).1 asked.left w.wanted.room)

    pub left-wrote :
        {out₁ : List ℕ} {p₁ : ℕ} → Wrote out next (part a i (length a)) out₁ p₁ → (xs ys : List Text) → Run f a xs [] → Run f b ys [] →
        WroteUnion out₀ at (run f (union texts xs ys)) out₁ xs ys (record { next = p₁; shared = shared })
    left-wrote o xs ys rx ry =
        let g = w.going xs ys rx ry in
        rest-wrote f a i g.xs (left_alone a i b j g v).1 g.left o

module _ {f : Form} {a b out₀ : List ℕ} {at : ℕ} {out : List ℕ} {i j next shared : ℕ} {w : Joining f a b out₀ at out i j next shared} where
  module _ {n x y : ℕ} (v : LeftStep w n x y) where
    pub left-fits : (i ≤ x) × (x ≤ length a) × (next + length (part a i x) ≤ length out)
    left-fits = (omega (arith, v.on), v.step.within, step_room w v.step)

    pub left-on :
        {out₁ : List ℕ} {p₁ shared₁ : ℕ} → shared + n ≡ shared₁ + 1 → Wrote out next (part a i x) out₁ p₁ →
        Joining f a b out₀ at out₁ x y p₁ shared₁
    left-on c o = step-on w v.step c (omega (arith, v.on, v.most, w.few)) o

  module _ {y : ℕ} (v : RightStep w y) where
    pub right-fits : (j ≤ y) × (y ≤ length b) × (next + length (part b j y) ≤ length out)
    right-fits = (omega (arith, v.on), v.step.within', step_room w v.step)

    pub right-on : {out₁ : List ℕ} {p₁ : ℕ} → Wrote out next (part b j y) out₁ p₁ → Joining f a b out₀ at out₁ i y p₁ shared
    right-on o = step-on w v.step refl w.few o

-- ---- the runs in the words of the callers

pub texts-fit : (xs : List Text) → length (flatten (map text xs)) < 2 ^ 64 → All (fits form.Texts) xs
unfolding fits flatten
texts-fit [] h = tt
texts-fit (x ∷ xs) h =
    let k = length-append (text x) (flatten (map text xs)) in
    (omega (arith, k, text-length x), texts-fit xs (omega (arith, k)))

pub text-run : (s : List ℕ) (xs : List Text) → length s < 2 ^ 64 → s ≡ flatten (map text xs) → rising texts xs ≡ true → Run form.Texts s xs []
unfolding written
text-run s xs l e h = record {
  bytes = e ∙ sym (append-nil (flatten (map text xs)));
  each = texts-fit xs (omega (arith, ap length e));
  rises = (rising-ups texts xs).0 h;
}

hashes-fit : (hs : List Text) → Hashes hs → All (fits form.Hashes) hs
unfolding fits
hashes-fit [] h = tt
hashes-fit (x ∷ xs) h = (h 0 (omega arith), hashes-fit xs (λ i k. h (suc i) (omega arith)))

pub hash-run : (s : List ℕ) (hs : List Text) → s ≡ flatten hs → Hashes hs → rising texts hs ≡ true → Run form.Hashes s hs []
unfolding written
hash-run s hs e k h = record {
  bytes = e ∙ sym (flat hs) ∙ sym (append-nil (flatten (map (λ (h : Text). h) hs)));
  each = hashes-fit hs k;
  rises = (rising-ups texts hs).0 h;
}

-- the rooms that the callers give
pub texts-room : {a b : List ℕ} {at size : ℕ} → length a < 2 ^ 64 → length b < 2 ^ 64 → TextsRoom a b at size → Room form.Texts a b at size
unfolding written
texts-room {a} {b} k l w = record {
  xs = w.xs;
  ys = w.ys;
  left = text-run a w.xs k w.left w.xs-rise;
  right = text-run b w.ys l w.right w.ys-rise;
  room = w.room;
}

pub hashes-room : {a b : List ℕ} {at size : ℕ} → HashesRoom a b at size → Room form.Hashes a b at size
unfolding written
hashes-room {a} {b} {at} w = record {
  xs = w.xs;
  ys = w.ys;
  left = hash-run a w.xs w.left w.xs-each w.xs-rise;
  right = hash-run b w.ys w.right w.ys-each w.ys-rise;
  room = omega (arith, w.room, ap length (flat (union texts w.xs w.ys)));
}

-- what was written, in the words of the callers
pub texts-wrote : {l l' : List ℕ} {at : ℕ} {xs ys : List Text} {r : Joined} → WroteUnion l at (run form.Texts (union texts xs ys)) l' xs ys r →
    WroteUnion l at (flatten (map text (union texts xs ys))) l' xs ys r
unfolding written
texts-wrote w = w

pub hashes-wrote : {l l' : List ℕ} {at next : ℕ} (zs : List Text) → Wrote l at (run form.Hashes zs) l' next → Wrote l at (flatten zs) l' next
unfolding written
hashes-wrote {l} {l'} {at} {next} zs w = subst (λ (x : List ℕ). Wrote l at x l' next) (flat zs) w
