-- A set is decided by its members (`by_members`); so `canon` is one for all lists of the same members, and `union` of two is `canon` of both together.
use mathlib.Core.Path.{◌≡◌, refl, sym, ◌∙◌, ap}
use mathlib.Core.Logic.{◌⊎◌, inl, inr, ⊎_elim, ◌↔◌}
use mathlib.Core.Bool.{true}
use mathlib.Core.Option.{Option, none, some}
use mathlib.Core.List.Memᴰ
use mathlib.Core.List.{List, [], ◌∷◌, ◌++◌, map, Memᴰ}
use Prim.Native.Nat.{Ordering}
use Prim.Native.Nat.{ℕ, suc, ◌+◌, ◌≤◌, zero-le}
use lib.ListN.{length, take}
use native.Mathlib.Omega.{arith}
use Rattle.model.specs.Order.{Order, pick, rising}
use Rattle.model.proofs.Cases.{three, never}
use Rattle.model.specs.Keyed.{Above, Rising, put, merge}
use Rattle.model.proofs.KeyedLaws.{look, above-trans, rising-put, rising-merge, by-look, look-member, member-look, above-member}
use Rattle.model.specs.Sets.{Within, Same, itself, first, Ups, canon, union, smallest}
use Rattle.model.proofs.OrderLaws.{less-turn, more_turn}

module _ {K : Type 0} (O : Order K) where
  -- the test by neighbours
  pub rising-ups : (xs : List K) → (rising O xs ≡ true) ↔ Ups O xs
  unfolding rising
  rising-ups xs = (there xs, back xs)
    where
      there : (xs : List K) → rising O xs ≡ true → Ups O xs
      there [] h = tt
      there (x ∷ []) h = (tt, tt)
      there (x ∷ y ∷ r) h =
          three (O.cmp x y)
          (λ l. let u : Ups O (y ∷ r) = there (y ∷ r) (rw l at h) in ((l, above-trans O itself x y r l u.0), u))
          (λ e. never (cc))
          (λ g. never (cc))

      back : (xs : List K) → Ups O xs → rising O xs ≡ true
      back [] h = refl
      back (x ∷ []) h = refl
      back (x ∷ y ∷ r) h = rw h.0.0 (back (y ∷ r) h.1)

  pub ups-put : (e : K) (xs : List K) → Ups O xs → Ups O (put O itself first e xs)
  ups-put = rising-put O itself first (λ a b e. refl)

  pub ups-canon : (xs : List K) → Ups O (canon O xs)
  unfolding canon
  ups-canon [] = tt
  ups-canon (x ∷ xs) = ups-put x (canon O xs) (ups-canon xs)

  pub put-here : (e : K) (xs : List K) → Memᴰ e (put O itself first e xs)
  unfolding put
  put-here e [] = Memᴰ.head refl
  put-here e (x ∷ xs) =
      three (O.cmp e x)
      (λ l. rw l (Memᴰ.head refl))
      (λ s. rw s (Memᴰ.head refl))
      (λ g. rw g (Memᴰ.tail (put-here e xs)))

  pub put-there : (e : K) (xs : List K) (a : K) → Memᴰ a xs → Memᴰ a (put O itself first e xs)
  unfolding put
  put-there e [] a m = elim m [ ]
  put-there e (x ∷ xs) a m =
      let either = Memᴰ.cases_cons m in
      three (O.cmp e x)
      (λ l. rw l (Memᴰ.tail m))
      (λ s. rw s (⊎_elim (λ q. Memᴰ.head (q ∙ sym (O.same e x s))) (λ n. Memᴰ.tail n) either))
      (λ g. rw g (⊎_elim (λ q. Memᴰ.head q) (λ n. Memᴰ.tail (put-there e xs a n)) either))

  pub of-put : (e : K) (xs : List K) (a : K) → Memᴰ a (put O itself first e xs) → Memᴰ a (e ∷ xs)
  unfolding put
  of-put e [] a m = m
  of-put e (x ∷ xs) a m =
      three (O.cmp e x)
      (λ l. rw l at m)
      (λ s. ⊎_elim (λ q. Memᴰ.head q) (λ n. Memᴰ.tail (Memᴰ.tail n))
      (Memᴰ.cases_cons (rw s at m)))
      (λ g. ⊎_elim (λ q. Memᴰ.tail (Memᴰ.head q))
      (λ n. ⊎_elim (λ q. Memᴰ.head q) (λ n2. Memᴰ.tail (Memᴰ.tail n2))
      (Memᴰ.cases_cons (of-put e xs a n)))
      (Memᴰ.cases_cons (rw g at m)))

  pub canon-in : (xs : List K) → Within xs (canon O xs)
  unfolding canon
  canon-in (x ∷ xs) a m = ⊎_elim
      (λ q. Memᴰ.cast q (put-here x (canon O xs)))
      (λ n. put-there x (canon O xs) a (canon-in xs a n))
      (Memᴰ.cases_cons m)
  canon-in [] a m = m

  pub canon-of : (xs : List K) → Within (canon O xs) xs
  unfolding canon
  canon-of [] a m = m
  canon-of (x ∷ xs) a m =
      ⊎_elim (λ q. Memᴰ.head q) (λ n. Memᴰ.tail (canon-of xs a n))
      (Memᴰ.cases_cons (of-put x (canon O xs) a m))

  pub union-in : (xs ys : List K) → Within (xs ++ ys) (union O xs ys)
  unfolding union merge
  union-in [] ys a m = m
  union-in (x ∷ xs) ys a m = ⊎_elim
      (λ q. Memᴰ.cast q (put-here x (union O xs ys)))
      (λ n. put-there x (union O xs ys) a (union-in xs ys a n))
      (Memᴰ.cases_cons m)

  pub union-of : (xs ys : List K) → Within (union O xs ys) (xs ++ ys)
  unfolding union merge
  union-of [] ys a m = m
  union-of (x ∷ xs) ys a m =
      ⊎_elim (λ q. Memᴰ.head q) (λ n. Memᴰ.tail (union-of xs ys a n))
      (Memᴰ.cases_cons (of-put x (union O xs ys) a m))

  pub ups-union : (xs ys : List K) → Ups O ys → Ups O (union O xs ys)
  unfolding union
  ups-union xs ys h = rising-merge O itself first (λ a b e. refl) xs ys h

  -- a rising list is decided by its members
  pub by_members : (xs ys : List K) → Ups O xs → Ups O ys → Same xs ys → xs ≡ ys
  by_members xs ys hx hy h = by-look O itself xs ys hx hy (λ k. go k (look O itself k xs) (look O itself k ys) refl refl)
    where
      go : (k : K) (m n : Option K) → look O itself k xs ≡ m → look O itself k ys ≡ n → look O itself k xs ≡ look O itself k ys
      go k none none p q = cc
      go k (some a) n p q =
          let r : Memᴰ a xs × (a ≡ k) = look-member O itself k xs a p in
          let t : look O itself a ys ≡ some a = member-look O itself ys a hy (h.0 a r.0) in
          let u : a ≡ k = r.1 in cc
      go k none (some b) p q =
          let r : Memᴰ b ys × (b ≡ k) = look-member O itself k ys b q in
          let t : look O itself b xs ≡ some b = member-look O itself xs b hx (h.1 b r.0) in
          let u : b ≡ k = r.1 in cc

  pub canon-same : (xs ys : List K) → Same xs ys → canon O xs ≡ canon O ys
  canon-same xs ys h = by_members (canon O xs) (canon O ys) (ups-canon xs) (ups-canon ys)
      (λ a m. canon-in ys a (h.0 a (canon-of xs a m)), λ a m. canon-in xs a (h.1 a (canon-of ys a m)))

  pub canon-ups : (xs : List K) → Ups O xs → canon O xs ≡ xs
  canon-ups xs h = by_members (canon O xs) xs (ups-canon xs) h (canon-of xs, canon-in xs)

  pub union-canon : (xs ys : List K) → union O (canon O xs) (canon O ys) ≡ canon O (xs ++ ys)
  union-canon xs ys =
      by_members (union O (canon O xs) (canon O ys)) (canon O (xs ++ ys)) (ups-union (canon O xs) (canon O ys) (ups-canon ys)) (ups-canon (xs ++ ys)) (
        λ a m. canon-in (xs ++ ys) a
            (⊎_elim (λ n. Memᴰ.append_left ys (canon-of xs a n)) (λ n. Memᴰ.append_right xs (canon-of ys a n))
            (Memᴰ.append_cases (canon O xs) (union-of (canon O xs) (canon O ys) a m))),
        λ a m. union-in (canon O xs) (canon O ys) a
            (⊎_elim (λ n. Memᴰ.append_left (canon O ys) (canon-in xs a n))
            (λ n. Memᴰ.append_right (canon O xs) (canon-in ys a n))
            (Memᴰ.append_cases xs (canon-of (xs ++ ys) a m))),
      )

  apart : (a b : K) → O.cmp a b ≡ Ordering.lt → b ≡ a → ⊥
  apart a b l q = never (cc (O.self a))

  drop-member : (y : K) (zs ys : List K) → Within zs (y ∷ ys) → ((a : K) → Memᴰ a zs → O.cmp y a ≡ Ordering.lt) → Within zs ys
  drop-member y zs ys h f a m = ⊎_elim (λ q. absurd (apart y a (f a m) q)) (λ n. n) (Memᴰ.cases_cons (h a m))

  -- a sum over a set
  unfoldable pub total : (K → ℕ) → List K → ℕ
  total f [] = 0
  total f (x ∷ xs) = f x + total f xs

  -- a sum over a set within another, of numbers no larger, is no larger
  pub total-within :
      (f g : K → ℕ) → ((k : K) → f k ≤ g k) → (ys xs : List K) → Ups O ys → Ups O xs → Within xs ys → total f xs ≤ total g ys
  unfolding total
  total-within f g le [] [] hy hx h = zero-le
  total-within f g le [] (x ∷ xs) hy hx h = absurd (Memᴰ.not-nil (h x (Memᴰ.head refl)))
  total-within f g le (y ∷ ys) [] hy hx h = zero-le
  total-within f g le (y ∷ ys) (x ∷ xs) hy hx h =
      three (O.cmp x y)
      (λ l. ⊎_elim
      (λ q. absurd (apart x y l (sym q)))
      (λ n. never (cc (above-member O itself y ys x hy.0 n, less-turn O x y l)))
      (Memᴰ.cases_cons (h x (Memᴰ.head refl))))
      (λ s.
      let q : x ≡ y = O.same x y s in
      let t : total f xs ≤ total g ys = total-within f g le ys xs hy.1 hx.1
      (drop-member y xs ys (λ a m. h a (Memᴰ.tail m)) (λ a m. rw (← q) (above-member O itself x xs a hx.0 m))) in
      let u : f x ≤ g y = rw q (le y) in
      omega arith)
      (λ w.
      let turned = more_turn O x y w in
      let t : f x + total f xs ≤ total g ys = total-within f g le ys (x ∷ xs) hy.1 hx
      (drop-member y (x ∷ xs) ys h (λ a m. ⊎_elim
      (λ q. rw q turned)
      (λ n. O.step y x a turned (above-member O itself x xs a hx.0 n))
      (Memᴰ.cases_cons m))) in
      omega arith)

  length-total : (xs : List K) → length xs ≡ total (λ k. 1) xs
  unfolding total
  length-total [] = refl
  length-total (x ∷ xs) = let t : length xs ≡ total (λ k. 1) xs = length-total xs in omega arith

  -- a set within another is no longer
  pub length-within : (ys xs : List K) → Ups O ys → Ups O xs → Within xs ys → length xs ≤ length ys
  length-within ys xs hy hx h = rw (length-total xs, length-total ys) (total-within (λ k. 1) (λ k. 1) (λ k. omega arith) ys xs hy hx h)

  pub length-canon-within : (ys xs : List K) → Within xs ys → length (canon O xs) ≤ length (canon O ys)
  length-canon-within ys xs h = length-within (canon O ys) (canon O xs) (ups-canon ys) (ups-canon xs) (λ a m. canon-in ys a (h a (canon-of xs a m)))

  length-put : (e : K) (xs : List K) → length (put O itself first e xs) ≤ suc (length xs)
  unfolding put
  length-put e [] = omega arith
  length-put e (x ∷ xs) =
      three (O.cmp e x) (λ l. rw l (omega arith)) (λ s. rw s (omega arith))
      (λ g. rw g (let t : length (put O itself first e xs) ≤ suc (length xs) = length-put e xs in omega arith))

  -- a list has no more members than elements
  pub length-canon : (xs : List K) → length (canon O xs) ≤ length xs
  unfolding canon
  length-canon [] = zero-le
  length-canon (x ∷ xs) =
      let a : length (put O itself first x (canon O xs)) ≤ suc (length (canon O xs)) = length-put x (canon O xs) in
      let b : length (canon O xs) ≤ length xs = length-canon xs in
      omega arith

  take_put : (e : K) (xs : List K) → take 1 (put O itself first e xs) ≡ take 1 (put O itself first e (take 1 xs))
  unfolding put
  take_put e [] = refl
  take_put e (x ∷ xs) = three (O.cmp e x) (λ l. rw l) (λ s. rw s) (λ g. rw g)

  take-put-put :
      (x y : K) (zs : List K) → O.cmp x y ≡ Ordering.lt → take 1 (put O itself first x (put O itself first y zs)) ≡ take 1 (put O itself first x zs)
  unfolding put
  take-put-put x y [] h = rw h
  take-put-put x y (z ∷ zs) h =
      three (O.cmp y z)
      (λ l. rw (l, h, O.step x y z h l))
      (λ s. let q : O.cmp x z ≡ Ordering.lt = rw (← O.same y z s) h in rw (s, h, q))
      (λ g. rw g (three (O.cmp x z) (λ l2. rw l2) (λ s2. rw s2) (λ g2. rw g2)))

  pub take-union : (xs ys : List K) → Ups O xs → take 1 (union O (take 1 xs) (take 1 ys)) ≡ take 1 (union O xs ys)
  unfolding union merge
  take-union [] [] h = refl
  take-union [] (y ∷ ys) h = refl
  take-union (x ∷ []) ys h = sym (take_put x ys)
  take-union (x ∷ w ∷ xs) ys h =
      rw (
        take_put x (union O (w ∷ xs) ys),
        ← take-union (w ∷ xs) ys h.1,
        ← take_put x (put O itself first w (take 1 ys)),
        take-put-put x w (take 1 ys) h.0.0,
      )

  pub smallest-append : (xs ys : List K) → take 1 (union O (smallest O xs) (smallest O ys)) ≡ smallest O (xs ++ ys)
  unfolding smallest
  smallest-append xs ys = take-union (canon O xs) (canon O ys) (ups-canon xs) ∙ ap (take 1) (union-canon xs ys)

  -- what the smallest is: a member, and no member is below it; nothing for no member
  pub smallest-member :
      (xs ms : List K) (m : K) → smallest O xs ≡ m ∷ ms →
      Memᴰ m xs × ((a : K) → Memᴰ a xs → (m ≡ a) ⊎ (O.cmp m a ≡ Ordering.lt))
  unfolding smallest
  smallest-member xs ms m h = go (canon O xs) refl
    where
      go : (c : List K) → canon O xs ≡ c → Memᴰ m xs × ((a : K) → Memᴰ a xs → (m ≡ a) ⊎ (O.cmp m a ≡ Ordering.lt))
      go [] e = let q : m ∷ ms ≡ [] = sym h ∙ ap (take 1) e in never (cc)
      go (x ∷ c) e =
          let q : x ∷ [] ≡ m ∷ ms = sym (ap (take 1) e) ∙ h in
          let r : m ≡ x = cc in
          let u : Ups O (x ∷ c) = rw e at (ups-canon xs) in (
            canon-of xs m (rw e (Memᴰ.head r)),
            λ a n. ⊎_elim (λ k. inl (r ∙ sym k)) (λ k. inr (rw r (above-member O itself x c a u.0 k)))
                (Memᴰ.cases_cons (rw e at (canon-in xs a n))),
          )

  -- of two values the smaller, as a program chooses
  pub smaller : (a b : K) → take 1 (union O (a ∷ []) (b ∷ [])) ≡ pick (O.cmp a b) (a ∷ []) (a ∷ []) (b ∷ [])
  unfolding union merge put
  smaller a b = three (O.cmp a b) (λ l. rw l) (λ s. rw s) (λ g. rw g)

-- A list of entries made of a set of keys, one for each
unfoldable pub made? : {E K : Type 0} → (K → E) → Option K → Option E
made? f none = none
made? f (some k) = some (f k)

module _ {E K : Type 0} (O : Order K) (key : E → K) (f : K → E) (made : (k : K) → key (f k) ≡ k) where
  pub look-map : (k : K) (ks : List K) → look O key k (map f ks) ≡ made? f (look O (λ a. a) k ks)
  unfolding look made?
  look-map k [] = refl
  look-map k (j ∷ ks) = rw (made j) (three (O.cmp k j) (λ l. rw l) (λ s. rw s) (λ g. rw g (look-map k ks)))

  above_map : (k : K) (ks : List K) → Above O (λ a. a) k ks → Above O key k (map f ks)
  above_map k [] h = tt
  above_map k (j ∷ ks) h = (rw (made j) h.0, above_map k ks h.1)

  pub rising-map : (ks : List K) → Rising O (λ a. a) ks → Rising O key (map f ks)
  rising-map [] h = tt
  rising-map (j ∷ ks) h = (rw (made j) (above_map j ks h.0), rising-map ks h.1)
