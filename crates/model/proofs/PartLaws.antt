-- What `map`, `flatten` and `only` keep of `++` and of the members, and what stands where in the numbers below a bound (`up_to`).
use mathlib.Core.Path.{◌≡◌, refl, sym, ◌∙◌, ap, ap₂}
use mathlib.Core.Logic.{⊎_elim, ◌↔◌}
use mathlib.Core.List.Memᴰ
use mathlib.Core.List.{List, [], ◌∷◌, ◌++◌, map, flatten}
use mathlib.Core.List.{append_assoc, Memᴰ}
use Prim.Native.Nat.{Ordering}
use Prim.Native.Nat.{ℕ, zero, suc, ◌+◌, ◌≤◌, ◌<◌}
use lib.ListN.{length, get_or}
use native.Mathlib.Omega.{arith}
use Rattle.model.specs.Order.{Order, numbers}
use Rattle.model.proofs.Cases.{three}
use Rattle.model.specs.Keyed.{Above}
use Rattle.model.specs.Rule.{View}
use Rattle.model.specs.Sets.{Within, only, itself, Ups, up_from, up_to}
use Rattle.model.proofs.OrderLaws.{less-of, less-cmp, more_turn}

-- how many objects an event has at the places of a list
unfoldable pub count : {Event : Type 0} → View Event → Event → List ℕ → ℕ
count t e [] = 0
count t e (p ∷ ps) = length (t.event.set e p) + count t e ps

module _ {A B : Type 0} (f : A → B) where
  pub map-append : (xs ys : List A) → map f (xs ++ ys) ≡ map f xs ++ map f ys
  map-append [] ys = refl
  map-append (x ∷ xs) ys = ap {B = List B} (λ r. f x ∷ r) (map-append xs ys)

  -- `map` asks only for the elements of its list
  pub map_same : (g : A → B) (xs : List A) → ((a : A) → Memᴰ a xs → f a ≡ g a) → map f xs ≡ map g xs
  map_same g [] h = refl
  map_same g (x ∷ xs) h =
      ap₂ {C = List B} (λ b r. b ∷ r) (h x (Memᴰ.head refl)) (map_same g xs (λ a m. h a (Memᴰ.tail m)))

  pub map-within : (xs ys : List A) → Within xs ys → Within (map f xs) (map f ys)
  map-within xs ys h b m = let (a, n, q) = Memᴰ.of_map f xs m in
      Memᴰ.cast (sym q) (Memᴰ.map f (h a n))

module _ {A : Type 0} where
  pub flatten-append : (xs ys : List (List A)) → flatten (xs ++ ys) ≡ flatten xs ++ flatten ys
  unfolding flatten
  flatten-append [] ys = refl
  flatten-append (x ∷ xs) ys = rw (flatten-append xs ys, append_assoc)

  pub flatten-in : (xs : List (List A)) (x : List A) (a : A) → Memᴰ x xs → Memᴰ a x → Memᴰ a (flatten xs)
  unfolding flatten
  flatten-in [] x a x4 m = elim x4 [ ]
  flatten-in (y ∷ xs) x a (Memᴰ.head q) m = Memᴰ.append_left (flatten xs) (rw q at m)
  flatten-in (y ∷ xs) x a (Memᴰ.tail n) m = Memᴰ.append_right y (flatten-in xs x a n m)

  pub flatten-of : (xs : List (List A)) (a : A) → Memᴰ a (flatten xs) → (x : List A) × Memᴰ x xs × Memᴰ a x
  unfolding flatten
  flatten-of [] a m = absurd (Memᴰ.not-nil m)
  flatten-of (x ∷ xs) a m = ⊎_elim
      (λ n. (x, Memᴰ.head refl, n))
      (λ n. let (y, k, l) = flatten-of xs a n in (y, Memᴰ.tail k, l))
      (Memᴰ.append_cases x m)

  pub flatten-within : (xs ys : List (List A)) → Within xs ys → Within (flatten xs) (flatten ys)
  flatten-within xs ys h a m = let (x, n, k) = flatten-of xs a m in flatten-in ys x a (h x n) k

module _ {A K : Type 0} (O : Order K) (f : A → K) where
  pub only-append : (k : K) (xs ys : List A) → only O f k (xs ++ ys) ≡ only O f k xs ++ only O f k ys
  unfolding only
  only-append k [] ys = refl
  only-append k (x ∷ xs) ys = let others = only-append k xs ys in three (O.cmp k (f x)) (λ l. rw l others) (λ s. rw (s, others)) (λ g. rw g others)

  pub only-in : (k : K) (xs : List A) (a : A) → Memᴰ a xs → f a ≡ k → Memᴰ a (only O f k xs)
  unfolding only
  only-in k (x ∷ xs) a (Memᴰ.head q) e = let r : O.cmp k (f x) ≡ Ordering.eq = cc (O.self k) in rw r (Memᴰ.head q)
  only-in k [] a x'' e = elim x'' [ ]
  only-in k (x ∷ xs) a (Memᴰ.tail m) e =
      let there = only-in k xs a m e in
      three (O.cmp k (f x)) (λ l. rw l there) (λ s. rw s (Memᴰ.tail there)) (λ g. rw g there)

  pub only_of : (k : K) (xs : List A) (a : A) → Memᴰ a (only O f k xs) → Memᴰ a xs × (f a ≡ k)
  unfolding only
  only_of k [] a m = absurd (Memᴰ.not-nil m)
  only_of k (x ∷ xs) a m =
      let go : Memᴰ a (only O f k xs) → Memᴰ a (x ∷ xs) × (f a ≡ k) =
      λ n. let r = only_of k xs a n in (Memᴰ.tail r.0, r.1) in
      three (O.cmp k (f x))
      (λ l. go (rw l at m))
      (λ s. ⊎_elim (λ q. (Memᴰ.head q, cc (O.same k (f x) s))) go (Memᴰ.cases_cons (rw s at m)))
      (λ g. go (rw g at m))

  pub only-within : (k : K) (xs ys : List A) → Within xs ys → Within (only O f k xs) (only O f k ys)
  only-within k xs ys h a m = let r = only_of k xs a m in only-in k ys a (h a r.0) r.1

-- the numbers below a bound
above-up_from : (j k n : ℕ) → j < k → Above numbers itself j (up_from k n)
unfolding up_from
above-up_from j k zero h = tt
above-up_from j k (suc n) h = (less-cmp j k h, above-up_from j (suc k) n (omega arith))

pub ups-up_from : (k n : ℕ) → Ups numbers (up_from k n)
unfolding up_from
ups-up_from k zero = tt
ups-up_from k (suc n) = (above-up_from k (suc k) n (omega arith), ups-up_from (suc k) n)

in-up_from : (p k n : ℕ) → k ≤ p → p < k + n → Memᴰ p (up_from k n)
unfolding up_from
in-up_from p k zero a b = absurd (omega arith)
in-up_from p k (suc n) a b =
    three (numbers.cmp k p)
    (λ l. Memᴰ.tail (in-up_from p (suc k) n (less-of k p l) (omega arith)))
    (λ e. Memᴰ.head (sym (numbers.same k p e)))
    (λ g. absurd (omega (arith, less-of p k (more_turn numbers k p g))))

of-up_from : (p k n : ℕ) → Memᴰ p (up_from k n) → (k ≤ p) × (p < k + n)
unfolding up_from
of-up_from p k zero m = absurd (Memᴰ.not-nil m)
of-up_from p k (suc n) m = ⊎_elim (λ q. omega arith) (λ r. omega (arith, of-up_from p (suc k) n r)) (Memᴰ.cases_cons m)

pub get_d-up_from : {B : Type 0} (f : ℕ → B) (d : B) (k n i : ℕ) → i < n → get_or (map f (up_from k n)) i d ≡ f (k + i)
unfolding up_from
get_d-up_from f d k zero i h = absurd (omega arith)
get_d-up_from f d k (suc n) zero h = ap f (omega arith)
get_d-up_from f d k (suc n) (suc i) h = get_d-up_from f d (suc k) n i (omega arith) ∙ ap f (omega arith)

pub length-up_from : (k n : ℕ) → length (up_from k n) ≡ n
unfolding up_from
length-up_from k zero = refl
length-up_from k (suc n) = ap suc (length-up_from (suc k) n)

-- the same numbers, by the last one
pub up_from-last : (k n : ℕ) → up_from k (suc n) ≡ up_from k n ++ ((k + n) ∷ [])
unfolding up_from
up_from-last k zero = ap (λ (p : ℕ). p ∷ []) (omega arith)
up_from-last k (suc n) = ap (λ (r : List ℕ). k ∷ r) (up_from-last (suc k) n ∙ ap (λ (p : ℕ). up_from (suc k) n ++ (p ∷ [])) (omega arith))

map-up_from : {B : Type 0} (f : ℕ → B) (k n : ℕ) → map f (up_from (suc k) n) ≡ map (λ p. f (suc p)) (up_from k n)
unfolding up_from
map-up_from f k zero = refl
map-up_from f k (suc n) = rw (map-up_from f (suc k) n)

-- a list is that of its elements by place
pub map-get_d : {B : Type 0} (xs : List B) (d : B) (n : ℕ) → length xs ≡ n → map (λ p. get_or xs p d) (up_to n) ≡ xs
unfolding up_to up_from
map-get_d [] d zero h = refl
map-get_d [] d (suc n) h = absurd (omega arith)
map-get_d (x ∷ xs) d zero h = absurd (omega arith)
map-get_d (x ∷ xs) d (suc n) h = rw (map-up_from (λ p. get_or (x ∷ xs) p d) 0 n, map-get_d xs d n (omega arith))

module _ (n : ℕ) where
  pub ups-up_to : Ups numbers (up_to n)
  unfolding up_to
  ups-up_to = ups-up_from 0 n

  pub in-up_to : (p : ℕ) → (p < n) ↔ Memᴰ p (up_to n)
  unfolding up_to
  in-up_to p = (λ h. in-up_from p 0 n (omega arith) (omega arith), λ m. omega (arith, of-up_from p 0 n m))

  pub length-up_to : length (up_to n) ≡ n
  unfolding up_to
  length-up_to = length-up_from 0 n

  pub get_d-up_to : {B : Type 0} (f : ℕ → B) (d : B) (i : ℕ) → i < n → get_or (map f (up_to n)) i d ≡ f i
  unfolding up_to
  get_d-up_to f d i h = get_d-up_from f d 0 n i h ∙ ap f (omega arith)
