-- The laws of counting the versions of two dossiers.
use mathlib.Core.Path.{◌≡◌, sym, ap, ap₂, ◌∙◌, subst, subst₂}
use mathlib.Core.Logic.{◌⊎◌, inl, inr, ⊎_elim}
use mathlib.Core.Bool.{true}
use mathlib.Core.List.{List, [], ◌∷◌}
use Prim.Native.Nat.{ℕ, zero, suc, ◌+◌, ◌-◌, ◌≤◌, ◌<◌}
use native.Mathlib.Omega.{arith}
use native.Mathlib.Numerals.{add-one}
use lib.ListN.{length, take, drop, get_or, length-drop, length-map, drop_of_length-le, get_or-map}
use lib.Seq.{drop-cons, get_or-take, length-take-le}
use Rattle.model.specs.Order.{numbers, rising}
use Rattle.model.specs.Sets.{Ups, union}
use Rattle.model.proofs.OrderLaws.{less-turn, less-cmp}
use Rattle.model.proofs.SetLaws.{rising-ups}
use Rattle.model.proofs.StepLaws.{union-left-nil, union-right-nil, union-step}
use Rattle.values.specs.declared.versions.EventVersion.{EventVersion}
use Rattle.dossier.specs.code.DossierIndex.{version_numbers, no_version}

-- count versions have been counted, and those from i and from j on are left
pub record VersionsLeft (xs ys : List ℕ) (i j count : ℕ) : Type 0 where
  pub is : rising numbers xs ≡ true → rising numbers ys ≡ true → length (union numbers xs ys) ≡ count + length (union numbers (drop i xs) (drop j ys))
  pub left : i ≤ length xs
  pub right : j ≤ length ys
  pub few : count ≤ i + j

versions-none : (xs ys : List ℕ) → VersionsLeft xs ys 0 0 0
versions-none xs ys = record { is = λ h k. omega arith; left = omega arith; right = omega arith; few = omega arith }

ups-drop : (xs : List ℕ) (i : ℕ) → Ups numbers xs → Ups numbers (drop i xs)
ups-drop [] zero h = h
ups-drop [] (suc i) h = h
ups-drop (x ∷ xs) zero h = h
ups-drop (x ∷ xs) (suc i) h = ups-drop xs i h.1

-- the first versions of two lists, which rise
module _ (x y : ℕ) (xs ys : List ℕ) (hx : Ups numbers (x ∷ xs)) (hy : Ups numbers (y ∷ ys)) where
  first-left : x < y → length (union numbers (x ∷ xs) (y ∷ ys)) ≡ 1 + length (union numbers xs (y ∷ ys))
  first-left h = ap length (union-step numbers x xs y ys hx hy) ∙ rw (less-cmp x y h) (omega arith)

  first-right : y < x → length (union numbers (x ∷ xs) (y ∷ ys)) ≡ 1 + length (union numbers (x ∷ xs) ys)
  first-right h = ap length (union-step numbers x xs y ys hx hy) ∙ rw (less-turn numbers y x (less-cmp y x h)) (omega arith)

  first-both : x ≡ y → length (union numbers (x ∷ xs) (y ∷ ys)) ≡ 1 + length (union numbers xs ys)
  first-both h = ap length (union-step numbers x xs y ys hx hy) ∙ rw (ap (numbers.cmp x) (sym h) ∙ numbers.self x) (omega arith)

-- a side goes on where its version is not the greater one
abbrev pub Passed : ℕ → ℕ → ℕ → ℕ → Type 0
Passed a b i i' = ((a ≤ b) × (i' ≡ i + 1)) ⊎ ((b < a) × (i' ≡ i))

passed-most : (a b i i' : ℕ) → Passed a b i i' → i' ≤ i + 1
passed-most a b i i' (inl p) = omega arith
passed-most a b i i' (inr p) = omega arith

-- one of the two does
passed-some : (a b i i' j j' : ℕ) → Passed a b i i' → Passed b a j j' → i + j + 1 ≤ i' + j'
passed-some a b i i' j j' (inl p) (inl q) = omega arith
passed-some a b i i' j j' (inl p) (inr q) = omega arith
passed-some a b i i' j j' (inr p) (inl q) = omega arith
passed-some a b i i' j j' (inr p) (inr q) = absurd (omega arith)

rising-from : (xs : List ℕ) (i : ℕ) → rising numbers xs ≡ true → Ups numbers (drop i xs)
rising-from xs i h = ups-drop xs i ((rising-ups numbers xs).0 h)

module _ (xs ys : List ℕ) (i j count : ℕ) (w : VersionsLeft xs ys i j count) where
  versions-left : length ys ≤ j → rising numbers xs ≡ true → rising numbers ys ≡ true → count + (length xs - i) ≡ length (union numbers xs ys)
  versions-left l h k =
      sym (w.is h k
      ∙ ap (λ (zs : List ℕ). count + length (union numbers (drop i xs) zs)) (drop_of_length-le ys l)
      ∙ ap (λ (zs : List ℕ). count + length zs) (union-right-nil numbers (drop i xs) (rising-from xs i h))
      ∙ ap (λ (n : ℕ). count + n) (length-drop i xs))

  versions-right : length xs ≤ i → rising numbers xs ≡ true → rising numbers ys ≡ true → count + (length ys - j) ≡ length (union numbers xs ys)
  versions-right l h k =
      sym (w.is h k
      ∙ ap (λ (zs : List ℕ). count + length (union numbers zs (drop j ys))) (drop_of_length-le xs l)
      ∙ ap (λ (zs : List ℕ). count + length zs) (union-left-nil numbers (drop j ys))
      ∙ ap (λ (n : ℕ). count + n) (length-drop j ys))

  module _
      (l : i < length xs) (m : j < length ys) (i' j' : ℕ) (p : Passed (get_or xs i 0) (get_or ys j 0) i i')
      (q : Passed (get_or ys j 0) (get_or xs i 0) j j') where
    abbrev Next : Type 0
    Next = length (union numbers (drop i xs) (drop j ys)) ≡ 1 + length (union numbers (drop i' xs) (drop j' ys))

    module _ (h : rising numbers xs ≡ true) (k : rising numbers ys ≡ true) where
      abbrev x : ℕ
      x = get_or xs i 0

      abbrev y : ℕ
      y = get_or ys j 0

      left_is : drop i xs ≡ x ∷ drop (suc i) xs
      left_is = drop-cons xs i 0 l

      right_is : drop j ys ≡ y ∷ drop (suc j) ys
      right_is = drop-cons ys j 0 m

      hx : Ups numbers (x ∷ drop (suc i) xs)
      hx = subst (Ups numbers) left_is (rising-from xs i h)

      hy : Ups numbers (y ∷ drop (suc j) ys)
      hy = subst (Ups numbers) right_is (rising-from ys j k)

      both-split : length (union numbers (drop i xs) (drop j ys)) ≡ length (union numbers (x ∷ drop (suc i) xs) (y ∷ drop (suc j) ys))
      both-split = ap₂ (λ (a b : List ℕ). length (union numbers a b)) left_is right_is

      next : Next
      next =
          let i-next = add-one i in
          let j-next = add-one j in
          ⊎_elim
          (λ (a : (x ≤ y) × (i' ≡ i + 1)). ⊎_elim
          (λ (b : (y ≤ x) × (j' ≡ j + 1)). both-split ∙ first-both x y (drop (suc i) xs) (drop (suc j) ys) hx hy (omega arith)
          ∙ ap₂ (λ (a b : ℕ). 1 + length (union numbers (drop a xs) (drop b ys))) (sym (a.1 ∙ i-next)) (sym (b.1 ∙ j-next)))
          (λ (b : (x < y) × (j' ≡ j)). both-split ∙ first-left x y (drop (suc i) xs) (drop (suc j) ys) hx hy b.0
          ∙ ap₂ (λ (a : ℕ) (b : List ℕ). 1 + length (union numbers (drop a xs) b)) (sym (a.1 ∙ i-next))
          (sym right_is ∙ ap (λ (n : ℕ). drop n ys) (sym b.1)))
          q)
          (λ (a : (y < x) × (i' ≡ i)). ⊎_elim
          (λ (b : (y ≤ x) × (j' ≡ j + 1)). both-split ∙ first-right x y (drop (suc i) xs) (drop (suc j) ys) hx hy a.0
          ∙ ap₂ (λ (a : List ℕ) (b : ℕ). 1 + length (union numbers a (drop b ys))) (sym left_is ∙ ap (λ (n : ℕ). drop n xs) (sym a.1))
          (sym (b.1 ∙ j-next)))
          (λ (b : (x < y) × (j' ≡ j)). absurd (omega arith))
          q)
          p

    versions-more : VersionsLeft xs ys i' j' (count + 1)
    versions-more = record {
      is = λ h k. omega (arith, w.is h k, next h k);
      left = omega (arith, passed-most _ _ i i' p);
      right = omega (arith, passed-most _ _ j j' q);
      few = omega (arith, passed-some _ _ i i' j j' p q, w.few);
    }

-- ---- the versions of two arrays

abbrev pub version_at : List EventVersion → ℕ → ℕ
version_at vs i = (get_or vs i no_version).0

pub version-at : (n : ℕ) (vs : List EventVersion) (i : ℕ) → i < n → version_at vs i ≡ get_or (version_numbers (take n vs)) i 0
version-at n vs i l =
    sym (get_or-map (λ (v : EventVersion). v.0) (take n vs) i no_version
    ∙ ap (λ (v : EventVersion). v.0) (get_or-take n vs i no_version l))

many : (n : ℕ) (vs : List EventVersion) → n ≤ length vs → length (version_numbers (take n vs)) ≡ n
many n vs l = length-map (take n vs) (λ (v : EventVersion). v.0) ∙ length-take-le n vs l

-- `count` of the first m versions of v and the first n of w are counted; those from i and from j on are left
pub record Counting (m n : ℕ) (v w : List EventVersion) (i j count : ℕ) : Type 0 where
  pub long : (length v ≡ 8) × (length w ≡ 8)
  pub few : (m ≤ 8) × (n ≤ 8)
  pub within : (i ≤ m) × (j ≤ n) × (count ≤ i + j)
  pub left : VersionsLeft (version_numbers (take m v)) (version_numbers (take n w)) i j count

pub counting-none : {m n : ℕ} {v w : List EventVersion} → (length v ≡ 8) × (length w ≡ 8) → (m ≤ 8) × (n ≤ 8) → Counting m n v w 0 0 0
counting-none long few = record { long = long; few = few; within = (omega arith, omega arith, omega arith); left = versions-none _ _ }

module _ {m n : ℕ} {v w : List EventVersion} {i j count : ℕ} (c : Counting m n v w i j count) where
  abbrev lefts : List ℕ
  lefts = version_numbers (take m v)

  abbrev rights : List ℕ
  rights = version_numbers (take n w)

  left-length : length lefts ≡ m
  left-length = many m v (omega (arith, c.long, c.few))

  right-length : length rights ≡ n
  right-length = many n w (omega (arith, c.long, c.few))

  -- one side is at its end
  pub counting-left : n ≤ j → rising numbers lefts ≡ true → rising numbers rights ≡ true → count + (m - i) ≡ length (union numbers lefts rights)
  counting-left l h k = omega (arith, left-length, versions-left lefts rights i j count c.left (omega (arith, right-length)) h k)

  pub counting-right : m ≤ i → rising numbers lefts ≡ true → rising numbers rights ≡ true → count + (n - j) ≡ length (union numbers lefts rights)
  counting-right l h k = omega (arith, right-length, versions-right lefts rights i j count c.left (omega (arith, left-length)) h k)

  -- one version more is counted, and each side that has it goes on
  module _
      (l : i < m) (k : j < n) {i' j' : ℕ} (p : Passed (version_at v i) (version_at w j) i i') (q : Passed (version_at w j) (version_at v i) j j') where
    left_passed : Passed (get_or lefts i 0) (get_or rights j 0) i i'
    left_passed = subst₂ (λ (a b : ℕ). Passed a b i i') (version-at m v i l) (version-at n w j k) p

    right-passed : Passed (get_or rights j 0) (get_or lefts i 0) j j'
    right-passed = subst₂ (λ (a b : ℕ). Passed a b j j') (version-at n w j k) (version-at m v i l) q

    passed : (i + j + 1 ≤ i' + j') × (i' ≤ i + 1) × (j' ≤ j + 1)
    passed = (passed-some _ _ i i' j j' p q, passed-most _ _ i i' p, passed-most _ _ j j' q)

    pub counting_more : Counting m n v w i' j' (count + 1)
    counting_more = record {
      long = c.long;
      few = c.few;
      within = (omega (arith, passed), omega (arith, passed), omega (arith, c.within, passed));
      left = versions-more lefts rights i j count c.left (omega (arith, left-length)) (omega (arith, right-length)) i' j' left_passed right-passed;
    }

    pub counting-less : (m - i') + (n - j') < (m - i) + (n - j)
    counting-less = omega (arith, c.within, passed)
