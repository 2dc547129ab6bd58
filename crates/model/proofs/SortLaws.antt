-- Sorting by insertion: what is inserted last stands where it would stand had it been inserted first, and its place may be looked for from the end.
-- Where no two are equal, what is sorted rises; and what rises is sorted.
use mathlib.Core.Path.{◌≡◌, refl, sym, ap, ◌∙◌}
use mathlib.Core.Bool.{true}
use mathlib.Core.List.{List, [], ◌∷◌, ◌++◌, append_assoc}
use Prim.Native.Nat.{Ordering}
use Prim.Native.Nat.{ℕ, suc, ◌+◌, ◌≤◌, ◌<◌}
use native.Mathlib.Omega.{arith}
use native.Mathlib.Numerals.{add-one}
use lib.ListN.{length, take, drop, get_or}
use lib.Seq.{split_at, take-suc}
use Rattle.model.specs.Order.{Order, rising}
use Rattle.model.specs.Keyed.{Above}
use Rattle.model.specs.Sets.{All, itself, Ups}
use Rattle.model.specs.Sorting.{insert, sorted}
use Rattle.model.proofs.Cases.{three, never}
use Rattle.model.proofs.OrderLaws.{less-turn, more_turn}
use Rattle.model.proofs.SetLaws.{rising-ups}

-- each differs from those after it
unfoldable pub Apart : {A : Type 0} → List A → Type 0
Apart [] = Unit {0}
Apart (a ∷ xs) = All (λ b. a ≡ b → ⊥) xs × Apart xs

module _ {A : Type 0} (O : Order A) where
  -- ---- from either end

  comm-less : (a b : A) (xs : List A) → O.cmp a b ≡ Ordering.lt → insert O a (insert O b xs) ≡ insert O b (insert O a xs)
  unfolding insert
  comm-less a b [] l = rw (l, less-turn O a b l)
  comm-less a b (x ∷ xs) l =
      let h = comm-less a b xs l in
      let t = less-turn O a b l in
      three (O.cmp b x)
      (λ p. rw (p, l, O.step a b x l p, t, p))
      (λ e. rw (e, l, ← O.same b x e, l, t, O.self b))
      (λ g. three (O.cmp a x)
      (λ p. rw (g, p, t, g))
      (λ e. rw (g, e, t, g))
      (λ q. rw (g, q, g) (ap (λ (ys : List A). x ∷ ys) h)))

  insert_comm : (a b : A) (xs : List A) → insert O a (insert O b xs) ≡ insert O b (insert O a xs)
  insert_comm a b xs = three (O.cmp a b)
      (comm-less a b xs)
      (λ e. rw (O.same a b e))
      (λ g. sym (comm-less b a xs (more_turn O a b g)))

  pub sorted-snoc : (xs : List A) (a : A) → sorted O (xs ++ (a ∷ [])) ≡ insert O a (sorted O xs)
  unfolding sorted
  sorted-snoc [] a = refl
  sorted-snoc (x ∷ xs) a = ap (insert O x) (sorted-snoc xs a) ∙ insert_comm x a (sorted O xs)

  -- ---- what is sorted ascends

  abbrev Upto : A → A → Type 0
  Upto a b = O.cmp a b ≡ Ordering.gt → ⊥

  upto-less : (a b : A) → O.cmp a b ≡ Ordering.lt → Upto a b
  upto-less a b l g = never (cc)

  upto-same : (a b : A) → O.cmp a b ≡ Ordering.eq → Upto a b
  upto-same a b e g = never (cc)

  upto_step : (a b c : A) → Upto a b → Upto b c → Upto a c
  upto_step a b c p q g = three (O.cmp a b)
      (λ l. q (less-turn O c b (O.step c a b (more_turn O a c g) l)))
      (λ e. q (rw (← O.same a b e) g))
      (λ h. p h)

  unfoldable pub Ascends : List A → Type 0
  Ascends [] = Unit {0}
  Ascends (a ∷ xs) = All (Upto a) xs × Ascends xs

  upto_all : (a b : A) (xs : List A) → Upto a b → All (Upto b) xs → All (Upto a) xs
  upto_all a b [] p h = tt
  upto_all a b (x ∷ xs) p h = (upto_step a b x p h.0, upto_all a b xs p h.1)

  insert_all : (P : A → Type 0) (a : A) (xs : List A) → P a → All P xs → All P (insert O a xs)
  unfolding insert
  insert_all P a [] p h = (p, tt)
  insert_all P a (b ∷ xs) p h = three (O.cmp a b)
      (λ l. rw l (p, h))
      (λ e. rw e (p, h))
      (λ g. rw g (h.0, insert_all P a xs p h.1))

  insert-ascends : (a : A) (xs : List A) → Ascends xs → Ascends (insert O a xs)
  unfolding Ascends insert
  insert-ascends a [] h = (tt, tt)
  insert-ascends a (b ∷ xs) h = three (O.cmp a b)
      (λ l. let upto = upto-less a b l in rw l ((upto, upto_all a b xs upto h.0), h))
      (λ e. let upto = upto-same a b e in rw e ((upto, upto_all a b xs upto h.0), h))
      (λ g. rw g (insert_all (Upto b) a xs (upto-less b a (more_turn O a b g)) h.0, insert-ascends a xs h.1))

  pub sorted-ascends : (xs : List A) → Ascends (sorted O xs)
  unfolding Ascends sorted
  sorted-ascends [] = tt
  sorted-ascends (a ∷ xs) = insert-ascends a (sorted O xs) (sorted-ascends xs)

  -- ---- the place of a new one, from the end

  all-at : (P : A → Type 0) (xs : List A) (y : A) (ys : List A) → All P (xs ++ y ∷ ys) → P y
  all-at P [] y ys h = h.0
  all-at P (x ∷ xs) y ys h = all-at P xs y ys h.1

  after-upto : (a x y : A) → Upto x y → O.cmp a y ≡ Ordering.gt → O.cmp a x ≡ Ordering.gt
  after-upto a x y p g = three (O.cmp a x)
      (λ l. absurd (p (less-turn O y x (O.step y a x (more_turn O a y g) l))))
      (λ e. absurd (p (rw (← O.same a x e) g)))
      (λ h. h)

  -- what comes after one of them comes after all before it
  insert-past :
      (a : A) (xs : List A) (y : A) (ys : List A) → Ascends (xs ++ y ∷ ys) → O.cmp a y ≡ Ordering.gt →
      insert O a (xs ++ y ∷ ys) ≡ xs ++ y ∷ insert O a ys
  unfolding Ascends insert
  insert-past a [] y ys h g = rw g
  insert-past a (x ∷ xs) y ys h g =
      rw (after-upto a x y (all-at (Upto x) xs y ys h.0) g) (ap (λ (l : List A). x ∷ l) (insert-past a xs y ys h.1 g))

  pub past_one :
      (a d : A) (ss : List A) (k j : ℕ) → k ≡ j + 1 → k ≤ length ss → O.cmp a (get_or ss j d) ≡ Ordering.gt → Ascends ss →
      insert O a ss ≡ take k ss ++ insert O a (drop k ss)
  past_one a d ss k j e h g s =
      let i : j < length ss = omega arith in
      let q = split_at ss j d i in
      rw (e, add-one)
      (ap (insert O a) q
      ∙ insert-past a (take j ss) (get_or ss j d) (drop (suc j) ss) (rw (← q) s) g
      ∙ sym (append_assoc (take j ss) (get_or ss j d ∷ []) (insert O a (drop (suc j) ss)))
      ∙ ap (λ (l : List A). l ++ insert O a (drop (suc j) ss)) (sym (take-suc ss j d i)))

  -- ---- where no two are equal

  pub rising-apart : (xs : List A) → rising O xs ≡ true → Apart xs
  unfolding Apart
  rising-apart xs h = go xs ((rising-ups O xs).0 h)
    where
      above : (a : A) (xs : List A) → Above O itself a xs → All (λ b. a ≡ b → ⊥) xs
      above a [] h = tt
      above a (b ∷ xs) h = ((λ e. never (cc (O.self a, h.0, e))), above a xs h.1)

      go : (xs : List A) → Ups O xs → Apart xs
      go [] h = tt
      go (a ∷ xs) h = (above a xs h.0, go xs h.1)

  pub sorted_all : (P : A → Type 0) (xs : List A) → All P xs → All P (sorted O xs)
  unfolding sorted
  sorted_all P [] h = tt
  sorted_all P (a ∷ xs) h = insert_all P a (sorted O xs) h.0 (sorted_all P xs h.1)

  insert-apart : (a : A) (xs : List A) → All (λ b. a ≡ b → ⊥) xs → Apart xs → Apart (insert O a xs)
  unfolding insert Apart
  insert-apart a [] h k = (tt, tt)
  insert-apart a (b ∷ xs) h k = three (O.cmp a b)
      (λ l. rw l (h, k))
      (λ e. rw e (h, k))
      (λ g. rw g (insert_all (λ c. b ≡ c → ⊥) a xs (λ e. h.0 (sym e)) k.0, insert-apart a xs h.1 k.1))

  sorted_apart : (xs : List A) → Apart xs → Apart (sorted O xs)
  unfolding sorted Apart
  sorted_apart [] h = tt
  sorted_apart (a ∷ xs) h = insert-apart a (sorted O xs) (sorted_all (λ b. a ≡ b → ⊥) xs h.0) (sorted_apart xs h.1)

  pub sorted_rises : (xs : List A) → Apart xs → rising O (sorted O xs) ≡ true
  unfolding Ascends Apart rising
  sorted_rises xs h = go (sorted O xs) (sorted-ascends xs) (sorted_apart xs h)
    where
      go : (xs : List A) → Ascends xs → Apart xs → rising O xs ≡ true
      go [] h k = refl
      go (a ∷ []) h k = refl
      go (a ∷ b ∷ xs) h k = three (O.cmp a b)
          (λ l. rw l (go (b ∷ xs) h.1 k.1))
          (λ e. absurd (k.0.0 (O.same a b e)))
          (λ g. absurd (h.0.0 g))

  -- ---- what rises is sorted

  pub sorted-ups : (xs : List A) → Ups O xs → sorted O xs ≡ xs
  unfolding sorted
  sorted-ups [] h = refl
  sorted-ups (a ∷ xs) h = ap (insert O a) (sorted-ups xs h.1) ∙ first xs h.0
    where
      first : (xs : List A) → Above O itself a xs → insert O a xs ≡ a ∷ xs
      first [] h = unfold insert in refl
      first (b ∷ xs) h = unfold insert in rw h.0
