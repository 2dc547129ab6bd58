-- What stands at a key, `look`, decides a rising list (`by-look`), and `merge` joins it key by key (`look-merge`). So an equation of merged lists is one
-- at each key.
use mathlib.Core.Path.{◌≡◌, refl, sym, ◌∙◌}
use mathlib.Core.Logic.{◌↔◌}
use mathlib.Core.Option.{Option, none, some}
use mathlib.Core.List.Memᴰ
use mathlib.Core.List.{List, [], ◌∷◌, map, Memᴰ}
use Prim.Native.Nat.{Ordering}
use Rattle.model.specs.Order.{Order, pick}
use Rattle.model.proofs.Cases.{three, never}
use Rattle.model.specs.Keyed.{Above, Rising, put, merge}
use Rattle.model.specs.Sets.{itself, Ups}
use Rattle.model.proofs.OrderLaws.{less-turn, more_turn}

module _ {E : Type 0} (join : E → E → E) where
  -- an entry, joined with the other one of its key, if there is one
  unfoldable pub joined : E → Option E → E
  joined e none = e
  joined e (some x) = join e x

  -- what two lists have at a key, together
  unfoldable pub both : Option E → Option E → Option E
  both none m = m
  both (some e) m = some (joined e m)

module _ {E K : Type 0} (O : Order K) (key : E → K) where
  -- the entry at a key
  unfoldable pub look : K → List E → Option E
  look k [] = none
  look k (x ∷ xs) = pick (O.cmp k (key x)) none (some x) (look k xs)

module _ {E : Type 0} (join : E → E → E) where
  pub joined-keep : ((a b : E) → join a b ≡ a) → (e : E) (m : Option E) → joined join e m ≡ e
  unfolding joined
  joined-keep h e none = refl
  joined-keep h e (some x) = h e x

module _ {E K : Type 0} (O : Order K) (key : E → K) where
  pub above-trans : (j k : K) (xs : List E) → O.cmp j k ≡ Ordering.lt → Above O key k xs → Above O key j xs
  above-trans j k [] p h = tt
  above-trans j k (x ∷ xs) p h = (O.step j k (key x) p h.0, above-trans j k xs p h.1)

  -- entries rise by their keys exactly when the keys rise
  above-keys : (k : K) (xs : List E) → Above O key k xs ↔ Above O itself k (map key xs)
  above-keys k [] = (λ h. h, λ h. h)
  above-keys k (x ∷ xs) = let i = above-keys k xs in (λ h. (h.0, i.0 h.1), λ h. (h.0, i.1 h.1))

  pub rising-keys : (xs : List E) → Rising O key xs ↔ Ups O (map key xs)
  rising-keys [] = (λ h. h, λ h. h)
  rising-keys (x ∷ xs) =
      let i = above-keys (key x) xs in
      let j = rising-keys xs in
      (λ h. (i.0 h.0, j.0 h.1), λ h. (i.1 h.0, j.1 h.1))

  pub look-above : (k : K) (xs : List E) → Above O key k xs → look O key k xs ≡ none
  unfolding look
  look-above k [] h = refl
  look-above k (x ∷ xs) h = rw h.0

  pub look-head : (x : E) (xs : List E) → look O key (key x) (x ∷ xs) ≡ some x
  unfolding look
  look-head x xs = rw (O.self (key x))

  -- an entry found is in the list, under its key
  pub look-member : (k : K) (xs : List E) (a : E) → look O key k xs ≡ some a → Memᴰ a xs × (key a ≡ k)
  unfolding look
  look-member k [] a h = never (cc)
  look-member k (x ∷ xs) a h =
      three (O.cmp k (key x))
      (λ l. never (cc))
      (λ e. let q : x ≡ a = cc in (Memᴰ.head (sym q), (rw q at (sym (O.same k (key x) e)))))
      (λ g. let r : Memᴰ a xs × (key a ≡ k) = look-member k xs a (rw g at h) in (Memᴰ.tail r.0, r.1))

  pub above-member : (k : K) (xs : List E) (a : E) → Above O key k xs → Memᴰ a xs → O.cmp k (key a) ≡ Ordering.lt
  above-member k [] a h x'' = elim x'' [ ]
  above-member k (x ∷ xs) a h (Memᴰ.head e) = rw e h.0
  above-member k (x ∷ xs) a h (Memᴰ.tail m) = above-member k xs a h.1 m

  pub member-look : (xs : List E) (a : E) → Rising O key xs → Memᴰ a xs → look O key (key a) xs ≡ some a
  unfolding look
  member-look [] a h x'' = elim x'' [ ]
  member-look (x ∷ xs) a h (Memᴰ.head e) = rw (e, O.self (key x))
  member-look (x ∷ xs) a h (Memᴰ.tail m) = rw (less-turn O (key x) (key a) (above-member (key x) xs a h.0 m)) (member-look xs a h.1 m)

  look-tail :
      (x y : E) (xs ys : List E) → Rising O key (x ∷ xs) → Rising O key (y ∷ ys) → key x ≡ key y →
      ((k : K) → look O key k (x ∷ xs) ≡ look O key k (y ∷ ys)) →
      (k : K) → look O key k xs ≡ look O key k ys
  unfolding look
  look-tail x y xs ys hx hy e h k =
      three (O.cmp k (key x))
      (λ l. look-above k xs (above-trans k (key x) xs l hx.0) ∙ sym (look-above k ys (above-trans k (key y) ys (rw (← e) l) hy.0)))
      (λ s. look-above k xs (rw (O.same k (key x) s) hx.0) ∙ sym (look-above k ys (rw (O.same k (key x) s, e) hy.0)))
      (λ g. let g2 : O.cmp k (key y) ≡ Ordering.gt = rw (← e) g in rw (g, g2) at (h k))

  -- two rising lists that have the same at every key are one list
  pub by-look : (xs ys : List E) → Rising O key xs → Rising O key ys → ((k : K) → look O key k xs ≡ look O key k ys) → xs ≡ ys
  unfolding look
  by-look [] [] hx hy h = refl
  by-look [] (y ∷ ys) hx hy h = cc (h (key y), look-head y ys)
  by-look (x ∷ xs) [] hx hy h = cc (h (key x), look-head x xs)
  by-look (x ∷ xs) (y ∷ ys) hx hy h =
      let first = look-head x xs in
      three (O.cmp (key x) (key y))
      (λ l. let q : none ≡ some x = cc (h (key x), first) in cc)
      (λ e.
      let q : x ≡ y = cc (h (key x), first) in
      let t : xs ≡ ys = by-look xs ys hx.1 hy.1 (look-tail x y xs ys hx hy (O.same _ _ e) h) in
      cc)
      (λ g. cc (h (key y), look-head y ys, O.turn (key x) (key y)))

  module _ (join : E → E → E) where
    module _ (keeps : (a b : E) → key a ≡ key b → key (join a b) ≡ key a) where
      pub above-put : (k : K) (e : E) (xs : List E) → O.cmp k (key e) ≡ Ordering.lt → Above O key k xs → Above O key k (put O key join e xs)
      unfolding put
      above-put k e [] p h = (p, tt)
      above-put k e (x ∷ xs) p h =
          three (O.cmp (key e) (key x))
          (λ l. rw l (p, h))
          (λ s. rw (s, keeps e x (O.same _ _ s)) (p, h.1))
          (λ g. rw g (h.0, above-put k e xs p h.1))

      pub rising-put : (e : E) (xs : List E) → Rising O key xs → Rising O key (put O key join e xs)
      unfolding put
      rising-put e [] h = (tt, tt)
      rising-put e (x ∷ xs) h =
          three (O.cmp (key e) (key x))
          (λ l. rw l ((l, above-trans (key e) (key x) xs l h.0), h))
          (λ s. rw (s, keeps e x (O.same _ _ s), O.same _ _ s) h)
          (λ g. rw g (above-put (key x) e xs (more_turn O _ _ g) h.0, rising-put e xs h.1))

      pub rising-merge : (xs ys : List E) → Rising O key ys → Rising O key (merge O key join xs ys)
      unfolding merge
      rising-merge [] ys h = h
      rising-merge (x ∷ xs) ys h = rising-put x (merge O key join xs ys) (rising-merge xs ys h)

      pub look-put :
          (k : K) (e : E) (xs : List E) →
          look O key k (put O key join e xs) ≡ pick (O.cmp k (key e)) (look O key k xs) (some (joined join e (look O key k xs))) (look O key k xs)
      unfolding put look joined
      look-put k e [] = refl
      look-put k e (x ∷ xs) =
          three (O.cmp (key e) (key x))
          (λ l. three (O.cmp k (key e))
          (λ l2. rw (l, l2, O.step k (key e) (key x) l2 l))
          (λ s2. let q : O.cmp k (key x) ≡ Ordering.lt = rw (O.same k (key e) s2) l in rw (l, s2, q))
          (λ g2. rw (l, g2)))
          (λ s. rw (s, keeps e x (O.same _ _ s), ← O.same (key e) (key x) s)
          (three (O.cmp k (key e)) (λ l2. rw l2) (λ s2. rw s2) (λ g2. rw g2)))
          (λ g.
          let turned = more_turn O (key e) (key x) g in
          three (O.cmp k (key x))
          (λ l2. rw (g, l2, O.step k (key x) (key e) l2 turned))
          (λ s2. let q : O.cmp k (key e) ≡ Ordering.lt = rw (O.same k (key x) s2) turned in rw (g, s2, q))
          (λ g2. rw (g, g2) (look-put k e xs)))

      pub look-merge : (k : K) (xs ys : List E) → Rising O key xs → look O key k (merge O key join xs ys) ≡ both join (look O key k xs) (look O key k ys)
      unfolding merge look both
      look-merge k [] ys h = refl
      look-merge k (x ∷ xs) ys h =
          rw (look-put k x (merge O key join xs ys), look-merge k xs ys h.1)
          (three (O.cmp k (key x))
          (λ l. rw (l, look-above k xs (above-trans k (key x) xs l h.0)))
          (λ s. rw (s, look-above k xs (rw (O.same k (key x) s) h.0)))
          (λ g. rw g))

      -- `merge` by its first entries, as a program goes through two rising lists
      put-below : (x : E) (ys : List E) → Above O key (key x) ys → put O key join x ys ≡ x ∷ ys
      unfolding put
      put-below x [] h = refl
      put-below x (y ∷ ys) h = rw h.0

      above-merge : (k : K) (xs ys : List E) → Above O key k xs → Above O key k ys → Above O key k (merge O key join xs ys)
      unfolding merge
      above-merge k [] ys h g = g
      above-merge k (x ∷ xs) ys h g = above-put k x (merge O key join xs ys) h.0 (above-merge k xs ys h.1 g)

      pub merge-right : (xs : List E) (y : E) (ys : List E) → Above O key (key y) xs → merge O key join xs (y ∷ ys) ≡ y ∷ merge O key join xs ys
      unfolding merge put
      merge-right [] y ys h = refl
      merge-right (x ∷ xs) y ys h = rw (merge-right xs y ys h.1, less-turn O (key y) (key x) h.0)

      pub merge-left :
          (x : E) (xs ys : List E) → Above O key (key x) xs → Above O key (key x) ys → merge O key join (x ∷ xs) ys ≡ x ∷ merge O key join xs ys
      unfolding merge
      merge-left x xs ys h g = put-below x (merge O key join xs ys) (above-merge (key x) xs ys h g)

      pub merge-meet :
          (x : E) (xs : List E) (y : E) (ys : List E) → Above O key (key x) xs → key x ≡ key y →
          merge O key join (x ∷ xs) (y ∷ ys) ≡ join x y ∷ merge O key join xs ys
      unfolding merge put
      merge-meet x xs y ys h e = rw (merge-right xs y ys (rw (← e) h), e, O.self (key y))

      pub merge-nil : (xs : List E) → Rising O key xs → merge O key join xs [] ≡ xs
      unfolding merge
      merge-nil [] h = refl
      merge-nil (x ∷ xs) h = rw (merge-nil xs h.1, put-below x xs h.0)

      -- the three cases as one equation
      pub merge_step : (x : E) (xs : List E) (y : E) (ys : List E) → Rising O key (x ∷ xs) → Rising O key (y ∷ ys) →
          merge O key join (x ∷ xs) (y ∷ ys) ≡ pick (O.cmp (key x) (key y)) (x ∷ merge O key join xs (y ∷ ys)) (join x y ∷ merge O key join xs ys)
          (y ∷ merge O key join (x ∷ xs) ys)
      merge_step x xs y ys hx hy =
          three (O.cmp (key x) (key y))
          (λ l. rw l (merge-left x xs (y ∷ ys) hx.0 (l, above-trans (key x) (key y) ys l hy.0)))
          (λ s. rw s (merge-meet x xs y ys hx.0 (O.same _ _ s)))
          (λ g. let turned = more_turn O (key x) (key y) g in rw g (merge-right (x ∷ xs) y ys (turned, above-trans (key y) (key x) xs turned hx.0)))
