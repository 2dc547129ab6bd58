-- The rule over events is a dossier: what questions 3 to 6 ask of a dossier's snapshots and parents, of the rule, follows from the events.
use mathlib.Core.Path.{◌≡◌, sym, ◌∙◌, ap}
use mathlib.Core.Bool.{Bool, true, false}
use mathlib.Core.List.Memᴰ
use mathlib.Core.List.{List, [], ◌∷◌, ◌++◌, map, flatten, append-nil, Memᴰ}
use Prim.Native.Nat.{ℕ, ◌≤◌, ◌<◌}
use lib.ListN.{length, length-map}
use native.Mathlib.Omega.{arith}
use Rattle.model.specs.Order.{Order, Text, numbers, texts}
use Rattle.model.specs.Keyed.{put}
use Rattle.model.specs.Sets.{Ups, canon, only}
use Rattle.model.specs.Rule.{Cell, holds, differs, Choice, every, least, View, places, Snapshot, cell, of_version, cell_of, snapshot, rule_at, rule, sizes}
use Rattle.model.proofs.PartLaws.{count, map_same, flatten-of, only-in, only_of, length-up_to}
use Rattle.model.specs.Opening.{cell_at}
use Rattle.model.proofs.WayClaims.{Each, Has}
use Rattle.model.proofs.Cases.{never}
use Rattle.model.proofs.SetLaws.{ups-canon, canon-ups, canon-in, canon-of}
use Rattle.model.proofs.ValidLaws.{agreed-holds, agreed-all, held-value, held-rises, held-some}
use Rattle.model.proofs.ValidLaws.{held-least, not-unversioned, alike, cell-one, in-places}
use Rattle.model.proofs.ValidLaws.{cell-at-snapshot, sizes-held}

module _ {Event : Type 0} (t : View Event) (es : List Event) where
  -- the parents rise, and each is a parent of an event
  pub parents-rise : Ups texts (rule t es).parents
  unfolding rule
  parents-rise = ups-canon texts (flatten (map t.event.parents es))

  pub parent_of : (a : Text) → Memᴰ a (rule t es).parents → (e : Event) × Memᴰ e es × Memᴰ a (t.event.parents e)
  unfolding rule
  parent_of a m =
      let (x, n, k) = flatten-of (map t.event.parents es) a (canon-of texts (flatten (map t.event.parents es)) a m) in
      let (e, i, q) = Memᴰ.of_map t.event.parents es n in
      (e, i, rw q k)

  -- every event's version has its snapshot
  pub snapshot-in : (e : Event) → Memᴰ e es → Memᴰ (rule_at t es (t.event.version e)) (rule t es).snapshots
  unfolding rule
  snapshot-in e m = Memᴰ.map (rule_at t es) (canon-in numbers (map t.event.version es) (t.event.version e) (Memᴰ.map t.event.version m))

  module _ (z : Snapshot) (m : Memᴰ z (rule t es).snapshots) where
    -- a snapshot is that of some events, all of its version
    pub snapshot-events :
        (fs : List Event) × Has fs × Each (λ e. Memᴰ e es × (t.event.version e ≡ z.version)) fs × (z ≡ snapshot t z.version fs)
    unfolding rule rule_at snapshot of_version
    snapshot-events =
        let (v, n, q) = Memᴰ.of_map (rule_at t es) (canon numbers (map t.event.version es)) m in
        let (e, k, r) = Memᴰ.of_map t.event.version es (canon-of numbers (map t.event.version es) v n) in
        let w : v ≡ z.version = ap (λ (x : Snapshot). x.version) q in (
          of_version t v es,
          (e, only-in numbers t.event.version v es e k r),
          λ d i. let (a, b) = only_of numbers t.event.version v es d i in (a, b ∙ w),
          sym q ∙ ap (λ (n : ℕ). snapshot t n (of_version t v es)) w,
        )

    -- "A snapshot is: .." a cell for each property
    pub cells-length : length z.cells ≡ t.type.width
    unfolding snapshot places
    cells-length = let (fs, n, h, q) = snapshot-events in ap (λ (x : Snapshot). length x.cells) q ∙ simp (length-map, length-up_to)

    -- a versioned snapshot has no more objects than any of its events
    pub snapshot-objects : t.type.versioned ≡ true → (n : ℕ) → Each (λ e. count t e (places t.type) ≤ n) es → sizes z.cells ≤ n
    unfolding snapshot
    snapshot-objects u n h =
        let (fs, k, g, q) = snapshot-events in
        let e : sizes z.cells ≡ sizes (map (cell_of t fs) (places t.type)) = ap (λ (x : Snapshot). sizes x.cells) q in
        omega (arith, sizes-held t u k.0 fs k.1 (places t.type), h k.0 (g k.0 k.1).0)

    module _ (p : ℕ) (lt : p < t.type.width) where
      -- the cell of a place, from the sets that the snapshot's events have there
      cell-sets :
          (ss : List (List Text)) × Has ss × Each (λ s. (e : Event) × Memᴰ e es × (t.event.version e ≡ z.version)
          × (t.event.set e p ≡ s))
          ss × (cell_at z p ≡ cell t.type.versioned (t.type.choice p) ss)
      unfolding cell_of
      cell-sets =
          let (fs, n, h, q) = snapshot-events in
          let f : Event → List Text = λ e. t.event.set e p in (
            map f fs,
            (f n.0, Memᴰ.map f n.1),
            λ s i. let (e, k, r) = Memᴰ.of_map f fs i in (e, (h e k).0, (h e k).1, r),
            ap (λ (x : Snapshot). cell_at x p) q ∙ cell-at-snapshot t z.version fs p lt,
          )

      -- a value is one of an event of the snapshot's version
      pub cell-value :
          (s : List Text) → cell_at z p ≡ holds s → (a : Text) → Memᴰ a s →
          (e : Event) × Memᴰ e es × (t.event.version e ≡ z.version) × Memᴰ a (t.event.set e p)
      cell-value s c a i =
          let (ss, n, h, q) = cell-sets in
          let (x, k, j) = flatten-of ss a (held-value t.type.versioned (t.type.choice p) ss s (sym q ∙ c) a i) in
          let (e, me, v, r) = h x k in
          (e, me, v, rw r j)

      pub cell-rises : (s : List Text) → cell_at z p ≡ holds s → Each (λ e. Ups texts (t.event.set e p)) es → Ups texts s
      cell-rises s c u =
          let (ss, n, h, q) = cell-sets in
          held-rises t.type.versioned (t.type.choice p) ss s (sym q ∙ c) (λ x k. let (e, me, v, r) = h x k in rw (← r) (u e me))

      cell-by :
          {b : Bool} {k : Cell} (ss : List (List Text)) → t.type.versioned ≡ b → cell_at z p ≡ cell t.type.versioned (t.type.choice p) ss →
          cell_at z p ≡ k → cell b (t.type.choice p) ss ≡ k
      cell-by ss u q c = ap (λ (b : Bool). cell b (t.type.choice p) ss) (sym u) ∙ (sym q ∙ c)

      -- of a versioned type, it is the set of an event of that version
      pub cell_set :
          (s : List Text) → t.type.versioned ≡ true → cell_at z p ≡ holds s →
          (e : Event) × Memᴰ e es × (t.event.version e ≡ z.version) × (t.event.set e p ≡ s)
      unfolding cell
      cell_set s u c =
          let (ss, n, h, q) = cell-sets in
          let (e, me, v, r) = h n.0 n.1 in
          (e, me, v, r ∙ agreed-holds ss s (cell-by ss u q c) n.0 n.1)

      -- "is a mandatory one present or marked"
      pub cell-mandatory : (s : List Text) → cell_at z p ≡ holds s → Each (λ e. Has (t.event.set e p)) es → Has s
      cell-mandatory s c g =
          let (ss, n, h, q) = cell-sets in
          held-some t.type.versioned (t.type.choice p) ss s n (λ x k. let (e, me, v, r) = h x k in rw (← r) (g e me)) (sym q ∙ c)

      -- "has an unversioned one .. no mark .., min and max single"
      pub cell_unmarked : t.type.versioned ≡ false → cell_at z p ≡ differs → ⊥
      cell_unmarked u c =
          let (ss, n, h, q) = cell-sets in
          never (not-unversioned (t.type.choice p) ss (cell-by ss u q c))

      pub cell-least :
          (O : Order Text) (s : List Text) → t.type.versioned ≡ false → t.type.choice p ≡ least O → cell_at z p ≡ holds s → length s ≤ 1
      cell-least O s u o c =
          let (ss, n, h, q) = cell-sets in
          held-least O ss s (ap (λ (x : Choice). cell false x ss) (sym o) ∙ (cell-by ss u q c))

      -- a place at which all events have one set, as at a match property, has that set: "are match sets unmarked, alike in all snapshots"
      pub match-cells : (s : List Text) → t.type.choice p ≡ every → Ups texts s → Each (λ e. t.event.set e p ≡ s) es → cell_at z p ≡ holds s
      match-cells s o u g =
          let (ss, n, h, q) = cell-sets in
          q ∙ (ap (λ (x : Choice). cell t.type.versioned x ss) o
          ∙ alike t.type.versioned ss s u n (λ x k. let (e, me, v, r) = h x k in sym r ∙ g e me))

      -- a versioned place whose set the version decides, as the version property, has it: "its version property unmarked and, byte for byte, its
      -- version in decimal"
      pub version-cell :
          (f : ℕ → List Text) → t.type.versioned ≡ true → Each (λ e. t.event.set e p ≡ f (t.event.version e)) es →
          cell_at z p ≡ holds (f z.version)
      unfolding cell
      version-cell f u g =
          let (ss, n, h, q) = cell-sets in
          q ∙ (ap (λ (b : Bool). cell b (t.type.choice p) ss) u
          ∙ agreed-all ss (f z.version) n (λ x k. let (e, me, v, r) = h x k in sym r ∙ (g e me ∙ ap f v)))

-- "Freshly checked, one event gives the rule over itself": its parents, and a snapshot that has its sets
module _
    {Event : Type 0} (t : View Event) (e : Event) (up : (p : ℕ) → p < t.type.width → Ups texts (t.event.set e p))
    (few : (p : ℕ) → p < t.type.width → (O : Order Text) → t.type.choice p ≡ least O → length (t.event.set e p) ≤ 1)
  where
    pub rule-one :
        Ups texts (t.event.parents e) →
        rule t (e ∷ []) ≡ record {
          parents = t.event.parents e;
          snapshots = record {
            version = t.event.version e;
            cells = map (λ p. holds (t.event.set e p)) (places t.type);
          } ∷ [];
        }
    unfolding rule rule_at snapshot of_version only canon put cell_of flatten
    rule-one u = λ i. record { parents = parents i; snapshots = record { version = t.event.version e; cells = cells i } ∷ [] }
      where
        parents : canon texts (t.event.parents e ++ []) ≡ t.event.parents e
        parents = rw (append-nil (t.event.parents e)) (canon-ups texts (t.event.parents e) u)

        cells : map (cell_of t (of_version t (t.event.version e) (e ∷ []))) (places t.type) ≡ map (λ p. holds (t.event.set e p)) (places t.type)
        cells =
            rw (numbers.self (t.event.version e)) (map_same (cell_of t (e ∷ [])) (λ p. holds (t.event.set e p)) (places t.type)
            (λ p m.
            let inside = (in-places t.type p).1 m in
            cell-one t.type.versioned (t.type.choice p) (t.event.set e p) (up p inside) (few p inside)))
