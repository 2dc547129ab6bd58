-- The laws of gathering the objects of the match properties.
use mathlib.Core.Path.{◌≡◌, refl, sym, ap, ap₂, ◌∙◌, subst}
use mathlib.Core.Bool.{Bool, true, false, cond}
use mathlib.Core.Option.{some}
use mathlib.Core.List.{List, [], ◌∷◌, ◌++◌, append_assoc, append-nil, map, flatten}
use Prim.Native.Nat.{ℕ, zero, suc, ◌+◌, ◌-◌, ◌^◌, ◌≤◌, ◌<◌}
use native.Mathlib.Omega.{arith}
use native.Mathlib.Numerals.{add-one}
use lib.ListN.{length, drop, get_or, get_elem?, length-append, length-map, take-append-drop, drop_of_length-le}
use lib.Seq.{drop-drop, drop-cons}
use Rattle.model.specs.Order.{Text, texts}
use Rattle.model.specs.Sorting.{insert, sorted}
use Rattle.model.proofs.PartLaws.{map-append}
use Rattle.model.proofs.SortLaws.{sorted-snoc}
use Rattle.packed.specs.Parse.{fail}
use Rattle.packed.specs.Packed.{text, read_text, part}
use Rattle.packed.specs.code.Strings.{joined, string_of, strings_of, strings_in, StringsFit, Inserted}
use Rattle.packed.specs.declared.strings.StringAt.{StringAt}
use Rattle.packed.proofs.ReadLaws.{TextStops}
use Rattle.packed.proofs.StringPlaceLaws.{strings-long}
use Rattle.ontology.specs.Table.{Property, is_match}
use Rattle.ontology.specs.code.TypeIndex.{PropertyIs, property_in, has_match}
use Rattle.ontology.specs.declared.properties.PropertyAt.{PropertyAt}
use Rattle.ontology.proofs.TypeIndexLaws.{match-of}
use Rattle.event.specs.code.EventIndex.{SetIs, set_in}
use Rattle.event.specs.declared.sets.SetAt.{SetAt}
use Rattle.event.proofs.SetLaws.{set-read}
use Rattle.event.proofs.LookupLaws.{text-there, text-next}
use Rattle.hashing.specs.HashText.{object_string, object_strings}
use Rattle.hashing.specs.code.HashIndex.{Gathered, Gatherable}
use Rattle.hashing.proofs.HashSizeLaws.{strings-length}

-- an object's string, in document 01's words and in those of the code
object-string : (name value : Text) → joined name value ≡ object_string name value
object-string name value = refl

-- ---- the values of a set, read one after the other

-- the values `rest`, so many as `left`, stand at `at`, and `tail` follows them
pub record Standing (event : List ℕ) (rest : List Text) (at left : ℕ) (tail : List ℕ) : Type 0 where
  pub bytes : drop at event ≡ flatten (map text rest) ++ tail
  pub within : at ≤ length event
  pub long : left ≡ length rest

pub standing-all : {event : List ℕ} {vs : List Text} {x : SetAt} → SetIs event vs x → Standing event vs x.start x.count (drop x.end event)
standing-all {event} {x} w =
    let size = x.end - x.start in
    let past : x.start + size ≡ x.end = omega (arith, w.order) in record {
      bytes =
          sym (take-append-drop size (drop x.start event))
          ∙ ap₂ (λ (a b : List ℕ). a ++ b) w.bytes (drop-drop size x.start event ∙ ap (λ (i : ℕ). drop i event) past);
      within = omega (arith, w.order, w.within);
      long = w.count;
    }

-- the first of them stands from a up to z, and the others follow
pub record First (event : List ℕ) (rest : List Text) (a z left : ℕ) (tail : List ℕ) : Type 0 where
  pub others : List Text
  pub is : rest ≡ part event a z ∷ others
  pub standing : Standing event others z (left - 1) tail

module _ {event : List ℕ} {rest : List Text} {at left : ℕ} {tail : List ℕ} (w : Standing event rest at left tail) where
  pub standing-none : left ≤ 0 → rest ≡ []
  standing-none h = go rest w.long
    where
      go : (rest : List Text) → left ≡ length rest → rest ≡ []
      go [] l = refl
      go (v ∷ us) l = absurd (omega arith)

  bytes_of :
      (v : Text) (us : List Text) → drop at event ≡ flatten (map text (v ∷ us)) ++ tail → drop at event ≡ text v ++ (flatten (map text us) ++ tail)
  unfolding flatten
  bytes_of v us b = b ∙ append_assoc (text v) (flatten (map text us)) tail

  module _ (small : length event < 2 ^ 64) (some : 0 < left) where
    pub standing-bad : read_text (drop at event) ≡ fail → ⊥
    unfolding flatten
    standing-bad e = go rest w.bytes w.long
      where
        go : (rest : List Text) → drop at event ≡ flatten (map text rest) ++ tail → left ≡ length rest → ⊥
        go [] b l = omega arith
        go (v ∷ us) b l =
            let later = flatten (map text us) ++ tail in
            text-there event small at w.within v later (bytes_of v us b) e

    pub standing-next : {a z : ℕ} → TextStops event at a z → First event rest a z left tail
    unfolding flatten
    standing-next {a} {z} t = go rest w.bytes w.long
      where
        go : (rest : List Text) → drop at event ≡ flatten (map text rest) ++ tail → left ≡ length rest → First event rest a z left tail
        go [] b l = absurd (omega arith)
        go (v ∷ us) b l =
            let later = flatten (map text us) ++ tail in
            let (is, far, read) = text-next event small at w.within v later (bytes_of v us b) a z t in record {
              others = us;
              is = ap (λ (u : Text). u ∷ us) (sym is);
              standing = record { bytes = read.rest; within = read.within; long = omega arith };
            }

-- ---- the objects of one property

module _ {table event : List ℕ} {xs : List StringAt} {n : ℕ} where
  gathered_none : Gathered table event xs n xs n []
  gathered_none = record { more = omega arith; is = λ ws e. e ∙ ap (sorted texts) (sym (append-nil ws)) }

  gathered-more :
      {ys zs : List StringAt} {m : ℕ} {x : StringAt} {added : List Text} → Gathered table event xs n ys m added → Inserted table event ys m x zs →
      Gathered table event xs n zs (m + 1) (added ++ (string_of table event x ∷ []))
  gathered-more {x} {added} g w = record {
    more = omega (arith, g.more, length-append added (string_of table event x ∷ []));
    is =
        λ ws e.
        let h = g.is ws e in
        w.is (ws ++ added) h
        ∙ ap (insert texts (string_of table event x)) h
        ∙ sym (sorted-snoc texts (ws ++ added) (string_of table event x))
        ∙ ap (sorted texts) (append_assoc ws added (string_of table event x ∷ []));
  }

-- the strings of values whose property's name stands from `name` up to `colon`
abbrev pub named : List ℕ → ℕ → ℕ → List Text → List Text
named table name colon us = map (object_string (part table name colon)) us

-- The values vs of a set are gathered but for `left`, which stand at `at`
pub record Gathering
    (table event : List ℕ) (name colon : ℕ) (xs : List StringAt) (n : ℕ) (ys : List StringAt) (m : ℕ) (vs : List Text) (at left : ℕ) (tail : List ℕ)
    : Type 0 where
  pub done : List Text
  pub rest : List Text
  pub all : vs ≡ done ++ rest
  pub stand : Standing event rest at left tail
  pub have : Gathered table event xs n ys m (named table name colon done)

module _
    {table event : List ℕ} {name colon : ℕ} {xs ys : List StringAt} {n m at left : ℕ} {vs : List Text} {tail : List ℕ}
    (w : Gathering table event name colon xs n ys m vs at left tail)
  where
    gathering-more :
        {a z : ℕ} {zs : List StringAt} → First event w.rest a z left tail →
        Inserted table event ys m (record { first = name; colon = colon; second = a; end = z }) zs →
        Gathering table event name colon xs n zs (m + 1) vs z (left - 1) tail
    unfolding string_of
    gathering-more {a} {z} {zs} f i =
        let one = part event a z ∷ [] in record {
          done = w.done ++ one;
          rest = f.others;
          all = w.all ∙ ap (λ (us : List Text). w.done ++ us) f.is ∙ sym (append_assoc w.done one f.others);
          stand = f.standing;
          have =
              subst (Gathered table event xs n zs (m + 1)) (sym (map-append (object_string (part table name colon)) w.done one)) (gathered-more w.have i);
        }

    gathering-all : left ≤ 0 → Gathered table event xs n ys m (named table name colon vs)
    gathering-all h =
        let all : vs ≡ w.done = w.all ∙ ap (λ (us : List Text). w.done ++ us) (standing-none w.stand h) ∙ append-nil w.done in
        subst (λ (us : List Text). Gathered table event xs n ys m (named table name colon us)) (sym all) w.have

-- The first n of `objects` are the first `count` of `objects₀` with the values of a set but for `left` of them, which stand at `at`
pub record GatheringTo
    (table event : List ℕ) (name colon : ℕ) (objects₀ : List ℕ) (count at₀ left₀ : ℕ) (objects : List ℕ) (n at left : ℕ) : Type 0 where
  pub size : length objects ≡ 128
  pub fit : StringsFit table event (strings_in objects) n
  pub few : n + left ≤ 32
  pub so_far : (vs : List Text) (end : ℕ) → SetIs event vs (record { start = at₀; end = end; count = left₀ }) →
      Gathering table event name colon (strings_in objects₀) count (strings_in objects) n vs at left (drop end event)

pub set-start :
    {table event objects : List ℕ} {name colon count at left : ℕ} → length objects ≡ 128 → StringsFit table event (strings_in objects) count →
    count + left ≤ 32 → GatheringTo table event name colon objects count at left objects count at left
set-start l f h = record {
  size = l;
  fit = f;
  few = h;
  so_far = λ vs end w. record { done = []; rest = vs; all = refl; stand = standing-all w; have = gathered_none };
}

module _
    {table event objects₀ objects : List ℕ} {name colon count at₀ left₀ n at left : ℕ}
    (w : GatheringTo table event name colon objects₀ count at₀ left₀ objects n at left)
  where
    pub set_more :
        {objects₁ : List ℕ} {a z : ℕ} → length event < 2 ^ 64 → 0 < left → TextStops event at a z → length objects₁ ≡ length objects →
        Inserted table event (strings_in objects) n (record { first = name; colon = colon; second = a; end = z }) (strings_in objects₁) →
        GatheringTo table event name colon objects₀ count at₀ left₀ objects₁ (n + 1) z (left - 1)
    set_more small h t l i = record {
      size = l ∙ w.size;
      fit = i.fit;
      few = omega (arith, w.few);
      so_far = λ vs end is. let g = w.so_far vs end is in gathering-more g (standing-next g.stand small h t) i;
    }

    pub set_all :
        {end m : ℕ} → m ≡ n → left ≤ 0 →
        StringsFit table event (strings_in objects) m
        × ((vs : List Text) → SetIs event vs (record { start = at₀; end = end; count = left₀ }) →
        Gathered table event (strings_in objects₀) count (strings_in objects) m (named table name colon vs))
    set_all {end} e h = rw e (w.fit, λ vs is. gathering-all (w.so_far vs end is) h)

-- ---- all places

pub record At {A : Type 0} (xs : List A) (i : ℕ) : Type 0 where
  pub what : A
  pub is : get_elem? xs i ≡ some what
  pub rest : drop i xs ≡ what ∷ drop (suc i) xs

pub at-place : {A : Type 0} (xs : List A) (i : ℕ) → i < length xs → At xs i
at-place [] i h = absurd (omega arith)
at-place (x ∷ xs) zero h = record { what = x; is = refl; rest = refl }
at-place (x ∷ xs) (suc i) h = let w = at-place xs i (omega arith) in record { what = w.what; is = w.is; rest = w.rest }

-- the strings of a property and its set
abbrev strings : Property → List Text → List Text
strings q s = cond (is_match q) (map (object_string q.name) s) []

strings-step :
    (ps : List Property) (ss : List (List Text)) (i : ℕ) (w : At ps i) → i < length ss →
    object_strings (drop i ps) (drop i ss) ≡ strings w.what (get_or ss i []) ++ object_strings (drop (i + 1) ps) (drop (i + 1) ss)
unfolding object_strings
strings-step ps ss i w h = rw (w.rest, drop-cons ss i [] h, add-one)

-- The objects of the places below `place` are the first n of xs; ps are the properties and ss their sets
pub record SoFar (table event : List ℕ) (ps : List Property) (ss : List (List Text)) (xs : List StringAt) (n place : ℕ) : Type 0 where
  pub done : List Text
  pub all : object_strings ps ss ≡ done ++ object_strings (drop place ps) (drop place ss)
  pub count : n ≡ length done
  pub is : strings_of table event xs n ≡ sorted texts done

-- the first n of the strings that `objects` lends are the objects of the places below `place`, and they fit
pub record GatheredTo (table event : List ℕ) (count : ℕ) (ps ats objects : List ℕ) (n place : ℕ) : Type 0 where
  pub size : length objects ≡ 128
  pub fit : StringsFit table event (strings_in objects) n
  pub so_far : (h : Gatherable table event count ps ats) → SoFar table event h.properties h.sets (strings_in objects) n place

pub gathered-same :
    {table event : List ℕ} {count : ℕ} {ps ats xs ys : List ℕ} {n m place : ℕ} →
    ys ≡ xs → m ≡ n → GatheredTo table event count ps ats xs n place → GatheredTo table event count ps ats ys m place
gathered-same e f g = rw (e, f) g

pub gathered-start : {table event ps ats objects : List ℕ} {count : ℕ} → length objects ≡ 128 → GatheredTo table event count ps ats objects 0 0
unfolding strings_of sorted
gathered-start {objects} l = record {
  size = l;
  fit = record { few = omega arith; long = strings-long objects; each = λ i h. absurd (omega arith) };
  so_far = λ h. record { done = []; all = refl; count = refl; is = refl };
}

module _ {table event : List ℕ} where
  module _
      {count : ℕ} {ps ats : List ℕ} (h : Gatherable table event count ps ats) {xs : List StringAt} {n place : ℕ} (below : place < count)
      (w : SoFar table event h.properties h.sets xs n place)
    where
      property : At h.properties place
      property = at-place h.properties place (omega (arith, h.are.count))

      set_there : place < length h.sets
      set_there = omega (arith, h.stand.long, h.are.few)

      step :
          object_strings h.properties h.sets
          ≡ (w.done ++ strings property.what (get_or h.sets place []))
          ++ object_strings (drop (place + 1) h.properties) (drop (place + 1) h.sets)
      step =
          w.all
          ∙ ap (λ (l : List Text). w.done ++ l) (strings-step h.properties h.sets place property set_there)
          ∙ sym (append_assoc w.done (strings property.what (get_or h.sets place []))
          (object_strings (drop (place + 1) h.properties) (drop (place + 1) h.sets)))

      so-far-next :
          {ys : List StringAt} {m : ℕ} → Gathered table event xs n ys m (strings property.what (get_or h.sets place [])) →
          SoFar table event h.properties h.sets ys m (place + 1)
      so-far-next g = record {
        done = w.done ++ strings property.what (get_or h.sets place []);
        all = step;
        count = omega (arith, g.more, w.count, length-append w.done (strings property.what (get_or h.sets place [])));
        is = g.is w.done w.is;
      }

      -- the property of this place, as it was taken from the numbers
      module _ {p : PropertyAt} (same-property : p ≡ property_in ps place) where
        property-is : PropertyIs table property.what p
        property-is = subst (PropertyIs table property.what) (sym same-property) (h.are.each place property.what property.is)

        strings-are :
            {b : Bool} → has_match p ≡ b →
            let q = property.what in let vs = get_or h.sets place [] in strings q vs ≡ cond b (map (object_string q.name) vs) []
        strings-are m =
            ap (λ (b : Bool). cond b (map (object_string property.what.name) (get_or h.sets place [])) []) (sym (match-of property-is) ∙ m)

        -- a property that is no match property adds nothing
        so-far-other : has_match p ≡ false → SoFar table event h.properties h.sets xs n (place + 1)
        so-far-other m = so-far-next (subst (Gathered table event xs n xs n) (sym (strings-are m)) gathered_none)

        -- a match property adds the objects of its set, which was taken from the numbers too
        module _ (m : has_match p ≡ true) {x : SetAt} (same_set : x ≡ set_in ats place) where
          set_is : SetIs event (get_or h.sets place []) x
          set_is = set-read same_set (h.stand.each place (omega (arith, h.are.few)))

          -- room for the objects of this place, which question 5 has answered
          room : n + x.count ≤ 32
          room =
              let q = property.what in
              let vs = get_or h.sets place [] in
              omega (
                arith,
                h.few,
                strings-length h.properties h.sets,
                ap length step,
                length-append (w.done ++ strings q vs) (object_strings (drop (place + 1) h.properties) (drop (place + 1) h.sets)),
                length-append w.done (strings q vs),
                ap length (strings-are m),
                length-map vs (object_string q.name),
                w.count,
                set_is.count,
              )

          pub set-ready : (p.start ≤ p.end) × (p.end ≤ length table) × (n + x.count ≤ 32)
          set-ready = (property-is.order, property-is.within, room)

          so-far-match :
              {ys : List StringAt} {k : ℕ} →
              ((vs : List Text) → SetIs event vs x → Gathered table event xs n ys k (map (object_string (part table p.start p.end)) vs)) →
              SoFar table event h.properties h.sets ys k (place + 1)
          so-far-match {ys} {k} f =
              let vs = get_or h.sets place [] in
              let named = subst (λ (l : Text). Gathered table event xs n ys k (map (object_string l) vs)) property-is.name (f vs set_is) in
              so-far-next (subst (Gathered table event xs n ys k) (sym (strings-are m)) named)

  module _ {count : ℕ} {ps ats objects : List ℕ} {n place : ℕ} (g : GatheredTo table event count ps ats objects n place) where
    pub gathered-all :
        count ≤ place →
        StringsFit table event (strings_in objects) n
        × ((h : Gatherable table event count ps ats) →
        strings_of table event (strings_in objects) n ≡ sorted texts (object_strings h.properties h.sets))
    unfolding object_strings
    gathered-all past = (
      g.fit,
      λ h.
          let w = g.so_far h in
          let none : length h.properties ≤ place = omega (arith, h.are.count) in
          let all = ap (λ (l : List Property). w.done ++ object_strings l (drop place h.sets)) (drop_of_length-le h.properties none) in
          w.is ∙ ap (sorted texts) (sym (w.all ∙ all ∙ append-nil w.done)),
    )

    -- the property of this place, as it was taken from the numbers
    module _ (below : place < count) {p : PropertyAt} (same-property : p ≡ property_in ps place) where
      pub gathered-other : has_match p ≡ false → GatheredTo table event count ps ats objects n (place + 1)
      gathered-other m = record { size = g.size; fit = g.fit; so_far = λ h. so-far-other h below (g.so_far h) same-property m }

      pub gathered-match :
          {x : SetAt} {objects₁ : List ℕ} {k : ℕ} → has_match p ≡ true → x ≡ set_in ats place → length objects₁ ≡ length objects →
          StringsFit table event (strings_in objects₁) k
          × ((vs : List Text) → SetIs event vs x →
          Gathered table event (strings_in objects) n (strings_in objects₁) k (map (object_string (part table p.start p.end)) vs)) →
          GatheredTo table event count ps ats objects₁ k (place + 1)
      gathered-match m same_set l (fit, more) =
          record { size = l ∙ g.size; fit = fit; so_far = λ h. so-far-match h below (g.so_far h) same-property m same_set more }
