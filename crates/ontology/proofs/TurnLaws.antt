-- The laws of the rules of a type that are asked as its properties are read, each in its turn: with the mark at most their count they are all
-- rules on them.
use mathlib.Core.Path.{◌≡◌, refl, sym, ap, ap₂, ◌∙◌}
use mathlib.Core.Bool.{Bool, true, false, not, ◌&&◌, ◌||◌}
use mathlib.Core.List.{List, [], ◌∷◌, map}
use Prim.Native.Nat.{ℕ, zero, suc, ◌-◌, ◌<◌, Ordering}
use native.Mathlib.Omega.{arith}
use lib.ListN.{length, get_elem?}
use lib.Dec.{ltb, leb, eqb, leb-zero, leb-suc-zero, leb-suc-suc}
use borrow.Author.Tests.{lt-ltb, ne_eqb}
use Rattle.model.specs.Order.{Text, texts, lists, lex, rising, pick}
use Rattle.model.proofs.Cases.{never, and-true, and-false}
use Rattle.packed.specs.Parse.{fail, got, Layout, times}
use Rattle.packed.specs.Packed.{part}
use Rattle.packed.specs.code.Comparison.{precedes}
use Rattle.ontology.specs.Table.{Property, is_name, names_rise, strategy_fits, all_fit, can_be_marked, mark_fits}
use Rattle.ontology.specs.TableLayout.{read_property}
use Rattle.ontology.specs.declared.properties.PropertyAt.{PropertyAt}
use Rattle.ontology.specs.code.TypeIndex.{PropertyIs, property_fits, fit_in_turn, fitting_from, property_rules}
use Rattle.ontology.proofs.PropertyLaws.{property-named}
use Rattle.ontology.proofs.RunLaws.{prepend, times-first, times-length, such-stop, such-end, such-more, such-bad}

-- ---- names that rise

-- each comes after the one before
pub rise-step : (a b : Text) (ns : List Text) → rising texts (a ∷ b ∷ ns) ≡ (precedes a b && rising texts (b ∷ ns))
unfolding rising
rise-step a b ns = go (texts.cmp a b) (rising texts (b ∷ ns))
  where
    go : (o : Ordering) (x : Bool) → pick o x false false ≡ (pick o true false false && x)
    go Ordering.lt x = refl
    go Ordering.eq x = refl
    go Ordering.gt x = refl

-- Every name comes after the empty text, so the first of those that are read may be asked the same.
pub rise-from :
    {A : Type 0} (p : Layout A) (f : A → Text) → ((s : List ℕ) (a : A) (r : List ℕ) → p s ≡ got a r → is_name (f a) ≡ true) →
    (n : ℕ) (s : List ℕ) (xs : List A) (r : List ℕ) → times p n s ≡ got xs r → names_rise (map f xs) ≡ rising texts ([] ∷ map f xs)
unfolding names_rise rising texts lists lex is_name
rise-from p f named n s [] r e = refl
rise-from p f named n s (x ∷ xs) r e = let a = times-first p n s x xs r e in go (f x) (named s x a.0 a.1)
  where
    go : (v : Text) → is_name v ≡ true → rising texts (v ∷ map f xs) ≡ rising texts ([] ∷ v ∷ map f xs)
    go [] h = never (cc)
    go (b ∷ v) h = refl

-- ---- a property in its turn

-- its rules, where its name stands in the bytes s
pub fits-by :
    {s : List ℕ} {q : Property} {x : PropertyAt} (versioned marked : Bool) (last : Text) → PropertyIs s q x →
    property_fits versioned marked last q
    ≡ (precedes last (part s x.start x.end) && strategy_fits versioned q && (not marked || can_be_marked q))
unfolding property_fits
fits-by {q = q} versioned marked last w =
    ap (λ (name : Text). precedes last name && strategy_fits versioned q && (not marked || can_be_marked q)) (sym w.name)

-- ---- properties that meet their rules, read one by one

module _ (versioned : Bool) (mark : ℕ) (last : Text) (n : ℕ) (s : List ℕ) where
  pub fitting-stop : 0 < n → read_property s ≡ fail → fitting_from versioned mark last n s ≡ fail
  fitting-stop = such-stop read_property (fit_in_turn versioned mark last) n s

  pub fitting-end : n ≡ 0 → fitting_from versioned mark last n s ≡ got [] s
  unfolding fit_in_turn
  fitting-end h = such-end read_property (fit_in_turn versioned mark last) n s h refl

  module _ (q : Property) (r : List ℕ) (h : 0 < n) (e : read_property s ≡ got q r) where
    -- the rules of all are those of the first and of the rest
    turn_by :
        {b : Bool} → property_fits versioned (eqb mark 1) last q ≡ b → (qs : List Property) →
        fit_in_turn versioned mark last (q ∷ qs) ≡ (b && fit_in_turn versioned (mark - 1) q.name qs)
    unfolding fit_in_turn
    turn_by k qs = ap (λ (b : Bool). b && fit_in_turn versioned (mark - 1) q.name qs) k

    pub fitting-not : property_fits versioned (eqb mark 1) last q ≡ false → fitting_from versioned mark last n s ≡ fail
    fitting-not k = such-bad read_property (fit_in_turn versioned mark last) n s q r h e (turn_by k)

    pub fitting-more :
        property_fits versioned (eqb mark 1) last q ≡ true →
        fitting_from versioned mark last n s ≡ prepend (q ∷ []) (fitting_from versioned (mark - 1) q.name (n - 1) r)
    fitting-more k = such-more read_property (fit_in_turn versioned mark last) n s q r h e (fit_in_turn versioned (mark - 1) q.name) (turn_by k)

-- ---- with the mark at most their count, these are all rules

abbrev name_of : Property → Text
name_of p = p.name

abbrev mark_rule : ℕ → List Property → Bool
mark_rule mark qs = not (ltb 0 mark) || mark_fits (get_elem? qs (mark - 1))

mark-some : (m : ℕ) (qs : List Property) → mark_rule (suc m) qs ≡ mark_fits (get_elem? qs m)
mark-some m qs =
    ap₂ (λ (b : Bool) (i : ℕ). not b || mark_fits (get_elem? qs i)) (lt-ltb 0 (suc m) (omega arith)) (let e : suc m - 1 ≡ m = omega arith in e)

-- one place on, the mark is one less
mark-step : (mark : ℕ) (q : Property) (qs : List Property) →
    mark_rule mark (q ∷ qs) ≡ ((not (eqb mark 1) || can_be_marked q) && mark_rule (mark - 1) qs)
unfolding mark_fits
mark-step zero q qs = refl
mark-step (suc zero) q qs = sym (and-true (can_be_marked q))
mark-step (suc (suc m)) q qs =
    mark-some (suc m) (q ∷ qs)
    ∙ sym (mark-some m qs)
    ∙ sym (ap₂ (λ (b : Bool) (i : ℕ). (not b || can_be_marked q) && mark_rule i qs) (ne_eqb (suc (suc m)) 1 (λ e. omega arith))
    (let e : suc (suc m) - 1 ≡ suc m = omega arith in e))

room-step : (mark n : ℕ) → leb mark (suc n) ≡ leb (mark - 1) n
room-step zero n = leb-zero (suc n) ∙ sym (leb-zero n)
room-step (suc m) n = leb-suc-suc m n ∙ ap (λ (i : ℕ). leb i n) (let e : m ≡ suc m - 1 = omega arith in e)

-- three tests of the first property, and then those of the rest
spread :
    (a b c i l r f g : Bool) → (i && l) ≡ (r && f && g) →
    (a && b && c && i && l) ≡ (a && r && (b && f) && (c && g))
spread false b c i l r f g e = refl
spread true false c i l r f g e = ap (λ (x : Bool). x && (c && g)) (sym (and-false r))
spread true true false i l r f g e = sym (and-false (r && f))
spread true true true i l r f g e = e

in-turn :
    (versioned : Bool) (mark : ℕ) (last : Text) (qs : List Property) →
    (fit_in_turn versioned mark last qs && leb mark (length qs)) ≡ (rising texts (last ∷ map name_of qs) && all_fit versioned qs && mark_rule mark qs)
unfolding fit_in_turn property_fits rising all_fit mark_fits
in-turn versioned zero last [] = refl
in-turn versioned (suc m) last [] = leb-suc-zero m ∙ sym (ap (λ (b : Bool). not b || false) (lt-ltb 0 (suc m) (omega arith)))
in-turn versioned mark last (q ∷ qs) =
    ap (λ (b : Bool). fit_in_turn versioned mark last (q ∷ qs) && b) (room-step mark (length qs))
    ∙ spread (precedes last q.name) (strategy_fits versioned q) (not (eqb mark 1) || can_be_marked q) (fit_in_turn versioned (mark - 1) q.name qs)
    (leb (mark - 1) (length qs)) (rising texts (q.name ∷ map name_of qs)) (all_fit versioned qs) (mark_rule (mark - 1) qs)
    (in-turn versioned (mark - 1) q.name qs)
    ∙ sym (ap₂ (λ (a b : Bool). a && (strategy_fits versioned q && all_fit versioned qs) && b) (rise-step last q.name (map name_of qs))
    (mark-step mark q qs))

pub rules-in-turn :
    (mark n : ℕ) (s : List ℕ) (qs : List Property) (r : List ℕ) → times read_property n s ≡ got qs r →
    property_rules mark qs ≡ (fit_in_turn (ltb 0 mark) mark [] qs && leb mark n)
unfolding property_rules
rules-in-turn mark n s qs r e =
    ap (λ (b : Bool). b && all_fit (ltb 0 mark) qs && mark_rule mark qs) (rise-from read_property name_of property-named n s qs r e)
    ∙ sym (in-turn (ltb 0 mark) mark [] qs)
    ∙ ap (λ (m : ℕ). fit_in_turn (ltb 0 mark) mark [] qs && leb mark m) (times-length read_property n s qs r e)
