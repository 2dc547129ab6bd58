-- How the sets of a property are merged, by its index.
use mathlib.Core.Path.{◌≡◌, sym, ◌∙◌, subst}
use mathlib.Core.Bool.{Bool}
use mathlib.Core.List.{List}
use Prim.Native.Nat.{ℕ, ◌<◌}
use native.Mathlib.Omega.{arith}
use lib.ListN.{get_elem?}
use Rattle.ontology.specs.Table.{Property, EventType}
use Rattle.ontology.specs.code.TypeIndex.{PropertyIs, property_in, PropertiesAre, has_max, has_extreme, has_replace}
use Rattle.ontology.specs.declared.properties.PropertyAt.{PropertyAt}
use Rattle.ontology.proofs.TypeIndexLaws.{max_of, extreme-of, replace-of}
use Rattle.event.proofs.MatchLaws.{Elem, elem}
use Rattle.opening.specs.code.OpenIndex.{RuleOf, RuleIs}
use Rattle.opening.specs.declared.strategies.PlaceRule.{PlaceRule}

-- what the code answers of a property's strategy
module _
    (x : PropertyAt) {replaces extreme largest : Bool}
    (a : replaces ≡ has_replace x) (b : extreme ≡ has_extreme x) (c : largest ≡ has_max x) where
  abbrev pub rule_from : PlaceRule
  rule_from = record { replaces = replaces; extreme = extreme; largest = largest; kind = x.kind }

  pub rule-from : (s : List ℕ) (q : Property) → PropertyIs s q x → RuleOf q rule_from
  rule-from s q w = record {
    replaces = a ∙ replace-of w;
    extreme = b ∙ extreme-of w;
    largest = c ∙ max_of w;
    kind = w.kind.number;
  }

module _ (s : List ℕ) (ty : EventType) (count : ℕ) (ps : List ℕ) (w : PropertiesAre s ty.properties count ps) (k : ℕ) where
  pub place : k < count → Elem ty.properties k
  place h = elem ty.properties k (omega (arith, w.count))

  pub rule-at :
      {x : PropertyAt} {r : PlaceRule} → k < count → x ≡ property_in ps k →
      ((u : List ℕ) (q : Property) → PropertyIs u q x → RuleOf q r) → RuleIs (get_elem? ty.properties k) r
  rule-at h same rule = record {
    what = (place h).what;
    is = (place h).is;
    rule = rule s (place h).what (subst (PropertyIs s (place h).what) (sym same) (w.each k (place h).what (place h).is));
  }
