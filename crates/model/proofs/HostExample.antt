-- Document 01, "The host example", computed: the definitions run.
use mathlib.Core.Path.{◌≡◌, refl, ap}
use mathlib.Core.Bool.{Bool, true, false, cond}
use mathlib.Core.List.{List, [], ◌∷◌, map, flatten}
use Prim.Native.Nat.{ℕ}
use lib.ListN.{get_or}
use Rattle.model.specs.Order.{numbers, lists, lex, reversed, equal, Text, texts, sets}
use Rattle.model.specs.Keyed.{put, merge}
use Rattle.model.specs.Sets.{Same, canon, union, smallest, only, itself, up_from, up_to}
use Rattle.model.specs.Rule.{holds, Choice, every, least, View, places, Dossier, all_are, agreed, cell, join_cell, of_version, cell_of, snapshot, rule_at}
use Rattle.model.specs.Rule.{rule, join_cells, join_snapshots, combine, size, sizes, objects}
use Rattle.model.specs.Limits.{Limits, fits, standard}
use Rattle.model.specs.Opening.{finds, lowest, cell_at, is_mark, held, marked, or_later}
use Rattle.model.specs.Opening.{conflict, column, last_of, merged_set, Opened, conflict_at, overfull_at}
use Rattle.model.specs.Opening.{merged, first_of, merged_at, merged_sets, overfull, opening}
use Rattle.model.specs.Ways.{Way, leaf, node, Reply, wrote, next, calls, limited}
use Rattle.model.proofs.RuleLaws.{rule-same}

-- an event as its version and its sets by place
record Host : Type 0 where
  number : ℕ
  values : List (List Text)

-- largest first; the bytes of the example's values rise as their numbers and instants do
abbrev largest : Choice
largest = least (reversed texts)

-- Type net.host: addr, rev (max, the mark), seen (max), state (replace), tags; rev, seen and state are single-valued
abbrev host : View Host
host = record {
  type = record {
    versioned = true;
    width = 5;
    choice = λ p. get_or (every ∷ largest ∷ largest ∷ []) p every;
    replaces = λ p. get_or (false ∷ false ∷ false ∷ true ∷ []) p false;
    single = λ p. get_or (false ∷ true ∷ true ∷ true ∷ []) p false;
  };
  event = record {
    parents = λ e. [];
    version = λ e. e.number;
    set = λ e p. get_or e.values p [];
  };
}

-- the same without the mark: an unversioned type, in which state keeps all values
abbrev plain : View Host
plain = record {
  type = record {
    versioned = false;
    width = 5;
    choice = λ p. get_or (every ∷ largest ∷ []) p every;
    replaces = λ p. false;
    single = λ p. get_or (false ∷ true ∷ false ∷ true ∷ []) p false;
  };
  event = record {
    parents = λ e. [];
    version = λ e. 0;
    set = λ e p. get_or e.values p [];
  };
}

-- the texts h1, 1, 2, up, down, a, b and c, and the two instants
abbrev h1 : Text
h1 = 104 ∷ 49 ∷ []

abbrev one : Text
one = 49 ∷ []

abbrev two : Text
two = 50 ∷ []

abbrev up : Text
up = 117 ∷ 112 ∷ []

abbrev down : Text
down = 100 ∷ 111 ∷ 119 ∷ 110 ∷ []

abbrev a : Text
a = 97 ∷ []

abbrev b : Text
b = 98 ∷ []

abbrev c : Text
c = 99 ∷ []

abbrev early : Text
early =
    50 ∷ 48 ∷ 50 ∷ 52 ∷ 45 ∷ 48 ∷ 51 ∷ 45 ∷ 48 ∷ 49 ∷ 84 ∷ 48 ∷ 57 ∷ 58 ∷ 48 ∷ 48 ∷ 58 ∷ 48 ∷ 48 ∷ 46 ∷ 53 ∷ 48 ∷ 48
    ∷ 48 ∷ 48 ∷ 48 ∷ 90 ∷ []

abbrev late : Text
late = 50 ∷ 48 ∷ 50 ∷ 52 ∷ 45 ∷ 48 ∷ 51 ∷ 45 ∷ 48 ∷ 49 ∷ 84 ∷ 49 ∷ 48 ∷ 58 ∷ 48 ∷ 48 ∷ 58 ∷ 48 ∷ 48 ∷ 90 ∷ []

abbrev e1 : Host
e1 = record { number = 1; values = (h1 ∷ []) ∷ (one ∷ []) ∷ (late ∷ []) ∷ (up ∷ []) ∷ (a ∷ []) ∷ [] }

abbrev e2 : Host
e2 = record { number = 2; values = (h1 ∷ []) ∷ (two ∷ []) ∷ (early ∷ []) ∷ [] ∷ (b ∷ []) ∷ [] }

abbrev e3 : Host
e3 = record { number = 2; values = (h1 ∷ []) ∷ (two ∷ []) ∷ (early ∷ []) ∷ [] ∷ (c ∷ []) ∷ [] }

abbrev e4 : Host
e4 = record { number = 1; values = (h1 ∷ []) ∷ (one ∷ []) ∷ (late ∷ []) ∷ (down ∷ []) ∷ (a ∷ []) ∷ [] }

-- the dossier of a list of events, with all that computes it
ruled : {Event : Type 0} → View Event → List Event → Dossier
unfolding rule rule_at snapshot places up_to up_from cell_of cell agreed all_are equal of_version only canon put numbers lists lex sets texts flatten smallest
    reversed
ruled t es = rule t es

-- what a list of events opens as
opened : View Host → List Host → Opened
unfolding opening first_of conflict or_later marked lowest is_mark cell_at column held last_of merged_at merged_set merged_sets overfull ruled
opened t es = opening t.type (rule t es)

-- E1, E2: addr h1, rev 2, seen 2024-03-01T10:00:00Z, tags a and b, no state; and with E2 twice
one-two : opened host (e1 ∷ e2 ∷ []) ≡ merged ((h1 ∷ []) ∷ (two ∷ []) ∷ (late ∷ []) ∷ [] ∷ (a ∷ b ∷ []) ∷ [])
unfolding opened
one-two = refl

one-two-two : opened host (e1 ∷ e2 ∷ e2 ∷ []) ≡ opened host (e1 ∷ e2 ∷ [])
unfolding opened
one-two-two = refl

-- E1, E2, E3: conflict 2 tags
one-two-three : opened host (e1 ∷ e2 ∷ e3 ∷ []) ≡ finds (conflict_at 2 4)
unfolding opened
one-two-three = refl

-- with E4 too, in any order: conflict 1 state
with-four : (es : List Host) → Same es (e1 ∷ e2 ∷ e3 ∷ e4 ∷ []) → opened host es ≡ finds (conflict_at 1 3)
unfolding opened
with-four es h = ap (opening host.type) (rule-same host es (e1 ∷ e2 ∷ e3 ∷ e4 ∷ []) h)

-- one event opens as itself
alone : opened host (e1 ∷ []) ≡ merged e1.values
unfolding opened
alone = refl

-- an unversioned type has no conflict, and a single-valued state would get two objects
full : opened plain (e1 ∷ e4 ∷ []) ≡ finds (overfull_at 3)
unfolding opened
full = refl

-- a way of calls on values
answered : View Host → Way Host Bool → Reply Dossier
unfolding calls next limited fits standard objects sizes size combine union merge join_snapshots join_cells join_cell ruled
answered t = calls (λ b e. wrote (rule t (e ∷ []))) (λ b x y. limited standard t.type itself (combine t.type x y))

-- two ways over the same events
two_ways :
    answered host (node true (node true (leaf true e1) (leaf true e2)) (node true (leaf true e3) (leaf true e4)))
    ≡ answered host (node true (leaf true e4) (node true (leaf true e3) (node true (leaf true e1) (node true (leaf true e2) (leaf true e3)))))
unfolding answered
two_ways = refl

-- an unversioned type has the largest rev, and all values elsewhere
plain-three : answered plain (node true (leaf true e4) (node true (leaf true e1) (leaf true e2))) ≡ wrote (record {
  parents = [];
  snapshots =
      record {
        version = 0;
        cells = holds (h1 ∷ []) ∷ holds (two ∷ []) ∷ holds (early ∷ late ∷ []) ∷ holds (down ∷ up ∷ []) ∷ holds (a ∷ b ∷ []) ∷ [];
      } ∷ [];
})
unfolding answered
plain-three = refl

-- the limits by their numbers: an event of a versioned type has as many parents as its number, and one of an unversioned type as many objects
abbrev counted : Bool → View ℕ
counted b = record {
  type = record {
    versioned = b;
    width = 1;
    choice = λ p. every;
    replaces = λ p. false;
    single = λ p. false;
  };
  event = record {
    parents = λ n. map (λ k. k ∷ []) (up_to (cond b n 0));
    version = λ n. cond b n 0;
    set = λ n p. map (λ k. k ∷ []) (up_to (cond b 0 n));
  };
}

fitting : Limits → Bool → List ℕ → Bool
unfolding fits objects sizes size ruled
fitting l b es = fits l (counted b).type (rule (counted b) es)

-- eight event versions fit and nine do not
eight-versions : fitting standard true (8 ∷ 1 ∷ 2 ∷ 3 ∷ 4 ∷ 5 ∷ 6 ∷ 7 ∷ 8 ∷ []) ≡ true
unfolding fitting standard
eight-versions = refl

nine-versions : fitting standard true (9 ∷ 8 ∷ 1 ∷ 2 ∷ 3 ∷ 4 ∷ 5 ∷ 6 ∷ 7 ∷ []) ≡ false
unfolding fitting standard
nine-versions = refl

parents-32 : fitting standard true (32 ∷ 31 ∷ []) ≡ true
unfolding fitting standard
parents-32 = refl

parents-33 : fitting standard true (33 ∷ []) ≡ false
unfolding fitting standard
parents-33 = refl

objects-256 : fitting standard false (256 ∷ 255 ∷ []) ≡ true
unfolding fitting standard
objects-256 = refl

objects-257 : fitting standard false (257 ∷ []) ≡ false
unfolding fitting standard
objects-257 = refl
