-- Document 01, questions 3 to 6 of a dossier, and 7 of two.
use Rattle.std.specs.Prelude.{ℕ, ◌-◌, Bool, true, false, cond, not, ◌&&◌, ◌||◌, List, [], ◌∷◌, map, length, leb, eqb}
use Rattle.model.specs.Order.{Text, sets, lists, equal}
use Rattle.model.specs.Rule.{Cell, holds, differs, Snapshot, sizes}
use Rattle.model.specs.Limits.{Limits}
use Rattle.model.specs.Opening.{held, is_mark, cell_at}
use Rattle.values.specs.Decimal.{in_decimal}
use Rattle.replies.specs.Questions.{Asked, accepted, ◌>>=◌, ◌>>◌, ask, ensure}
use Rattle.ontology.specs.Table.{Property, EventType, Table, is_min, is_max, is_match, is_versioned, type_named}
use Rattle.event.specs.EventQuestions.{is_empty, match_count, values_fit}
use Rattle.event.specs.Agreement.{match_sets, agree}
use Rattle.dossier.specs.DossierLayout.{Headed, dossier_of}

-- A test of each place: of a property and its cell, and of a cell where there is no property; a cell that is not there holds the empty set
unfoldable pub each_cell : (Property → Cell → Bool) → (Cell → Bool) → List Property → List Cell → Bool
each_cell f g [] [] = true
each_cell f g [] (c ∷ cs) = g c && each_cell f g [] cs
each_cell f g (p ∷ ps) [] = f p (holds []) && each_cell f g ps []
each_cell f g (p ∷ ps) (c ∷ cs) = f p c && each_cell f g ps cs

-- the same of each snapshot
unfoldable pub each_snapshot : (Snapshot → Bool) → List Snapshot → Bool
each_snapshot f [] = true
each_snapshot f (s ∷ ss) = f s && each_snapshot f ss

-- "Do presence and differ bits name properties"
unfoldable pub is_vacant : Cell → Bool
is_vacant c = not (is_mark c) && is_empty (held c)

-- "is a mandatory one present or marked"
unfoldable pub is_present : Property → Cell → Bool
is_present p c = p.optional || is_mark c || leb 1 (length (held c))

-- at most one object
unfoldable pub is_lone : Cell → Bool
is_lone c = leb (length (held c)) 1

-- "single ones single"
unfoldable pub is_lone_if_single : Property → Cell → Bool
is_lone_if_single p c = p.multivalued || is_lone c

-- "min and max single"
unfoldable pub is_lone_if_extreme : Property → Cell → Bool
is_lone_if_extreme p c = not (is_min p || is_max p) || is_lone c

-- "has an unversioned one a single snapshot, version 0, no mark, at most 256 objects, min and max single"; Q-13: "the reading of dossiers (.. 5 for objects)",
-- so as many objects as the limit allows
unfoldable pub unversioned_snapshot : Limits → EventType → Snapshot → Bool
unversioned_snapshot limits t s =
    eqb s.version 0 && each_cell (λ p c. not (is_mark c) && is_lone_if_extreme p c) (λ c. true) t.properties s.cells
    && leb (sizes s.cells) limits.objects

unfoldable pub unversioned_shape : Limits → EventType → List Snapshot → Bool
unversioned_shape limits t ss = eqb (length ss) 1 && each_snapshot (unversioned_snapshot limits t) ss

-- "its version property unmarked and, byte for byte, its version in decimal"
unfoldable pub holds_version : ℕ → Cell → Bool
holds_version version differs = false
holds_version version (holds s) = equal sets s (in_decimal version ∷ [])

-- "has each versioned snapshot at most 32 objects, single ones single, and its version property unmarked and, byte for byte, its version in decimal"
unfoldable pub versioned_snapshot : EventType → Snapshot → Bool
versioned_snapshot t s =
    leb (sizes s.cells) 32 && each_cell is_lone_if_single (λ c. true) t.properties s.cells && holds_version s.version (cell_at s (t.mark - 1))

abbrev pub snapshot_match : EventType → Snapshot → List (List Text)
snapshot_match t s = match_sets t.properties (map held s.cells)

unfoldable pub is_unmarked_match : Property → Cell → Bool
is_unmarked_match p c = not (is_match p) || (not (is_mark c) && is_lone_if_single p c)

-- "are match sets unmarked, .. single where single, 32 objects at most"
unfoldable pub match_fits : EventType → Snapshot → Bool
match_fits t s =
    each_cell is_unmarked_match (λ c. true) t.properties s.cells && leb (match_count t.properties (map held s.cells)) 32

-- "alike in all snapshots"
unfoldable pub match_alike : EventType → List Snapshot → Bool
match_alike t [] = true
match_alike t (s ∷ ss) = each_snapshot (λ r. equal (lists sets) (snapshot_match t s) (snapshot_match t r)) ss

unfoldable pub dossier_shape : Limits → EventType → List Snapshot → Bool
dossier_shape limits t ss =
    each_snapshot (λ s. each_cell is_present is_vacant t.properties s.cells) ss
    && cond (is_versioned t) (each_snapshot (versioned_snapshot t) ss) (unversioned_shape limits t ss)
    && each_snapshot (match_fits t) ss && match_alike t ss

-- "Is every value in its space, its length of 1 to 120 bytes included?"
unfoldable pub snapshot_values : EventType → Snapshot → Bool
snapshot_values t s = values_fit t (map held s.cells)

-- A dossier with its type in the table
pub record TypedDossier : Type 0 where
  pub type : EventType
  pub headed : Headed

unfoldable pub dossier_asked : Limits → Table → List ℕ → Asked TypedDossier
dossier_asked limits table s = do
  h ← ask 3 (dossier_of limits s)
  t ← ask 4 (type_named h.head.type table)
  ensure 5 (dossier_shape limits t h.snapshots)
  ensure 6 (each_snapshot (snapshot_values t) h.snapshots)
  accepted (record { type = t; headed = h })

-- the match sets of a dossier, alike in all its snapshots
unfoldable pub dossier_match : EventType → List Snapshot → List (List Text)
dossier_match t [] = []
dossier_match t (s ∷ ss) = snapshot_match t s

-- "Do the two agree in type, source URI and match sets?"
unfoldable pub dossiers_agree : TypedDossier → TypedDossier → Bool
dossiers_agree a b =
    agree a.headed.head.type a.headed.head.source (dossier_match a.type a.headed.snapshots)
    b.headed.head.type b.headed.head.source (dossier_match b.type b.headed.snapshots)
