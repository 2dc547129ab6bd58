-- EDXML (8.1) removes duplicates from the strings of a hash text; document 01 does not speak of them, since an accepted event has none.
use Rattle.std.specs.Prelude.{ℕ, ◌≡◌, true, List}
use Rattle.std.proofs.Math.Option.{some}
use Rattle.model.specs.Order.{texts, rising}
use Rattle.model.specs.Sorting.{sorted}
use Rattle.replies.specs.Questions.{accepted}
use Rattle.ontology.specs.Table.{Table}
use Rattle.ontology.specs.TableLayout.{table_of}
use Rattle.event.specs.EventLayout.{Counts}
use Rattle.event.specs.EventQuestions.{Typed, event_asked}
use Rattle.hashing.specs.HashText.{object_strings}

-- the sorted strings of an accepted event rise: no two are equal
abbrev pub NoDuplicates : Type 0
NoDuplicates =
    (counts : Counts) (table event : List ℕ) (ts : Table) (a : Typed) → table_of table ≡ some ts → event_asked counts ts event ≡ accepted a →
    rising texts (sorted texts (object_strings a.type.properties a.event.sets)) ≡ true
