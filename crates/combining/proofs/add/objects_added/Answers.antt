-- The snapshot that is promised at `at` is the left one of the two.
use Rattle.combining.proofs.AddLaws.{read_is}
use Rattle.combining.proofs.add.objects_added.Goals as goal

pub returns : goal.returns
returns c = λ u ty left right rest typed un meet e objects sets.
    let is = read_is c.in-Some.ensures e in
    c.objects_fit.ensures u ty left right typed un meet is.objects objects is.sets sets
