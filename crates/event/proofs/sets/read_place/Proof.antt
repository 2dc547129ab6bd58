use Rattle.event.proofs.SetLaws.{place-promised, place-reads, place-clear}
use Rattle.event.proofs.sets.read_place.Statement.{statement}
use Rattle.event.proofs.sets.read_place.Tie as tie

pub read_place_spec : {M : Type 1} → statement M
read_place_spec = tie.close (tie.spec (λ c κs. search place-promised) (λ c. search place-reads) (λ c. search place-clear))
