-- Document 02, Q-13: "a merge that succeeds under smaller limits gives the same bytes under larger ones". Of each call that takes limits, for any input bytes
-- and any output, and of each whole way; `small` has no limit above that of `large`, which is permitted (`larger-limits`).
use Rattle.std.specs.Prelude.{ℕ, ◌≡◌, List}
use Rattle.model.specs.Limits.{Limits}
use Rattle.model.specs.Ways.{Way, wrote}
use Rattle.replies.specs.Answers.{Reply}
use Rattle.combining.specs.CombineCall.{combine_call}
use Rattle.opening.specs.OpenCall.{open_call}
use Rattle.batch.specs.Batch.{Rooms, batch_call}
use Rattle.ways.specs.ByteWays.{way_answer}

-- a call that is not refused: it gives bytes, or opening finds a conflict or an overfull place
unfoldable pub Succeeds : Reply → Type 0
Succeeds (Reply.done n) = Unit {0}
Succeeds (Reply.found f) = Unit {0}
Succeeds (Reply.refused n) = ⊥
Succeeds (Reply.refused_at n i) = ⊥

pub record LargerLimits (small large : Limits) : Type 0 where
  -- the same reply and every byte of the output
  pub combine : (table left right out : List ℕ) → Succeeds (combine_call small table left right out).reply →
      combine_call large table left right out ≡ combine_call small table left right out
  pub opens : (table dossier out : List ℕ) → Succeeds (open_call small table dossier out).reply →
      open_call large table dossier out ≡ open_call small table dossier out
  pub batch : (rooms : Rooms) (table batch out : List ℕ) → Succeeds (batch_call small rooms table batch out).reply →
      batch_call large rooms table batch out ≡ batch_call small rooms table batch out
  pub way : (table : List ℕ) (w : Way (List ℕ) (List ℕ)) (d : List ℕ) → way_answer small table w ≡ wrote d → way_answer large table w ≡ wrote d
  -- raising a limit never turns bytes into a refusal
  pub combine_stays : (table left right out : List ℕ) → Succeeds (combine_call small table left right out).reply →
      Succeeds (combine_call large table left right out).reply
  pub opens_stays : (table dossier out : List ℕ) → Succeeds (open_call small table dossier out).reply →
      Succeeds (open_call large table dossier out).reply
  pub batch_stays : (rooms : Rooms) (table batch out : List ℕ) → Succeeds (batch_call small rooms table batch out).reply →
      Succeeds (batch_call large rooms table batch out).reply
