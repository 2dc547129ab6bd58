-- Document 02, Q-12, "Equal hash texts, equal identity": "two accepted events have equal hash texts exactly when source URI, type name and every match
-- property's set are equal, for any table that holds the type". Nothing is asked of the table but that its bytes read (`hash-identity`).
use Rattle.std.specs.Prelude.{ℕ, ◌≤◌, ◌≡◌, ◌↔◌, List, length}
use Rattle.model.specs.Limits.{Limits, Permitted}
use Rattle.model.specs.Ways.{wrote}
use Rattle.replies.specs.Questions.{accepted}
use Rattle.replies.specs.Capacities.{hash_text_capacity}
use Rattle.replies.specs.Answers.{Reply}
use Rattle.ontology.specs.Table.{Table}
use Rattle.event.specs.EventLayout.{wide}
use Rattle.event.specs.EventQuestions.{Typed, event_asked, new_event_asked}
use Rattle.hashing.specs.HashText.{event_text}
use Rattle.hashing.specs.HashCalls.{hash_text_call}
use Rattle.combining.specs.CheckCall.{check_call}
use Rattle.combining.specs.CombineCall.{combine_call}
use Rattle.ways.specs.ByteWays.{returned, HasRoom, SameMatch}

-- "source URI, type name and every match property's set are equal"
pub record SameIdentity (a b : Typed) : Type 0 where
  pub source : a.event.head.source ≡ b.event.head.source
  pub type : a.event.head.type ≡ b.event.head.type
  pub match : SameMatch a.type a.event b.event

-- "equal hash texts"
abbrev pub text_of : Typed → List ℕ
text_of a = event_text a.type a.event

abbrev pub SameText : Typed → Typed → Type 0
SameText a b = text_of a ≡ text_of b

pub record HashIdentity (table : List ℕ) (types : Table) : Type 0 where
  -- "two accepted events have equal hash texts exactly when .."
  pub events : (s r : List ℕ) (a b : Typed) → new_event_asked types s ≡ accepted a → new_event_asked types r ≡ accepted b →
      SameText a b ↔ SameIdentity a b
  -- the same of any two byte strings that the hash text call takes as events, in its wider counts: of merged events too
  pub taken : (s r : List ℕ) (a b : Typed) → event_asked wide types s ≡ accepted a → event_asked wide types r ≡ accepted b →
      SameText a b ↔ SameIdentity a b
  -- the same of the call: it gives the hash text, and so equal bytes exactly then, whatever its outputs had in them before
  pub gives : (s out : List ℕ) (a : Typed) → event_asked wide types s ≡ accepted a → hash_text_capacity ≤ length out →
      returned (hash_text_call table s out) ≡ wrote (text_of a)
  pub calls : (s r out old : List ℕ) (a b : Typed) → event_asked wide types s ≡ accepted a → event_asked wide types r ≡ accepted b →
      hash_text_capacity ≤ length out → hash_text_capacity ≤ length old →
      (returned (hash_text_call table s out) ≡ returned (hash_text_call table r old)) ↔ SameIdentity a b
  -- of what the viewer does with it: combining the dossiers of two accepted events is not refused with 7 exactly when their hash texts are equal. The limits
  -- are permitted and the output has room, since 18 and 1 are asked before 7.
  pub combines : (limits : Limits) → Permitted limits → (s r : List ℕ) (a b : Typed) →
      new_event_asked types s ≡ accepted a → new_event_asked types r ≡ accepted b → (x y d e out : List ℕ) →
      returned (check_call table s x) ≡ wrote d → returned (check_call table r y) ≡ wrote e → HasRoom out →
      ((combine_call limits table d e out).reply ≡ Reply.refused 7 → ⊥) ↔ SameText a b
