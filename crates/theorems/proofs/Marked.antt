-- The lines marked * in document 01: the calls' answers on the packed bytes, computed.
use mathlib.Core.Path.{◌≡◌, refl, ap, ◌∙◌}
use mathlib.Core.List.{List}
use Prim.Native.Nat.{ℕ, ◌≤◌}
use lib.ListN.{length}
use Rattle.replies.specs.Answers.{reply_of, Reply}
use Rattle.replies.specs.Capacities.{hash_text_capacity}
use Rattle.replies.proofs.CapacityLaws.{has_room_lem}
use Rattle.hashing.specs.HashCalls.{hash_text_asked, hash_text_answer, hash_text_call}
use Rattle.theorems.specs.Marked.{hosts, e1, Marked}
use Rattle.theorems.proofs.Computing.{computing}

-- an output that is large enough changes no answer
any-room :
    (table event : List ℕ) (room : ℕ) → hash_text_capacity ≤ room →
    hash_text_answer room table event ≡ hash_text_answer hash_text_capacity table event
unfolding hash_text_answer hash_text_asked
any-room table event room h = rw (has_room_lem hash_text_capacity room h)

twenty-two : reply_of (hash_text_answer hash_text_capacity hosts e1) ≡ Reply.done 22
unfolding computing
twenty-two = refl

one-reply : (out : List ℕ) → hash_text_capacity ≤ length out → (hash_text_call hosts e1 out).reply ≡ Reply.done 22
unfolding hash_text_call
one-reply out h = ap reply_of (any-room hosts e1 (length out) h) ∙ twenty-two

pub marked : Marked
unfolding computing
marked = record {
  table = refl;
  one-two = refl;
  one-two-three = refl;
  tags = refl;
  with-four = refl;
  state = refl;
  text-of-one = refl;
  text-size = one-reply;
  whole-strings = refl;
  later = refl;
  later-turned = refl;
  sorts-first = refl;
  least-signed = refl;
  below-signed = refl;
  minus-zero = refl;
  most-of-three = refl;
  past_three = refl;
  in-decimal = refl;
  too-many-digits = refl;
  too-few-digits = refl;
  decimal-minus-zero = refl;
  leap-day = refl;
  no-leap-day = refl;
}
