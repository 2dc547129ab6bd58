-- The laws of the numbers that replies are packed into.
use Prim.Native.Nat.{ℕ, ◌+◌, ◌*◌, ◌-◌, ◌%◌}
use native.Mathlib.Nat.{zero-add}
use mathlib.Core.Path.{◌≡◌, refl, sym, ap, ◌∙◌}
use mathlib.Core.List.{List}
use Rattle.packed.proofs.ReadLaws.{part_length}
use Rattle.values.specs.declared.versions.EventVersion.{EventVersion}
use Rattle.replies.specs.Answers as answers
use Rattle.replies.specs.Answers.{Outcome}
use Rattle.replies.specs.Replies.{refusal_number, replied, finding_of, open_replied, batch_replied}
use Rattle.replies.specs.declared.reply.Refusal.{Refusal}
use Rattle.replies.specs.declared.reply.BatchRefusal.{BatchRefusal}
use Rattle.replies.specs.declared.reply.Finding.{Finding}
use Rattle.replies.specs.declared.reply.Finding.TheVariants.{Conflict, Overfull}
use Rattle.replies.specs.declared.reply.Opened.{Opened}
use Rattle.replies.specs.declared.reply.Opened.TheVariants.{Merged, Found}
use Rattle.event.specs.Value.{Part, value_call}
use Rattle.event.specs.code.EventIndex.{PartTold}
use Rattle.event.proofs.AskLaws.{nothing}
use Rattle.interface.specs.Packing.{low, kinded, packed_refusal, packed_finding, packed_as, packed, packed_opened, version_or, version_after, packed_part}
use Rattle.std.specs.Prelude.{Result, Ok, Err}
use Rattle.packed.specs.declared.read.TextAt.{TextAt}

pub refusal_is : (number position : ℕ) → 288230376151711744 + (position % 16777216 * 256 + number) ≡ packed_refusal number position
unfolding packed_refusal kinded
refusal_is number position = refl

-- ---- the arms of a reply

-- what is told in an arm of a `match` is told of what is matched
in-arm : {A : Type 0} (f : A → ℕ) {r x : A} {k : ℕ} → r ≡ x → k ≡ f x → k ≡ f r
in-arm f h e = e ∙ ap f (sym h)

-- done, with so many bytes
done-is : {q : answers.Reply} {n k : ℕ} → q ≡ answers.Reply.done n → k ≡ low n → k ≡ packed q
unfolding packed_as kinded
done-is {n = n} h e = in-arm packed h (e ∙ sym (zero-add (low n)))

pub reply-done : {r : Result ℕ Refusal} {n k : ℕ} → r ≡ Ok n → k ≡ low n → k ≡ packed (replied r)
reply-done h e = done-is (ap replied h) e

-- n is the number of the refusal
pub reply-refused :
    {r : Result ℕ Refusal} {q : Refusal} {n k : ℕ} → r ≡ Err q → n ≡ refusal_number q → k ≡ packed_refusal n 0 → k ≡ packed (replied r)
unfolding packed_as
reply-refused h g e = in-arm (λ r. packed (replied r)) h (e ∙ ap (λ (m : ℕ). packed_refusal m 0) g)

pub batch-done : {r : Result ℕ BatchRefusal} {n k : ℕ} → r ≡ Ok n → k ≡ low n → k ≡ packed (batch_replied r)
batch-done h e = done-is (ap batch_replied h) e

pub batch-refused :
    {r : Result ℕ BatchRefusal} {b : BatchRefusal} {n k : ℕ} → r ≡ Err b → n ≡ refusal_number b.refusal → k ≡ packed_refusal n b.position →
    k ≡ packed (batch_replied r)
unfolding packed_as
batch-refused {b = b} h g e = in-arm (λ r. packed (batch_replied r)) h (e ∙ ap (λ (m : ℕ). packed_refusal m b.position) g)

-- ---- the arms of what opening finds

pub found-conflict :
    {f : Finding} {v : EventVersion} {p k : ℕ} → f ≡ Conflict v p → k ≡ low p → 144115188075855872 + k ≡ packed_finding (finding_of f)
unfolding packed_finding kinded
found-conflict h e = in-arm (λ f. packed_finding (finding_of f)) h (ap (λ (k : ℕ). 144115188075855872 + k) e)

pub found-overfull : {f : Finding} {p k : ℕ} → f ≡ Overfull p → k ≡ low p → 216172782113783808 + k ≡ packed_finding (finding_of f)
unfolding packed_finding kinded
found-overfull h e = in-arm (λ f. packed_finding (finding_of f)) h (ap (λ (k : ℕ). 216172782113783808 + k) e)

pub conflict-version : {f : Finding} {v : EventVersion} {p : ℕ} (old : ℕ) → f ≡ Conflict v p → v.0 ≡ version_or (finding_of f) old
unfolding version_or
conflict-version old h = in-arm (λ f. version_or (finding_of f) old) h refl

pub overfull-version : {f : Finding} {p : ℕ} (old : ℕ) → f ≡ Overfull p → old ≡ version_or (finding_of f) old
unfolding version_or
overfull-version old h = in-arm (λ f. version_or (finding_of f) old) h refl

-- ---- the arms of what was opened

pub opened-merged : {r : Result Opened Refusal} {o : Opened} {n k : ℕ} → r ≡ Ok o → o ≡ Merged n → k ≡ low n →
    72057594037927936 + k ≡ packed_opened (open_replied r)
unfolding packed_as kinded
opened-merged h i e = in-arm (λ r. packed_opened (open_replied r)) (h ∙ ap Ok i) (ap (λ (k : ℕ). 72057594037927936 + k) e)

pub opened-found : {r : Result Opened Refusal} {o : Opened} {f : Finding} {k : ℕ} → r ≡ Ok o → o ≡ Found f → k ≡ packed_finding (finding_of f) →
    k ≡ packed_opened (open_replied r)
unfolding packed_as
opened-found h i e = in-arm (λ r. packed_opened (open_replied r)) (h ∙ ap Ok i) e

pub opened-refused :
    {r : Result Opened Refusal} {q : Refusal} {n k : ℕ} → r ≡ Err q → n ≡ refusal_number q → k ≡ packed_refusal n 0 →
    k ≡ packed_opened (open_replied r)
unfolding packed_as
opened-refused h g e = in-arm (λ r. packed_opened (open_replied r)) h (e ∙ ap (λ (m : ℕ). packed_refusal m 0) g)

-- ---- the event version of a conflict

pub version-merged : {r : Result Opened Refusal} {o : Opened} {n : ℕ} (old : ℕ) → r ≡ Ok o → o ≡ Merged n →
    old ≡ version_after (open_replied r) old
unfolding version_after
version-merged old h i = in-arm (λ r. version_after (open_replied r) old) (h ∙ ap Ok i) refl

pub version-found : {r : Result Opened Refusal} {o : Opened} {f : Finding} {k : ℕ} (old : ℕ) → r ≡ Ok o → o ≡ Found f →
    k ≡ version_or (finding_of f) old → k ≡ version_after (open_replied r) old
unfolding version_after
version-found old h i e = in-arm (λ r. version_after (open_replied r) old) (h ∙ ap Ok i) e

pub version-refused : {r : Result Opened Refusal} {q : Refusal} (old : ℕ) → r ≡ Err q → old ≡ version_after (open_replied r) old
unfolding version_after
version-refused old h = in-arm (λ r. version_after (open_replied r) old) h refl

-- ---- a call's equation, told as C sees it

pub answered :
    {n : ℕ} {r : answers.Reply} {bytes : List ℕ} {o : Outcome} → n ≡ packed r → ◌≡◌ {A = Outcome} (record { reply = r; bytes = bytes }) o →
    (n ≡ packed o.reply) × (bytes ≡ o.bytes)
answered e h = (e ∙ ap (λ (o : Outcome). packed o.reply) h, ap (λ (o : Outcome). o.bytes) h)

pub answered-open :
    {n v : ℕ} {r : answers.Reply} {bytes : List ℕ} {o : Outcome} (old : ℕ) → n ≡ packed_opened r → v ≡ version_after r old →
    ◌≡◌ {A = Outcome} (record { reply = r; bytes = bytes }) o →
    (n ≡ packed_opened o.reply) × ((bytes ≡ o.bytes) × (v ≡ version_after o.reply old))
answered-open old e w h = (
  e ∙ ap (λ (o : Outcome). packed_opened o.reply) h,
  (ap (λ (o : Outcome). o.bytes) h, w ∙ ap (λ (o : Outcome). version_after o.reply old) h),
)

-- ---- the value call

pub value-none : {x : Part} → x ≡ nothing → 0 ≡ packed_part x
unfolding packed_part
value-none h = ap packed_part (sym h)

pub value-packed :
    {table event : List ℕ} {place index : ℕ} {x : TextAt} → PartTold table event place index x →
    (x.end - x.start) % 268435456 + x.start % 268435456 * 268435456 ≡ packed_part (value_call table event place index)
unfolding packed_part
value-packed {event = event} {x = x} v =
    ap (λ (n : ℕ). n % 268435456 + x.start % 268435456 * 268435456) (sym (part_length event x.start x.end v.order v.within))
    ∙ ap packed_part (sym v.is)
