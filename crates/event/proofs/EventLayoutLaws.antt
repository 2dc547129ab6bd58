-- The laws of the event's layout: what is written is read (`-read`), and what is read was written so (`-was`). The sets are the dossier's too.
use mathlib.Core.Path.{◌≡◌, refl, sym, ap, ◌∙◌, subst, subst₂}
use mathlib.Core.Bool.{Bool, true, false, cond}
use mathlib.Core.Option.{some}
use mathlib.Core.List.{List, [], ◌∷◌, ◌++◌, append_assoc, append-nil, map, flatten}
use Prim.Native.Nat.{ℕ, zero, suc, ◌+◌, ◌*◌, ◌/◌, ◌%◌, ◌^◌, ◌≤◌, ◌<◌}
use native.Mathlib.Nat.{pow-succ'}
use native.Mathlib.Omega.{arith}
use lib.Dec.{ltb, leb, eqb}
use lib.ListN.{length}
use borrow.Author.Tests.{lt-ltb, le-leb, ltb-true, leb-true, eqb-true, eqb-false}
use Rattle.model.specs.Order.{Text, texts, rising}
use Rattle.packed.specs.Parse.{Parse, got, Layout, and_then, found, found_if, such_that, times, ◌>>=◌}
use Rattle.packed.specs.Packed.{number, read_number, text, read_text}
use Rattle.packed.proofs.LayoutLaws.{All, and_then-got, found_if-got, such_that-got, whole-some, number_read, number-was, text-read, text-was, times-read}
use Rattle.packed.proofs.LayoutLaws.{times-was}
use Rattle.event.proofs.HeadLayoutLaws.{HeadWritten, such-that, head_read, head-was}
use Rattle.event.specs.Event.{Event, object_count}
use Rattle.event.specs.Head.{Head, read_head, head_bytes}
use Rattle.event.specs.EventLayout.{read_set, read_place, read_sets, read_bits, Counts, narrow, wide, read_event, event_of, set_bytes, sets_bytes, presence_bit}
use Rattle.event.specs.EventLayout.{bit_number, event_bytes}

-- ---- what can be written

-- a set whose bytes are read; it may be empty
pub record SetWritten (s : List Text) : Type 0 where
  pub rises : rising texts s ≡ true
  pub few : length s < 2 ^ 64
  pub short : All (λ (v : Text). length v < 2 ^ 64) s

pub record SetsWritten (sets : List (List Text)) : Type 0 where
  pub long : length sets ≡ 32
  pub each : All SetWritten sets

pub record EventWritten (counts : Counts) (e : Event) : Type 0 where
  pub head : HeadWritten counts.parents e.head
  pub sets : SetsWritten e.sets
  pub objects : object_count e.sets ≤ counts.objects

-- ---- a set

pub nonempty-read : (v : Text) (vs : List Text) (r : List ℕ) → SetWritten (v ∷ vs) → read_set (set_bytes (v ∷ vs) ++ r) ≡ got (v ∷ vs) r
unfolding read_set set_bytes
nonempty-read v vs r w =
    rw (
      append_assoc (number (length (v ∷ vs))) (flatten (map text (v ∷ vs))) r,
      number_read (length (v ∷ vs)) (flatten (map text (v ∷ vs)) ++ r) w.few,
      le-leb 1 (length (v ∷ vs)) (omega arith),
      times-read read_text text (λ (v : Text). length v < 2 ^ 64) text-read (v ∷ vs) r w.short,
      w.rises,
    )

pub set-read : (x : List Text) (r : List ℕ) → SetWritten x → read_place (presence_bit x) (set_bytes x ++ r) ≡ got x r
unfolding read_place presence_bit set_bytes
set-read [] r w = refl
set-read (v ∷ vs) r w = nonempty-read v vs r w

-- what a place's reader found
pub record SetWas (bit : ℕ) (s : List ℕ) (x : List Text) (r : List ℕ) : Type 0 where
  pub bytes : s ≡ set_bytes x ++ r
  pub present : presence_bit x ≡ bit
  pub written : SetWritten x

set_is :
    (n : ℕ) (s t r : List ℕ) (x : List Text) → 1 ≤ n → (s ≡ number n ++ t) × (n < 2 ^ 64) →
    (t ≡ flatten (map text x) ++ r) × (length x ≡ n) × All (λ (v : Text). length v < 2 ^ 64) x → rising texts x ≡ true → SetWas 1 s x r
unfolding set_bytes presence_bit
set_is n s t r [] l a b up = absurd (omega arith)
set_is n s t r (v ∷ vs) l a b up = record {
  bytes = a.0 ∙ rw (b.0, ← b.1) (sym (append_assoc (number (length (v ∷ vs))) (flatten (map text (v ∷ vs))) r));
  present = refl;
  written = record { rises = up; few = omega arith; short = b.2 };
}

pub nonempty-was : (s : List ℕ) (x : List Text) (r : List ℕ) → read_set s ≡ got x r → SetWas 1 s x r
unfolding read_set
nonempty-was s x r e =
    let c = and_then-got (such_that (λ (n : ℕ). leb 1 n) read_number s) _ x r e in
    let n = such_that-got (λ (n : ℕ). leb 1 n) read_number s c.value c.left c.first in
    let d = and_then-got (times read_text c.value c.left) _ x r c.second in
    let f = found_if-got (rising texts d.value) d.value d.left x r d.second in
    let w = set_is c.value s c.left d.left d.value
    (leb-true 1 c.value n.test)
    (number-was s c.value c.left n.was)
    (times-was read_text text (λ (v : Text). length v < 2 ^ 64) text-was c.value c.left d.value d.left d.first)
    f.test in
    subst₂ (λ (y : List Text) (u : List ℕ). SetWas 1 s y u) f.value f.rest w

empty-written : SetWritten []
unfolding rising
empty-written = record { rises = refl; few = omega arith; short = tt }

pub set-was : (bit : ℕ) (s : List ℕ) (x : List Text) (r : List ℕ) → bit < 2 → read_place bit s ≡ got x r → SetWas bit s x r
unfolding read_place set_bytes presence_bit
set-was bit s x r l e = go (eqb bit 1) refl e
  where
    go : (t : Bool) → eqb bit 1 ≡ t → cond t read_set (found []) s ≡ got x r → SetWas bit s x r
    go true h e = subst (λ (b : ℕ). SetWas b s x r) (sym (eqb-true bit 1 h)) (nonempty-was s x r e)
    go false h e =
        let ne : bit ≡ 1 → ⊥ = eqb-false bit 1 h in
        let z : bit ≡ 0 = omega (arith, ne) in
        let a : [] ≡ x = cc in
        let b : s ≡ r = cc in
        rw (← a) (record { bytes = b; present = sym z; written = empty-written })

-- ---- the sets and their bits, for any number of places

pub presence-small : (x : List Text) → presence_bit x < 2
unfolding presence_bit
presence-small [] = omega arith
presence-small (v ∷ vs) = omega arith

-- bits, one for each of so many elements, make a number below 2^places
pub bits_small : {A : Type 0} (bit : A → ℕ) (xs : List A) → ((x : A) → bit x < 2) → bit_number (map bit xs) < 2 ^ length xs
unfolding bit_number
bits_small bit [] h = omega arith
bits_small bit (x ∷ xs) h = rw (pow-succ' 2 (length xs)) (omega (arith, h x, bits_small bit xs h))

-- the lowest bit, and the bits above it
pub low_bit : (b n : ℕ) → b < 2 → (b + 2 * n) % 2 ≡ b
low_bit b n h = omega arith

pub high_bits : (b n : ℕ) → b < 2 → (b + 2 * n) / 2 ≡ n
high_bits b n h = omega arith

pub half-small : (places n : ℕ) → n < 2 ^ suc places → n / 2 < 2 ^ places
half-small places n h = let e = pow-succ' 2 places in omega arith

pub sets-read :
    (xs : List (List Text)) (r : List ℕ) → All SetWritten xs → read_sets (length xs) (bit_number (map presence_bit xs)) (sets_bytes xs ++ r) ≡ got xs r
unfolding read_sets bit_number sets_bytes flatten
sets-read [] r w = refl
sets-read (x ∷ xs) r w =
    let small = presence-small x in
    rw (
      append_assoc (set_bytes x) (flatten (map set_bytes xs)) r,
      low_bit (presence_bit x) (bit_number (map presence_bit xs)) small,
      high_bits (presence_bit x) (bit_number (map presence_bit xs)) small,
      set-read x (flatten (map set_bytes xs) ++ r) w.0,
      sets-read xs r w.1,
    )

pub record SetsWas (places presence : ℕ) (s : List ℕ) (xs : List (List Text)) (r : List ℕ) : Type 0 where
  pub bytes : s ≡ sets_bytes xs ++ r
  pub long : length xs ≡ places
  pub present : bit_number (map presence_bit xs) ≡ presence
  pub each : All SetWritten xs

sets_more :
    (places presence : ℕ) (s t u r : List ℕ) (x : List Text) (ys xs : List (List Text)) → SetWas (presence % 2) s x t →
    SetsWas places (presence / 2) t ys u → x ∷ ys ≡ xs → u ≡ r → SetsWas (suc places) presence s xs r
unfolding sets_bytes flatten bit_number
sets_more places presence s t u r x ys xs a b e f =
    rw (← e, ← f) (record {
      bytes = a.bytes ∙ rw b.bytes (sym (append_assoc (set_bytes x) (flatten (map set_bytes ys)) u));
      long = ap suc b.long;
      present = omega arith;
      each = (a.written, b.each);
    })

pub sets-was :
    (places presence : ℕ) (s : List ℕ) (xs : List (List Text)) (r : List ℕ) → presence < 2 ^ places → read_sets places presence s ≡ got xs r →
    SetsWas places presence s xs r
unfolding read_sets sets_bytes flatten bit_number
sets-was zero presence s xs r l e =
    let a : [] ≡ xs = cc in
    let b : s ≡ r = cc in
    rw (← a) (record { bytes = b; long = refl; present = omega arith; each = tt })
sets-was (suc places) presence s xs r l e =
    let c = and_then-got (read_place (presence % 2) s) _ xs r e in
    let d = and_then-got (read_sets places (presence / 2) c.left) _ xs r c.second in
    sets_more places presence s c.left d.left r c.value d.value xs
    (set-was (presence % 2) s c.value c.left (omega arith) c.first)
    (sets-was places (presence / 2) c.left d.value d.left (half-small places presence l) d.first)
    (cc d.second) (cc d.second)

-- ---- the bits of 32 places

pub bits-read : (n : ℕ) (r : List ℕ) → n < 2 ^ 32 → read_bits (number n ++ r) ≡ got n r
unfolding read_bits
bits-read n r h = such-that (λ (n : ℕ). ltb n (2 ^ 32)) read_number (number n ++ r) n r (number_read n r (omega arith)) (lt-ltb n (2 ^ 32) h)

pub bits-was : (s : List ℕ) (n : ℕ) (r : List ℕ) → read_bits s ≡ got n r → (s ≡ number n ++ r) × (n < 2 ^ 32)
unfolding read_bits
bits-was s n r e =
    let f = such_that-got (λ (n : ℕ). ltb n (2 ^ 32)) read_number s n r e in
    ((number-was s n r f.was).0, ltb-true n (2 ^ 32) f.test)

-- the presence number of 32 sets
pub presence-below : (xs : List (List Text)) → length xs ≡ 32 → bit_number (map presence_bit xs) < 2 ^ 32
presence-below xs h = subst (λ (n : ℕ). bit_number (map presence_bit xs) < 2 ^ n) h (bits_small presence_bit xs presence-small)

-- 32 sets, read
pub all-sets-read : (xs : List (List Text)) (r : List ℕ) → SetsWritten xs →
    read_sets 32 (bit_number (map presence_bit xs)) (sets_bytes xs ++ r) ≡ got xs r
all-sets-read xs r w =
    ap (λ (n : ℕ). read_sets n (bit_number (map presence_bit xs)) (sets_bytes xs ++ r)) (sym w.long) ∙ sets-read xs r w.each

-- ---- the event

-- what follows the head
abbrev pub read_body : Counts → Head → Layout Event
read_body counts h = do
  presence ← read_bits
  sets ← read_sets 32 presence
  found_if (leb (object_count sets) counts.objects) (record { head = h; sets = sets })

event-parts : (e : Event) → event_bytes e ≡ head_bytes e.head ++ (number (bit_number (map presence_bit e.sets)) ++ (sets_bytes e.sets ++ []))
unfolding event_bytes
event-parts e =
    append_assoc (head_bytes e.head) (number (bit_number (map presence_bit e.sets))) (sets_bytes e.sets)
    ∙ rw (append-nil (sets_bytes e.sets))

pub event-read : (counts : Counts) (e : Event) → EventWritten counts e → event_of counts (event_bytes e) ≡ some e
unfolding event_of read_event
event-read counts e w =
    (whole-some (read_event counts (event_bytes e)) e).1
    (ap (read_event counts) (event-parts e)
    ∙ ap (λ (p : Parse Head). and_then p (read_body counts))
    (head_read counts.parents e.head (number (bit_number (map presence_bit e.sets)) ++ (sets_bytes e.sets ++ [])) w.head)
    ∙ rw (
      bits-read (bit_number (map presence_bit e.sets)) (sets_bytes e.sets ++ []) (presence-below e.sets w.sets.long),
      all-sets-read e.sets [] w.sets,
      le-leb (object_count e.sets) counts.objects w.objects,
    ))

event-is : (counts : Counts) (presence : ℕ) (s t u v : List ℕ) (g : Head) (sets : List (List Text)) (e : Event) →
    s ≡ head_bytes g ++ t → HeadWritten counts.parents g → t ≡ number presence ++ u → SetsWas 32 presence u sets v →
    object_count sets ≤ counts.objects → record { head = g; sets = sets } ≡ e → v ≡ [] → (s ≡ event_bytes e) × EventWritten counts e
event-is counts presence s t u v g sets e a h b x o p q =
    rw (← p) (
      a ∙ rw (b, x.bytes, ← x.present, q) (sym (event-parts (record { head = g; sets = sets }))),
      record { head = h; sets = record { long = x.long; each = x.each }; objects = o },
    )

pub event-was : (counts : Counts) (s : List ℕ) (e : Event) → event_of counts s ≡ some e → (s ≡ event_bytes e) × EventWritten counts e
unfolding event_of read_event
event-was counts s e h =
    let a = and_then-got (read_head counts.parents s) (read_body counts) e [] ((whole-some (read_event counts s) e).0 h) in
    let x = head-was counts.parents s a.value a.left a.first in
    let c = and_then-got (read_bits a.left) _ e [] a.second in
    let d = and_then-got (read_sets 32 c.value c.left) _ e [] c.second in
    let f = found_if-got (leb (object_count d.value) counts.objects) _ d.left e [] d.second in
    let b = bits-was a.left c.value c.left c.first in
    event-is counts c.value s a.left c.left d.left a.value d.value e
    x.0 x.1 b.0
    (sets-was 32 c.value c.left d.value d.left b.1 d.first)
    (leb-true (object_count d.value) counts.objects f.test)
    f.value f.rest

-- an event begins with its head
pub event-head :
    (counts : Counts) (s : List ℕ) (e : Event) → event_of counts s ≡ some e → (r : List ℕ) × (read_head counts.parents s ≡ got e.head r)
unfolding event_bytes
event-head counts s e h =
    let w = event-was counts s e h in
    let n = number (bit_number (map presence_bit e.sets)) in
    let r = n ++ sets_bytes e.sets in
    (r, ap (read_head counts.parents) (w.0 ∙ append_assoc (head_bytes e.head) n (sets_bytes e.sets)) ∙ head_read counts.parents e.head r w.1.head)

-- what is answered of whatever head the bytes begin with is so of the event's
pub event-name :
    (s name : List ℕ) → ((most : ℕ) (h : Head) (r : List ℕ) → read_head most s ≡ got h r → name ≡ h.type) →
    (counts : Counts) (e : Event) → event_of counts s ≡ some e → name ≡ e.head.type
event-name s name told counts e is = let h = event-head counts s e is in told counts.parents e.head h.0 h.1

-- bytes that are one event are equal
pub event-injective : (counts : Counts) (s t : List ℕ) (e : Event) → event_of counts s ≡ some e → event_of counts t ≡ some e → s ≡ t
event-injective counts s t e h k = (event-was counts s e h).0 ∙ sym (event-was counts t e k).0

-- an event within some counts is within larger ones
pub written-larger : (a b : Counts) (e : Event) → a.parents ≤ b.parents → a.objects ≤ b.objects → EventWritten a e → EventWritten b e
written-larger a b e p o w =
    let h = w.head.parents in
    record {
      head =
          record { type = w.head.type; source = w.head.source; parents = record { within = omega arith; few = h.few; each = h.each; rises = h.rises } };
      sets = w.sets;
      objects = omega (arith, w.objects);
    }

pub event-wide : (s : List ℕ) (e : Event) → event_of narrow s ≡ some e → event_of wide s ≡ some e
unfolding narrow wide
event-wide s e h =
    let w = event-was narrow s e h in
    ap (event_of wide) w.0 ∙ event-read wide e (written-larger narrow wide e (omega arith) (omega arith) w.1)
