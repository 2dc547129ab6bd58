-- The laws of the head's layout: what is written is read (`-read`), and what is read was written so (`-was`).
use mathlib.Core.Path.{◌≡◌, refl, sym, ap, ap₂, ◌∙◌, subst}
use mathlib.Core.Bool.{Bool, true, ◌&&◌}
use mathlib.Core.List.{List, [], ◌∷◌, ◌++◌, append_assoc, map, flatten, map-id}
use Prim.Native.Nat.{ℕ, ◌+◌, ◌^◌, ◌≤◌, ◌<◌, ◌*◌, ◌/◌}
use native.Mathlib.Omega.{arith}
use lib.Dec.{leb}
use lib.ListN.{length, length-append}
use borrow.Author.Tests.{le-leb, leb-true}
use Rattle.model.specs.Order.{Text, texts, rising}
use Rattle.model.proofs.Cases.{and_parts}
use Rattle.packed.specs.Parse.{got, Layout, such_that, times}
use Rattle.packed.specs.Packed.{number, read_number, text, read_text, read_bytes}
use Rattle.packed.proofs.LayoutLaws.{All, and_then-got, found_if-got, such_that-got, number_read, number-was, text-read, text-was, bytes_read, bytes-was}
use Rattle.packed.proofs.LayoutLaws.{times-read, times-was}
use Rattle.packed.specs.code.Written.{Wrote}
use Rattle.packed.proofs.WriteLaws.{wrote_then, wrote_as, wrote-length}
use Rattle.event.specs.code.EventIndex.{HeadParts, HeadRoom}
use Rattle.event.specs.Head.{are_source_bytes, is_source, read_parents, Head, read_head, parents_bytes, head_bytes}

-- ---- what can be written

-- parents, of at most so many; `few` says nothing new where `most` is below 2^64
pub record ParentsWritten (most : ℕ) (parents : List Text) : Type 0 where
  pub within : length parents ≤ most
  pub few : length parents < 2 ^ 64
  pub each : All (λ (h : Text). length h ≡ 20) parents
  pub rises : rising texts parents ≡ true

pub record HeadWritten (most : ℕ) (h : Head) : Type 0 where
  pub type : length h.type < 2 ^ 64
  pub source : is_source h.source ≡ true
  pub parents : ParentsWritten most h.parents

-- a layout whose value passes a test, read
pub such-that :
    {A : Type 0} (t : A → Bool) (p : Layout A) (s : List ℕ) (a : A) (r : List ℕ) → p s ≡ got a r → t a ≡ true → such_that t p s ≡ got a r
such-that t p s a r e h = rw (e, h)

pub source-length : (v : Text) → is_source v ≡ true → (1 ≤ length v) × (length v ≤ 120)
unfolding is_source
source-length v h =
    let a = and_parts (leb 1 (length v) && leb (length v) 120) (are_source_bytes v) h in
    let b = and_parts (leb 1 (length v)) (leb (length v) 120) a.0 in
    (leb-true 1 (length v) b.0, leb-true (length v) 120 b.1)

-- ---- parents

hash-read : (h : Text) (r : List ℕ) → length h ≡ 20 → read_bytes 20 (h ++ r) ≡ got h r
hash-read h r e = ap (λ (n : ℕ). read_bytes n (h ++ r)) (sym e) ∙ bytes_read h r

hashes-read : (hs : List Text) (r : List ℕ) → All (λ (h : Text). length h ≡ 20) hs → times (read_bytes 20) (length hs) (flatten hs ++ r) ≡ got hs r
hashes-read hs r h =
    ap (λ (l : List Text). times (read_bytes 20) (length hs) (flatten l ++ r)) (sym (map-id hs))
    ∙ times-read (read_bytes 20) (λ (h : Text). h) (λ (h : Text). length h ≡ 20) hash-read hs r h

pub parents-read : (most : ℕ) (hs : List Text) (r : List ℕ) → ParentsWritten most hs → read_parents most (parents_bytes hs ++ r) ≡ got hs r
unfolding read_parents parents_bytes
parents-read most hs r w =
    rw (
      append_assoc (number (length hs)) (flatten hs) r,
      number_read (length hs) (flatten hs ++ r) w.few,
      le-leb (length hs) most w.within,
      hashes-read hs r w.each,
      w.rises,
    )

parents-are :
    (most n : ℕ) (s t u r : List ℕ) (ys hs : List Text) → (s ≡ number n ++ t) × (n < 2 ^ 64) → n ≤ most →
    (t ≡ flatten (map (λ (h : Text). h) ys) ++ u) × (length ys ≡ n) × All (λ (h : Text). length h ≡ 20) ys → rising texts ys ≡ true →
    ys ≡ hs →
    u ≡ r → (s ≡ parents_bytes hs ++ r) × ParentsWritten most hs
unfolding parents_bytes
parents-are most n s t u r ys hs a l b up e f =
    rw (← e, ← f) (
      a.0 ∙ rw (b.0, map-id ys, ← b.1) (sym (append_assoc (number (length ys)) (flatten ys) u)),
      record { within = omega arith; few = omega arith; each = b.2; rises = up },
    )

pub parents-was :
    (most : ℕ) (s : List ℕ) (hs : List Text) (r : List ℕ) → read_parents most s ≡ got hs r → (s ≡ parents_bytes hs ++ r) × ParentsWritten most hs
unfolding read_parents
parents-was most s hs r e =
    let c = and_then-got (such_that (λ (n : ℕ). leb n most) read_number s) _ hs r e in
    let n = such_that-got (λ (n : ℕ). leb n most) read_number s c.value c.left c.first in
    let d = and_then-got (times (read_bytes 20) c.value c.left) _ hs r c.second in
    let f = found_if-got (rising texts d.value) d.value d.left hs r d.second in
    parents-are most c.value s c.left d.left r d.value hs
    (number-was s c.value c.left n.was)
    (leb-true c.value most n.test)
    (times-was (read_bytes 20) (λ (h : Text). h) (λ (h : Text). length h ≡ 20) (bytes-was 20) c.value c.left d.value d.left d.first)
    f.test f.value f.rest

-- ---- the head, before whatever follows it

pub head_read : (most : ℕ) (h : Head) (r : List ℕ) → HeadWritten most h → read_head most (head_bytes h ++ r) ≡ got h r
unfolding head_bytes read_head
head_read most h r w =
    let rest = parents_bytes h.parents ++ r in
    rw (
      append_assoc (text h.type ++ text h.source) (parents_bytes h.parents) r,
      append_assoc (text h.type) (text h.source) rest,
      text-read h.type (text h.source ++ rest) w.type,
      text-read h.source rest (omega (arith, source-length h.source w.source)),
      w.source,
      parents-read most h.parents r w.parents,
    )

head_bytes_lem :
    (s t u r : List ℕ) (h : Head) → s ≡ text h.type ++ t → t ≡ text h.source ++ u → u ≡ parents_bytes h.parents ++ r →
    s ≡ head_bytes h ++ r
unfolding head_bytes
head_bytes_lem s t u r h a b c =
    a
    ∙ rw (b, c) (sym (rw
    (append_assoc (text h.type ++ text h.source) (parents_bytes h.parents) r)
    (append_assoc (text h.type) (text h.source) (parents_bytes h.parents ++ r))))

pub head-was : (most : ℕ) (s : List ℕ) (h : Head) (r : List ℕ) → read_head most s ≡ got h r → (s ≡ head_bytes h ++ r) × HeadWritten most h
unfolding read_head
head-was most s h r e =
    let c = and_then-got (read_text s) _ h r e in
    let d = and_then-got (such_that is_source read_text c.left) _ h r c.second in
    let f = and_then-got (read_parents most d.left) _ h r d.second in
    let n = such_that-got is_source read_text c.left d.value d.left d.first in
    let x = text-was s c.value c.left c.first in
    let y = text-was c.left d.value d.left n.was in
    let z = parents-was most d.left f.value f.left f.first in
    let g : Head = record { type = c.value; source = d.value; parents = f.value } in
    go g f.left f.second
    (head_bytes_lem s c.left d.left f.left g x.0 y.0 z.0)
    (record { type = x.1; source = n.test; parents = z.1 })
  where
    go :
        (g : Head) (left : List ℕ) → got g left ≡ got h r → s ≡ head_bytes g ++ left → HeadWritten most g →
        (s ≡ head_bytes h ++ r) × HeadWritten most h
    go g left e b w =
        let f : g ≡ h = cc in
        let k : left ≡ r = cc in (
          b ∙ ap₂ (λ (x : Head) (o : List ℕ). head_bytes x ++ o) f k,
          subst (λ (x : Head). HeadWritten most x) f w,
        )

-- ---- written by its parts

pub head-length :
    (h : Head) →
    length (head_bytes h) ≡ length (text h.type) + length (text h.source) + length (number (length h.parents)) + length (flatten h.parents)
unfolding head_bytes parents_bytes
head-length h = simp length-append (omega arith)

pub hashes-size : (hs : List Text) → All (λ (h : Text). length h ≡ 20) hs → length (flatten hs) ≡ 20 * length hs
unfolding flatten
hashes-size [] h = refl
hashes-size (x ∷ hs) h = simp length-append (omega (arith, h.0, hashes-size hs h.1))

module _ {name source hashes : List ℕ} (h : Head) (w : HeadParts name source hashes h) where
  pub head-count : length hashes / 20 ≡ length h.parents
  head-count = omega (arith, ap length w.parents, hashes-size h.parents w.each)

  -- how long the parts are together
  parts-length :
      (n : ℕ) → n ≡ length hashes / 20 → length (head_bytes h) ≡ length (text name) + length (text source) + length (number n) + length hashes
  parts-length n e =
      let name-same = ap (λ (v : Text). length (text v)) w.type in
      let source-same = ap (λ (v : Text). length (text v)) w.uri in
      let count_same = ap (λ (k : ℕ). length (number k)) (e ∙ head-count) in
      omega (arith, head-length h, name-same, source-same, count_same, ap length w.parents)

  pub wrote-head :
      {l l₁ l₂ l₃ l₄ : List ℕ} {at after-name after-source after-count next n : ℕ} → n ≡ length hashes / 20 →
      Wrote l at (text name) l₁ after-name → Wrote l₁ after-name (text source) l₂ after-source →
      Wrote l₂ after-source (number n) l₃ after-count → Wrote l₃ after-count hashes l₄ next → Wrote l at (head_bytes h) l₄ next
  unfolding head_bytes parents_bytes
  wrote-head e a b c d =
      wrote_then (wrote_then (wrote_as (ap text w.type) a) (wrote_as (ap text w.uri) b))
      (wrote_then (wrote_as (ap number (e ∙ head-count)) c) (wrote_as w.parents d))

-- each part has its room after those before it
module _ {name source hashes : List ℕ} {at size : ℕ} (p : HeadRoom name source hashes at size) where
  all_room : at + (length (text name) + length (text source) + length (number (length hashes / 20)) + length hashes) ≤ size
  all_room = omega (arith, p.room, parts-length p.head p.parts _ refl)

  pub room-name : at + length (text name) ≤ size
  room-name = omega (arith, all_room)

module _ {name source hashes l l₁ : List ℕ} {at n₁ : ℕ} (p : HeadRoom name source hashes at (length l)) (a : Wrote l at (text name) l₁ n₁) where
  pub room-source : n₁ + length (text source) ≤ length l₁
  room-source = omega (arith, all_room p, a.after, wrote-length a)

  module _ {l₂ : List ℕ} {n₂ : ℕ} (b : Wrote l₁ n₁ (text source) l₂ n₂) where
    pub room-count : n₂ + length (number (length hashes / 20)) ≤ length l₂
    room-count = omega (arith, all_room p, a.after, wrote-length a, b.after, wrote-length b)

    pub room-hashes : {l₃ : List ℕ} {n₃ : ℕ} → Wrote l₂ n₂ (number (length hashes / 20)) l₃ n₃ → n₃ + length hashes ≤ length l₃
    room-hashes c = omega (arith, all_room p, a.after, wrote-length a, b.after, wrote-length b, c.after, wrote-length c)
