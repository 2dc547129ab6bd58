-- The laws of reading what an event begins with: type name, source and parents.
use mathlib.Core.Path.{◌≡◌, refl, sym, ap, ◌∙◌, subst}
use mathlib.Core.Bool.{Bool, true, false, not}
use mathlib.Core.List.{List, [], ◌∷◌, ◌++◌, append_assoc, flatten}
use Prim.Native.Nat.{ℕ, zero, suc, ◌+◌, ◌-◌, ◌*◌, ◌≤◌, ◌<◌}
use native.Mathlib.Omega.{arith}
use lib.ListN.{length, take, drop, get_or, length-drop}
use lib.Seq.{take_at, drop-drop, drop-append_seam}
use borrow.Author.Tests.{le-leb, lt-leb}
use Rattle.model.specs.Order.{Text, rising}
use Rattle.packed.specs.Parse.{Parse, fail, got, Layout, and_then, ◌>>=◌, found, found_if, such_that, times, All}
use Rattle.packed.specs.code.Comparison.{precedes}
use Rattle.packed.specs.code.Located.{number_at, text_at}
use Rattle.packed.specs.Packed.{read_number, read_text, read_bytes, part}
use Rattle.packed.proofs.LayoutLaws.{All, and_then-got, times-was, bytes-was, flat}
use Rattle.packed.proofs.ReadLaws.{NumberStops, TextStops, stretch, part_length}
use Rattle.event.specs.Head.{is_source, read_parents, Head, read_head}
use Rattle.event.specs.code.EventIndex.{ParentsStop, ParentsReads, HeadStops, HeadReads, HashesAre, HeadIs, HeadParts}
use Rattle.event.proofs.AnswerLaws.{number-got, text-got, text-not, told-no, told-yes}
use Rattle.event.proofs.SetLaws.{risen, risen-was, risen-bad, Stands, RisingTo, rising-first, rising-bad, rising-not, rising-more, rising-all}
use Rattle.event.specs.declared.sets.SetAt.{SetAt}
use Rattle.event.specs.declared.head.HeadAt.{HeadAt}
use Rattle.event.proofs.HeadLayoutLaws.{hashes-size}
use Rattle.std.specs.Prelude.{Option, Some, None}
use Rattle.packed.specs.declared.read.TextAt.{TextAt}

-- ---- the parents

-- so many bytes
bytes-at : (s : List ℕ) (at n : ℕ) → at + n ≤ length s → read_bytes n (drop at s) ≡ got (part s at (at + n)) (drop (at + n) s)
unfolding read_bytes
bytes-at s at n h =
    let k : n ≤ length (drop at s) = simp length-drop (omega arith) in
    let e : at + n - at ≡ n = omega arith in
    rw (le-leb _ _ k, e) (ap (got (take n (drop at s))) (drop-drop n at s))

bytes-short : (s : List ℕ) (at n : ℕ) → length s - at < n → read_bytes n (drop at s) ≡ fail
unfolding read_bytes
bytes-short s at n h =
    let k : length (drop at s) < n = simp length-drop (omega arith) in
    rw (lt-leb _ _ k)

-- the hash at `at`
hash-stands : {s : List ℕ} {at : ℕ} → 20 ≤ length s - at → Stands (read_bytes 20) s at at (at + 20)
hash-stands {s} {at} h = record { is = bytes-at s at 20 (omega arith); order = omega arith; within = omega arith }

module _ {q : Parse (List Text)} {s : List ℕ} {from to left : ℕ} (w : RisingTo (read_bytes 20) q s from to left) (h : 0 < left) where
  pub hash-bad : length s - to < 20 → q ≡ fail
  hash-bad k = rising-bad w h (bytes-short s to 20 k)

  module _ (room : 20 ≤ length s - to) {b : Bool} (told : b ≡ precedes (part s from to) (part s to (to + 20))) where
    pub hash-not : not b ≡ true → q ≡ fail
    hash-not = rising-not w h (hash-stands room) told

    pub hash-more : {more : ℕ} → not b ≡ false → left ≡ suc more → RisingTo (read_bytes 20) q s to (to + 20) more
    hash-more = rising-more w h (hash-stands room) told

hash_at :
    (hs : List Text) (t r : List ℕ) (i : ℕ) → All (λ (h : Text). length h ≡ 20) hs → t ≡ flatten hs ++ r → i < length hs →
    take 20 (drop (20 * i) t) ≡ get_or hs i []
unfolding flatten
hash_at [] t r i a e l = absurd (omega arith)
hash_at (h ∷ hs) t r zero a e l = ap (take 20) (e ∙ append_assoc h (flatten hs) r) ∙ take_at h (flatten hs ++ r) 20 a.0
hash_at (h ∷ hs) t r (suc i) a e l =
    let d : drop 20 t ≡ flatten hs ++ r = ap (drop 20) (e ∙ append_assoc h (flatten hs) r)
    ∙ ap (λ (n : ℕ). drop n (h ++ (flatten hs ++ r))) (sym a.0) ∙ drop-append_seam h (flatten hs ++ r) in
    let n : 20 * suc i ≡ 20 + 20 * i = omega arith in
    ap (λ (k : ℕ). take 20 (drop k t)) n ∙ ap (take 20) (sym (drop-drop (20 * i) 20 t)) ∙ hash_at hs (drop 20 t) r i a.1 d (omega arith)

hashes-found :
    {s : List ℕ} {q : Parse (List Text)} {start to count : ℕ} {hs : List Text} → start ≤ length s → to ≤ length s →
    q ≡ risen (read_bytes 20) count (drop start s) → q ≡ got hs (drop to s) → ParentsStop q s (record { start = start; end = to; count = count })
hashes-found {s} {start} {to} {count} {hs} a b e f =
    let w = times-was (read_bytes 20) (λ (h : Text). h) (λ (h : Text). length h ≡ 20) (bytes-was 20) count (drop start s) hs (drop to s)
    (risen-was (read_bytes 20) count (drop start s) hs (drop to s) (sym e ∙ f)) in
    let g : drop start s ≡ flatten hs ++ drop to s = w.0 ∙ ap (λ (l : List ℕ). l ++ drop to s) (flat hs) in
    let p = stretch s (flatten hs) start to a b g in
    record {
      what = hs;
      is = f;
      stands = record {
        bytes = p.0;
        count = sym w.1;
        size = omega (arith, p.1, p.2, hashes-size hs w.2, w.1);
        within = b;
        each = λ i l. parent-at s start i hs (hash_at hs (drop start s) (drop to s) i w.2 g l);
      };
    }
  where
    parent-at :
        (s : List ℕ) (start i : ℕ) (hs : List Text) → take 20 (drop (20 * i) (drop start s)) ≡ get_or hs i [] →
        part s (start + 20 * i) (start + 20 * i + 20) ≡ get_or hs i []
    parent-at s start i hs e =
        let n : start + 20 * i + 20 - (start + 20 * i) ≡ 20 = omega arith in
        rw n (ap (take 20) (sym (drop-drop (20 * i) start s)) ∙ e)

pub parents-none : (most : ℕ) (t : List ℕ) → read_number t ≡ fail → read_parents most t ≡ fail
unfolding read_parents
parents-none most t e = rw e

module _ (most : ℕ) (s : List ℕ) (at : ℕ) {n start : ℕ} {r : Option (ℕ × ℕ)} (told : r ≡ number_at s at) (is : r ≡ Some (n, start)) where
  w : NumberStops s at n start
  w = number-got told is

  pub parents-many : most < n → read_parents most (drop at s) ≡ fail
  unfolding read_parents
  parents-many h = rw (w.is, lt-leb n most h)

  module _ (few : n ≤ most) where
    parents-some : read_parents most (drop at s) ≡ risen (read_bytes 20) n (drop start s)
    unfolding read_parents risen
    parents-some = rw (w.is, le-leb n most few)

    pub parents-zero : n ≡ 0 → ParentsStop (read_parents most (drop at s)) s (record { start = start; end = start; count = n })
    unfolding times rising risen
    parents-zero z = hashes-found {hs = []} w.within w.within parents-some (parents-some ∙ rw z)

    pub parents-bad : (n ≡ 0 → ⊥) → length s - start < 20 → read_parents most (drop at s) ≡ fail
    parents-bad h k = parents-some ∙ risen-bad (read_bytes 20) n (drop start s) (omega (arith, h)) (bytes-short s start 20 k)

    pub parents-first : (n ≡ 0 → ⊥) → 20 ≤ length s - start → RisingTo (read_bytes 20) (read_parents most (drop at s)) s start (start + 20) (n - 1)
    parents-first h room = rising-first n start parents-some (omega (arith, h)) (hash-stands room)

    pub parents-found :
        {from to left : ℕ} → RisingTo (read_bytes 20) (read_parents most (drop at s)) s from to left → left ≤ 0 →
        ParentsStop (read_parents most (drop at s)) s (record { start = start; end = to; count = n })
    parents-found v h = hashes-found w.within v.within parents-some (rising-all v h)

parents-reads : {p : Parse (List Text)} {s : List ℕ} {r : Option SetAt} {x : SetAt} → r ≡ Some x → ParentsReads p s r → ParentsStop p s x
parents-reads {p} {s} h w = subst (ParentsReads p s) h w

pub parents-refused : {p : Parse (List Text)} (s : List ℕ) {r : Option SetAt} → r ≡ None → ParentsReads p s r → p ≡ fail
parents-refused {p} s h w = subst (ParentsReads p s) h w

-- ---- the head

pub head-reads : {p : Parse Head} {s : List ℕ} {r : Option HeadAt} {x : HeadAt} → r ≡ Some x → HeadReads p s r → HeadStops p s x
head-reads {p} {s} h w = subst (HeadReads p s) h w

pub head-refused : {p : Parse Head} (s : List ℕ) {r : Option HeadAt} → r ≡ None → HeadReads p s r → p ≡ fail
head-refused {p} s h w = subst (HeadReads p s) h w

pub no_name : (most : ℕ) (s : List ℕ) {r : Option TextAt} → r ≡ text_at s 0 → r ≡ None → read_head most s ≡ fail
unfolding read_head
no_name most s told is = rw (text-not s 0 told is)

-- what follows a source u, and a type name t
abbrev after_source : ℕ → Text → Text → Layout Head
after_source most t u = read_parents most >>= λ hs. found (record { type = t; source = u; parents = hs })

abbrev after_name : ℕ → Text → Layout Head
after_name most t = such_that is_source read_text >>= λ u. after_source most t u

module _ (most : ℕ) (s : List ℕ) {name : TextAt} {r : Option TextAt} (name-told : r ≡ text_at s 0) (name-is : r ≡ Some name) where
  abbrev type : Text
  type = part s name.start name.end

  n : TextStops s 0 name.start name.end
  n = text-got name-told name-is

  named : read_head most s ≡ after_name most type (drop name.end s)
  unfolding read_head
  named = ap (λ (p : Parse Text). and_then p (λ t. after_name most t)) n.is

  -- the type name of a head that is found is the first text
  pub name-part : {h : Head} {left : List ℕ} → read_head most s ≡ got h left → type ≡ h.type
  name-part {h} {left} e =
      let c = and_then-got (such_that is_source read_text (drop name.end s)) _ h left (sym named ∙ e) in
      let d = and_then-got (read_parents most c.left) _ h left c.second in
      let f : record { type = type; source = c.value; parents = d.value } ≡ h = cc (d.second) in
      ap (λ (g : Head). g.type) f

  pub no_source : read_text (drop name.end s) ≡ fail → read_head most s ≡ fail
  no_source f = named ∙ rw f

  module _
      {source : TextAt} {o : Option TextAt} (told : o ≡ text_at s name.end) (is : o ≡ Some source)
      {k : Bool} (asked : k ≡ is_source (part s source.start source.end)) where
    abbrev uri : Text
    uri = part s source.start source.end

    u : TextStops s name.end source.start source.end
    u = text-got told is

    step : read_head most s ≡ and_then (found_if (is_source uri) uri (drop source.end s)) (λ v. after_source most type v)
    step = named ∙ ap (λ (p : Parse Text). and_then (and_then p (λ v. found_if (is_source v) v)) (λ v. after_source most type v)) u.is

    pub source-not : not k ≡ true → read_head most s ≡ fail
    source-not h = step ∙ rw (told-no asked h)

    module _ (right : not k ≡ false) where
      pub parents-not : read_parents most (drop source.end s) ≡ fail → read_head most s ≡ fail
      parents-not g = step ∙ rw (told-yes asked right, g)

      abbrev head_at : SetAt → HeadAt
      head_at x = record { name = name; source = source; parents = x }

      head_of : {x : SetAt} → ParentsStop (read_parents most (drop source.end s)) s x → HeadStops (read_head most s) s (head_at x)
      head_of p = record {
        what = record { type = type; source = uri; parents = p.what };
        is = step ∙ rw (told-yes asked right, p.is);
        stands = record {
          name = record { bytes = refl; order = n.order; within = n.within };
          uri = record { bytes = refl; order = u.order; within = u.within };
          hashes = p.stands;
        };
      }

      pub head-found :
          {x : SetAt} {t : Option SetAt} → ParentsReads (read_parents most (drop source.end s)) s t → t ≡ Some x →
          HeadStops (read_head most s) s (head_at x)
      head-found h k = head_of (parents-reads k h)

-- ---- the parts of a head, where they stand

each_all : (hs : List Text) → ((i : ℕ) → i < length hs → length (get_or hs i []) ≡ 20) → All (λ (h : Text). length h ≡ 20) hs
each_all [] f = tt
each_all (h ∷ hs) f = (f 0 (omega arith), each_all hs (λ i l. f (suc i) (omega arith)))

pub hashes-each : {s : List ℕ} {hs : List Text} {x : SetAt} → HashesAre s hs x → All (λ (h : Text). length h ≡ 20) hs
hashes-each {s} {hs} {x} w = each_all hs λ i l.
    let here = x.start + 20 * i in
    omega (arith, ap length (w.each i l), part_length s here (here + 20) (omega arith) (omega (arith, w.size, w.count, w.within)))

pub parts-of :
    {s name source hashes : List ℕ} {h : Head} {x : HeadAt} → HeadIs s h x →
    name ≡ h.type → source ≡ h.source → hashes ≡ flatten h.parents → HeadParts name source hashes h
parts-of w a b c = record { type = a; uri = b; parents = c; each = hashes-each w.hashes }
